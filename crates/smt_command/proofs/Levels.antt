-- Numbers of levels as their digits come.
use Rattle.std.proofs.Common.{◌≡◌, ℕ, ◌+◌, ◌*◌, ◌-◌, ◌<◌, ◌≤◌, ◌^◌, List, [], ◌∷◌, Some, None, sym, ap, ◌∙◌, arith}
use Rattle.std.specs.Prelude.{nat_le, if◌then◌else◌}
use Rattle.std.proofs.lemmas.Bool.Decides.{nat_tests}
use Rattle.spec_text.specs.Trees.{Tree, Trees}
use Rattle.spec_sorts.specs.Numerals.{number_after}
use Rattle.spec_commands.specs.Commands.{number_of_levels, levels_in}
use Rattle.smt_sexpr.specs.Items.{split_first}
use Rattle.smt_sexpr.proofs.Splitting.{split_end, split_more}
use Rattle.smt_command.specs.Commands.{levels_written}

-- a number, or the bound where it is above that
abbrev bounded : ℕ → ℕ → ℕ
bounded most n = if nat_le n most then n else most

within : (most n : ℕ) → n ≤ most → bounded most n ≡ n
within most n h = grind (arith, nat_tests, h)

-- a digit more after a number, or after what the bound leaves of it
digit_after : (most n x : ℕ) → bounded most (bounded most n * 10 + x) ≡ bounded most (n * 10 + x)
digit_after most n x = grind (arith, nat_tests)

digits_after : (most n : ℕ) (ds : List ℕ) → bounded most (number_after (bounded most n) ds) ≡ bounded most (number_after n ds)
digits_after most n [] = grind (arith, nat_tests)
digits_after most n (d ∷ ds) =
    let x = d - 48 in
    sym (digits_after most (bounded most n * 10 + x) ds) ∙ ap (λ m. bounded most (number_after m ds)) (digit_after most n x) ∙ digits_after most (n * 10 + x) ds

-- all digits, where the first of those that are left was taken
pub digit_taken : (n d m : ℕ) (ds left : List ℕ) → left ≡ d ∷ ds → m ≡ number_of_levels (n * 10 + (d - 48)) → number_of_levels (number_after n left) ≡ number_of_levels (number_after m ds)
digit_taken n d m ds left is e =
    ap (λ l. number_of_levels (number_after n l)) is ∙ sym (digits_after (2 ^ 64 - 1) (n * 10 + (d - 48)) ds) ∙ ap (λ k. number_of_levels (number_after k ds)) (sym e)

-- and where none is left
pub no_digit_left : (n : ℕ) (left : List ℕ) → n < 2 ^ 64 → left ≡ [] → number_of_levels (number_after n left) ≡ n
no_digit_left n left small is = ap (λ l. number_of_levels (number_after n l)) is ∙ within (2 ^ 64 - 1) n (omega (arith, small))

-- nothing counts as 1
pub levels_none : (ts : Trees) → None ≡ split_first ts → levels_in ts ≡ Some 1
unfolding levels_in
levels_none ts e = ap levels_in (split_end ts e)

-- a numeral alone, where there is something
pub levels_some : (ts us : Trees) (t : Tree) → Some (t, us) ≡ split_first ts → levels_in ts ≡ levels_written ts
unfolding levels_in levels_written
levels_some ts us t e = ap levels_in (split_more ts us t e) ∙ sym (ap levels_written (split_more ts us t e))
