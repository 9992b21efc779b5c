-- The numbers that arguments write do not depend on their offsets.
use Rattle.std.proofs.Common.{◌≡◌, ℕ, Bool, true, false, cond, ◌∷◌, refl, ap₂}
use Rattle.std.specs.Prelude.{codes, if◌then◌else◌}
use Rattle.spec_text.specs.declared.Kind.{Kind}
use Rattle.spec_text.specs.declared.Kind.TheVariants as kinds
use Rattle.spec_text.specs.Bytes.{Name}
use Rattle.spec_text.specs.Printed.{is_bare}
use Rattle.spec_text.specs.Trees.{Tree, Trees, atom, list, none, more}
use Rattle.spec_text.proofs.Printing.{kind_of, moved, moved_all}
use Rattle.spec_arithmetic.specs.Contradictions.{malformed}
use Rattle.spec_arithmetic.specs.Coefficients.{atom_coefficient, opposite_coefficient, quotient_coefficient, is_word_of, coefficient_of, coefficients_of}

-- a symbol is one with bars or without
same_word : (n : Name) (k : Kind) (w : Name) → is_word_of n (kind_of k w) w ≡ is_word_of n k w
same_word n kinds.Quoted w = by (is_bare w)
  where
    by : (b : Bool) → is_word_of n (cond b kinds.Simple kinds.Quoted) w ≡ is_word_of n kinds.Quoted w
    by true = refl
    by false = refl
same_word n kinds.Numeral w = refl
same_word n kinds.Decimal w = refl
same_word n kinds.Text w = refl
same_word n kinds.Simple w = refl
same_word n kinds.Reserved w = refl
same_word n kinds.Keyword w = refl

-- and no number
same_atom : (k : Kind) (w : Name) → atom_coefficient (kind_of k w) w ≡ atom_coefficient k w
same_atom kinds.Quoted w = by (is_bare w)
  where
    by : (b : Bool) → atom_coefficient (cond b kinds.Simple kinds.Quoted) w ≡ malformed
    by true = refl
    by false = refl
same_atom kinds.Numeral w = refl
same_atom kinds.Decimal w = refl
same_atom kinds.Text w = refl
same_atom kinds.Simple w = refl
same_atom kinds.Reserved w = refl
same_atom kinds.Keyword w = refl

-- the number of a text
moved_number : (t : Tree) (at : ℕ) → coefficient_of (moved at t) ≡ coefficient_of t
unfolding coefficient_of
moved_number (atom from k w) at = same_atom k w
moved_number (list from none end) at = refl
moved_number (list from (more (list x us e) ts) end) at = refl
moved_number (list from (more (atom x k w) none) end) at = refl
moved_number (list from (more (atom x k w) (more c none)) end) at =
    ap₂ (λ b v. if b then opposite_coefficient v else malformed) (same_word (codes "-") k w) (moved_number c _)
moved_number (list from (more (atom x k w) (more c (more d none))) end) at =
    ap₂ (λ b v. if b then v else malformed) (same_word (codes "/") k w) (ap₂ quotient_coefficient (moved_number c _) (moved_number d _))
moved_number (list from (more (atom x k w) (more c (more d (more t ts)))) end) at = refl

-- and those of several
pub moved_numbers : (ts : Trees) (at : ℕ) → coefficients_of (moved_all at ts) ≡ coefficients_of ts
unfolding coefficients_of
moved_numbers none at = refl
moved_numbers (more t ts) at = ap₂ (λ v vs. v ∷ vs) (moved_number t at) (moved_numbers ts _)
