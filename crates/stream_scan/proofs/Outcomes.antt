-- What lexemes begin with, one lexeme at a time.
use Rattle.std.proofs.Common.{◌≡◌, ℕ, zero, suc, ◌+◌, ◌-◌, true, false, List, [], ◌∷◌, refl, ap, arith}
use Rattle.std.specs.Prelude.{◌==◌, nat_lt}
use Rattle.std.proofs.lemmas.Bool.Decides.{nat_tests}
use Rattle.spec_text.specs.declared.Kind.{Kind}
use Rattle.spec_text.specs.declared.Fault.{Fault}
use Rattle.spec_text.specs.Lexemes.{Lexeme, opens, closes, word, wrong}
use Rattle.spec_text.specs.Readings.{is_of_end}
use Rattle.stream_scan.specs.Next.{Outcome, nothing, unclosed, whole, stops, prepend, outcome}

-- outcomes that differ have values that differ
abbrev pub IsInjective : (Outcome → Outcome) → Type 0
IsInjective g = (x y : Outcome) → g x ≡ g y → x ≡ y

pub prepend_injective : (x : ℕ × Lexeme) → IsInjective (prepend x)
prepend_injective x nothing nothing e = refl
prepend_injective x nothing unclosed e = cc
prepend_injective x nothing (whole ys) e = cc
prepend_injective x nothing (stops b g) e = cc
prepend_injective x unclosed nothing e = cc
prepend_injective x unclosed unclosed e = refl
prepend_injective x unclosed (whole ys) e = cc
prepend_injective x unclosed (stops b g) e = cc
prepend_injective x (whole xs) nothing e = cc
prepend_injective x (whole xs) unclosed e = cc
prepend_injective x (whole xs) (whole ys) e = cc
prepend_injective x (whole xs) (stops b g) e = cc
prepend_injective x (stops a f) nothing e = cc
prepend_injective x (stops a f) unclosed e = cc
prepend_injective x (stops a f) (whole ys) e = cc
prepend_injective x (stops a f) (stops b g) e = e

-- an s-expression, or a fault that is none of the end of a text
abbrev pub IsFinal : Outcome → Type 0
IsFinal nothing = ⊥
IsFinal unclosed = ⊥
IsFinal (whole xs) = Unit {0}
IsFinal (stops at f) = is_of_end f ≡ false

pub prepend_final : (x : ℕ × Lexeme) (o : Outcome) → IsFinal o → IsFinal (prepend x o)
prepend_final x nothing h = h
prepend_final x unclosed h = h
prepend_final x (whole xs) h = tt
prepend_final x (stops at f) h = h

-- an end of a list
pub outcome_close : (n at : ℕ) (xs : List (ℕ × Lexeme)) → nat_lt 1 n ≡ true → outcome n ((at, closes) ∷ xs) ≡ prepend (at, closes) (outcome (n - 1) xs)
unfolding outcome
outcome_close zero at xs e = cc
outcome_close (suc zero) at xs e = cc
outcome_close (suc (suc n)) at xs e = ap (λ k. prepend (at, closes) (outcome k xs)) (omega arith)

-- an end of the outermost list, or of none
pub outcome_close_last : (n at : ℕ) (xs ys : List (ℕ × Lexeme)) → nat_lt 1 n ≡ false → outcome n ((at, closes) ∷ xs) ≡ outcome n ((at, closes) ∷ ys)
unfolding outcome
outcome_close_last zero at xs ys e = refl
outcome_close_last (suc zero) at xs ys e = refl
outcome_close_last (suc (suc n)) at xs ys e = absurd (grind (arith, nat_tests))

pub outcome_close_final : (n at : ℕ) → nat_lt 1 n ≡ false → IsFinal (outcome n ((at, closes) ∷ []))
unfolding outcome
outcome_close_final zero at e = refl
outcome_close_final (suc zero) at e = tt
outcome_close_final (suc (suc n)) at e = absurd (grind (arith, nat_tests))

-- a list
pub outcome_open : (n at : ℕ) (xs : List (ℕ × Lexeme)) → outcome n ((at, opens) ∷ xs) ≡ prepend (at, opens) (outcome (n + 1) xs)
unfolding outcome
outcome_open n at xs = ap (λ k. prepend (at, opens) (outcome k xs)) (omega arith)

-- a word in a list
pub outcome_word : (n at : ℕ) (k : Kind) (w : List ℕ) (xs : List (ℕ × Lexeme)) → (n == 0) ≡ false → outcome n ((at, word k w) ∷ xs) ≡ prepend (at, word k w) (outcome n xs)
unfolding outcome
outcome_word zero at k w xs e = cc
outcome_word (suc n) at k w xs e = refl

-- a word outside of lists
pub outcome_word_alone : (n at : ℕ) (k : Kind) (w : List ℕ) (xs : List (ℕ × Lexeme)) → (n == 0) ≡ true → outcome n ((at, word k w) ∷ xs) ≡ whole ((at, word k w) ∷ [])
unfolding outcome
outcome_word_alone zero at k w xs e = refl
outcome_word_alone (suc n) at k w xs e = absurd (grind (arith, nat_tests))

-- a fault
pub outcome_wrong : (n at : ℕ) (f : Fault) (xs : List (ℕ × Lexeme)) → outcome n ((at, wrong f) ∷ xs) ≡ stops at f
unfolding outcome
outcome_wrong zero at f xs = refl
outcome_wrong (suc n) at f xs = refl
