-- What holds of the fault of an answer, through steps.
use Rattle.std.proofs.Common.{◌≡◌, subst}
use Rattle.std.specs.Prelude.{Result, Ok, Err, IfErr}
use Rattle.spec_text.specs.Answers.{◌>>=◌}

module _ {E : Type 0} (P : E → Type 0) where
  -- what holds of the fault of each of two steps holds of that of both
  pub failing_in_turn : {A B : Type 0} (a : Result A E) (f : A → Result B E) → IfErr a P → ((x : A) → IfErr (f x) P) → IfErr (a >>= f) P
  unfolding ◌>>=◌
  failing_in_turn (Ok x) f h g = g x
  failing_in_turn (Err e) f h g = h

  -- and of a fault that there is
  pub of_fault : {A : Type 0} (a : Result A E) (e : E) → IfErr a P → a ≡ Err e → P e
  of_fault a e h k = subst (λ b. IfErr b P) k h
