-- What an answer through two steps says of each, and where its fault is.
use Rattle.std.proofs.Common.{◌≡◌, ℕ, Bool, true, false, refl, sym, ap, ◌∙◌, subst}
use Rattle.std.specs.Prelude.{Result, Ok, Err, IsErrAnd, IfErr}
use Rattle.spec_text.specs.declared.Fault.{Fault}
use Rattle.spec_text.specs.Faults.{Located}
use Rattle.spec_text.specs.Answers.{Answer, ◌>>=◌, require}
use Rattle.spec_text.specs.Trees.{Tree, atom, list, offset_of}
use Rattle.spec_text.specs.Offsets.{AllOffsets}

-- What is read through two steps.
pub record Went {A B E : Type 0} (a : Result A E) (f : A → Result B E) (b : B) : Type 0 where
  pub first : A
  pub was : a ≡ Ok first
  pub then : f first ≡ Ok b

-- the answer is this
abbrev pub IsAnswer : {A E : Type 0} → Result A E → A → Type 0
IsAnswer (Ok x) y = x ≡ y
IsAnswer (Err e) y = ⊥

pub answer : {A E : Type 0} (a : Result A E) (y : A) → a ≡ Ok y → IsAnswer a y
answer a y e = subst (λ b. IsAnswer b y) (sym e) refl

pub went : {A B E : Type 0} (a : Result A E) (f : A → Result B E) (b : B) → (a >>= f) ≡ Ok b → Went a f b
unfolding ◌>>=◌
went (Ok x) f b e = record { first = x; was = refl; then = e }
went (Err x) f b e = absurd (answer (Err x) b e)

-- both steps answer
pub joined : {A B E : Type 0} (a : Result A E) (f : A → Result B E) (x : A) (y : B) → a ≡ Ok x → f x ≡ Ok y → (a >>= f) ≡ Ok y
unfolding ◌>>=◌
joined a f x y e h = ap (λ b. b >>= f) e ∙ h

-- what holds of each fault, and of what follows, holds of both steps in turn
pub in_turn : {A B E : Type 0} (P : Result B E → Type 0) → ((e : E) → P (Err e)) → (a : Result A E) (f : A → Result B E) → ((x : A) → a ≡ Ok x → P (f x)) → P (a >>= f)
unfolding ◌>>=◌
in_turn P faulty (Ok x) f g = g x refl
in_turn P faulty (Err e) f g = faulty e

-- an error that is passed on as it came
pub told : {T E : Type 0} (p : E → Type 0) (r : Result T E) (w : E) → IsErrAnd r (λ e. e ≡ w) → p w → IfErr r p
told p (Ok x) w g h = tt
told p (Err e) w g h = subst p (sym g) h

pub require_true : (b : Bool) (at : ℕ) (f : Fault) (u : Unit {0}) → require b at f ≡ Ok u → b ≡ true
unfolding require
require_true true at f u e = refl
require_true false at f u e = absurd (answer (require false at f) u e)

-- a tree's own offset is one of all
pub own_offset : (P : ℕ → Type 0) (t : Tree) → AllOffsets P t → P (offset_of t)
own_offset P (atom at k bytes) h = h
own_offset P (list at ts end) h = h.0

module _ (P : ℕ → Type 0) where
  -- what is answered has a property, and a fault an offset with the other
  abbrev pub Gives : {A : Type 0} → (A → Type 0) → Answer A → Type 0
  Gives Q (Ok a) = Q a
  Gives Q (Err f) = P f.offset

  -- and so it is in two steps, where it is in each
  pub gives_in_turn : {A B : Type 0} (Q : A → Type 0) (R : B → Type 0) (a : Answer A) (f : A → Answer B) → Gives Q a → ((x : A) → Q x → Gives R (f x)) → Gives R (a >>= f)
  unfolding ◌>>=◌
  gives_in_turn Q R (Ok x) f h g = g x h
  gives_in_turn Q R (Err e) f h g = h

  -- the offset of a fault, where there is one, has the property
  abbrev pub IsFaultWithin : {A : Type 0} → Answer A → Type 0
  IsFaultWithin a = Gives (λ _. Unit {0}) a

  pub fault_within : {A : Type 0} (a : Answer A) → ((f : Located) → a ≡ Err f → P f.offset) → IsFaultWithin a
  fault_within (Ok x) h = tt
  fault_within (Err f) h = h f refl

  pub within_in_turn : {A B : Type 0} (a : Answer A) (f : A → Answer B) → IsFaultWithin a → ((x : A) → IsFaultWithin (f x)) → IsFaultWithin (a >>= f)
  within_in_turn a f h g = gives_in_turn (λ _. Unit {0}) (λ _. Unit {0}) a f h (λ x _. g x)

  pub require_within : (b : Bool) (at : ℕ) (f : Fault) → P at → IsFaultWithin (require b at f)
  unfolding require
  require_within true at f h = tt
  require_within false at f h = h
