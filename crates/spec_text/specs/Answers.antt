-- Answers of reading: what was read, or the first fault with its offset.
use Rattle.std.specs.Prelude.{ℕ, Bool, true, false, Result, Ok, Err}
use Rattle.spec_text.specs.declared.Fault.{Fault}
use Rattle.spec_text.specs.Faults.{Located}

-- what was read, or why not
abbrev pub Answer : Type 0 → Type 0
Answer A = Result A Located

-- a fault at an offset
abbrev pub refused : {A : Type 0} → ℕ → Fault → Answer A
refused at f = Err (record { offset = at; fault = f })

infixl 20 ◌>>=◌
-- what follows, where there is no fault
unfoldable pub ◌>>=◌ : {A B E : Type 0} → Result A E → (A → Result B E) → Result B E
(Ok a) >>= f = f a
(Err e) >>= f = Err e

-- a test, or the fault where it fails
unfoldable pub require : Bool → ℕ → Fault → Answer (Unit {0})
require true at f = Ok tt
require false at f = refused at f
