-- What is current at a check, and what makes it true. Source: SMT-LIB 2.6, sections 4.1.4 and 4.2.5.
use Rattle.std.specs.Prelude.{◌≡◌, ℕ, zero, suc, ◌^◌, true, List, ◌++◌, All, Option, Some, None, Ok, Err}
use Rattle.spec_text.specs.Faults.{Located}
use Rattle.spec_text.specs.Readings.{IsReadUpTo}
use Rattle.spec_text.specs.Answers.{Answer}
use Rattle.spec_text.specs.Trees.{Trees, none, more}
use Rattle.spec_sorts.specs.Values.{truth, Interpretation, Interprets}
use Rattle.spec_sorts.specs.Signatures.{Signature, symbols_in}
use Rattle.spec_sorts.specs.Meaning.{value_under}
use Rattle.spec_commands.specs.Stack.{Assertion, Stack, Effect, check, leave, Taken, empty_stack, signature_of}
use Rattle.spec_commands.specs.Stack.{assertions_of, step}

-- A check: what is there, and what it assumes besides that.
pub record Check : Type 0 where
  -- the stack
  pub stack : Stack
  -- the assumptions, which count for this check alone
  pub assumptions : List Assertion

-- all that a check asks about: what is asserted, and after it what is assumed
abbrev pub asked : Check → List Assertion
asked c = assertions_of c.stack ++ c.assumptions

-- the check where it is the last of those to come, else what follows
abbrev pub this_or : Check → ℕ → (ℕ → Option Check) → Option Check
this_or c zero rest = rest zero
this_or c (suc zero) rest = Some c
this_or c (suc (suc k)) rest = rest (suc k)

-- go on after a command that was taken, with as many checks to come
abbrev pub after_effect : Effect → Stack → ℕ → (Stack → ℕ → Option Check) → Option Check
after_effect (check place assumptions) s k rest = this_or (record { stack = s; assumptions = assumptions }) k (rest s)
after_effect leave s k rest = None
after_effect effect s k rest = rest s k

-- a command that is refused changes nothing, and is no check
abbrev pub after_command : Stack → ℕ → Answer Taken → (Stack → ℕ → Option Check) → Option Check
after_command s k (Ok d) rest = after_effect d.effect d.stack k rest
after_command s k (Err e) rest = rest s k

-- the k-th check after a stack, from 1; what follows isn't looked at
unfoldable pub current_at : ℕ → Stack → ℕ → Trees → Option Check
current_at limit s k none = None
current_at limit s k (more t ts) = after_command s k (step limit s t) (λ next n. current_at limit next n ts)

-- the limit on different subterms, and on names, under which proofs are checked
abbrev pub term_limit : ℕ
term_limit = 2 ^ 24

-- what is current at the k-th check of a text, where commands are taken under this limit on their terms and on names
pub record IsCurrent (limit : ℕ) (text : List ℕ) (k : ℕ) (c : Check) : Type 0 where
  -- the s-expressions of the text
  pub commands : Trees
  -- what ends them
  pub end : Option Located
  -- they are those of the text
  pub read : IsReadUpTo text commands end
  -- the commands up to the check lead to it
  pub here : current_at limit empty_stack k commands ≡ Some c

-- the text ends before its k-th check: by its end, by `exit`, or by a fault after which it cannot be read on
pub record HasNoCheck (limit : ℕ) (text : List ℕ) (k : ℕ) : Type 0 where
  -- the s-expressions of the text
  pub commands : Trees
  -- what ends them
  pub end : Option Located
  -- they are those of the text
  pub read : IsReadUpTo text commands end
  -- no command is that check
  pub none_here : current_at limit empty_stack k commands ≡ None

-- the text has the value true under an interpretation, with the definitions of a signature
abbrev pub IsTrueAssertion : Interpretation → Signature → Assertion → Type 0
IsTrueAssertion i s a = value_under i s a.text ≡ truth true

-- tables of the right sorts for the current symbols, under which every current expression has the value true
pub record MakesTrue (limit : ℕ) (i : Interpretation) (text : List ℕ) (k : ℕ) : Type 0 where
  -- what is current
  pub here : Check
  -- it is current at that check
  pub current : IsCurrent limit text k here
  -- each current symbol has its table
  pub interprets : Interprets i (symbols_in (signature_of here.stack))
  -- each current expression is true
  pub each : All (IsTrueAssertion i (signature_of here.stack)) (asked here)

-- no interpretation makes them true, whatever its tables of the right sorts are; it says nothing where there is no such
-- check
abbrev pub HasNoModel : ℕ → List ℕ → ℕ → Type 0
HasNoModel limit text k = (i : Interpretation) → MakesTrue limit i text k → ⊥
