-- Derivations that can be printed: the terms that they need, in a row where each is after its arguments, can be read
-- under a signature.
use Rattle.std.specs.Prelude.{◌≡◌, ℕ, ◌<◌, true, List, Contains, Some, None}
use Rattle.std.specs.List.{slice_get}
use Rattle.spec_sorts.specs.Terms.{Truth, Head, Literal, Term, app, sort_of}
use Rattle.spec_sorts.specs.Signatures.{Signature}
use Rattle.spec_sorts.specs.Subsets.{arguments_of}
use Rattle.spec_derivations.specs.Derivations.{Inference, «assumption», by_rule, conclusion, Derivation}
use Rattle.spec_models.specs.Meaning.{IsSortIn}
use Rattle.spec_proof_texts.specs.Decimals.{is_decimal}
use Rattle.spec_proof_texts.specs.Meaning.{linear_fault, TakesAll, AreSpelled}
use Rattle.spec_proof_texts.specs.Plans.{IsPrinted}

-- the head of a term
abbrev pub head_of : Term → Head
head_of (app h ts) = h

-- A term that a text can have: its head is known and takes its arguments, and the signature has its sort.
pub record IsPrintable (g : Signature) (t : Term) : Type 0 where
  -- the head before the arguments
  pub takes : TakesAll g (head_of t) (arguments_of t)
  -- the sort
  pub sort : IsSortIn g (sort_of t)

-- Terms by their places, of which those can be printed that an inference of a derivation needs.
pub record ArePrintable (g : Signature) (terms : List Term) (d : Derivation) (n : ℕ) : Type 0 where
  -- no term occurs twice
  pub apart : (i j : ℕ) (t : Term) → slice_get terms i ≡ Some t → slice_get terms j ≡ Some t → i ≡ j
  -- the arguments of each are before it
  pub before : (k : ℕ) (t u : Term) → slice_get terms k ≡ Some t → Contains (arguments_of t) u → (j : ℕ) × (j < k)
      × (slice_get terms j ≡ Some u)
  -- each that is needed can be printed
  pub each : (t : Term) → IsPrinted d n t → IsPrintable g t

-- the texts of its arguments can be printed, if it has any
abbrev pub HasGiven : Inference → Type 0
HasGiven («assumption» t) = Unit {0}
HasGiven (by_rule r ps given c) = AreSpelled given

-- the terms of its clause are some of these, and of sort Bool
abbrev pub ConcludesOver : List Term → Inference → Type 0
ConcludesOver terms x = (u : Term) → Contains (conclusion x) u → ((j : ℕ) × (slice_get terms j ≡ Some u))
    × (sort_of u ≡ Truth)

-- each inference is over these terms, and has arguments that can be printed
abbrev pub AllConcludeOver : List Term → Derivation → Type 0
AllConcludeOver terms d = (k : ℕ) (x : Inference) → slice_get d k ≡ Some x → ConcludesOver terms x × HasGiven x

-- the head has a text: a number is a decimal
abbrev pub HasText : Head → Type 0
HasText (Literal q) = is_decimal q ≡ true
HasText h = Unit {0}

-- A term whose head, besides taking its arguments, can be read before them: what is read has to be linear, and its
-- numbers decimals.
pub record IsReadable (t : Term) : Type 0 where
  -- the head has a text
  pub text : HasText (head_of t)
  -- and refuses no arguments
  pub linear : linear_fault (head_of t) (arguments_of t) ≡ None
