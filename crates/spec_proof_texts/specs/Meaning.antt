-- What the lines of a proof say under a signature, and when they are a proof of what is asserted. Source: Alethe
-- specification, proofs as lists of commands; to number them is own.
use Rattle.std.specs.Prelude.{◌≡◌, ◌≢◌, ℕ, zero, suc, ◌+◌, ◌≤◌, Bool, true, false, List, [], ◌∷◌, ◌++◌, length, map}
use Rattle.std.specs.Prelude.{Option, Some, None, All, Contains}
use Rattle.std.specs.List.{slice_get}
use Rattle.spec_text.specs.declared.Fault.{Fault}
use Rattle.spec_text.specs.Lexemes.{word}
use Rattle.spec_text.specs.Lexicon.{Spells}
use Rattle.spec_text.specs.Trees.{Tree, Trees, atom, list, none, more}
use Rattle.spec_text.specs.Shapes.{only_if}
use Rattle.spec_sorts.specs.Terms.{Sort, Truth, Symbol, Head, True, False, Times, Divide, Literal, Apply, Term, of}
use Rattle.spec_sorts.specs.Terms.{constant_term, sort_of, head_takes}
use Rattle.spec_sorts.specs.Theory.{product_fault, quotient_fault}
use Rattle.spec_sorts.specs.Signatures.{Known, declared, Signature, known_as}
use Rattle.spec_sorts.specs.Literals.{Clause}
use Rattle.spec_rules.specs.Rules.{IsRight}
use Rattle.spec_models.specs.Meaning.{IsSortIn}
use Rattle.spec_proof_texts.specs.Decimals.{is_decimal}
use Rattle.spec_proof_texts.specs.Lines.{Argument, Arguments, truth, number, symbol, defined, applied, no_items}
use Rattle.spec_proof_texts.specs.Lines.{item, levels, Reference, assumed, stepped, DefinitionLine, StepLine, Line}
use Rattle.spec_proof_texts.specs.Lines.{defines, assumes, steps, level_limit, place_limit}

-- What is known after lines, each by its number, from 1.
pub record Told : Type 0 where
  -- the terms that are defined
  pub terms : List Term
  -- the clauses of the assumes
  pub assumes : List Clause
  -- the clauses of the steps
  pub steps : List Clause
  -- the terms with arguments that may be in place
  pub placed : List Term

-- what is known before the first line
abbrev pub nothing_told : List Term → Told
nothing_told placed = record { terms = []; assumes = []; steps = []; placed = placed }

-- one definition more
abbrev pub with_definition : Told → Term → Told
with_definition k t = record { terms = k.terms ++ t ∷ []; assumes = k.assumes; steps = k.steps; placed = k.placed }

-- one assume more
abbrev pub with_assume : Told → Clause → Told
with_assume k c = record { terms = k.terms; assumes = k.assumes ++ c ∷ []; steps = k.steps; placed = k.placed }

-- one step more
abbrev pub with_step : Told → Clause → Told
with_step k c = record { terms = k.terms; assumes = k.assumes; steps = k.steps ++ c ∷ []; placed = k.placed }

-- what has a number, from 1
abbrev pub numbered : {A : Type 0} → List A → ℕ → Option A
numbered xs zero = None
numbered xs (suc n) = slice_get xs n

-- a truth value as a term
abbrev pub truth_term : Bool → Term
truth_term true = of True []
truth_term false = of False []

-- a symbol alone, where it takes arguments of no sorts
abbrev pub constant_if : Symbol → List Sort → Option Term
constant_if f [] = Some (constant_term f)
constant_if f (s ∷ ss) = None

-- the term of a declared symbol without parameters
abbrev pub bare_term : Option Known → Option Term
bare_term (Some (declared f)) = constant_if f f.parameters
bare_term k = None

-- the term that a printed word stands for, where there is one
abbrev pub word_told : Signature → Told → Argument → Option Term
word_told g k (truth b) = Some (truth_term b)
word_told g k (number q) = only_if (is_decimal q) (of (Literal q) [])
word_told g k (symbol n) = bare_term (known_as g n)
word_told g k (defined n) = numbered k.terms n
word_told g k (applied h items) = None

-- a head by its text: a declared symbol is that of its name, and a number has a text
abbrev pub IsKnownHead : Signature → Head → Type 0
IsKnownHead g (Apply f) = known_as g f.name ≡ Some (declared f)
IsKnownHead g (Literal q) = is_decimal q ≡ true
IsKnownHead g h = Unit {0}

-- why a head refuses arguments of the sorts that it takes, if it does: what is read has to be linear
abbrev pub linear_fault : Head → List Term → Option Fault
linear_fault Times ts = product_fault ts
linear_fault Divide ts = quotient_fault ts
linear_fault h ts = None

-- A head before arguments that a text can have: it is known, and takes them.
pub record TakesAll (g : Signature) (h : Head) (ts : List Term) : Type 0 where
  -- the head is known
  pub known : IsKnownHead g h
  -- it takes the arguments
  pub takes : head_takes [] h (map sort_of ts) ≡ true
  -- and refuses none
  pub linear : linear_fault h ts ≡ None

-- A head in place before arguments, so many levels deep: it takes them, and is not too deep.
pub record IsPlaced (g : Signature) (k : Told) (h : Head) (ts : List Term) (deep : ℕ) (t : Term) : Type 0 where
  -- there is one argument at least
  pub some : ts ≢ []
  -- the head takes them
  pub takes : TakesAll g h ts
  -- the term is the head before them
  pub term : t ≡ of h ts
  -- it may be in place
  pub there : Contains k.placed t
  -- and is no deeper than it may be
  pub low : deep ≤ level_limit

abbrev mutual
  -- the term is printed so
  pub IsTold : Signature → Told → Argument → Term → Type 0
  IsTold g k (applied h items) t = (ts : List Term) × AreToldSo g k items ts
      × IsPlaced g k h ts (levels (applied h items)) t
  IsTold g k (truth b) t = word_told g k (truth b) ≡ Some t
  IsTold g k (number q) t = word_told g k (number q) ≡ Some t
  IsTold g k (symbol n) t = word_told g k (symbol n) ≡ Some t
  IsTold g k (defined n) t = word_told g k (defined n) ≡ Some t

  -- the terms are printed so, one after the other
  pub AreToldSo : Signature → Told → Arguments → List Term → Type 0
  AreToldSo g k no_items [] = Unit {0}
  AreToldSo g k (item a others) (t ∷ ts) = IsTold g k a t × AreToldSo g k others ts
  AreToldSo g k _ _ = ⊥

-- these are the terms that are printed so
abbrev pub AreTold : Signature → Told → List Argument → List Term → Type 0
AreTold g k [] [] = Unit {0}
AreTold g k (a ∷ items) (t ∷ ts) = IsTold g k a t × AreTold g k items ts
AreTold g k _ _ = ⊥

-- the clause that a premise names, where there is one
abbrev pub clause_told : Told → Reference → Option Clause
clause_told k (assumed n) = numbered k.assumes n
clause_told k (stepped n) = numbered k.steps n

-- these are the clauses that the premises name
abbrev pub ArePremises : Told → List Reference → List Clause → Type 0
ArePremises k ps cs = map (clause_told k) ps ≡ map Some cs

-- A definition under the next number: a head before arguments that are known and that it takes, a term of the sort that
-- is printed.
pub record IsDefinition (g : Signature) (k : Told) (d : DefinitionLine) (t : Term) : Type 0 where
  -- the number is the next
  pub number : d.number ≡ length k.terms + 1
  -- the arguments
  pub arguments : List Term
  -- they are printed so
  pub told : AreTold g k d.arguments arguments
  -- there is one at least
  pub some : arguments ≢ []
  -- the head takes them
  pub takes : TakesAll g d.head arguments
  -- the term is the head before them
  pub term : t ≡ of d.head arguments
  -- it has the sort that is printed
  pub sort : sort_of t ≡ d.sort
  -- which the signature has
  pub known_sort : IsSortIn g d.sort

-- An assume under the next number: of a term that is asserted.
pub record IsAssume (g : Signature) (asserted : List Term) (k : Told) (n : ℕ) (a : Argument) (t : Term) : Type 0 where
  -- the number is the next
  pub number : n ≡ length k.assumes + 1
  -- the term is printed so
  pub told : IsTold g k a t
  -- it has the sort Bool
  pub sort : sort_of t ≡ Truth
  -- it is asserted
  pub there : Contains asserted t

-- each atom is a word of the lexicon
abbrev mutual
  -- in a tree
  pub IsSpelled : Tree → Type 0
  IsSpelled (atom at k n) = (bytes : List ℕ) × Spells bytes (word k n)
  IsSpelled (list at ts end) = AreSpelled ts

  -- in trees, one after the other
  pub AreSpelled : Trees → Type 0
  AreSpelled none = Unit {0}
  AreSpelled (more t ts) = IsSpelled t × AreSpelled ts

-- A step under the next number: its clause follows by its rule from those of its premises.
pub record IsStep (g : Signature) (k : Told) (s : StepLine) : Type 0 where
  -- its clause
  pub clause : Clause
  -- the number is the next
  pub number : s.number ≡ length k.steps + 1
  -- the literals are printed so
  pub literals : AreTold g k s.literals clause
  -- each has the sort Bool
  pub sorts : All (λ t. sort_of t ≡ Truth) clause
  -- the premises' clauses
  pub premises : List Clause
  -- the premises are earlier
  pub earlier : ArePremises k s.premises premises
  -- the texts of the arguments can be printed
  pub given : AreSpelled s.arguments
  -- the clause follows
  pub right : IsRight s.rule premises s.arguments clause

-- a line is right after what is known, and with it this is known
abbrev pub IsLineAfter : Signature → List Term → Told → Line → Told → Type 0
IsLineAfter g asserted k (defines d) next = (t : Term) × IsDefinition g k d t × (next ≡ with_definition k t)
IsLineAfter g asserted k (assumes n a) next = (t : Term) × IsAssume g asserted k n a t × (next ≡ with_assume k (t ∷ []))
IsLineAfter g asserted k (steps s) next = (x : IsStep g k s) × (next ≡ with_step k x.clause)

-- each line is right after those before it, and after all of them this is known
abbrev pub AreLinesAfter : Signature → List Term → Told → List Line → Told → Type 0
AreLinesAfter g asserted k [] end = end ≡ k
AreLinesAfter g asserted k (l ∷ ls) end = (next : Told) × IsLineAfter g asserted k l next
    × AreLinesAfter g asserted next ls end

-- The lines are a proof from what is asserted: each is right after those before it, and the last is a step with the
-- empty clause.
pub record AreRightLines (g : Signature) (asserted : List Term) (lines : List Line) : Type 0 where
  -- the terms with arguments that may be in place
  pub placed : List Term
  -- there is room for them
  pub few : length placed ≤ place_limit
  -- what is known after the lines
  pub end : Told
  -- each is right
  pub right : AreLinesAfter g asserted (nothing_told placed) lines end
  -- the lines before the last
  pub earlier : List Line
  -- the last one
  pub step : StepLine
  pub last : lines ≡ earlier ++ steps step ∷ []
  -- it has the empty clause
  pub empty : step.literals ≡ []
