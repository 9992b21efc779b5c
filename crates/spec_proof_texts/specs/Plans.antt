-- Which lines a derivation has: a definition for each term with arguments that they need and that is not in place, and
-- each inference that the last one depends on. Source: Alethe specification, proofs as lists of commands; what is in
-- place, where definitions are, and the numbers, are own.
use Rattle.std.specs.Prelude.{◌≡◌, ℕ, zero, suc, ◌+◌, Bool, true, false, ◌&&◌, List, [], ◌∷◌, ◌++◌, length, map, take}
use Rattle.std.specs.Prelude.{Option, Some, None, Contains, get_or, nat_eq, nat_lt, max, if◌then◌else◌}
use Rattle.std.specs.List.{slice_get}
use Rattle.spec_sorts.specs.Terms.{Head, True, Literal, Apply, Term, Terms, app, nil, cons, list_of, sort_of}
use Rattle.spec_sorts.specs.Terms.{same_term}
use Rattle.spec_sorts.specs.Subsets.{arguments_of}
use Rattle.spec_derivations.specs.Derivations.{Inference, «assumption», by_rule, Derivation, conclusion}
use Rattle.spec_derivations.specs.Derivations.{conclusion_at, inference_at, DependsOn}
use Rattle.spec_proof_texts.specs.Lines.{Argument, Arguments, truth, number, symbol, defined, applied, no_items}
use Rattle.spec_proof_texts.specs.Lines.{item, level_limit, place_limit, Reference, assumed, stepped, Line}
use Rattle.spec_proof_texts.specs.Lines.{defines, assumes, steps}

-- The numbers under which terms and inferences are printed, each list by their places; none for what is not printed, or
-- printed in place.
pub record Plan : Type 0 where
  -- of the terms, the numbers of their definitions
  pub terms : List (Option ℕ)
  -- of the inferences, the numbers of their assumes and steps
  pub inferences : List (Option ℕ)

-- the number of a term, by the first place that it is at
abbrev pub number_of : List Term → List (Option ℕ) → Term → Option ℕ
number_of (t ∷ ts) (n ∷ ns) u = if same_term t u then n else number_of ts ns u
number_of _ _ u = None

-- a head in place before its arguments; no other head than these comes without any
abbrev pub in_place : Head → Arguments → Argument
in_place h (item a others) = applied h (item a others)
in_place True no_items = truth true
in_place (Literal q) no_items = number q
in_place (Apply f) no_items = symbol f.name
in_place h no_items = truth false

-- a term by its number, where it has one, else in place
abbrev pub argument_by : Option ℕ → Argument → Argument
argument_by (Some n) a = defined n
argument_by None a = a

abbrev mutual
  -- a term as it is printed
  pub argument_for : List Term → List (Option ℕ) → Term → Argument
  argument_for terms numbers (app h ts) =
      argument_by (number_of terms numbers (app h ts)) (in_place h (arguments_for terms numbers ts))

  -- terms as they are printed
  pub arguments_for : List Term → List (Option ℕ) → Terms → Arguments
  arguments_for terms numbers nil = no_items
  arguments_for terms numbers (cons t ts) = item (argument_for terms numbers t) (arguments_for terms numbers ts)

-- the definition of a term, where it has a number
abbrev pub definition_by : (Term → Argument) → Option ℕ → Term → List Line
definition_by name (Some n) (app h ts) =
    defines (record { number = n; sort = sort_of (app h ts); head = h; arguments = map name (list_of ts) }) ∷ []
definition_by name None t = []

-- the definitions of terms, in their order
abbrev pub definition_lines : (Term → Argument) → List Term → List (Option ℕ) → List Line
definition_lines name (t ∷ ts) (n ∷ ns) = definition_by name n t ++ definition_lines name ts ns
definition_lines name _ _ = []

-- the number of an inference; of one that has none, 0
abbrev pub number_or_zero : Option ℕ → ℕ
number_or_zero (Some n) = n
number_or_zero None = 0

-- an inference by its number, as a premise
abbrev pub reference_by : Inference → ℕ → Reference
reference_by («assumption» t) n = assumed n
reference_by (by_rule r ps given c) n = stepped n

-- a premise as it is printed
abbrev pub reference_for : Derivation → List (Option ℕ) → ℕ → Reference
reference_for d numbers p = reference_by (inference_at d p) (number_or_zero (get_or numbers p None))

-- the line of an inference, where it has a number
abbrev pub inference_by : (Term → Argument) → (ℕ → Reference) → Option ℕ → Inference → List Line
inference_by name refer (Some n) («assumption» t) = assumes n (name t) ∷ []
inference_by name refer (Some n) (by_rule r ps given c) =
    steps (record { number = n; literals = map name c; rule = r; premises = map refer ps; arguments = given }) ∷ []
inference_by name refer None x = []

-- the lines of inferences, in their order
abbrev pub inference_lines : (Term → Argument) → (ℕ → Reference) → Derivation → List (Option ℕ) → List Line
inference_lines name refer (x ∷ xs) (n ∷ ns) = inference_by name refer n x ++ inference_lines name refer xs ns
inference_lines name refer _ _ = []

-- the terms of the assumptions that have a number, in their order
abbrev pub terms_planned : Derivation → List (Option ℕ) → List Term
terms_planned («assumption» t ∷ xs) (Some n ∷ ns) = t ∷ terms_planned xs ns
terms_planned (x ∷ xs) (n ∷ ns) = terms_planned xs ns
terms_planned _ _ = []

-- the lines by a plan: the definitions, and then the inferences
abbrev pub lines_of : List Term → Derivation → Plan → List Line
lines_of terms d plan =
    let name : Term → Argument = argument_for terms plan.terms in
    definition_lines name terms plan.terms ++ inference_lines name (reference_for d plan.inferences) d plan.inferences

-- it has arguments
abbrev pub is_compound : Term → Bool
is_compound (app h nil) = false
is_compound (app h (cons t ts)) = true

-- The term is printed for an inference: in a clause that this depends on, or as an argument of such a term.
pub data IsPrinted (d : Derivation) (n : ℕ) : Term → Type 0 where
  in_clause : (m : ℕ) (t : Term) → DependsOn d n m → Contains (conclusion_at d m) t → IsPrinted d n t
  as_argument : (t u : Term) → IsPrinted d n t → Contains (arguments_of t) u → IsPrinted d n u

-- numbers for what is marked, one after the other
abbrev pub counted : ℕ → List Bool → List (Option ℕ)
counted n [] = []
counted n (true ∷ bs) = Some n ∷ counted (suc n) bs
counted n (false ∷ bs) = None ∷ counted n bs

-- how often a term is one of others
abbrev pub times_among : List Term → Term → ℕ
times_among [] u = 0
times_among (t ∷ ts) u = if same_term t u then suc (times_among ts u) else times_among ts u

-- how often a term is a literal of marked inferences
abbrev pub times_in_clauses : List Bool → Derivation → Term → ℕ
times_in_clauses (true ∷ bs) (x ∷ xs) u = times_among (conclusion x) u + times_in_clauses bs xs u
times_in_clauses (false ∷ bs) (x ∷ xs) u = times_in_clauses bs xs u
times_in_clauses _ _ u = 0

-- how often a term is an argument of marked terms
abbrev pub times_in_terms : List Bool → List Term → Term → ℕ
times_in_terms (true ∷ bs) (t ∷ ts) u = times_among (arguments_of t) u + times_in_terms bs ts u
times_in_terms (false ∷ bs) (t ∷ ts) u = times_in_terms bs ts u
times_in_terms _ _ u = 0

-- numbers for the inferences that are marked: the assumes and the steps each have their own
abbrev pub counted_inferences : (h t : ℕ) → List Bool → Derivation → List (Option ℕ)
counted_inferences h t (true ∷ bs) («assumption» u ∷ xs) = Some h ∷ counted_inferences (suc h) t bs xs
counted_inferences h t (true ∷ bs) (by_rule r ps given c ∷ xs) = Some t ∷ counted_inferences h (suc t) bs xs
counted_inferences h t (false ∷ bs) (x ∷ xs) = None ∷ counted_inferences h t bs xs
counted_inferences h t _ _ = []

-- The marks are of the inferences that one depends on, up to that one.
pub record IsSupport (d : Derivation) (n : ℕ) (marks : List Bool) : Type 0 where
  -- there is one for each up to it
  pub up_to : length marks ≡ n + 1
  -- each of them is marked
  pub each : (m : ℕ) → DependsOn d n m → get_or marks m false ≡ true
  -- and nothing else
  pub only : (m : ℕ) → get_or marks m false ≡ true → DependsOn d n m

-- The marks are of the terms that are printed for an inference.
pub record ArePrinted (terms : List Term) (d : Derivation) (n : ℕ) (marks : List Bool) : Type 0 where
  -- there is one for each term
  pub as_many : length marks ≡ length terms
  -- each of them is marked
  pub each : (k : ℕ) (t : Term) → slice_get terms k ≡ Some t → IsPrinted d n t → get_or marks k false ≡ true
  -- and nothing else
  pub only : (k : ℕ) (t : Term) → slice_get terms k ≡ Some t → get_or marks k false ≡ true → IsPrinted d n t

-- the height of a term, by the first place that it is at
abbrev pub height_of : List Term → List ℕ → Term → ℕ
height_of (t ∷ ts) (n ∷ ns) u = if same_term t u then n else height_of ts ns u
height_of _ _ u = 0

-- the greatest of the heights of terms
abbrev pub greatest_height : (Term → ℕ) → List Term → ℕ
greatest_height height [] = 0
greatest_height height (t ∷ ts) = max (height t) (greatest_height height ts)

-- how many of the heights are above 0
abbrev pub how_many : List ℕ → ℕ
how_many [] = 0
how_many (zero ∷ ns) = how_many ns
how_many (suc n ∷ ns) = suc (how_many ns)

-- the height of a term that may be in place, over that of its arguments, where so many are in place before it
abbrev pub height_over : Bool → (deepest before : ℕ) → ℕ
height_over wanted deepest before =
    if wanted && (nat_lt before place_limit && nat_lt deepest level_limit) then suc deepest else 0

-- Some terms may be in place: those with arguments that are used once, as a literal or as an argument.
pub record AreSingle (terms : List Term) (d : Derivation) (support printed single : List Bool) : Type 0 where
  -- there is a mark for each term
  pub as_many : length single ≡ length terms
  -- which are marked
  pub each : (k : ℕ) (t : Term) → slice_get terms k ≡ Some t → get_or single k false
      ≡ get_or printed k false
      && (is_compound t && nat_eq (times_in_clauses support d t + times_in_terms printed terms t) 1)

-- The heights of the terms that are in place; of each other term, 0. One that may be in place is so if it is not too
-- deep, and not too many are in place before it.
pub record AreHeights (terms : List Term) (single : List Bool) (heights : List ℕ) : Type 0 where
  -- there is one for each term
  pub as_many : length heights ≡ length terms
  -- what they are
  pub each : (k : ℕ) (t : Term) → slice_get terms k ≡ Some t → get_or heights k 0
      ≡ height_over (get_or single k false) (greatest_height (height_of terms heights) (arguments_of t))
      (how_many (take k heights))

-- which of the marked terms have a definition: those with arguments that are not in place
abbrev pub definition_marks : List Term → List Bool → List ℕ → List Bool
definition_marks (t ∷ ts) (b ∷ bs) (n ∷ ns) = (b && (is_compound t && nat_eq n 0)) ∷ definition_marks ts bs ns
definition_marks _ _ _ = []

-- The plan of an inference: what it depends on is printed. Of the terms with arguments that this needs, those are in
-- place that are used once and not too deep; each other one is defined, and nothing else. Numbers begin with 1.
pub record IsPlan (terms : List Term) (d : Derivation) (n : ℕ) (plan : Plan) : Type 0 where
  -- which inferences are printed
  pub support : List Bool
  pub is_support : IsSupport d n support
  -- their numbers
  pub inferences : plan.inferences ≡ counted_inferences 1 1 support d
  -- which terms are printed
  pub printed : List Bool
  pub are_printed : ArePrinted terms d n printed
  -- which of them may be in place
  pub single : List Bool
  pub are_single : AreSingle terms d support printed single
  -- and how deep those are that are in place
  pub heights : List ℕ
  pub are_heights : AreHeights terms single heights
  -- the numbers of the others with arguments
  pub definitions : plan.terms ≡ counted 1 (definition_marks terms printed heights)
