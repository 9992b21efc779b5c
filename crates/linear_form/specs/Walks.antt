-- The order of a walk over the terms of which a term's form is made, and what it knows.
use Rattle.std.specs.Prelude.{◌≡◌, ℕ, suc, ◌<◌, ◌≤◌, ◌++◌, ◌∷◌, [], List, map, length, get_or, All, Option, Some, None}
use Rattle.std.specs.Prelude.{Result, Ok, Err, if◌then◌else◌}
use Rattle.std.specs.List.{flat_map}
use Rattle.spec_text.specs.Answers.{◌>>=◌}
use Rattle.spec_sorts.specs.Terms.{Minus, Plus, Times, Divide, Term, app, list_of, same_term}
use Rattle.spec_arithmetic.specs.Forms.{Form, Fault, form}
use Rattle.term_core.specs.declared.ids.TermId.{TermId}
use Rattle.term_core.specs.declared.nodes.Head.{Head}
use Rattle.term_core.specs.declared.nodes.Head.TheVariants as heads
use Rattle.term_core.specs.Tables.{TableView}
use Rattle.term_walks.specs.Orders.{number_term, In, Ascends}
use Rattle.linear_form.specs.declared.known.KnownForm.{KnownForm}
use Rattle.linear_form.specs.declared.known.KnownForm.TheVariants as known
use Rattle.linear_form.specs.declared.known.Forms.{Forms}
use Rattle.linear_form.specs.declared.known.Forms.TheVariants as made
use Rattle.linear_form.specs.Meant.{form_meant, AreVariablesOf}
use Rattle.linear_form.specs.Making.{fault_meant, forms_meant, HaveVariables}

-- the arguments of which a term's form is made: those of an arithmetic head
abbrev pub needed_terms : Term → List Term
needed_terms (app Plus ts) = list_of ts
needed_terms (app Times ts) = list_of ts
needed_terms (app Minus ts) = list_of ts
needed_terms (app Divide ts) = list_of ts
needed_terms (app h ts) = []

-- the same by the code's word
abbrev pub needed_by : Head → List TermId → List TermId
needed_by heads.Plus ids = ids
needed_by heads.Times ids = ids
needed_by heads.Minus ids = ids
needed_by heads.Divide ids = ids
needed_by h ids = []

-- the place of a term among others, which is their number where it is none of them
abbrev pub place_in : Term → List Term → ℕ
place_in t [] = 0
place_in t (u ∷ us) = if same_term t u then 0 else suc (place_in t us)

-- the numbers of the arguments of which the form of a number's term is made
abbrev pub needed_at : TableView → ℕ → List ℕ
needed_at t k = map (λ u. place_in u t.terms) (needed_terms (number_term t k))

-- A term with all that its form is made of, arguments before their users.
pub record IsOrder (t : TableView) (root : ℕ) (order : List ℕ) : Type 0 where
  -- smaller numbers come first
  pub ascends : Ascends order
  -- what is needed of each is among them
  pub closed : (k a : ℕ) → In k order → In a (needed_at t k) → In a order
  -- they are numbers of the table
  pub there : (k : ℕ) → In k order → k < length t.terms
  -- the term is among them
  pub root_there : In root order

-- the numbers at places
abbrev pub numbers_at : List ℕ → List ℕ → List ℕ
numbers_at order uses = map (λ j. get_or order j 0) uses

-- no use of a place comes after its last one
abbrev pub AreLast : List ℕ → List ℕ → Type 0
AreLast uses last = (i : ℕ) → i < length uses → i ≤ get_or last (get_or uses i 0) 0

-- The places of all arguments are one after the other, and then that of the term.
pub record IsPlan (t : TableView) (root : ℕ) (order uses last : List ℕ) : Type 0 where
  -- the order
  pub in_order : IsOrder t root order
  -- the places
  pub same : numbers_at order uses ≡ flat_map (needed_at t) order ++ root ∷ []
  -- they are within the order
  pub inside : All (λ j. j < length order) uses
  -- there is a last use for each place
  pub len : length last ≡ length order
  -- it is the last
  pub are_last : AreLast uses last

-- what the code's word knows of a term
abbrev pub known_meant : TableView → KnownForm → Result Form Fault
known_meant t (known.Form f) = Ok (form_meant t f)
known_meant t (known.Wide id w) = Err (fault_meant t id w)

-- its variables are terms of the table
abbrev pub KnownVariables : TableView → KnownForm → Type 0
KnownVariables t (known.Form f) = AreVariablesOf t f
KnownVariables t (known.Wide id w) = Unit {0}

-- What is known of a number's term is its form or its fault.
pub record IsKnown (t : TableView) (k : ℕ) (x : KnownForm) : Type 0 where
  -- it is the form or the fault
  pub same : known_meant t x ≡ form (number_term t k)
  -- the variables are terms of the table
  pub there : KnownVariables t x

-- what is known of each of these terms, in order
abbrev pub AreKnownForms : TableView → List ℕ → List KnownForm → Type 0
AreKnownForms t [] [] = Unit {0}
AreKnownForms t [] (x ∷ xs) = ⊥
AreKnownForms t (k ∷ ks) [] = ⊥
AreKnownForms t (k ∷ ks) (x ∷ xs) = IsKnown t k x × AreKnownForms t ks xs

-- something is there, and is known of a term
abbrev pub HeldBy : TableView → ℕ → Option KnownForm → Type 0
HeldBy t k None = ⊥
HeldBy t k (Some x) = IsKnown t k x

-- what is known of a term is at the place
abbrev pub SlotHolds : TableView → List (Option KnownForm) → ℕ → ℕ → Type 0
SlotHolds t slots j k = HeldBy t k (get_or slots j None)

-- what is still used is at its place
abbrev pub HoldsUsed : TableView → (order last : List ℕ) → List (Option KnownForm) → ℕ → Type 0
HoldsUsed t order last slots tick = (j : ℕ) → j < length slots → tick ≤ get_or last j 0
    → SlotHolds t slots j (get_or order j 0)

-- all forms, or the first fault
abbrev pub gathered : List (Result Form Fault) → Result (List Form) Fault
gathered [] = Ok []
gathered (a ∷ rest) = a >>= λ f. gathered rest >>= λ fs. Ok (f ∷ fs)

-- the forms that the code's word has, or the fault
abbrev pub forms_made : TableView → Forms → Result (List Form) Fault
forms_made t (made.All fs) = Ok (forms_meant t fs.items)
forms_made t (made.Wide id w) = Err (fault_meant t id w)

-- their variables are terms of the table
abbrev pub MadeVariables : TableView → Forms → Type 0
MadeVariables t (made.All fs) = HaveVariables t fs.items
MadeVariables t (made.Wide id w) = Unit {0}
