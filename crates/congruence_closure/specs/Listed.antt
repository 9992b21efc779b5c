-- Lists of terms with their heads and arguments.
use Rattle.std.specs.Prelude.{◌≡◌, ℕ, ◌<◌, true, false, List, [], ◌∷◌, length, get_or, Contains}
use Rattle.term_core.specs.declared.ids.TermId.{TermId}
use Rattle.term_core.specs.declared.ids.Lit.{Lit}
use Rattle.term_core.specs.declared.nodes.Head.TheVariants as heads
use Rattle.term_core.specs.Tables.{Shape, no_shape}
use Rattle.congruence_relation.specs.Relation.{Application}

-- what no place has
abbrev pub no_application : Application
no_application = record { term = record { 0 = 0 }; shape = no_shape; takes_part = false }

-- what no place of terms has
abbrev pub no_term_id : TermId
no_term_id = record { 0 = 0 }

-- the listed term of a place, from the oldest
abbrev pub nth : List Application → ℕ → Application
nth listed i = get_or listed i no_application

-- what no place of literals has
abbrev pub no_lit : Lit
no_lit = record { term = record { 0 = 0 }; positive = false }

-- the literal of a place, from the oldest
abbrev pub held_at : List Lit → ℕ → Lit
held_at held j = get_or held j no_lit

-- no term is listed twice
abbrev pub AreListedOnce : List Application → Type 0
AreListedOnce listed = (i j : ℕ) → i < length listed → j < length listed → (nth listed i).term ≡ (nth listed j).term
    → i ≡ j

-- a term has a place
abbrev pub HasPlace : List Application → TermId → ℕ → Type 0
HasPlace listed t i = (i < length listed) × ((nth listed i).term ≡ t)

-- a term is listed
abbrev pub IsListed : List Application → TermId → Type 0
IsListed listed t = (i : ℕ) × HasPlace listed t i

-- that two terms are equal
abbrev pub equality_of : TermId → TermId → Shape
equality_of a b = record { head = heads.Equal; arguments = a ∷ b ∷ [] }

-- the places have all terms that take part, and have a term as an argument
abbrev pub AreUsers : List Application → TermId → List ℕ → Type 0
AreUsers listed t places = (i : ℕ) → i < length listed → (nth listed i).takes_part ≡ true
    → Contains (nth listed i).shape.arguments t → Contains places i
