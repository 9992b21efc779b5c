-- The congruence of held literals by the numbers of terms. Source: Nelson and Oppen, Fast decision procedures based on
-- congruence closure, JACM 1980.
use Rattle.std.specs.Prelude.{◌≡◌, ◌⊎◌, Bool, true, false, List, [], ◌∷◌, map, All, Contains}
use Rattle.spec_sorts.specs.Terms.{True, False, Term, of}
use Rattle.spec_equality.specs.Congruence.{takes_part}
use Rattle.term_core.specs.declared.ids.TermId.{TermId}
use Rattle.term_core.specs.declared.ids.Lit.{Lit}
use Rattle.term_core.specs.declared.nodes.Head.TheVariants as heads
use Rattle.term_core.specs.Tables.{TableView, Shape, shape_of, shape_term, term_at, IsIn, ShapeFits}
use Rattle.congruence_relation.specs.declared.Truths.{Truths}
use Rattle.congruence_relation.specs.declared.Listed.{Listed}

-- A listed term: its number, its head and arguments, and whether it takes part.
pub record Application : Type 0 where
  -- the number
  pub term : TermId
  -- the head and the arguments
  pub shape : Shape
  -- it is equal to others by its arguments, and has sides that may not be equal where it is denied
  pub takes_part : Bool

-- what is listed
abbrev pub application : Listed → Application
application x = record { term = x.term; shape = shape_of x.node; takes_part = x.takes_part }

-- the same of a list
abbrev pub applications : List Listed → List Application
applications xs = map application xs

-- What the congruence depends on: listed terms, the terms of the truth values, and held literals.
pub record Facts : Type 0 where
  -- the listed terms, oldest first
  pub listed : List Application
  -- the terms `true` and `false`
  pub truths : Truths
  -- the held literals, oldest first
  pub held : List Lit

-- the term of a truth value
abbrev pub truth_of : Truths → Bool → TermId
truth_of t true = t.true_term
truth_of t false = t.false_term

-- A listed term is the equality of two terms.
pub record IsEquality (listed : List Application) (e a b : TermId) : Type 0 where
  -- the listed term
  pub at : Application
  -- it is listed
  pub there : Contains listed at
  -- it is that term
  pub term : at.term ≡ e
  -- which says that they are equal
  pub shape : at.shape ≡ record { head = heads.Equal; arguments = a ∷ b ∷ [] }

-- A held literal states that two terms are equal: its term and its truth value are, and so are the sides of an equality
-- that is held as it is.
pub data StatesEqual (f : Facts) (l : Lit) : TermId → TermId → Type 0 where
  -- its term, and its truth value
  decides : StatesEqual f l l.term (truth_of f.truths l.positive)
  -- the sides of an equality
  equates : (a b : TermId) → l.positive ≡ true → IsEquality f.listed l.term a b → StatesEqual f l a b

mutual
  -- The terms of two numbers are equal because of what is held.
  pub data IsCongruentIn (f : Facts) : TermId → TermId → Type 0 where
    -- a held literal states it
    stated : (l : Lit) (a b : TermId) → Contains f.held l → StatesEqual f l a b → IsCongruentIn f a b
    -- a term is equal to itself
    itself : (a : TermId) → IsCongruentIn f a a
    -- in the other direction
    turned : (a b : TermId) → IsCongruentIn f a b → IsCongruentIn f b a
    -- by a third term
    joined : (a b c : TermId) → IsCongruentIn f a b → IsCongruentIn f b c → IsCongruentIn f a c
    -- listed terms that take part, with one head and equal arguments
    by_arguments : (x y : Application) → Contains f.listed x → Contains f.listed y → x.shape.head ≡ y.shape.head
        → x.takes_part ≡ true → y.takes_part ≡ true
        → AreCongruentIn f x.shape.arguments y.shape.arguments → IsCongruentIn f x.term y.term

  -- as many terms as others, each equal to the other in its place
  pub data AreCongruentIn (f : Facts) : List TermId → List TermId → Type 0 where
    -- none, and none
    none : AreCongruentIn f [] []
    -- a pair, and the rest
    more : (a b : TermId) (xs ys : List TermId) → IsCongruentIn f a b → AreCongruentIn f xs ys
        → AreCongruentIn f (a ∷ xs) (b ∷ ys)

-- A held literal denies that two terms are equal, and their equality takes part.
pub record IsDenied (f : Facts) (a b : TermId) : Type 0 where
  -- the literal
  pub literal : Lit
  -- it is held
  pub held : Contains f.held literal
  -- negated
  pub negative : literal.positive ≡ false
  -- its term is their equality
  pub equality : IsEquality f.listed literal.term a b
  -- which takes part
  pub part : equality.at.takes_part ≡ true

-- the two sides of a denied equality are equal
abbrev pub HasJoinedSides : Facts → Type 0
HasJoinedSides f = (a : TermId) × (b : TermId) × IsDenied f a b × IsCongruentIn f a b

-- what is held joins `true` and `false`, or the sides of a denied equality
abbrev pub FactsAreRefuted : Facts → Type 0
FactsAreRefuted f = IsCongruentIn f f.truths.true_term f.truths.false_term ⊎ HasJoinedSides f

-- All that is listed and held of old facts is so of new ones, over the same truth values.
pub record AreMore (old new : Facts) : Type 0 where
  -- the listed terms
  pub listed : (x : Application) → Contains old.listed x → Contains new.listed x
  -- the truth values
  pub truths : new.truths ≡ old.truths
  -- the held literals
  pub held : (l : Lit) → Contains old.held l → Contains new.held l

-- What is listed are terms of a table, and the truth values are its own.
pub record AreFactsOf (t : TableView) (f : Facts) : Type 0 where
  -- each listed term is one of the table's, with its head and its arguments, and takes part where the term does
  pub terms : All (λ x. IsIn t x.term × ShapeFits t x.shape × (shape_term t x.shape ≡ term_at t x.term)
      × (x.takes_part ≡ takes_part (term_at t x.term))) f.listed
  -- `true`
  pub true_there : IsIn t f.truths.true_term
  pub true_is : term_at t f.truths.true_term ≡ of True []
  -- `false`
  pub false_there : IsIn t f.truths.false_term
  pub false_is : term_at t f.truths.false_term ≡ of False []
  -- the terms of held literals are listed
  pub held : All (λ (l : Lit). (x : Application) × Contains f.listed x × (x.term ≡ l.term)) f.held

-- the listed terms, as a table means them
abbrev pub terms_listed : TableView → Facts → List Term
terms_listed t f = map (λ x. term_at t x.term) f.listed
