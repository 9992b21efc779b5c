-- The congruence of literals over listed terms. Source: Nelson and Oppen, Fast decision procedures based on congruence
-- closure, JACM 1980; that a literal's term is equal to a truth value, and which terms take part, is own.
use Rattle.std.specs.Prelude.{◌≡◌, ◌⊎◌, Bool, true, false, not, List, [], Contains}
use Rattle.spec_sorts.specs.Terms.{Truth, True, False, And, Or, Xor, Implies, Equal, Ite, Head, Term, Terms, app, nil}
use Rattle.spec_sorts.specs.Terms.{cons, of, same_sort, second_sort}
use Rattle.spec_sorts.specs.Literals.{Literal}
use Rattle.spec_equality.specs.Reasons.{equal}

-- the term of a truth value
abbrev pub truth_term : Bool → Term
truth_term true = of True []
truth_term false = of False []

-- the literal that a term is, as it is or negated
abbrev pub signed_literal : Term → Bool → Literal
signed_literal t b = record { atom = t; positive = b }

-- A term is equal to others by its arguments, and its sides may not be equal where it is an equality that is denied. Of
-- connectives this is not so, nor of equalities and choices between terms of sort Bool: what these mean, clauses say.
abbrev pub takes_part : Term → Bool
takes_part (app And ts) = false
takes_part (app Or ts) = false
takes_part (app Xor ts) = false
takes_part (app Implies ts) = false
takes_part (app Equal ts) = not (same_sort (second_sort ts) Truth)
takes_part (app Ite ts) = not (same_sort (second_sort ts) Truth)
takes_part t = true

mutual
  -- Two terms are equal because of what is held: the least relation that holds the sides of held equalities, and each
  -- held literal's term with its truth value; that is an equivalence; and that holds listed terms that take part, with
  -- one head and equal arguments.
  pub data IsCongruent (listed : List Term) (held : List Literal) : Term → Term → Type 0 where
    -- the sides of a held equality
    equated : (t u : Term) → Contains held (signed_literal (equal t u) true) → IsCongruent listed held t u
    -- a held literal's term, and its truth value
    decided : (l : Literal) → Contains held l → IsCongruent listed held l.atom (truth_term l.positive)
    -- a term is equal to itself
    itself : (t : Term) → IsCongruent listed held t t
    -- in the other direction
    turned : (t u : Term) → IsCongruent listed held t u → IsCongruent listed held u t
    -- by a third term
    joined : (t u v : Term) → IsCongruent listed held t u → IsCongruent listed held u v → IsCongruent listed held t v
    -- listed terms that take part, with one head and equal arguments
    by_arguments : (h : Head) (ts us : Terms) → Contains listed (app h ts) → Contains listed (app h us)
        → takes_part (app h ts) ≡ true → takes_part (app h us) ≡ true → AreCongruent listed held ts us
        → IsCongruent listed held (app h ts) (app h us)

  -- as many terms as others, each equal to the other in its place
  pub data AreCongruent (listed : List Term) (held : List Literal) : Terms → Terms → Type 0 where
    -- none, and none
    none : AreCongruent listed held nil nil
    -- a pair, and the rest
    more : (t u : Term) (ts us : Terms) → IsCongruent listed held t u → AreCongruent listed held ts us
        → AreCongruent listed held (cons t ts) (cons u us)

-- the two sides of a held negated equality that takes part are equal
abbrev pub HasJoinedSides : List Term → List Literal → Type 0
HasJoinedSides listed held =
    (t : Term) × (u : Term) × Contains held (signed_literal (equal t u) false) × (takes_part (equal t u) ≡ true)
    × IsCongruent listed held t u

-- what is held joins `true` and `false`, or the sides of a held negated equality that takes part
abbrev pub IsRefuted : List Term → List Literal → Type 0
IsRefuted listed held = IsCongruent listed held (truth_term true) (truth_term false) ⊎ HasJoinedSides listed held

-- it does not
abbrev pub IsFine : List Term → List Literal → Type 0
IsFine listed held = IsRefuted listed held → ⊥
