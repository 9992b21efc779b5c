-- Equalities that a step gives as reasons, and what follows from them. Source: Alethe specification, rules of equality;
-- that a reason may be in either direction is own.
use Rattle.std.specs.Prelude.{◌≡◌, ◌≢◌, ◌⊎◌, ⊤, List, [], ◌∷◌, Option, Some, None, Contains}
use Rattle.spec_sorts.specs.Terms.{Not, Equal, Term, app, nil, cons, list_of, pair}
use Rattle.spec_sorts.specs.Literals.{Clause}

-- (= t u)
abbrev pub equal : Term → Term → Term
equal t u = pair Equal t u

-- the term that a literal denies, where it is a negation
abbrev pub denied : Term → Option Term
denied (app Not (cons t nil)) = Some t
denied t = None

-- the literal of a clause, where it has one alone
abbrev pub alone : Clause → Option Term
alone (t ∷ []) = Some t
alone c = None

-- the reason is an equality of the two terms, in either direction
abbrev pub Joins : Option Term → Term → Term → Type 0
Joins reason t u = (reason ≡ Some (equal t u)) ⊎ (reason ≡ Some (equal u t))

-- the reasons lead in their order from the one term to the other
abbrev pub Lead : List (Option Term) → Term → Term → Type 0
Lead [] from to = from ≡ to
Lead (r ∷ rs) from to = (next : Term) × Joins r from next × Lead rs next to

-- one of the reasons joins the two terms
abbrev pub HasReason : List (Option Term) → Term → Term → Type 0
HasReason reasons t u = (r : Option Term) × Contains reasons r × Joins r t u

-- as many terms as others; each is the other at its place, or a reason joins the two
abbrev pub AreJoined : List (Option Term) → List Term → List Term → Type 0
AreJoined reasons [] [] = ⊤
AreJoined reasons (t ∷ ts) (u ∷ us) = ((t ≡ u) ⊎ HasReason reasons t u) × AreJoined reasons ts us
AreJoined reasons _ _ = ⊥

-- the terms have one head and arguments, at least one, that are joined
abbrev pub HaveJoinedArguments : List (Option Term) → Term → Term → Type 0
HaveJoinedArguments reasons (app h ts) (app g us) = (h ≡ g) × (list_of ts ≢ [])
    × AreJoined reasons (list_of ts) (list_of us)
