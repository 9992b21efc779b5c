-- Steps, with the rules of equality that take them.
use Rattle.std.specs.Prelude.{◌≡◌, ◌↔◌, true, List, [], ◌∷◌, codes}
use Rattle.spec_text.specs.Bytes.{Name, among}
use Rattle.spec_sorts.specs.Terms.{Truth, Declared, Ite, Apply, Term, of, constant, constant_term}
use Rattle.spec_sorts.specs.Literals.{Clause}
use Rattle.spec_equality.specs.declared.EqualityRule.{EqualityRule}
use Rattle.spec_equality.specs.EqualityRules.{IsEquating, equality_name}

-- The step is right by the rules of these names, and by no other rule of equality.
pub record AreTakers (names : List Name) (premises : List Clause) (clause : Clause) : Type 0 where
  -- a rule takes it exactly where its name is among them
  pub exact : (rule : EqualityRule) → IsEquating rule premises clause ↔ (among names (equality_name rule) ≡ true)

-- a rule alone takes the step, and none does
abbrev pub IsTakenBy : Name → List Clause → Clause → Type 0
IsTakenBy name premises clause = AreTakers (name ∷ []) premises clause

abbrev pub IsTakenByNone : List Clause → Clause → Type 0
IsTakenByNone premises clause = AreTakers [] premises clause

-- four constants of a declared sort
abbrev pub a : Term
a = constant_term (constant (codes "a") (Declared (codes "S")))

abbrev pub b : Term
b = constant_term (constant (codes "b") (Declared (codes "S")))

abbrev pub c : Term
c = constant_term (constant (codes "c") (Declared (codes "S")))

abbrev pub d : Term
d = constant_term (constant (codes "d") (Declared (codes "S")))

-- two constants of sort Bool
abbrev pub p : Term
p = constant_term (constant (codes "p") Truth)

abbrev pub q : Term
q = constant_term (constant (codes "q") Truth)

-- (f t u) of the declared sort, (g t u) of it too, and (r t u) of sort Bool
abbrev pub f : Term → Term → Term
f t u = of (Apply (record {
  name = codes "f";
  parameters = Declared (codes "S") ∷ Declared (codes "S") ∷ [];
  result = Declared (codes "S");
})) (t ∷ u ∷ [])

abbrev pub g : Term → Term → Term
g t u = of (Apply (record {
  name = codes "g";
  parameters = Declared (codes "S") ∷ Declared (codes "S") ∷ [];
  result = Declared (codes "S");
})) (t ∷ u ∷ [])

abbrev pub r : Term → Term → Term
r t u = of (Apply (record {
  name = codes "r";
  parameters = Declared (codes "S") ∷ Declared (codes "S") ∷ [];
  result = Truth;
})) (t ∷ u ∷ [])

-- (ite p a b), and (ite p q p)
abbrev pub choice : Term
choice = of Ite (p ∷ a ∷ b ∷ [])

abbrev pub formula : Term
formula = of Ite (p ∷ q ∷ p ∷ [])
