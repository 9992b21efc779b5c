-- The rules by which a step follows from earlier clauses. Source: Alethe specification, rules; where a rule takes more
-- than is written there, own.
use Rattle.std.specs.Prelude.{List, [], ◌∷◌, Contains}
use Rattle.spec_sorts.specs.Terms.{Or, Not, Term, app, nil, cons, list_of, negated}
use Rattle.spec_text.specs.Trees.{Trees}
use Rattle.spec_sorts.specs.Literals.{Clause}
use Rattle.spec_equality.specs.EqualityRules.{IsEquating}
use Rattle.spec_arithmetic.specs.ArithmeticRules.{IsArithmetic, IsWideArithmetic}
use Rattle.spec_proofs.specs.declared.Rule.{Rule}
use Rattle.spec_proofs.specs.Resolution.{IsWithin}
use Rattle.spec_rules.specs.Clauses.{IsResolvent}
use Rattle.spec_rules.specs.Schemes.{Scheme, Kind, opens, keeps, resolves, states, turns, equates, calculates}
use Rattle.spec_rules.specs.Schemes.{clauses_by, kind_of}

-- one premise, whose one literal is a disjunction; each of its arguments is a literal of the clause
abbrev pub IsOr : List Clause → Clause → Type 0
IsOr ((app Or ts ∷ []) ∷ []) clause = IsWithin (list_of ts) clause
IsOr _ clause = ⊥

-- one premise; each of its literals is one of the clause
abbrev pub IsWeakening : List Clause → Clause → Type 0
IsWeakening (c ∷ []) clause = IsWithin c clause
IsWeakening _ clause = ⊥

-- some term gives the clause by the scheme
abbrev pub IsGiven : Scheme → Clause → Type 0
IsGiven s clause = (t : Term) × Contains (clauses_by s t) clause

-- no premise, and a clause that some term gives
abbrev pub IsStated : Scheme → List Clause → Clause → Type 0
IsStated s [] clause = IsGiven s clause
IsStated s _ clause = ⊥

-- the term with a leading not taken off, or else one put on
abbrev pub flipped : Term → Term
flipped (app Not (cons t nil)) = t
flipped t = negated t

-- one premise of one literal, whose complement before the clause gives a clause of the scheme
abbrev pub IsTurned : Scheme → List Clause → Clause → Type 0
IsTurned s ((u ∷ []) ∷ []) clause = IsGiven s (flipped u ∷ clause)
IsTurned s _ clause = ⊥

-- the step is as the rule asks; the texts of its arguments count for a rule of arithmetic alone
abbrev pub IsBy : Kind → List Clause → Trees → Clause → Type 0
IsBy opens premises arguments clause = IsOr premises clause
IsBy keeps premises arguments clause = IsWeakening premises clause
IsBy resolves premises arguments clause = IsResolvent premises clause
IsBy (states s) premises arguments clause = IsStated s premises clause
IsBy (turns s) premises arguments clause = IsTurned s premises clause
IsBy (equates rule) premises arguments clause = IsEquating rule premises clause
IsBy (calculates rule) premises arguments clause = IsArithmetic rule premises arguments clause

-- the clause follows from the premises by the rule, with the texts of its arguments
abbrev pub IsRight : Rule → List Clause → Trees → Clause → Type 0
IsRight rule premises arguments clause = IsBy (kind_of rule) premises arguments clause

-- an operation on numbers by which the step is tested leaves their bound; only rules of arithmetic have one
abbrev pub IsWideBy : Kind → List Clause → Trees → Clause → Type 0
IsWideBy opens premises arguments clause = ⊥
IsWideBy keeps premises arguments clause = ⊥
IsWideBy resolves premises arguments clause = ⊥
IsWideBy (states s) premises arguments clause = ⊥
IsWideBy (turns s) premises arguments clause = ⊥
IsWideBy (equates rule) premises arguments clause = ⊥
IsWideBy (calculates rule) premises arguments clause = IsWideArithmetic rule premises arguments clause

-- whether the step is right cannot be told within the bound on numbers; then it is not right
abbrev pub IsWide : Rule → List Clause → Trees → Clause → Type 0
IsWide rule premises arguments clause = IsWideBy (kind_of rule) premises arguments clause
