-- Rules but for resolution, `trans` and `cong` take one premise at most.
use Rattle.std.proofs.Common.{◌≤◌, List, [], ◌∷◌, length, rules, arith}
use Rattle.spec_text.specs.Trees.{Trees}
use Rattle.spec_sorts.specs.Literals.{Clause}
use Rattle.spec_equality.specs.declared.EqualityRule.{EqualityRule}
use Rattle.spec_equality.specs.declared.EqualityRule.TheVariants as equals
use Rattle.spec_equality.specs.EqualityRules.{IsEquating}
use Rattle.spec_arithmetic.specs.declared.ArithmeticRule.{ArithmeticRule}
use Rattle.spec_arithmetic.specs.declared.ArithmeticRule.TheVariants as arithmetic
use Rattle.spec_arithmetic.specs.ArithmeticRules.{IsArithmetic, IsWideArithmetic}
use Rattle.spec_rules.specs.Schemes.{Scheme, Kind, opens, keeps, resolves, states, turns, equates, calculates}
use Rattle.spec_rules.specs.Rules.{IsOr, IsTurned, IsBy, IsWideBy}
use Rattle.alethe_check.specs.Stating.{takes_few}

-- no disjunction is opened where there is another premise
not_opened : (p q : Clause) (ps : List Clause) (c : Clause) → IsOr (p ∷ q ∷ ps) c → ⊥
not_opened p q ps c r = search rules

-- no premise is turned where there is another
not_turned : (s : Scheme) (p q : Clause) (ps : List Clause) (c : Clause) → IsTurned s (p ∷ q ∷ ps) c → ⊥
not_turned s [] q ps c r = r
not_turned s (u ∷ []) q ps c r = r
not_turned s (u ∷ v ∷ us) q ps c r = r

-- no rule of equality but two takes several
not_equated : (e : EqualityRule) (p q : Clause) (ps : List Clause) (c : Clause) → takes_few (equates e) → IsEquating e (p ∷ q ∷ ps) c → ⊥
not_equated equals.EqReflexive p q ps c few r = r
not_equated equals.EqTransitive p q ps c few r = r
not_equated equals.EqCongruent p q ps c few r = r
not_equated equals.EqCongruentPred p q ps c few r = r
not_equated equals.Refl p q ps c few r = r
not_equated equals.Symm p q ps c few r = r
not_equated equals.Trans p q ps c few r = few
not_equated equals.Cong p q ps c few r = few
not_equated equals.DistinctElim p q ps c few r = r
not_equated equals.IteThen p q ps c few r = r
not_equated equals.IteElse p q ps c few r = r

-- no rule of arithmetic takes one
not_calculated : (e : ArithmeticRule) (p : Clause) (ps : List Clause) (arguments : Trees) (c : Clause) → IsArithmetic e (p ∷ ps) arguments c → ⊥
not_calculated arithmetic.LaGeneric p ps arguments c r = r
not_calculated arithmetic.LaDisequality p ps arguments c r = r
not_calculated arithmetic.LaTotality p ps arguments c r = r

-- nor is it wide with one
not_counted : (e : ArithmeticRule) (p : Clause) (ps : List Clause) (arguments : Trees) (c : Clause) → IsWideArithmetic e (p ∷ ps) arguments c → ⊥
not_counted arithmetic.LaGeneric p ps arguments c r = r
not_counted arithmetic.LaDisequality p ps arguments c r = r
not_counted arithmetic.LaTotality p ps arguments c r = r

-- no step of these kinds has two premises
pub not_by : (k : Kind) (ps : List Clause) (arguments : Trees) (c : Clause) → takes_few k → 2 ≤ length ps → IsBy k ps arguments c → ⊥
not_by k [] arguments c few two r = omega (arith, two)
not_by k (p ∷ []) arguments c few two r = omega (arith, two)
not_by opens (p ∷ q ∷ ps) arguments c few two r = not_opened p q ps c r
not_by keeps (p ∷ q ∷ ps) arguments c few two r = r
not_by resolves (p ∷ q ∷ ps) arguments c few two r = few
not_by (states s) (p ∷ q ∷ ps) arguments c few two r = r
not_by (turns s) (p ∷ q ∷ ps) arguments c few two r = not_turned s p q ps c r
not_by (equates e) (p ∷ q ∷ ps) arguments c few two r = not_equated e p q ps c few r
not_by (calculates e) (p ∷ q ∷ ps) arguments c few two r = not_calculated e p (q ∷ ps) arguments c r

-- nor is one with two premises wide
pub not_wide : (k : Kind) (ps : List Clause) (arguments : Trees) (c : Clause) → takes_few k → 2 ≤ length ps → IsWideBy k ps arguments c → ⊥
not_wide opens ps arguments c few two w = w
not_wide keeps ps arguments c few two w = w
not_wide resolves ps arguments c few two w = w
not_wide (states s) ps arguments c few two w = w
not_wide (turns s) ps arguments c few two w = w
not_wide (equates e) ps arguments c few two w = w
not_wide (calculates e) [] arguments c few two w = omega (arith, two)
not_wide (calculates e) (p ∷ ps) arguments c few two w = not_counted e p ps arguments c w
