-- What follows by a rule from what is true is true.
use Rattle.std.proofs.Common.{◌≡◌, Bool, true, false, not, ◌&&◌, ◌||◌, List, [], ◌∷◌, get_or, All, Result, Ok, Err, refl, sym, ap, ap₂, ◌∙◌}
use Rattle.std.proofs.lemmas.Bool.{false≢true}
use Rattle.std.proofs.lemmas.List.Elements.{All-head, All-tail, recursion_from_All}
use Rattle.std.proofs.lemmas.List.Folds.{Any-from_list_any, list_any_at}
use Rattle.std.proofs.Math.Bool.{or-false, and-true}
use Rattle.spec_sorts.specs.Terms.{Symbol, Not, Or, Term, Terms, app, nil, cons, list_of}
use Rattle.spec_sorts.specs.Values.{Interpretation, Interprets, any_true}
use Rattle.spec_sorts.specs.WellSorted.{IsFormulaOver}
use Rattle.spec_sorts.proofs.SortsOfValues.{formula_value}
use Rattle.spec_text.specs.Trees.{Trees}
use Rattle.spec_sorts.specs.Literals.{Clause, literal_of}
use Rattle.spec_sorts.specs.TermValues.{value_at, values_at}
use Rattle.spec_equality.proofs.Sound.{equating_true}
use Rattle.spec_arithmetic.specs.declared.ArithmeticRule.{ArithmeticRule}
use Rattle.spec_arithmetic.specs.declared.ArithmeticRule.TheVariants as arithmetic
use Rattle.spec_arithmetic.specs.ArithmeticRules.{IsArithmetic, IsWideArithmetic}
use Rattle.spec_arithmetic.proofs.Sound.{rules_sound}
use Rattle.spec_proofs.specs.declared.Rule.{Rule}
use Rattle.spec_proofs.specs.Resolution.{IsWithin}
use Rattle.spec_rules.specs.Clauses.{IsResolvent, term_true, clause_true}
use Rattle.spec_rules.specs.Rules.{IsOr, IsWeakening, IsStated, flipped, IsTurned, IsBy, IsRight, IsWideBy}
use Rattle.spec_rules.specs.Schemes.{Scheme, Kind, opens, keeps, resolves, states, turns, equates, calculates, kind_of}
use Rattle.spec_rules.specs.Truths.{term_true_by}
use Rattle.spec_rules.proofs.Resolution.{complement_true, clause_true_by, resolvent_true}
use Rattle.spec_rules.proofs.Schemes.{HasTruth, IsSound, IsSoundKind, kind_sound, given_true, none_given}

module _ (i : Interpretation) where
  -- a clause that is true
  abbrev pub IsTrue : Clause → Type 0
  IsTrue c = clause_true i c ≡ true

  -- a term is true where its literal is, under the truths that the interpretation gives to terms
  pub by_literal : (t : Term) → term_true_by (term_true i) t ≡ term_true i t
  unfolding literal_of value_at values_at
  by_literal (app Not (cons t nil)) = complement_true (term_true i) (literal_of t) ∙ ap not (by_literal t ∙ sym (and-true (term_true i t)))
  by_literal (app Not nil) = refl
  by_literal (app Not (cons t (cons u us))) = refl
  by_literal (app h ts) = refl

  -- and so is a clause
  by_literals : (c : Clause) → clause_true_by (term_true i) c ≡ clause_true i c
  by_literals [] = refl
  by_literals (t ∷ ts) = ap₂ (λ (a b : Bool). a || b) (by_literal t) (by_literals ts)

  -- a clause that has all that a true one has is true
  within_true : (c clause : Clause) → IsWithin c clause → IsTrue c → IsTrue clause
  within_true c clause within h =
      let t = Any-from_list_any (term_true i) c h in
      let there = within t.1 (t.0, t.2, t.3) in
      list_any_at (term_true i) clause there.0 t.1 there.1 (ap (term_true i) there.2 ∙ t.4)

  -- a disjunction is true where one of its arguments is
  one_argument : (ts : Terms) → any_true (values_at i [] ts) ≡ clause_true i (list_of ts)
  unfolding values_at
  one_argument nil = refl
  one_argument (cons t ts) = ap (λ b. term_true i t || b) (one_argument ts)

  or_true : (premises : List Clause) (clause : Clause) → All IsTrue premises → IsOr premises clause → IsTrue clause
  unfolding value_at
  or_true ((app Or ts ∷ []) ∷ []) clause each right = within_true (list_of ts) clause right (sym (one_argument ts) ∙ sym (or-false (any_true (values_at i [] ts))) ∙ All-head IsTrue (app Or ts ∷ []) [] each)
  or_true _ clause each right = absurd right

  pub weakening_true : (premises : List Clause) (clause : Clause) → All IsTrue premises → IsWeakening premises clause → IsTrue clause
  weakening_true (c ∷ []) clause each right = within_true c clause right (All-head IsTrue c [] each)
  weakening_true _ clause each right = absurd right

  pub resolution_true : (premises : List Clause) (clause : Clause) → All IsTrue premises → IsResolvent premises clause → IsTrue clause
  resolution_true premises clause each right = sym (by_literals clause) ∙ resolvent_true (term_true i) premises clause (λ k d h. by_literals (get_or premises k d) ∙ each k d h) right

  -- a term's truth is not that of what it denies
  flipped_true : (t : Term) → term_true i (flipped t) ≡ not (term_true i t)
  unfolding value_at values_at
  flipped_true (app Not (cons t nil)) = twice (term_true i t)
    where
      twice : (b : Bool) → b ≡ not (not (b && true))
      twice true = refl
      twice false = refl
  flipped_true t = ap not (and-true (term_true i t))

  stated_true : (s : Scheme) → IsSound i s → (premises : List Clause) (clause : Clause) → All (HasTruth i) clause → IsStated s premises clause → IsTrue clause
  stated_true s sound [] [] truths right = none_given i s sound right.0 right.1
  stated_true s sound [] (u ∷ us) truths right = given_true i s sound right.0 u us right.1 (All-tail (HasTruth i) u us truths)
  stated_true s sound (_ ∷ _) clause truths right = absurd right

  turned_true : (s : Scheme) → IsSound i s → (premises : List Clause) (clause : Clause) → All IsTrue premises → All (HasTruth i) clause → IsTurned s premises clause → IsTrue clause
  turned_true s sound ((u ∷ []) ∷ []) clause each truths right = remaining (term_true i u) (term_true i (flipped u)) (clause_true i clause) (sym (or-false (term_true i u)) ∙ All-head IsTrue (u ∷ []) [] each) (flipped_true u) (given_true i s sound right.0 (flipped u) clause right.1 truths)
    where
      remaining : (x y c : Bool) → x ≡ true → y ≡ not x → y || c ≡ true → c ≡ true
      remaining x true c e f h = absurd (false≢true (sym (f ∙ ap not e)))
      remaining x false c e f h = h
  turned_true s sound _ clause each truths right = absurd right

  calculated_true : (symbols : List Symbol) (rule : ArithmeticRule) (premises : List Clause) (arguments : Trees) (clause : Clause) → Interprets i symbols → All (IsFormulaOver symbols) clause → IsArithmetic rule premises arguments clause → IsTrue clause
  calculated_true symbols rule premises arguments clause interprets formulas right =
      rules_sound symbols rule premises arguments clause i interprets (recursion_from_All (IsFormulaOver symbols) clause formulas) right

  by_true : (symbols : List Symbol) (k : Kind) → IsSoundKind i k → (premises : List Clause) (arguments : Trees) (clause : Clause) → Interprets i symbols → All (IsFormulaOver symbols) clause
      → All IsTrue premises → All (HasTruth i) clause → IsBy k premises arguments clause → IsTrue clause
  by_true symbols opens sound premises arguments clause interprets formulas each truths right = or_true premises clause each right
  by_true symbols keeps sound premises arguments clause interprets formulas each truths right = weakening_true premises clause each right
  by_true symbols resolves sound premises arguments clause interprets formulas each truths right = resolution_true premises clause each right
  by_true symbols (states s) sound premises arguments clause interprets formulas each truths right = stated_true s sound premises clause truths right
  by_true symbols (turns s) sound premises arguments clause interprets formulas each truths right = turned_true s sound premises clause each truths right
  by_true symbols (equates rule) sound premises arguments clause interprets formulas each truths right = equating_true i rule premises clause each right
  by_true symbols (calculates rule) sound premises arguments clause interprets formulas each truths right = calculated_true symbols rule premises arguments clause interprets formulas right

  -- what follows by a rule from what is true is true, where its terms are formulas over the symbols that the interpretation has
  pub rule_true : (symbols : List Symbol) (rule : Rule) (premises : List Clause) (arguments : Trees) (clause : Clause) → Interprets i symbols → All (IsFormulaOver symbols) clause → All IsTrue premises → IsRight rule premises arguments clause → IsTrue clause
  rule_true symbols rule premises arguments clause interprets formulas each right =
      by_true symbols (kind_of rule) (kind_sound i rule) premises arguments clause interprets formulas each (λ k d h. formula_value i symbols (get_or clause k d) interprets (formulas k d h)) right

-- what is taken is not wide
never_wide : (rule : ArithmeticRule) (premises : List Clause) (arguments : Trees) (clause : Clause) → IsWideArithmetic rule premises arguments clause → IsArithmetic rule premises arguments clause → ⊥
never_wide arithmetic.LaGeneric [] arguments clause (w, is_wide) right = apart (sym right ∙ is_wide)
  where
    apart : {E : Type 0} {e : E} → (let r : Result (Unit {0}) E = Ok tt in r) ≡ Err e → ⊥
    apart e = cc
never_wide arithmetic.LaGeneric (p ∷ ps) arguments clause is_wide right = is_wide
never_wide arithmetic.LaDisequality premises arguments clause is_wide right = is_wide
never_wide arithmetic.LaTotality premises arguments clause is_wide right = is_wide

-- no step is right and wide
pub never_both : (k : Kind) (premises : List Clause) (arguments : Trees) (clause : Clause) → IsWideBy k premises arguments clause → IsBy k premises arguments clause → ⊥
never_both opens premises arguments clause is_wide right = is_wide
never_both keeps premises arguments clause is_wide right = is_wide
never_both resolves premises arguments clause is_wide right = is_wide
never_both (states s) premises arguments clause is_wide right = is_wide
never_both (turns s) premises arguments clause is_wide right = is_wide
never_both (equates rule) premises arguments clause is_wide right = is_wide
never_both (calculates rule) premises arguments clause is_wide right = never_wide rule premises arguments clause is_wide right
