-- What follows by a rule of linear arithmetic is true.
use Rattle.std.proofs.Common.{◌≡◌, Bool, true, false, ◌||◌, List, [], ◌∷◌, Option, Some, None, Result, Ok, Err, refl, sym, ◌∙◌, ap, subst}
use Rattle.std.specs.List.{list_any, AllByRecursion}
use Rattle.std.proofs.lemmas.Bool.{or_parts}
use Rattle.spec_text.specs.Trees.{Trees}
use Rattle.spec_text.specs.Answers.{◌>>=◌}
use Rattle.spec_text.proofs.AnswerLaws.{went}
use Rattle.spec_numbers.specs.Fractions.{Fraction, IsReduced}
use Rattle.spec_sorts.specs.Terms.{Number, Symbol, Or, Equal, Term, nil, cons, negated, sort_of}
use Rattle.spec_sorts.specs.WellSorted.{IsWellSorted, IsFormulaOver}
use Rattle.spec_sorts.specs.Values.{Interpretation, Interprets, is_true}
use Rattle.spec_sorts.specs.TermValues.{value_at}
use Rattle.spec_sorts.specs.Literals.{Clause}
use Rattle.spec_arithmetic.specs.declared.ArithmeticRule.{ArithmeticRule}
use Rattle.spec_arithmetic.specs.declared.ArithmeticRule.TheVariants as rules
use Rattle.spec_arithmetic.specs.Forms.{Form, Fault, subtracting, combined, at_term, form, difference}
use Rattle.spec_arithmetic.specs.Contradictions.{Negation, negation_of, Coefficient, given, too_wide, malformed, paired, paired_with, numbered, Part, without_term, parts_of, as_failure, judged_parts, judged_pairs, la_generic}
use Rattle.spec_arithmetic.specs.Coefficients.{coefficients_of}
use Rattle.spec_arithmetic.specs.ArithmeticRules.{at_most, split, order, IsArithmetic}
use Rattle.spec_arithmetic.proofs.General.{same_ok, same_some}
use Rattle.spec_arithmetic.proofs.FormValues.{subtracting_fair, combined_value, form_value_reduced}
use Rattle.spec_arithmetic.proofs.Reals.{IsReal, number_under, first_argument, second_argument, real_number}
use Rattle.spec_arithmetic.proofs.FormTerms.{form_gives, at_ok}
use Rattle.spec_arithmetic.proofs.Coefficients.{IsReducedCoefficient, AreReduced, coefficients_reduced}
use Rattle.spec_arithmetic.proofs.Denials.{IsRelated, IsDenied, denied}
use Rattle.spec_arithmetic.proofs.Sums.{IsPart, AreParts, as_ok, judged_not}
use Rattle.spec_arithmetic.proofs.Orders.{split_true, order_true}

-- what an answer has does not depend on the term of its fault
pub without_ok : {A : Type 0} (a : Result A Fault) (r : A) → without_term a ≡ Ok r → a ≡ Ok r
without_ok (Ok a) r e = cc
without_ok (Err w) r e = cc

module _ (symbols : List Symbol) (i : Interpretation) (interprets : Interprets i symbols) where
  -- a term is true
  abbrev holds : Term → Bool
  holds t = is_true (value_at i [] t)

  -- each negation holds, and its coefficient is in lowest terms
  abbrev ArePairs : List (Negation × Coefficient) → Type 0
  ArePairs [] = Unit {0}
  ArePairs ((m, c) ∷ rest) = IsDenied symbols i m × IsReducedCoefficient c × ArePairs rest

  -- and likewise with the numbers of the coefficients
  abbrev AreNumbered : List (Negation × Fraction) → Type 0
  AreNumbered [] = Unit {0}
  AreNumbered ((m, c) ∷ rest) = IsDenied symbols i m × IsReduced c × AreNumbered rest

  -- what a clause without a true literal gives
  pairs_hold : (ts : List Term) (cs : List Coefficient) (ps : List (Negation × Coefficient)) → paired ts cs ≡ Some ps
      → AllByRecursion (IsFormulaOver symbols) ts → AreReduced cs → list_any holds ts ≡ false → ArePairs ps
  unfolding paired
  pairs_hold [] [] ps e fs rs none = subst ArePairs (same_some _ _ e) tt
  pairs_hold [] (c ∷ cs) ps e fs rs none = cc
  pairs_hold (t ∷ ts) [] ps e fs rs none = cc
  pairs_hold (t ∷ ts) (c ∷ cs) ps e fs rs none = by (negation_of true t) refl c (paired ts cs) refl e rs.0 (pairs_hold ts cs)
    where
      parts : (holds t ≡ false) × (list_any holds ts ≡ false)
      parts = or_parts (holds t) (list_any holds ts) none

      by : (o : Option Negation) → negation_of true t ≡ o → (c : Coefficient) → (rest : Option (List (Negation × Coefficient))) → paired ts cs ≡ rest → paired_with o c rest ≡ Some ps → IsReducedCoefficient c
          → ((ps : List (Negation × Coefficient)) → paired ts cs ≡ Some ps → AllByRecursion (IsFormulaOver symbols) ts → AreReduced cs → list_any holds ts ≡ false → ArePairs ps) → ArePairs ps
      by (Some m) o (given c) (Some xs) p e r again = subst ArePairs (same_some _ _ e) (denied symbols i true t m fs.0.term o parts.0, r, again xs p fs.1 rs.1 parts.1)
      by (Some m) o (too_wide w) (Some xs) p e r again = subst ArePairs (same_some _ _ e) (denied symbols i true t m fs.0.term o parts.0, r, again xs p fs.1 rs.1 parts.1)
      by (Some m) o malformed rest p e r again = cc
      by (Some m) o (given c) None p e r again = cc
      by (Some m) o (too_wide w) None p e r again = cc
      by None o c rest p e r again = cc

  numbered_hold : (ps : List (Negation × Coefficient)) (ns : List (Negation × Fraction)) → numbered ps ≡ Ok ns → ArePairs ps → AreNumbered ns
  unfolding numbered
  numbered_hold [] ns e h = subst AreNumbered (same_ok _ _ e) tt
  numbered_hold ((m, given c) ∷ rest) ns e h =
      let a = went (numbered rest) (λ r. Ok ((m, c) ∷ r)) ns e in
      subst AreNumbered (same_ok _ _ a.then) (h.0, h.1, numbered_hold rest a.first a.was h.2)
  numbered_hold ((m, too_wide w) ∷ rest) ns e h = cc
  numbered_hold ((m, malformed) ∷ rest) ns e h = numbered_hold rest ns e h.2

  -- the form of the difference of the sides
  part_holds : (m : Negation) (c : Fraction) (f : Form) → IsDenied symbols i m → difference m.atom m.left m.right ≡ Ok f → IsReduced c
      → IsPart (number_under i) (record { relation = m.relation; form = f; weight = c })
  unfolding difference
  part_holds m c f d e r =
      let a = went (form m.left) (λ f. form m.right >>= λ g. at_term m.atom (combined subtracting f g)) f e in
      let b = went (form m.right) (λ g. at_term m.atom (combined subtracting a.first g)) f a.then in
      let left = form_gives i symbols interprets m.left a.first a.was d.left in
      let right = form_gives i symbols interprets m.right b.first b.was d.right in
      let s = combined_value (number_under i) subtracting subtracting_fair a.first b.first f (at_ok _ _ _ b.then) left.proper right.proper in
      record {
        is_related = subst (IsRelated m.relation) (sym s.value) (d.is_related _ _ left.value right.value (form_value_reduced (number_under i) b.first right.proper));
        proper = s.proper;
        weight = r;
      }

  parts_hold : (ns : List (Negation × Fraction)) (ps : List Part) → parts_of ns ≡ Ok ps → AreNumbered ns → AreParts (number_under i) ps
  unfolding parts_of
  parts_hold [] ps e h = subst (AreParts (number_under i)) (same_ok _ _ e) tt
  parts_hold ((m, c) ∷ rest) ps e h =
      let a = went (without_term (difference m.atom m.left m.right)) (λ f. parts_of rest >>= λ r. Ok (record { relation = m.relation; form = f; weight = c } ∷ r)) ps e in
      let b = went (parts_of rest) (λ r. Ok (record { relation = m.relation; form = a.first; weight = c } ∷ r)) ps a.then in
      subst (AreParts (number_under i)) (same_ok _ _ b.then) (part_holds m c a.first h.0 (without_ok _ _ a.was) h.1, parts_hold rest b.first b.was h.2)

  generic_not : (clause : Clause) (cs : List Coefficient) → la_generic clause cs ≡ Ok tt → AllByRecursion (IsFormulaOver symbols) clause → AreReduced cs → list_any holds clause ≡ false → ⊥
  unfolding la_generic
  generic_not clause cs e fs rs none = by (paired clause cs) refl e
    where
      by : (o : Option (List (Negation × Coefficient))) → paired clause cs ≡ o → judged_pairs o ≡ Ok tt → ⊥
      by None o e = cc
      by (Some ps) o e =
          let a = went (as_failure (numbered ps)) (λ ns. as_failure (parts_of ns) >>= λ qs. judged_parts qs) tt e in
          let b = went (as_failure (parts_of a.first)) (λ qs. judged_parts qs) tt a.then in
          judged_not (number_under i) b.first (parts_hold a.first b.first (as_ok _ _ b.was) (numbered_hold ps a.first (as_ok _ _ a.was) (pairs_hold clause cs ps o fs rs none))) b.then

  generic_true : (clause : Clause) (cs : List Coefficient) → la_generic clause cs ≡ Ok tt → AllByRecursion (IsFormulaOver symbols) clause → AreReduced cs → list_any holds clause ≡ true
  generic_true clause cs e fs rs = by (list_any holds clause) refl
    where
      by : (b : Bool) → list_any holds clause ≡ b → b ≡ true
      by true is = refl
      by false is = absurd (generic_not clause cs e fs rs is)

  -- a clause of one true literal
  one_true : (clause : Clause) (t : Term) → clause ≡ t ∷ [] → holds t ≡ true → list_any holds clause ≡ true
  one_true clause t is e = ap (list_any holds) is ∙ ap (λ b. b || false) e

  -- the terms of a split are of sort Real
  split_sides : (s t : Term) → IsWellSorted symbols [] (split s t) → sort_of s ≡ Number → sort_of t ≡ Number → IsReal symbols s × IsReal symbols t
  split_sides s t w ss st =
      let others = cons (negated (at_most s t)) (cons (negated (at_most t s)) nil) in
      let equality = first_argument symbols Or _ others w in (
        record { term = first_argument symbols Equal s (cons t nil) equality; sort = ss },
        record { term = second_argument symbols Equal s t nil equality; sort = st },
      )

  disequality_true : (clause : Clause) (s t : Term) → AllByRecursion (IsFormulaOver symbols) clause → sort_of s ≡ Number → sort_of t ≡ Number → clause ≡ split s t ∷ [] → list_any holds clause ≡ true
  disequality_true clause s t fs ss st is =
      let over = subst (AllByRecursion (IsFormulaOver symbols)) is fs in
      let ends = split_sides s t over.0.term ss st in
      one_true clause (split s t) is (split_true i s t (real_number symbols i interprets s ends.0) (real_number symbols i interprets t ends.1))

-- what follows by a rule is true
pub rules_sound : (symbols : List Symbol) (rule : ArithmeticRule) (premises : List Clause) (arguments : Trees) (clause : Clause) (i : Interpretation)
    → Interprets i symbols → AllByRecursion (IsFormulaOver symbols) clause → IsArithmetic rule premises arguments clause → list_any (λ t. is_true (value_at i [] t)) clause ≡ true
rules_sound symbols rules.LaGeneric [] arguments clause i interprets fs r =
    generic_true symbols i interprets clause (coefficients_of arguments) r fs (coefficients_reduced arguments)
rules_sound symbols rules.LaDisequality [] arguments clause i interprets fs (s, t, ss, st, is) = disequality_true symbols i interprets clause s t fs ss st is
rules_sound symbols rules.LaTotality [] arguments clause i interprets fs (s, t, ss, st, is) = one_true symbols i interprets clause (order s t) is (order_true i s t)
rules_sound symbols rule premises arguments clause i interprets fs r = absurd r
