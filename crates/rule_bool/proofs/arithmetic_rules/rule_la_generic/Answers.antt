-- That a number which leaves the bound is reported.
use Rattle.std.proofs.Common.{◌≡◌, arith, List, [], ◌∷◌, map, length, sym, ap, ◌∙◌}
use Rattle.std.specs.Prelude.{Err}
use Rattle.std.proofs.lemmas.Bool.Decides.{nat_tests}
use Rattle.spec_text.specs.Trees.{Trees}
use Rattle.spec_numbers.specs.Bounds.{Overflow}
use Rattle.spec_sorts.specs.Literals.{Clause}
use Rattle.spec_arithmetic.specs.declared.ArithmeticRule.TheVariants.{LaGeneric}
use Rattle.spec_arithmetic.specs.ArithmeticRules.{IsWideArithmetic}
use Rattle.spec_arithmetic.specs.Contradictions.{wide, la_generic}
use Rattle.spec_arithmetic.specs.Coefficients.{coefficients_of}
use Rattle.ratio128.specs.Meant.{overflow}
use Rattle.term_core.specs.declared.ids.TermId.{TermId}
use Rattle.term_core.specs.Tables.{TableView, clause_at}
use Rattle.rule_bool.proofs.arithmetic_rules.rule_la_generic.Goals as goal

-- without premises a wide sum is reported
wide_by : (t : TableView) (premises : List (List TermId)) (arguments : Trees) (clause : Clause) (w : Overflow) → 0 ≡ length premises
    → la_generic clause (coefficients_of arguments) ≡ Err (wide w) → IsWideArithmetic LaGeneric (map (clause_at t) premises) arguments clause
wide_by t [] arguments clause w e h = (w, h)
wide_by t (p ∷ ps) arguments clause w e h = cc

pub returns-in-Err-Wide : goal.returns-in-Err-Wide
returns-in-Err-Wide c texts written =
    let none : 0 ≡ length c.args.premises.now = grind (arith, nat_tests, c.if-not-is_empty.ensures) in
    wide_by c.args.table.now c.args.premises.now texts _ (overflow c.in-Err-Wide.field-0-0) none
    (sym (ap (la_generic (clause_at c.args.table.now c.args.clause.now)) written) ∙ rw c.in-Err-Wide.field-0-is at c.in-Err-Wide.ensures.exact)
