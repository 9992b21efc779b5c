-- What is left is added to the sum as all was to 0.
use Rattle.std.proofs.Common.{◌≡◌, drop}
use Rattle.term_core.specs.Tables.{TableView, AreDifferent}
use Rattle.spec_arithmetic.specs.Contradictions.{sum_of, summed}
use Rattle.linear_form.specs.Meant.{form_meant, AreVariablesOf}
use Rattle.linear_form.specs.Sums.{parts_meant, HaveVariablesOf}
use Rattle.linear_form.proofs.sums.sum_of.Given as goal

abbrev pub invariant-loop-part : goal.invariant-loop-part
invariant-loop-part l = record {
  comes : (t : TableView) → AreDifferent t.terms → HaveVariablesOf t l.parts
      → sum_of l.turned (parts_meant t l.parts) ≡ summed l.turned (form_meant t l.sum) (parts_meant t (drop l.part-index l.parts));
  there : (t : TableView) → AreDifferent t.terms → HaveVariablesOf t l.parts → AreVariablesOf t l.sum;
}
