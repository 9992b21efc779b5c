-- What is left is added to what is there as all was to the first.
use Rattle.std.proofs.Common.{◌≡◌, drop}
use Rattle.spec_arithmetic.specs.Forms.{all_added}
use Rattle.term_core.specs.Tables.{TableView, AreDifferent}
use Rattle.linear_form.specs.Meant.{form_meant, AreVariablesOf}
use Rattle.linear_form.specs.Making.{forms_meant, HaveVariables}
use Rattle.linear_form.proofs.heads.add_all.Given as goal

abbrev pub invariant-forms : goal.invariant-forms
invariant-forms l = record {
  comes : (t : TableView) → AreDifferent t.terms → AreVariablesOf t l.fn.sum → HaveVariables t l.others → all_added (form_meant t l.fn.sum) (forms_meant t l.others) ≡ all_added (form_meant t l.sum) (forms_meant t (drop l.at l.others));
  there : (t : TableView) → AreVariablesOf t l.fn.sum → HaveVariables t l.others → AreVariablesOf t l.sum;
}
