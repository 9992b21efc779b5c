-- What is left is multiplied to what is there as all was to the first.
use Rattle.std.proofs.Common.{◌≡◌, drop}
use Rattle.spec_arithmetic.specs.Forms.{all_multiplied}
use Rattle.term_core.specs.Tables.{TableView, term_at}
use Rattle.linear_form.specs.Meant.{form_meant, AreVariablesOf}
use Rattle.linear_form.specs.Making.{forms_meant, HaveVariables}
use Rattle.linear_form.proofs.heads.multiply_all.Given as goal

abbrev pub invariant-forms : goal.invariant-forms
invariant-forms l = record {
  comes : (t : TableView) → all_multiplied (term_at t l.id) (form_meant t l.fn.first) (forms_meant t l.others) ≡ all_multiplied (term_at t l.id) (form_meant t l.product) (forms_meant t (drop l.at l.others));
  there : (t : TableView) → AreVariablesOf t l.fn.first → HaveVariables t l.others → AreVariablesOf t l.product;
}
