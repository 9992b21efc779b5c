-- What was taken is before what is left.
use Rattle.std.proofs.Common.{◌≡◌, ◌++◌, Ok, map, All}
use Rattle.term_core.specs.Tables.{TableView}
use Rattle.linear_form.specs.Making.{forms_meant, HaveVariables}
use Rattle.linear_form.specs.Walks.{KnownVariables, known_meant, gathered}
use Rattle.linear_form.proofs.known.forms_in.Given as goal

abbrev pub invariant-arguments : goal.invariant-arguments
invariant-arguments l = record {
  same : (t : TableView) → gathered (map (known_meant t) l.yielded) ≡ Ok (forms_meant t l.forms.items);
  there : (t : TableView) → All (KnownVariables t) l.yielded → HaveVariables t l.forms.items;
  left : l.fn.arguments.items ≡ l.yielded ++ l.known-iterator.rest.items;
}
