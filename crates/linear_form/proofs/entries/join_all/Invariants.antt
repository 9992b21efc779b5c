-- What is left is joined to what is there as all was to what was there.
use Rattle.std.proofs.Common.{◌≡◌, drop, nat_eq}
use Rattle.std.specs.HashMap.{get}
use Rattle.spec_arithmetic.specs.Forms.{all_joined}
use Rattle.term_core.specs.Tables.{TableView, AreDifferent}
use Rattle.linear_form.specs.Entries.{live, variables_meant, HasVariables, IsKept}
use Rattle.linear_form.specs.Making.{way_meant}
use Rattle.linear_form.proofs.entries.join_all.Given as goal

abbrev pub invariant-others : goal.invariant-others
invariant-others l = record {
  index : IsKept (get nat_eq l.places) l.entries.items;
  comes : (t : TableView) → AreDifferent t.terms → HasVariables t (live l.fn.entries.items) → HasVariables t (live l.others)
      → all_joined (way_meant l.way) (variables_meant t (live l.fn.entries.items)) (variables_meant t (live l.others)) ≡ all_joined (way_meant l.way) (variables_meant t (live l.entries.items)) (variables_meant t (live (drop l.at l.others)));
  there : (t : TableView) → HasVariables t (live l.fn.entries.items) → HasVariables t (live l.others) → HasVariables t (live l.entries.items);
}
