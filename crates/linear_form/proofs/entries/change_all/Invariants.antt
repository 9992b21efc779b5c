-- What was kept is before what becomes of the rest, and its variables are among those that were taken.
use Rattle.std.proofs.Common.{◌≡◌, ℕ, take, drop, nat_eq}
use Rattle.std.specs.HashMap.{get}
use Rattle.spec_arithmetic.specs.Forms.{each_number}
use Rattle.term_core.specs.Tables.{TableView}
use Rattle.linear_form.specs.Entries.{live, variables_meant, HasVariables, LacksNumber, IsKept}
use Rattle.linear_form.specs.Making.{change_meant, with_front}
use Rattle.linear_form.proofs.entries.change_all.Given as goal

abbrev pub invariant-others : goal.invariant-others
invariant-others l = record {
  index : IsKept (get nat_eq l.places) l.entries.items;
  comes : (t : TableView) → each_number (change_meant l.change) (variables_meant t (live l.others)) ≡ with_front (variables_meant t (live l.entries.items)) (each_number (change_meant l.change) (variables_meant t (live (drop l.at l.others))));
  new : (q : ℕ) → LacksNumber q (live (take l.at l.others)) → LacksNumber q (live l.entries.items);
  there : (t : TableView) → HasVariables t (live l.others) → HasVariables t (live l.entries.items);
}
