-- One entry after the other comes into the map, which starts empty.
use Rattle.std.proofs.Common.{[], nat_eq, refl, subst}
use Rattle.std.proofs.lemmas.List.{take_all}
use Rattle.std.specs.HashMap.{get}
use Rattle.linear_form.specs.Entries.{IsIndex}
use Rattle.linear_form.proofs.Indexes.{index_empty, map_empty}
use Rattle.linear_form.proofs.entries.fill.Goals as goal

pub entries-init : goal.entries-init
entries-init c = record { filled = index_empty (get nat_eq c.clear.new.self) [] (map_empty c.clear.new.self c.clear.ensures.empty) refl }

pub entries-preserved : goal.entries-preserved
entries-preserved c = record { filled = c.in_ok-fill_entry.ensures.filled }

pub returns-clause-filled : goal.returns-clause-filled
returns-clause-filled c = subst (IsIndex (get nat_eq c.entries.places)) (take_all c.entries.at c.args.entries.now c.entries-test.false) c.entries.invariant.filled
