-- There are no entries.
use Rattle.std.proofs.Common.{nat_eq}
use Rattle.std.specs.HashMap.{get}
use Rattle.linear_form.proofs.Indexes.{kept_empty}
use Rattle.linear_form.proofs.form.constant_alone.Goals as goal

pub invariant_of-result : goal.invariant_of-result
invariant_of-result c = kept_empty (get nat_eq c.new-2.result) c.new.result.items c.new.ensures.items
