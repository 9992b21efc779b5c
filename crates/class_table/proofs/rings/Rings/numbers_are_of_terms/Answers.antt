-- The rows are whole.
use Rattle.std.proofs.Common.{subst}
use Rattle.class_table.specs.Classes.{ClassesAreNumbered}
use Rattle.class_table.specs.Rings.{RingsView}
use Rattle.class_table.proofs.Kept.{kept_whole}
use Rattle.class_table.proofs.rings.Rings.numbers_are_of_terms.Goals as goal

pub returns : goal.returns
returns c =
    let w = kept_whole c.self.inside c.self.invariant in
    subst (λ (v : RingsView). ClassesAreNumbered v.numbers) c.self.view_is
    (record { low = λ t h. (w.classes t.0 h).low; live = λ t h. (w.classes t.0 h).live })
