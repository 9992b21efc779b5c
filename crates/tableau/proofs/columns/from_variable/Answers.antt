use Rattle.std.proofs.Common.{rules, ◌≡◌, ◌∷◌, ap, subst}
use Rattle.tableau.specs.Entries.{entries_of}
use Rattle.tableau.specs.Kept.{IsNoted}
use Rattle.tableau.proofs.columns.from_variable.Goals as goal

pub loop-e-preserved : goal.loop-e-preserved
loop-e-preserved c columns n h =
    let some : c.loop-e.rest.now ≡ c.in-Some.e.now ∷ c.in-Some.more.now = search rules in
    (subst (IsNoted columns n) (ap entries_of some) (c.loop-e.invariant columns n h)).1
