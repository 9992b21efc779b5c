-- That either kind of conflict is explained.
use Rattle.std.proofs.Common.{refl, subst}
use Rattle.congruence_relation.specs.Edges.{IsConflict}
use Rattle.congruence_explain.proofs.Concluding.{truths_linked, sides_linked}
use Rattle.congruence_explain.proofs.Facts.{truths_in}
use Rattle.congruence_explain.proofs.explaining.explained.Goals as goal

pub explain_truths-requires : goal.explain_truths-requires
explain_truths-requires g c =
    let t = c.args.table.now in
    let ts = c.args.truths in
    let v = c.args.forest.now.now in
    let b = c.requires.1.0 in
    (refl, (c.requires.0, (b, (truths_in t ts v g.facts b, truths_linked t ts v g.facts b (subst (IsConflict g.facts v.edges) c.in-Truths.is c.requires.1.1)))))

pub explain_sides-requires : goal.explain_sides-requires
explain_sides-requires g c =
    let t = c.args.table.now in
    let ts = c.args.truths in
    let v = c.args.forest.now.now in
    let b = c.requires.1.0 in
    (refl, (c.requires.0, (b, sides_linked t ts v g.facts b c.in-Sides.e (subst (IsConflict g.facts v.edges) c.in-Sides.is c.requires.1.1))))
