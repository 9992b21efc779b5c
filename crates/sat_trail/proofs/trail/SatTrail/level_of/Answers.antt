-- That a literal of a place has a variable, and its level is there.
use Rattle.std.proofs.Common.{arith, ◌∙◌, ◌<◌, length, get_or, subst, sym, ap}
use Rattle.std.proofs.lemmas.List.{get_or_default}
use Rattle.sat_trail.specs.Trails.{TrailView}
use Rattle.sat_trail.proofs.ValueLaws.{at_place, term_below}
use Rattle.sat_trail.proofs.trail.SatTrail.level_of.Goals as goal

pub index-requires-2 : goal.index-requires-2
index-requires-2 c =
    let h = c.self.inside in
    let lt : c.args.n < length h.literals.items = subst (λ (v : TrailView). c.args.n < length v.literals) (sym c.self.view_is) c.requires in
    omega (arith, term_below h.literals.items h.values.items c.self.invariant.values_by c.index.result.now (c.args.n, lt, sym c.index.ensures), c.self.invariant.levels_by, h.levels.ok.0)

pub returns : goal.returns
returns c =
    let h = c.self.inside in
    let lt : c.args.n < length h.literals.items = subst (λ (v : TrailView). c.args.n < length v.literals) (sym c.self.view_is) c.requires in
    let below : c.index.result.now.term.0 < length h.levels.items = omega (arith, term_below h.literals.items h.values.items c.self.invariant.values_by c.index.result.now (c.args.n, lt, sym c.index.ensures), c.self.invariant.levels_by) in
    c.index-2.ensures ∙ get_or_default h.levels.items c.index.result.now.term.0 c.index-2.result.now 0 below
    ∙ at_place h.literals.items h.levels.items c.args.n 0 0 c.index.result.now lt c.index.ensures ∙ ap (λ (v : TrailView). get_or v.levels c.args.n 0) c.self.view_is
