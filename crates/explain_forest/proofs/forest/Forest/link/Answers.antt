-- There is room for the edge, and the marks stay.
use Rattle.std.proofs.Common.{◌<◌, ◌+◌, length, reverse, map, sym, ◌∙◌, ap, subst, arith}
use Rattle.std.proofs.lemmas.List.{length-reverse}
use Rattle.explain_forest.specs.Forest.{root, Linked}
use Rattle.explain_forest.specs.Kept.{state_at}
use Rattle.explain_forest.proofs.Climbing.{length-stamps_shown}
use Rattle.explain_forest.proofs.Room.{room-left}
use Rattle.explain_forest.proofs.Marks.{states-linked}
use Rattle.explain_forest.proofs.Keeping.{kept-linked}
use Rattle.explain_forest.proofs.forest.Forest.link.Goals as goal

pub index_mut-requires-2 : goal.index_mut-requires-2
index_mut-requires-2 c =
    let f = c.self.inside in
    let h = length-stamps_shown f.parents.items f.stamps.items f.edges.items c.self.invariant.shows in
    let l = c.root_of-below.ensures.low in
    let v = ap (λ g. g.now.terms) c.self.view_is in
    omega (arith, h, l, v, f.stamps.ok.0)

pub push_reserved-requires : goal.push_reserved-requires
push_reserved-requires c =
    let f = c.self.inside in
    let v = ap (λ g. g.now.terms) c.self.view_is in
    let w = ap (λ g. g.now.edges) c.self.view_is in
    let r = room-left (length f.parents.items) (record { a = c.args.a; b = c.args.b; label = c.args.label }) (reverse f.edges.items) c.self.invariant.shows.apart
    (subst (λ k. c.args.a.0 < k) (sym v) c.requires.a) (subst (λ k. c.args.b.0 < k) (sym v) c.requires.b) (λ x. c.requires.apart (subst (λ es. Linked es c.args.a.0 c.args.b.0) w x)) in
    let k = length-reverse f.edges.items in
    let fits = c.self.invariant.fits in
    omega (arith, r, k, fits, f.edges.ok.0)

pub invariant_of-self : goal.invariant_of-self
invariant_of-self c =
    let f = c.self.inside in
    let v = ap (λ g. g.now.terms) c.self.view_is in
    let w = ap (λ g. g.now.edges) c.self.view_is in
    kept-linked f.parents.items f.stamps.items f.edges.items f.marks.items _ c.self.invariant (record { a = c.args.a; b = c.args.b; label = c.args.label })
    (subst (λ k. c.args.a.0 < k) (sym v) c.requires.a) (subst (λ k. c.args.b.0 < k) (sym v) c.requires.b) (λ x. c.requires.apart (subst (λ es. Linked es c.args.a.0 c.args.b.0) w x))
    c.root_of-below.result.0 c.root_of-above.result.0 (c.len.result + 1) _ c.push_reserved.new.self.items
    (c.root_of-below.ensures.value ∙ ap (λ es. root es c.args.a.0) (sym w)) (c.root_of-above.ensures.value ∙ ap (λ es. root es c.args.b.0) (sym w)) (omega (arith, c.len.ensures, f.edges.ok.0))
    c.push_reserved.ensures.items c.push_reserved.ensures.capacity

pub returns-clause-marks : goal.returns-clause-marks
returns-clause-marks c =
    let f = c.self.inside in
    ap (λ es. map (state_at es) f.marks.items) c.push_reserved.ensures.items
    ∙ states-linked (length f.parents.items) f.edges.items (record { a = c.args.a; b = c.args.b; label = c.args.label }) f.marks.items c.self.invariant.marked ∙ ap (λ g. g.marks) c.self.view_is
