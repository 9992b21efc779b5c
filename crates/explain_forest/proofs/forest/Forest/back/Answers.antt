-- The oldest of the marks is there, and older ones stay as they were.
use Rattle.std.proofs.Common.{◌≡◌, ◌-◌, ◌≤◌, List, length, map, take, reverse, sym, subst, ap, ◌∙◌, arith}
use Rattle.std.proofs.lemmas.List.{length-map}
use Rattle.explain_forest.specs.Kept.{ArraysShow, state_at, EdgesAreApart}
use Rattle.explain_forest.specs.declared.types.Edge.{Edge}
use Rattle.explain_forest.proofs.Climbing.{length-stamps_shown}
use Rattle.explain_forest.proofs.Marks.{states-back}
use Rattle.explain_forest.proofs.Keeping.{found, lent, shows-lent, kept-mark, kept-back}
use Rattle.explain_forest.proofs.forest.Forest.back.Goals as goal

pub cut-requires-clause-floor : goal.cut-requires-clause-floor
cut-requires-clause-floor c =
    let f = c.self.inside in
    let m = c.in-Some.field-0.now in
    let there = found c.deref.result.now f.marks.items (c.len.result - c.args.marks) m c.deref.ensures.value c.in-Some.ensures.lookup.3.0 c.in-Some.ensures.lookup.1 in
    let is = (kept-mark f.parents.items f.stamps.items f.edges.items f.marks.items _ c.self.invariant m (c.len.result - c.args.marks) there).few_edges in
    omega (arith, is, f.edges.ok.0)

pub shrink-requires : goal.shrink-requires
shrink-requires c =
    let f = c.self.inside in
    let m = c.in-Some.field-0.now in
    let there = found c.deref.result.now f.marks.items (c.len.result - c.args.marks) m c.deref.ensures.value c.in-Some.ensures.lookup.3.0 c.in-Some.ensures.lookup.1 in
    let is = (kept-mark f.parents.items f.stamps.items f.edges.items f.marks.items _ c.self.invariant m (c.len.result - c.args.marks) there).few_terms in
    let terms = c.cut.ensures.terms ∙ ap length c.deref_mut.ensures.value in
    let whole = lent c.cut.new.parents f.parents.items f.parents.len (omega (arith, f.parents.ok.0)) terms in
    subst (λ ps. m.terms ≤ length ps) (sym whole) (omega (arith, is, terms))

pub invariant_of-self : goal.invariant_of-self
invariant_of-self c =
    let f = c.self.inside in
    let m = c.in-Some.field-0.now in
    let there = found c.deref.result.now f.marks.items (c.len.result - c.args.marks) m c.deref.ensures.value c.in-Some.ensures.lookup.3.0 c.in-Some.ensures.lookup.1 in
    let before = length-stamps_shown f.parents.items f.stamps.items f.edges.items c.self.invariant.shows in
    let after = length-stamps_shown c.cut.new.parents c.cut.new.stamps c.cut.new.edges.items c.cut.ensures.shows in
    let terms = c.cut.ensures.terms ∙ ap length c.deref_mut.ensures.value in
    let whole = lent c.cut.new.parents f.parents.items f.parents.len (omega (arith, f.parents.ok.0)) terms in
    let whole_stamps = lent c.cut.new.stamps f.stamps.items f.stamps.len (omega (arith, f.stamps.ok.0)) (omega (arith, before, after, terms)) in
    let fewer : (es : List Edge) → EdgesAreApart m.terms (reverse es) → ArraysShow c.cut.new.parents c.cut.new.stamps es → ArraysShow c.shrink.new.parents.items c.shrink.new.stamps.items es =
    λ es apart s. c.shrink.ensures.shows es apart (shows-lent _ _ _ _ es whole whole_stamps s) in
    kept-back f.parents.items f.stamps.items f.edges.items f.marks.items _ c.self.invariant m (c.len.result - c.args.marks) there c.cut.new.parents c.cut.new.stamps c.shrink.new.parents.items c.shrink.new.stamps.items
    c.cut.new.edges.items c.truncate.new.self.items _ c.cut.ensures.edges c.truncate.ensures.items c.cut.ensures.room c.cut.ensures.shows fewer c.shrink.ensures.terms

pub returns-in-Some-clause-marks : goal.returns-in-Some-clause-marks
returns-in-Some-clause-marks c =
    let f = c.self.inside in
    let m = c.in-Some.field-0.now in
    let there = found c.deref.result.now f.marks.items (c.len.result - c.args.marks) m c.deref.ensures.value c.in-Some.ensures.lookup.3.0 c.in-Some.ensures.lookup.1 in
    let v = ap (λ g. g.marks) c.self.view_is in
    let n : length c.args.self.now.marks ≡ length f.marks.items = sym (ap length v) ∙ length-map f.marks.items (state_at f.edges.items) in
    let at : c.len.result - c.args.marks ≡ length c.args.self.now.marks - c.args.marks = omega (arith, n, c.len.ensures, f.marks.ok.0) in
    (λ i. map (state_at (c.cut.ensures.edges i)) (c.truncate.ensures.items i)) ∙ states-back (length f.parents.items) f.edges.items m f.marks.items (c.len.result - c.args.marks) c.self.invariant.marked there.0 there.1
    ∙ ap (take (c.len.result - c.args.marks)) v ∙ ap (λ k. take k c.args.self.now.marks) at
