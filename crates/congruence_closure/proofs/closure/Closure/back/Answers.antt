-- What was so at the mark is so again.
use Rattle.std.proofs.Common.{◌≡◌, ◌<◌, ◌≤◌, ◌+◌, ◌-◌, length, get_or, take, map, sym, ap, ◌∙◌, subst, arith}
use Rattle.std.proofs.lemmas.List.{length-map}
use Rattle.congruence_closure.specs.Closure.{ClosureView}
use Rattle.congruence_closure.specs.State.{PartsView}
use Rattle.congruence_closure.specs.Whole.{marked, ClosureFits}
use Rattle.congruence_closure.proofs.Marks.{found_mark, back_kept, whole_back, now_back, marks_back}
use Rattle.congruence_closure.proofs.closure.Closure.back.Goals as goal

pub back-requires-clause-kept : goal.back-requires-clause-kept
back-requires-clause-kept c =
    let size : c.len.result ≡ length c.self.inside.marks.items = omega (arith, c.self.inside.marks.ok.0) in
    let some : 0 < c.args.marks = omega arith in
    let few : c.args.marks ≤ length c.self.inside.marks.items = omega (arith, size, c.requires, ap (λ (v : ClosureView). length v.marks) c.self.view_is, length-map c.self.inside.marks.items (marked c.self.inside.parts.now.facts)) in
    let is = found_mark c.self.inside.marks.items c.truncate.new.self.items c.pop.new.self.items c.args.marks c.in-Some.mark some few (c.truncate.ensures.items ∙ ap (λ k. take (k - c.args.marks + 1) c.self.inside.marks.items) size) c.in-Some.ensures.items in
    back_kept c.self.inside.parts c.self.inside.saturated c.self.inside.marks.items c.args.marks c.in-Some.mark c.self.invariant some few is.0

pub invariant_of-self : goal.invariant_of-self
invariant_of-self c =
    let size : c.len.result ≡ length c.self.inside.marks.items = omega (arith, c.self.inside.marks.ok.0) in
    let some : 0 < c.args.marks = omega arith in
    let few : c.args.marks ≤ length c.self.inside.marks.items = omega (arith, size, c.requires, ap (λ (v : ClosureView). length v.marks) c.self.view_is, length-map c.self.inside.marks.items (marked c.self.inside.parts.now.facts)) in
    let is = found_mark c.self.inside.marks.items c.truncate.new.self.items c.pop.new.self.items c.args.marks c.in-Some.mark some few (c.truncate.ensures.items ∙ ap (λ k. take (k - c.args.marks + 1) c.self.inside.marks.items) size) c.in-Some.ensures.items in
    subst (λ (p : PartsView). ClosureFits p c.in-Some.mark.saturated c.pop.new.self.items) (sym c.back.ensures)
    (subst (ClosureFits _ c.in-Some.mark.saturated) (sym is.1)
    (whole_back c.self.inside.parts c.self.inside.saturated c.self.inside.marks.items c.args.marks c.in-Some.mark c.self.invariant some few is.0))

pub returns-in-Some-clause-now : goal.returns-in-Some-clause-now
returns-in-Some-clause-now c =
    let size : c.len.result ≡ length c.self.inside.marks.items = omega (arith, c.self.inside.marks.ok.0) in
    let some : 0 < c.args.marks = omega arith in
    let few : c.args.marks ≤ length c.self.inside.marks.items = omega (arith, size, c.requires, ap (λ (v : ClosureView). length v.marks) c.self.view_is, length-map c.self.inside.marks.items (marked c.self.inside.parts.now.facts)) in
    let is = found_mark c.self.inside.marks.items c.truncate.new.self.items c.pop.new.self.items c.args.marks c.in-Some.mark some few (c.truncate.ensures.items ∙ ap (λ k. take (k - c.args.marks + 1) c.self.inside.marks.items) size) c.in-Some.ensures.items in
    ap (λ (p : PartsView). record { facts = p.now.facts; saturated = c.in-Some.mark.saturated }) c.back.ensures
    ∙ now_back c.self.inside.parts c.self.inside.saturated c.self.inside.marks.items c.args.marks c.in-Some.mark c.self.invariant some few is.0 c.args.self.now.now
    ∙ ap (λ (v : ClosureView). get_or v.marks (length v.marks - c.args.marks) c.args.self.now.now) c.self.view_is

pub returns-in-Some-clause-marks : goal.returns-in-Some-clause-marks
returns-in-Some-clause-marks c =
    let size : c.len.result ≡ length c.self.inside.marks.items = omega (arith, c.self.inside.marks.ok.0) in
    let some : 0 < c.args.marks = omega arith in
    let few : c.args.marks ≤ length c.self.inside.marks.items = omega (arith, size, c.requires, ap (λ (v : ClosureView). length v.marks) c.self.view_is, length-map c.self.inside.marks.items (marked c.self.inside.parts.now.facts)) in
    let is = found_mark c.self.inside.marks.items c.truncate.new.self.items c.pop.new.self.items c.args.marks c.in-Some.mark some few (c.truncate.ensures.items ∙ ap (λ k. take (k - c.args.marks + 1) c.self.inside.marks.items) size) c.in-Some.ensures.items in
    (λ i. map (marked (c.back.ensures i).now.facts) (is.1 i))
    ∙ marks_back c.self.inside.parts c.self.inside.saturated c.self.inside.marks.items c.args.marks c.in-Some.mark c.self.invariant some few is.0
    ∙ ap (λ (v : ClosureView). take (length v.marks - c.args.marks) v.marks) c.self.view_is
