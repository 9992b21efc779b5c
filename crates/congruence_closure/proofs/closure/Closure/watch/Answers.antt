-- What was so at each mark is so still.
use Rattle.std.proofs.Common.{false, true≢false, sym, ap, ◌∙◌}
use Rattle.term_core.specs.Tables.{shape_of}
use Rattle.congruence_relation.specs.Relation.{Application}
use Rattle.congruence_closure.specs.Closure.{ClosureView}
use Rattle.congruence_closure.specs.State.{with_listed}
use Rattle.congruence_closure.proofs.Marks.{follows_changes, front_same, front_listed, marks_follow, saturated_still, whole_follows}
use Rattle.congruence_closure.proofs.closure.Closure.watch.Goals as goal

pub invariant_of-self : goal.invariant_of-self
invariant_of-self c =
    let f = follows_changes c.self.inside.parts c.watch.new.self c.self.inside.parts.now.facts (front_same c.self.inside.parts.now.facts) c.in_err-watch.ensures.err in
    whole_follows c.self.inside.parts c.watch.new.self f c.self.inside.saturated c.self.inside.saturated c.self.inside.marks.items c.self.invariant
    (λ e. saturated_still c.self.inside.parts c.watch.new.self c.in_err-watch.ensures.err (c.self.invariant.done e))

pub invariant_of-self-2 : goal.invariant_of-self-2
invariant_of-self-2 c =
    let x : Application = record { term = c.args.id; shape = shape_of c.args.node.now; takes_part = c.args.takes_part } in
    let f = follows_changes c.self.inside.parts c.watch.new.self (with_listed c.self.inside.parts.now.facts x) (front_listed c.self.inside.parts.now.facts x) c.in_ok-watch.ensures.ok in
    whole_follows c.self.inside.parts c.watch.new.self f c.self.inside.saturated false c.self.inside.marks.items c.self.invariant (λ e. absurd (true≢false (sym e)))

pub returns-clause-marks : goal.returns-clause-marks
returns-clause-marks c =
    let x : Application = record { term = c.args.id; shape = shape_of c.args.node.now; takes_part = c.args.takes_part } in
    let f = follows_changes c.self.inside.parts c.watch.new.self (with_listed c.self.inside.parts.now.facts x) (front_listed c.self.inside.parts.now.facts x) c.in_ok-watch.ensures.ok in
    marks_follow c.self.inside.parts c.watch.new.self f c.self.inside.saturated c.self.inside.marks.items c.self.invariant ∙ ap (λ (v : ClosureView). v.marks) c.self.view_is
