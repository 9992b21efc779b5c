-- What was so at each mark is so still.
use Rattle.std.proofs.Common.{false, true≢false, sym, ap, ◌∙◌}
use Rattle.congruence_closure.specs.Closure.{ClosureView}
use Rattle.congruence_closure.specs.State.{with_held}
use Rattle.congruence_closure.proofs.Marks.{follows_changes, front_held, marks_follow, whole_follows}
use Rattle.congruence_closure.proofs.closure.Closure.hold.Goals as goal

pub invariant_of-self : goal.invariant_of-self
invariant_of-self c =
    let f = follows_changes c.self.inside.parts c.hold.new.self (with_held c.self.inside.parts.now.facts c.args.lit) (front_held c.self.inside.parts.now.facts c.args.lit) c.hold.ensures in
    whole_follows c.self.inside.parts c.hold.new.self f c.self.inside.saturated false c.self.inside.marks.items c.self.invariant (λ e. absurd (true≢false (sym e)))

pub returns-clause-marks : goal.returns-clause-marks
returns-clause-marks c =
    let f = follows_changes c.self.inside.parts c.hold.new.self (with_held c.self.inside.parts.now.facts c.args.lit) (front_held c.self.inside.parts.now.facts c.args.lit) c.hold.ensures in
    marks_follow c.self.inside.parts c.hold.new.self f c.self.inside.saturated c.self.inside.marks.items c.self.invariant ∙ ap (λ (v : ClosureView). v.marks) c.self.view_is
