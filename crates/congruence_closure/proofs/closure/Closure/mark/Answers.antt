-- The mark has what there is now.
use Rattle.std.proofs.Common.{◌≡◌, ◌++◌, ◌∷◌, [], refl, sym, ap, ◌∙◌, subst}
use Rattle.congruence_closure.specs.declared.closure.ClosureMark.{ClosureMark}
use Rattle.congruence_closure.specs.State.{PartsState, extent_of}
use Rattle.congruence_closure.specs.Whole.{ClosureFits}
use Rattle.congruence_closure.proofs.Marks.{whole_marked}
use Rattle.congruence_closure.proofs.closure.Closure.mark.Goals as goal

pub invariant_of-self-2 : goal.invariant_of-self-2
invariant_of-self-2 c =
    let m : ClosureMark = record { extent = c.extent.result; pending = c.in_ok-pending.pending; saturated = c.self.inside.saturated } in
    let is : c.push_reserved.new.self.items ≡ c.self.inside.marks.items ++ record { extent = c.extent.result; pending = c.in_ok-pending.pending; saturated = c.self.inside.saturated } ∷ []
    = c.push_reserved.ensures.items ∙ ap (λ ms. ms ++ record { extent = c.extent.result; pending = c.in_ok-pending.pending; saturated = c.self.inside.saturated } ∷ []) c.in_ok-reserve.ensures.items in
    subst (ClosureFits c.mark.new.self c.self.inside.saturated) (sym is)
    (whole_marked c.self.inside.parts c.mark.new.self c.self.inside.saturated c.self.inside.marks.items (record { extent = c.extent.result; pending = c.in_ok-pending.pending; saturated = c.self.inside.saturated }) c.self.invariant
    c.are_kept.ensures.kept c.are_kept.ensures.terms c.in_ok-mark.ensures.ok (c.extent.ensures ∙ ap (λ (s : PartsState). extent_of s) c.in_ok-mark.ensures.ok.now) c.in_ok-pending.ensures refl)
