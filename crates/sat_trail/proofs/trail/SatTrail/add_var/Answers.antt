-- That a variable more changes no literal, and has room for its own.
use Rattle.std.proofs.Common.{arith, ◌∙◌, ◌++◌, ◌∷◌, [], ap, None, refl, subst}
use Rattle.sat_trail.specs.Trails.{TrailView, HasSame}
use Rattle.sat_trail.specs.Kept.{trail_view}
use Rattle.sat_trail.specs.declared.trail.SatTrail.TheInside.{Inside}
use Rattle.sat_trail.proofs.Fields.{is_same, kept_grown}
use Rattle.sat_trail.proofs.trail.SatTrail.add_var.Goals as goal

pub invariant_of-self-2 : goal.invariant_of-self-2
invariant_of-self-2 c =
    let h = c.self.inside in
    kept_grown h c.self.invariant _ c.reserve.ensures.items c.reserve-2.ensures.items
    (c.push_reserved.ensures.items ∙ ap (λ xs. xs ++ 0 ∷ []) c.reserve-3.ensures.items)
    (c.push_reserved-2.ensures.items ∙ ap (λ xs. xs ++ None ∷ []) c.reserve-4.ensures.items)
    c.in_ok-push.ensures.items refl
    (omega (arith, c.in_ok-reserve.ensures.ok, c.reserve.ensures.len, c.saturating_sub.ensures, c.len-wanted.ensures, c.len.ensures, h.values.ok.0, h.literals.ok.0))
    (omega (arith, c.in_ok-reserve-2.ensures.ok, c.reserve-2.ensures.len, c.saturating_sub-2.ensures, c.len-wanted.ensures, c.len-2.ensures, h.values.ok.0, h.starts.ok.0))

pub returns-clause-same : goal.returns-clause-same
returns-clause-same c =
    let h = c.self.inside in
    let u : Inside = record { literals = c.reserve.new.self; starts = c.reserve-2.new.self; values = c.push.new.self; levels = c.push_reserved.new.self; reasons = c.push_reserved-2.new.self; propagated = h.propagated } in
    subst (λ (v : TrailView). HasSame v (trail_view u)) c.self.view_is
    (is_same h c.self.invariant u c.reserve.ensures.items c.reserve-2.ensures.items
    (c.push_reserved.ensures.items ∙ ap (λ xs. xs ++ 0 ∷ []) c.reserve-3.ensures.items)
    (c.push_reserved-2.ensures.items ∙ ap (λ xs. xs ++ None ∷ []) c.reserve-4.ensures.items)
    c.in_ok-push.ensures.items refl)
