-- That the literals below the level's start are those up to the level.
use Rattle.std.proofs.Common.{rules, ◌≡◌, ◌∙◌, ◌<◌, length, get_or, take, refl, ap, subst}
use Rattle.std.specs.Prelude.{min}
use Rattle.std.proofs.lemmas.List.{get_or_default}
use Rattle.sat_trail.specs.Trails.{TrailView, IsCutTo}
use Rattle.sat_trail.specs.Kept.{trail_view}
use Rattle.sat_trail.specs.declared.trail.SatTrail.TheInside.{Inside}
use Rattle.sat_trail.proofs.Fields.{is_cut, kept_cut}
use Rattle.sat_trail.proofs.trail.SatTrail.back_to.Goals as goal

pub invariant_of-self : goal.invariant_of-self
invariant_of-self c =
    let h = c.self.inside in
    let lt : c.args.level < length h.starts.items = search rules in
    let at : c.index-len.result.now ≡ get_or h.starts.items c.args.level 0 = c.index-len.ensures ∙ get_or_default h.starts.items c.args.level _ 0 lt in
    kept_cut h c.self.invariant _ c.args.level lt (c.take_off.ensures.held ∙ ap (λ n. take n h.literals.items) at) c.truncate.ensures.items refl refl c.take_off.ensures.size (c.min-self-inside.ensures ∙ ap (min h.propagated) at) c.take_off.ensures.values c.take_off.ensures.capacity c.truncate.ensures.capacity

pub returns : goal.returns
returns c =
    let h = c.self.inside in
    let lt : c.args.level < length h.starts.items = search rules in
    let at : c.index-len.result.now ≡ get_or h.starts.items c.args.level 0 = c.index-len.ensures ∙ get_or_default h.starts.items c.args.level _ 0 lt in
    let u : Inside = record { literals = c.take_off.new.held; starts = c.truncate.new.self; values = c.take_off.new.values; levels = h.levels; reasons = h.reasons; propagated = c.min-self-inside.result } in
    subst (λ (v : TrailView). IsCutTo v c.args.level (trail_view u)) c.self.view_is
    (is_cut h c.self.invariant u c.args.level lt (c.take_off.ensures.held ∙ ap (λ n. take n h.literals.items) at) c.truncate.ensures.items refl refl c.take_off.ensures.size (c.min-self-inside.ensures ∙ ap (min h.propagated) at))
