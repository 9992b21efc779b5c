-- That there is room for the literal and its level, and what is by its variable.
use Rattle.std.proofs.Common.{rules, arith, ◌≡◌, ◌∙◌, ◌<◌, ◌+◌, ◌++◌, ◌∷◌, [], None, Some, length, refl, ap, subst, sym}
use Rattle.std.proofs.lemmas.List.{length_push}
use Rattle.sat_trail.specs.Trails.{TrailView, IsUnassigned, IsPushed}
use Rattle.std.specs.Vec.{with_item}
use Rattle.sat_trail.specs.Kept.{trail_view}
use Rattle.sat_trail.specs.declared.trail.SatTrail.TheInside.{Inside}
use Rattle.sat_trail.proofs.Fields.{literal_fits, level_fits, is_pushed, kept_decided}
use Rattle.sat_trail.proofs.trail.SatTrail.decide.Goals as goal

pub push_reserved-requires : goal.push_reserved-requires
push_reserved-requires c =
    let h = c.self.inside in
    let known : c.args.lit.term.0 < length h.values.items = subst (λ (v : TrailView). c.args.lit.term.0 < v.vars) (sym c.self.view_is) c.requires.known in
    let none = subst (λ (v : TrailView). IsUnassigned v.literals c.args.lit) (sym c.self.view_is) c.requires.unassigned in
    omega (arith, level_fits h c.self.invariant c.args.lit known none, c.self.invariant.level_room, h.starts.ok.0)

pub push_reserved-requires-2 : goal.push_reserved-requires-2
push_reserved-requires-2 c =
    let h = c.self.inside in
    let known : c.args.lit.term.0 < length h.values.items = subst (λ (v : TrailView). c.args.lit.term.0 < v.vars) (sym c.self.view_is) c.requires.known in
    let none = subst (λ (v : TrailView). IsUnassigned v.literals c.args.lit) (sym c.self.view_is) c.requires.unassigned in
    omega (arith, literal_fits h c.self.invariant c.args.lit known none, c.self.invariant.literal_room, h.literals.ok.0)

pub invariant_of-self : goal.invariant_of-self
invariant_of-self c =
    let h = c.self.inside in
    let known : c.args.lit.term.0 < length h.values.items = subst (λ (v : TrailView). c.args.lit.term.0 < v.vars) (sym c.self.view_is) c.requires.known in
    let none = subst (λ (v : TrailView). IsUnassigned v.literals c.args.lit) (sym c.self.view_is) c.requires.unassigned in
    let place : c.len.result ≡ length h.literals.items = search rules in
    let starts = c.push_reserved.ensures.items ∙ ap (λ n. h.starts.items ++ n ∷ []) place in
    let level : c.len-2.result ≡ length h.starts.items + 1 = omega (arith, c.len-2.ensures, ap length c.push_reserved.ensures.items, length_push h.starts.items c.len.result) in
    kept_decided h c.self.invariant c.args.lit known none _ c.len-2.result None c.push_reserved-2.ensures.items refl refl refl refl refl starts level c.push_reserved-2.ensures.capacity c.push_reserved.ensures.capacity

pub returns : goal.returns
returns c =
    let h = c.self.inside in
    let known : c.args.lit.term.0 < length h.values.items = subst (λ (v : TrailView). c.args.lit.term.0 < v.vars) (sym c.self.view_is) c.requires.known in
    let none = subst (λ (v : TrailView). IsUnassigned v.literals c.args.lit) (sym c.self.view_is) c.requires.unassigned in
    let level : c.len-2.result ≡ length h.starts.items + 1 = omega (arith, c.len-2.ensures, ap length c.push_reserved.ensures.items, length_push h.starts.items c.len.result) in
    let count : length c.push_reserved.new.self.items ≡ c.len-2.result = omega (arith, c.len-2.ensures) in
    let u : Inside = record { literals = c.push_reserved-2.new.self; starts = c.push_reserved.new.self; values = with_item h.values c.args.lit.term.0 (Some c.args.lit.positive); levels = with_item h.levels c.args.lit.term.0 c.len-2.result; reasons = with_item h.reasons c.args.lit.term.0 None; propagated = h.propagated } in
    subst (λ (v : TrailView). IsPushed v c.args.lit None (v.level + 1) (trail_view u)) c.self.view_is
    (subst (λ n. IsPushed (trail_view h) c.args.lit None n (trail_view u)) level
    (is_pushed h c.self.invariant c.args.lit known none u c.len-2.result None c.push_reserved-2.ensures.items refl refl refl refl count))
