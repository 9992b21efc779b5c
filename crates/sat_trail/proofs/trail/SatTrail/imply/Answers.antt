-- That there is room for the literal, and what is by its variable.
use Rattle.std.proofs.Common.{rules, arith, ◌≡◌, ◌<◌, Some, length, refl, subst, sym}
use Rattle.sat_trail.specs.Trails.{TrailView, IsUnassigned, IsPushed}
use Rattle.std.specs.Vec.{with_item}
use Rattle.sat_trail.specs.Kept.{trail_view}
use Rattle.sat_trail.specs.declared.trail.SatTrail.TheInside.{Inside}
use Rattle.sat_trail.proofs.Fields.{literal_fits, is_pushed, kept_implied}
use Rattle.sat_trail.proofs.trail.SatTrail.imply.Goals as goal

pub push_reserved-requires : goal.push_reserved-requires
push_reserved-requires c =
    let h = c.self.inside in
    let known : c.args.lit.term.0 < length h.values.items = subst (λ (v : TrailView). c.args.lit.term.0 < v.vars) (sym c.self.view_is) c.requires.known in
    let none = subst (λ (v : TrailView). IsUnassigned v.literals c.args.lit) (sym c.self.view_is) c.requires.unassigned in
    omega (arith, literal_fits h c.self.invariant c.args.lit known none, c.self.invariant.literal_room, h.literals.ok.0)

pub invariant_of-self : goal.invariant_of-self
invariant_of-self c =
    let h = c.self.inside in
    let known : c.args.lit.term.0 < length h.values.items = subst (λ (v : TrailView). c.args.lit.term.0 < v.vars) (sym c.self.view_is) c.requires.known in
    let none = subst (λ (v : TrailView). IsUnassigned v.literals c.args.lit) (sym c.self.view_is) c.requires.unassigned in
    let level : c.len.result ≡ length h.starts.items = search rules in
    kept_implied h c.self.invariant c.args.lit known none _ c.len.result (Some c.args.reason) c.push_reserved.ensures.items refl refl refl refl c.args.reason refl refl level c.push_reserved.ensures.capacity refl

pub returns : goal.returns
returns c =
    let h = c.self.inside in
    let known : c.args.lit.term.0 < length h.values.items = subst (λ (v : TrailView). c.args.lit.term.0 < v.vars) (sym c.self.view_is) c.requires.known in
    let none = subst (λ (v : TrailView). IsUnassigned v.literals c.args.lit) (sym c.self.view_is) c.requires.unassigned in
    let level : length h.starts.items ≡ c.len.result = search rules in
    let u : Inside = record { literals = c.push_reserved.new.self; starts = h.starts; values = with_item h.values c.args.lit.term.0 (Some c.args.lit.positive); levels = with_item h.levels c.args.lit.term.0 c.len.result; reasons = with_item h.reasons c.args.lit.term.0 (Some c.args.reason); propagated = h.propagated } in
    subst (λ (v : TrailView). IsPushed v c.args.lit (Some c.args.reason) v.level (trail_view u)) c.self.view_is
    (subst (λ n. IsPushed (trail_view h) c.args.lit (Some c.args.reason) n (trail_view u)) (sym level)
    (is_pushed h c.self.invariant c.args.lit known none u c.len.result (Some c.args.reason) c.push_reserved.ensures.items refl refl refl refl level))
