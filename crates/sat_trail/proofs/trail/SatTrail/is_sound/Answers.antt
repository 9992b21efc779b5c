-- What the invariant says to callers.
use Rattle.std.proofs.Common.{◌<◌, ◌≤◌, length, All, subst}
use Rattle.std.proofs.lemmas.List.Elements.{Contains-get_or}
use Rattle.term_core.specs.declared.ids.Lit.{Lit}
use Rattle.clause_literals.specs.Literals.{IsConsistent}
use Rattle.sat_trail.specs.Trails.{TrailView, IsLeveled}
use Rattle.sat_trail.proofs.ValueLaws.{term_below, bounded, consistent_by}
use Rattle.sat_trail.proofs.Fields.{is_leveled}
use Rattle.sat_trail.proofs.trail.SatTrail.is_sound.Goals as goal

pub returns-clause-known : goal.returns-clause-known
returns-clause-known c =
    let h = c.self.inside in
    subst (λ (v : TrailView). All (λ (l : Lit). l.term.0 < v.vars) v.literals) c.self.view_is (λ k d lt. term_below h.literals.items h.values.items c.self.invariant.values_by _ (Contains-get_or h.literals.items k d lt))

pub returns-clause-consistent : goal.returns-clause-consistent
returns-clause-consistent c = subst (λ (v : TrailView). IsConsistent v.literals) c.self.view_is (consistent_by c.self.inside.literals.items c.self.inside.values.items c.self.invariant.values_by)

pub returns-clause-within : goal.returns-clause-within
returns-clause-within c = subst (λ (v : TrailView). length v.literals ≤ v.vars) c.self.view_is (bounded c.self.inside.literals.items c.self.inside.values.items c.self.invariant.values_by)

pub returns-clause-leveled : goal.returns-clause-leveled
returns-clause-leveled c = subst IsLeveled c.self.view_is (is_leveled c.self.inside c.self.invariant)
