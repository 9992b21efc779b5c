-- What a first look at a clause comes to.
use Rattle.std.proofs.Common.{arith, ◌+◌, List, [], length, get_or, refl, sym, ap, subst}
use Rattle.std.proofs.lemmas.List.{length-append}
use Rattle.clause_literals.specs.Statuses.{IsFalsified}
use Rattle.clause_store.specs.declared.entry.StoredClause.{StoredClause}
use Rattle.clause_store.specs.declared.parts.StoreParts.{StoreParts}
use Rattle.clause_store.specs.Entries.{clauses_of}
use Rattle.clause_store.specs.Watching.{AnyPrefix, NoPrefix, Below}
use Rattle.clause_store.specs.QuietPairs.{AreAttached, IsAtWork, WorksOn}
use Rattle.clause_store.proofs.Atwork.{looked, attached_now, work_goes, work_one, works_goes, works_one}
use Rattle.clause_store.proofs.Stored.{clause_count}
use Rattle.clause_store.proofs.Working.{front_all, front_none, none_there, attached_one, attached_two}
use Rattle.clause_store.proofs.parts.StoreParts.attach_next.Goals as goal
use Rattle.clause_store.proofs.parts.StoreParts.attach_next.Goals.{in-Open, in-Forced, in-Single+in_ok-push-in-Single}

pub returns-in_err-attach-clause-work : goal.returns-in_err-attach-clause-work
returns-in_err-attach-clause-work c = work_goes c.args.self.now _ c.args.trail.now c.attach.new.trail c.is_sound.ensures.propagated c.attach.ensures.watched c.attach.ensures.entries refl c.attach.ensures.goes c.requires.work refl refl refl

pub returns-in_err-attach-clause-goes : goal.returns-in_err-attach-clause-goes
returns-in_err-attach-clause-goes c = works_goes c.args.self.now _ c.args.trail.now c.attach.new.trail c.is_sound.ensures.propagated c.attach.ensures.watched c.attach.ensures.entries refl c.attach.ensures.goes c.requires.work refl

pub returns-in-Clash-clause-work : goal.returns-in-Clash-clause-work
returns-in-Clash-clause-work c = work_goes c.args.self.now _ c.args.trail.now c.attach.new.trail c.is_sound.ensures.propagated c.attach.ensures.watched c.attach.ensures.entries refl c.attach.ensures.goes c.requires.work refl refl refl

pub returns-in-Clash-clause-goes : goal.returns-in-Clash-clause-goes
returns-in-Clash-clause-goes c = works_goes c.args.self.now _ c.args.trail.now c.attach.new.trail c.is_sound.ensures.propagated c.attach.ensures.watched c.attach.ensures.entries refl c.attach.ensures.goes c.requires.work refl

pub returns-in_err-push-in-Single-clause-work : goal.returns-in_err-push-in-Single-clause-work
returns-in_err-push-in-Single-clause-work c = work_goes c.args.self.now _ c.args.trail.now c.attach.new.trail c.is_sound.ensures.propagated c.attach.ensures.watched c.attach.ensures.entries refl c.attach.ensures.goes c.requires.work refl c.in_err-push-in-Single.ensures.items refl

pub returns-in_err-push-in-Single-clause-goes : goal.returns-in_err-push-in-Single-clause-goes
returns-in_err-push-in-Single-clause-goes c = works_goes c.args.self.now _ c.args.trail.now c.attach.new.trail c.is_sound.ensures.propagated c.attach.ensures.watched c.attach.ensures.entries refl c.attach.ensures.goes c.requires.work refl

pub returns-in-Clash-clause-ends : goal.returns-in-Clash-clause-ends
returns-in-Clash-clause-ends c = (
  refl,
  record {
    there = omega (arith, c.requires.there, clause_count c.attach.new.self.entries.items, ap length c.attach.ensures.entries);
    fails = subst (λ (es : List StoredClause). IsFalsified c.attach.new.trail.literals (get_or (clauses_of es) c.args.self.now.attached [])) (sym c.attach.ensures.entries) (rw c.in-Clash.is at c.in_ok-attach.ensures.fresh);
  },
)

pub drop_levels-requires-clause-within : goal.drop_levels-requires-clause-within
drop_levels-requires-clause-within c r i =
    let a = c.attach.ensures.goes.advances.0 in
    omega (arith, c.requires.work.quiet_at.within r i, c.is_sound.ensures.propagated, ap length a.literals, length-append c.args.trail.now.literals a.more)

pub returns-clause-work : goal.returns-clause-work
returns-clause-work c = elim c.match-branch-2.branch [
  | in-Open w ↦
      let fresh = rw w.in-Open.is at c.in_ok-attach.ensures.fresh in
      subst (λ (p : StoreParts). IsAtWork (looked p (c.args.self.now.attached + 1)) c.attach.new.trail) (sym w.self-is)
      (work_one c.args.self.now _ c.args.trail.now c.attach.new.trail c.is_sound.ensures.propagated c.attach.ensures.watched c.attach.ensures.entries refl c.attach.ensures.goes c.requires.work AnyPrefix refl
      (attached_two (clauses_of c.args.self.now.watched.entries.items) c.args.self.now.attached c.args.self.now.short.items c.attach.new.self.pairs.items (omega (arith, c.requires.there, clause_count c.args.self.now.watched.entries.items)) fresh.1.there (attached_now c.args.self.now (looked (record { watched = c.attach.new.self; attached = c.args.self.now.attached; short = c.args.self.now.short; seen = c.args.self.now.seen; quiet_at = c.args.self.now.quiet_at }) 0) c.args.trail.now c.attach.new.trail c.is_sound.ensures.propagated c.attach.ensures.watched c.attach.ensures.entries refl c.attach.ensures.goes c.requires.work) fresh.0)
      fresh.1 (front_all c.args.self.now.quiet_at.items) (λ r i. tt))
  | in-Forced w ↦
      let fresh = rw w.in-Forced.is at c.in_ok-attach.ensures.fresh in
      subst (λ (p : StoreParts). IsAtWork (looked p (c.args.self.now.attached + 1)) c.attach.new.trail) (sym w.self-is)
      (work_one c.args.self.now _ c.args.trail.now c.attach.new.trail c.is_sound.ensures.propagated c.attach.ensures.watched c.attach.ensures.entries refl c.attach.ensures.goes c.requires.work (Below c.attach.new.trail w.in-Forced.level) refl
      (attached_two (clauses_of c.args.self.now.watched.entries.items) c.args.self.now.attached c.args.self.now.short.items c.attach.new.self.pairs.items (omega (arith, c.requires.there, clause_count c.args.self.now.watched.entries.items)) fresh.1.there (attached_now c.args.self.now (looked (record { watched = c.attach.new.self; attached = c.args.self.now.attached; short = c.args.self.now.short; seen = c.args.self.now.seen; quiet_at = c.args.self.now.quiet_at }) 0) c.args.trail.now c.attach.new.trail c.is_sound.ensures.propagated c.attach.ensures.watched c.attach.ensures.entries refl c.attach.ensures.goes c.requires.work) fresh.0)
      fresh.1 w.drop_levels.ensures.front w.drop_levels.ensures.below)
  | in-Single+in_ok-push-in-Single w ↦
      let fresh = rw w.in-Single.is at c.in_ok-attach.ensures.fresh in
      subst (λ (p : StoreParts). IsAtWork (looked p (c.args.self.now.attached + 1)) c.attach.new.trail) (sym w.self-is)
      (work_one c.args.self.now _ c.args.trail.now c.attach.new.trail c.is_sound.ensures.propagated c.attach.ensures.watched c.attach.ensures.entries refl c.attach.ensures.goes c.requires.work NoPrefix refl
      (subst (AreAttached (clauses_of c.args.self.now.watched.entries.items) c.attach.new.self.pairs.items (c.args.self.now.attached + 1)) (sym w.in_ok-push-in-Single.ensures.items) (attached_one (clauses_of c.args.self.now.watched.entries.items) c.args.self.now.attached c.args.self.now.short.items c.attach.new.self.pairs.items (omega (arith, c.requires.there, clause_count c.args.self.now.watched.entries.items)) fresh.1.there (attached_now c.args.self.now (looked (record { watched = c.attach.new.self; attached = c.args.self.now.attached; short = c.args.self.now.short; seen = c.args.self.now.seen; quiet_at = c.args.self.now.quiet_at }) 0) c.args.trail.now c.attach.new.trail c.is_sound.ensures.propagated c.attach.ensures.watched c.attach.ensures.entries refl c.attach.ensures.goes c.requires.work) fresh.0))
      fresh.1 (front_none w.clear.new.self.items c.args.self.now.quiet_at.items w.clear.ensures.items) (none_there w.clear.new.self.items w.clear.ensures.items))
]

pub returns-clause-goes : goal.returns-clause-goes
returns-clause-goes c = elim c.match-branch-2.branch [
  | in-Open w ↦
      let fresh = rw w.in-Open.is at c.in_ok-attach.ensures.fresh in
      subst (λ (p : StoreParts). WorksOn c.args.self.now (looked p (c.args.self.now.attached + 1)) c.args.trail.now c.attach.new.trail) (sym w.self-is)
      (works_one c.args.self.now _ c.args.trail.now c.attach.new.trail c.is_sound.ensures.propagated c.attach.ensures.watched c.attach.ensures.entries refl c.attach.ensures.goes c.requires.work AnyPrefix refl
      (attached_two (clauses_of c.args.self.now.watched.entries.items) c.args.self.now.attached c.args.self.now.short.items c.attach.new.self.pairs.items (omega (arith, c.requires.there, clause_count c.args.self.now.watched.entries.items)) fresh.1.there (attached_now c.args.self.now (looked (record { watched = c.attach.new.self; attached = c.args.self.now.attached; short = c.args.self.now.short; seen = c.args.self.now.seen; quiet_at = c.args.self.now.quiet_at }) 0) c.args.trail.now c.attach.new.trail c.is_sound.ensures.propagated c.attach.ensures.watched c.attach.ensures.entries refl c.attach.ensures.goes c.requires.work) fresh.0)
      fresh.1 (front_all c.args.self.now.quiet_at.items) (λ r i. tt))
  | in-Forced w ↦
      let fresh = rw w.in-Forced.is at c.in_ok-attach.ensures.fresh in
      subst (λ (p : StoreParts). WorksOn c.args.self.now (looked p (c.args.self.now.attached + 1)) c.args.trail.now c.attach.new.trail) (sym w.self-is)
      (works_one c.args.self.now _ c.args.trail.now c.attach.new.trail c.is_sound.ensures.propagated c.attach.ensures.watched c.attach.ensures.entries refl c.attach.ensures.goes c.requires.work (Below c.attach.new.trail w.in-Forced.level) refl
      (attached_two (clauses_of c.args.self.now.watched.entries.items) c.args.self.now.attached c.args.self.now.short.items c.attach.new.self.pairs.items (omega (arith, c.requires.there, clause_count c.args.self.now.watched.entries.items)) fresh.1.there (attached_now c.args.self.now (looked (record { watched = c.attach.new.self; attached = c.args.self.now.attached; short = c.args.self.now.short; seen = c.args.self.now.seen; quiet_at = c.args.self.now.quiet_at }) 0) c.args.trail.now c.attach.new.trail c.is_sound.ensures.propagated c.attach.ensures.watched c.attach.ensures.entries refl c.attach.ensures.goes c.requires.work) fresh.0)
      fresh.1 w.drop_levels.ensures.front w.drop_levels.ensures.below)
  | in-Single+in_ok-push-in-Single w ↦
      let fresh = rw w.in-Single.is at c.in_ok-attach.ensures.fresh in
      subst (λ (p : StoreParts). WorksOn c.args.self.now (looked p (c.args.self.now.attached + 1)) c.args.trail.now c.attach.new.trail) (sym w.self-is)
      (works_one c.args.self.now _ c.args.trail.now c.attach.new.trail c.is_sound.ensures.propagated c.attach.ensures.watched c.attach.ensures.entries refl c.attach.ensures.goes c.requires.work NoPrefix refl
      (subst (AreAttached (clauses_of c.args.self.now.watched.entries.items) c.attach.new.self.pairs.items (c.args.self.now.attached + 1)) (sym w.in_ok-push-in-Single.ensures.items) (attached_one (clauses_of c.args.self.now.watched.entries.items) c.args.self.now.attached c.args.self.now.short.items c.attach.new.self.pairs.items (omega (arith, c.requires.there, clause_count c.args.self.now.watched.entries.items)) fresh.1.there (attached_now c.args.self.now (looked (record { watched = c.attach.new.self; attached = c.args.self.now.attached; short = c.args.self.now.short; seen = c.args.self.now.seen; quiet_at = c.args.self.now.quiet_at }) 0) c.args.trail.now c.attach.new.trail c.is_sound.ensures.propagated c.attach.ensures.watched c.attach.ensures.entries refl c.attach.ensures.goes c.requires.work) fresh.0))
      fresh.1 (front_none w.clear.new.self.items c.args.self.now.quiet_at.items w.clear.ensures.items) (none_there w.clear.new.self.items w.clear.ensures.items))
]
