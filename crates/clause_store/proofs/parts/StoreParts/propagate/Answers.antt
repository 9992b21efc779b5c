-- One part of propagation after the other.
use Rattle.std.proofs.Common.{arith, ◌≡◌, ◌≢◌, ◌-◌, ◌<◌, ◌≤◌, ◌∙◌, ℕ, List, length, take, inl, inr, ap, subst, sym}
use Rattle.std.proofs.lemmas.Bool.{cases_lt}
use Rattle.std.proofs.lemmas.Bool.Decides.{nat_tests}
use Rattle.std.proofs.lemmas.List.{length-append}
use Rattle.clause_store.specs.declared.entry.StoredClause.{StoredClause}
use Rattle.clause_store.specs.declared.watched.Watched.{Watched}
use Rattle.clause_store.specs.Entries.{clauses_of, bare}
use Rattle.clause_store.specs.Propagating.{IsPropagated}
use Rattle.clause_store.specs.Watching.{AreQuietPairs}
use Rattle.clause_store.specs.QuietPairs.{last_of}
use Rattle.clause_store.proofs.Atwork.{adds_after, adds_marked, kept_by, quiet_by, quiet_still, works_on}
use Rattle.clause_store.proofs.Working.{last_none, last_read, last_within}
use Rattle.clause_store.proofs.parts.StoreParts.propagate.Goals as goal
use Rattle.clause_store.proofs.parts.StoreParts.propagate.Goals.{then-is_empty, else-is_empty}

pub returns-in-Some-clause-kept : goal.returns-in-Some-clause-kept
returns-in-Some-clause-kept c = kept_by c.begin.new.self c.begin.new.trail c.begin.ensures.work

pub returns-in_err-n-clause-kept : goal.returns-in_err-n-clause-kept
returns-in_err-n-clause-kept c = kept_by c.attach_all.new.self c.attach_all.new.trail c.attach_all.ensures.work

pub returns-in_err-n-clause-adds : goal.returns-in_err-n-clause-adds
returns-in_err-n-clause-adds c = adds_after c.args.self.now c.begin.new.self c.attach_all.new.self c.args.trail.now c.begin.new.trail c.attach_all.new.trail c.begin.ensures.watched c.begin.ensures.advances c.attach_all.ensures.goes

pub returns-in-Some-2-clause-kept : goal.returns-in-Some-2-clause-kept
returns-in-Some-2-clause-kept c = kept_by c.attach_all.new.self c.attach_all.new.trail c.attach_all.ensures.work

pub returns-in-Some-2-clause-adds : goal.returns-in-Some-2-clause-adds
returns-in-Some-2-clause-adds c = adds_after c.args.self.now c.begin.new.self c.attach_all.new.self c.args.trail.now c.begin.new.trail c.attach_all.new.trail c.begin.ensures.watched c.begin.ensures.advances c.attach_all.ensures.goes

pub walk_from-requires-clause-from : goal.walk_from-requires-clause-from
walk_from-requires-clause-from c =
    let quiet_at = c.begin.new.self.quiet_at.items in
    let from : c.if-is_empty.from ≡ last_of quiet_at = elim c.if-is_empty.branch [
      | then-is_empty w ↦ w.from-is ∙ sym (last_none quiet_at (grind (arith, nat_tests, w.if-is_empty.ensures, c.begin.new.self.quiet_at.ok.0)))
      | else-is_empty w ↦
          let filled : 0 ≢ length quiet_at = grind (arith, nat_tests, w.if-is_empty.ensures, c.begin.new.self.quiet_at.ok.0) in
          let some : 0 < length quiet_at = elim (cases_lt 0 (length quiet_at)) [ inl lt ↦ lt | inr le ↦ absurd (filled (omega (arith, le))) ] in
          w.from-is ∙ last_read quiet_at (w.len.result - 1) w.index.result.now (omega (arith, w.len.ensures, c.begin.new.self.quiet_at.ok.0)) some w.index.ensures
    ] in
    let within : last_of quiet_at ≤ length c.begin.new.trail.literals = omega (arith, last_within quiet_at c.begin.new.trail.propagated c.begin.ensures.work.quiet_at.within, c.is_sound.ensures.propagated) in
    let a = c.attach_all.ensures.goes.advances.0 in
    omega (arith, from, within, ap length a.literals, length-append c.begin.new.trail.literals a.more)

pub walk_from-requires-clause-were_quiet : goal.walk_from-requires-clause-were_quiet
walk_from-requires-clause-were_quiet c =
    let quiet_at = c.begin.new.self.quiet_at.items in
    let from : c.if-is_empty.from ≡ last_of quiet_at = elim c.if-is_empty.branch [
      | then-is_empty w ↦ w.from-is ∙ sym (last_none quiet_at (grind (arith, nat_tests, w.if-is_empty.ensures, c.begin.new.self.quiet_at.ok.0)))
      | else-is_empty w ↦
          let filled : 0 ≢ length quiet_at = grind (arith, nat_tests, w.if-is_empty.ensures, c.begin.new.self.quiet_at.ok.0) in
          let some : 0 < length quiet_at = elim (cases_lt 0 (length quiet_at)) [ inl lt ↦ lt | inr le ↦ absurd (filled (omega (arith, le))) ] in
          w.from-is ∙ last_read quiet_at (w.len.result - 1) w.index.result.now (omega (arith, w.len.ensures, c.begin.new.self.quiet_at.ok.0)) some w.index.ensures
    ] in
    let within : last_of quiet_at ≤ length c.begin.new.trail.literals = omega (arith, last_within quiet_at c.begin.new.trail.propagated c.begin.ensures.work.quiet_at.within, c.is_sound.ensures.propagated) in
    subst (λ (n : ℕ). AreQuietPairs c.attach_all.new.self.attached c.attach_all.new.self.watched.pairs.items (take n c.attach_all.new.trail.literals) c.attach_all.new.trail.literals) (sym from)
    (quiet_still c.begin.new.self c.attach_all.new.self c.begin.new.trail c.attach_all.new.trail (last_of quiet_at) within c.attach_all.ensures.goes c.in_default.ensures.ends)

pub returns-in_err-n-2-clause-kept : goal.returns-in_err-n-2-clause-kept
returns-in_err-n-2-clause-kept c = kept_by c.walk_from.new.self c.walk_from.new.trail c.walk_from.ensures.work

pub returns-in_err-n-2-clause-adds : goal.returns-in_err-n-2-clause-adds
returns-in_err-n-2-clause-adds c = adds_after c.args.self.now c.begin.new.self c.walk_from.new.self c.args.trail.now c.begin.new.trail c.walk_from.new.trail c.begin.ensures.watched c.begin.ensures.advances
    (works_on c.begin.new.self c.attach_all.new.self c.walk_from.new.self c.begin.new.trail c.attach_all.new.trail c.walk_from.new.trail c.attach_all.ensures.goes c.walk_from.ensures.goes)

pub returns-in-Some-3-clause-kept : goal.returns-in-Some-3-clause-kept
returns-in-Some-3-clause-kept c = kept_by c.walk_from.new.self c.walk_from.new.trail c.walk_from.ensures.work

pub returns-in-Some-3-clause-adds : goal.returns-in-Some-3-clause-adds
returns-in-Some-3-clause-adds c = adds_after c.args.self.now c.begin.new.self c.walk_from.new.self c.args.trail.now c.begin.new.trail c.walk_from.new.trail c.begin.ensures.watched c.begin.ensures.advances
    (works_on c.begin.new.self c.attach_all.new.self c.walk_from.new.self c.begin.new.trail c.attach_all.new.trail c.walk_from.new.trail c.attach_all.ensures.goes c.walk_from.ensures.goes)

pub returns-in_err-finish-clause-adds : goal.returns-in_err-finish-clause-adds
returns-in_err-finish-clause-adds c = adds_marked (bare c.args.self.now.watched.entries.items) c.args.trail.now c.walk_from.new.trail c.finish.new.trail
    (adds_after c.args.self.now c.begin.new.self c.walk_from.new.self c.args.trail.now c.begin.new.trail c.walk_from.new.trail c.begin.ensures.watched c.begin.ensures.advances
    (works_on c.begin.new.self c.attach_all.new.self c.walk_from.new.self c.begin.new.trail c.attach_all.new.trail c.walk_from.new.trail c.attach_all.ensures.goes c.walk_from.ensures.goes)) c.finish.ensures.same

pub returns-clause-adds : goal.returns-clause-adds
returns-clause-adds c = adds_marked (bare c.args.self.now.watched.entries.items) c.args.trail.now c.walk_from.new.trail c.finish.new.trail
    (adds_after c.args.self.now c.begin.new.self c.walk_from.new.self c.args.trail.now c.begin.new.trail c.walk_from.new.trail c.begin.ensures.watched c.begin.ensures.advances
    (works_on c.begin.new.self c.attach_all.new.self c.walk_from.new.self c.begin.new.trail c.attach_all.new.trail c.walk_from.new.trail c.attach_all.ensures.goes c.walk_from.ensures.goes)) c.finish.ensures.same

pub returns-clause-ends : goal.returns-clause-ends
returns-clause-ends c =
    let es : c.walk_from.new.self.watched.entries.items ≡ c.args.self.now.watched.entries.items = c.walk_from.ensures.goes.entries ∙ c.attach_all.ensures.goes.entries ∙ ap (λ (w : Watched). w.entries.items) c.begin.ensures.watched in
    subst (λ (xs : List StoredClause). IsPropagated (clauses_of xs) c.finish.new.trail.literals) es
    (subst (IsPropagated (clauses_of c.walk_from.new.self.watched.entries.items)) (sym c.finish.ensures.same.same.literals)
    (quiet_by c.walk_from.new.self c.walk_from.new.trail c.walk_from.ensures.work c.walk_from.ensures.all (rw c.in_default-3.is at c.in_ok-n-2.ensures.ends)))
