-- Of the prefixes those are left that the trail still has.
use Rattle.std.proofs.Common.{arith, ◌≢◌, ◌<◌, ℕ, length, take, Contains, inl, inr, sym}
use Rattle.std.proofs.lemmas.Bool.{cases_lt}
use Rattle.std.proofs.lemmas.Bool.Decides.{nat_tests}
use Rattle.clause_store.specs.QuietPairs.{last_of}
use Rattle.clause_store.proofs.Adding.{advances_none}
use Rattle.clause_store.proofs.Atwork.{work_by}
use Rattle.clause_store.proofs.QuietPairs.{front_within, all_quiet_on}
use Rattle.clause_store.proofs.Working.{quiet_by_other, quiet_front, last_there}
use Rattle.clause_store.proofs.parts.StoreParts.begin.Goals as goal

pub returns-clause-work : goal.returns-clause-work
returns-clause-work c = work_by _ c.args.trail.now c.requires.kept.watched c.requires.kept.attached c.requires.known c.requires.seen (λ (r : ℕ) (i : Contains c.drop_longer.new.quiet_at.items r). omega (arith, c.drop_longer.ensures.within r i, c.propagated.ensures))
    (quiet_front c.drop_longer.new.quiet_at.items c.args.self.now.quiet_at.items _ _ _ _ c.drop_longer.ensures.front c.requires.kept.quiet_at)

pub returns-clause-advances : goal.returns-clause-advances
returns-clause-advances c = advances_none _ _

pub returns-clause-ends : goal.returns-clause-ends
returns-clause-ends c =
    let quiet_at = c.drop_longer.new.quiet_at.items in
    let filled : 0 ≢ length quiet_at = grind (arith, nat_tests, c.if-is_empty.ensures, c.drop_longer.new.quiet_at.ok.0) in
    let some : 0 < length quiet_at = elim (cases_lt 0 (length quiet_at)) [ inl lt ↦ lt | inr le ↦ absurd (filled (omega (arith, le))) ] in
    let h = quiet_by_other quiet_at c.args.self.now.attached c.args.self.now.watched.pairs.items (length c.args.self.now.seen.items) c.args.trail.now.propagated c.args.trail.now.propagated c.args.self.now.seen.items c.args.trail.now.literals
    (sym c.requires.seen.same) (omega arith) (λ (r : ℕ) (i : Contains quiet_at r). omega (arith, c.drop_longer.ensures.within r i, c.propagated.ensures))
    (quiet_front quiet_at c.args.self.now.quiet_at.items _ _ _ _ c.drop_longer.ensures.front c.requires.kept.quiet_at) in
    let last = last_there quiet_at some in
    all_quiet_on c.args.self.now.attached c.args.self.now.watched.pairs.items (take (last_of quiet_at) c.args.trail.now.literals) (take (last_of quiet_at) c.args.trail.now.literals) c.args.trail.now.literals
    (front_within (last_of quiet_at) c.args.trail.now.literals (omega (arith, h.within (last_of quiet_at) last, c.is_sound.ensures.propagated))) (h.were_quiet (last_of quiet_at) last)
