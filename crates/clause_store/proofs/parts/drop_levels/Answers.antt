-- Levels rise along the trail.
use Rattle.std.proofs.Common.{arith, ◌≡◌, ◌<◌, ◌≤◌, ◌-◌, ◌∙◌, length, get_or, ap}
use Rattle.std.proofs.lemmas.List.{get_or_default}
use Rattle.clause_store.specs.QuietPairs.{last_of}
use Rattle.clause_store.proofs.Working.{front_had, front_rising, last_there, below_last}
use Rattle.clause_store.proofs.parts.drop_levels.Goals as goal
use Rattle.clause_store.proofs.parts.drop_levels.Goals.{then-last-eq0-via-then-last-eq0, then-last-eq0-via-else-last-eq0+then-level_of-level}

pub level_of-requires : goal.level_of-requires
level_of-requires c =
    let quiet_at = c.prefixes.quiet_at.items in
    let some : 0 < length quiet_at = omega (arith, c.prefixes-test.true, c.len.ensures, c.prefixes.quiet_at.ok.0) in
    let place : c.len-in-prefixes.result - 1 ≡ length quiet_at - 1 = omega (arith, c.len-in-prefixes.ensures, c.prefixes.quiet_at.ok.0) in
    let is : c.index-last.result.now ≡ last_of quiet_at = c.index-last.ensures ∙ ap (λ k. get_or quiet_at k c.index-last.result.now) place ∙ get_or_default quiet_at (length quiet_at - 1) c.index-last.result.now 0 (omega (arith, some)) in
    let most : last_of quiet_at ≤ length c.args.trail.now.literals = c.requires.within (last_of quiet_at) (front_had quiet_at c.args.quiet_at.now.items c.prefixes.invariant (last_of quiet_at) (last_there quiet_at some)) in
    omega (arith, most, is, c.if-last-eq0.false)

pub returns-then-last-eq0-clause-below : goal.returns-then-last-eq0-clause-below
returns-then-last-eq0-clause-below c =
    let quiet_at = c.prefixes.quiet_at.items in
    let some : 0 < length quiet_at = omega (arith, c.prefixes-test.true, c.len.ensures, c.prefixes.quiet_at.ok.0) in
    let place : c.len-in-prefixes.result - 1 ≡ length quiet_at - 1 = omega (arith, c.len-in-prefixes.ensures, c.prefixes.quiet_at.ok.0) in
    let is : c.index-last.result.now ≡ last_of quiet_at = c.index-last.ensures ∙ ap (λ k. get_or quiet_at k c.index-last.result.now) place ∙ get_or_default quiet_at (length quiet_at - 1) c.index-last.result.now 0 (omega (arith, some)) in
    let most : last_of quiet_at ≤ length c.args.trail.now.literals = c.requires.within (last_of quiet_at) (front_had quiet_at c.args.quiet_at.now.items c.prefixes.invariant (last_of quiet_at) (last_there quiet_at some)) in
    let top : 0 < last_of quiet_at → get_or c.args.trail.now.levels (last_of quiet_at - 1) 0 < c.args.level = λ pos. elim c.then-last-eq0.branch [
      | then-last-eq0-via-then-last-eq0 w ↦ absurd (omega (arith, pos, is, w.if-last-eq0.true))
      | then-last-eq0-via-else-last-eq0+then-level_of-level w ↦ omega (arith, w.if-level_of-level.true, w.level_of.ensures, ap (λ k. get_or c.args.trail.now.levels (k - 1) 0) is)
    ] in
    below_last c.args.trail.now quiet_at c.args.level (front_rising quiet_at c.args.quiet_at.now.items c.prefixes.invariant c.requires.rising) c.is_sound.ensures.leveled.rising most top
