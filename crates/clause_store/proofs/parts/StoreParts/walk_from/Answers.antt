-- The walk along the trail.
use Rattle.std.proofs.Common.{arith, ◌≡◌, ◌+◌, ◌<◌, ◌∙◌, ℕ, length, take, ap, subst, sym, refl}
use Rattle.std.proofs.lemmas.List.{length-append}
use Rattle.clause_literals.specs.Literals.{lit_complement}
use Rattle.clause_store.specs.Watching.{AreQuietPairs}
use Rattle.clause_store.specs.Entries.{bare}
use Rattle.clause_store.proofs.Atwork.{works_none, works_on, work_goes, works_goes, goes_attached, count_attached}
use Rattle.clause_store.proofs.Walking.{quiet_by_one}
use Rattle.clause_store.proofs.parts.StoreParts.walk_from.Goals as goal

pub literals-init : goal.literals-init
literals-init c = record { work = c.requires.work; all = c.requires.all; there = c.requires.from; goes = works_none _ _; were_quiet = c.requires.were_quiet }

pub returns-in_err-n-clause-work : goal.returns-in_err-n-clause-work
returns-in_err-n-clause-work c =
    let i = c.literals.invariant in
    let w = c.walk.ensures in
    work_goes c.literals.self _ c.literals.trail c.walk.new.trail c.is_sound.ensures.propagated w.watched w.entries refl (goes_attached c.literals.self i.work.watched i.all _ _ _ w.goes) i.work refl refl refl

pub returns-in_err-n-clause-goes : goal.returns-in_err-n-clause-goes
returns-in_err-n-clause-goes c =
    let i = c.literals.invariant in
    let w = c.walk.ensures in
    works_on c.args.self.now c.literals.self _ c.args.trail.now c.literals.trail c.walk.new.trail i.goes
    (works_goes c.literals.self _ c.literals.trail c.walk.new.trail c.is_sound.ensures.propagated w.watched w.entries refl (goes_attached c.literals.self i.work.watched i.all _ _ _ w.goes) i.work refl)

pub returns-in-Some-clause-work : goal.returns-in-Some-clause-work
returns-in-Some-clause-work c =
    let i = c.literals.invariant in
    let w = c.walk.ensures in
    work_goes c.literals.self _ c.literals.trail c.walk.new.trail c.is_sound.ensures.propagated w.watched w.entries refl (goes_attached c.literals.self i.work.watched i.all _ _ _ w.goes) i.work refl refl refl

pub returns-in-Some-clause-goes : goal.returns-in-Some-clause-goes
returns-in-Some-clause-goes c =
    let i = c.literals.invariant in
    let w = c.walk.ensures in
    works_on c.args.self.now c.literals.self _ c.args.trail.now c.literals.trail c.walk.new.trail i.goes
    (works_goes c.literals.self _ c.literals.trail c.walk.new.trail c.is_sound.ensures.propagated w.watched w.entries refl (goes_attached c.literals.self i.work.watched i.all _ _ _ w.goes) i.work refl)

pub literals-preserved : goal.literals-preserved
literals-preserved c =
    let i = c.literals.invariant in
    let w = c.walk.ensures in
    let lt : c.literals.done < length c.literals.trail.literals = omega (arith, c.literals-test.true, c.len.ensures) in
    let count : length c.literals.self.watched.pairs.items ≡ c.literals.self.attached = count_attached c.literals.self i.work.watched i.all in
    record {
      work = work_goes c.literals.self _ c.literals.trail c.walk.new.trail c.is_sound.ensures.propagated w.watched w.entries refl (goes_attached c.literals.self i.work.watched i.all _ _ _ w.goes) i.work refl refl refl;
      all = i.all ∙ sym (ap length w.entries);
      there = omega (arith, lt, ap length w.goes.advances.0.literals, length-append c.literals.trail.literals w.goes.advances.0.more);
      goes = works_on c.args.self.now c.literals.self _ c.args.trail.now c.literals.trail c.walk.new.trail i.goes
          (works_goes c.literals.self _ c.literals.trail c.walk.new.trail c.is_sound.ensures.propagated w.watched w.entries refl (goes_attached c.literals.self i.work.watched i.all _ _ _ w.goes) i.work refl);
      were_quiet = subst (λ (n : ℕ). AreQuietPairs n c.walk.new.self.pairs.items (take (c.literals.done + 1) c.walk.new.trail.literals) c.walk.new.trail.literals) count
          (quiet_by_one (bare c.literals.self.watched.entries.items) c.literals.self.watched.pairs.items c.walk.new.self.pairs.items c.literals.trail c.walk.new.trail c.literals.done c.negated-f.result lt
          (c.negated-f.ensures ∙ ap lit_complement c.literal.ensures) w.goes (rw c.in-None.is at c.in_ok-n.ensures.ends)
          (subst (λ (n : ℕ). AreQuietPairs n c.literals.self.watched.pairs.items (take c.literals.done c.literals.trail.literals) c.literals.trail.literals) (sym count) i.were_quiet));
    }
