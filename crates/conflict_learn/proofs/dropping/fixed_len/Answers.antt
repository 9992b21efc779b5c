-- That the two meet where the literals of level 0 end.
use Rattle.std.proofs.Common.{◌≡◌, ◌<◌, ◌+◌, ◌-◌, ◌/◌, ℕ, length, get_or, inl, inr, ap, arith}
use Rattle.std.proofs.lemmas.Bool.{cases_lt}
use Rattle.conflict_learn.proofs.dropping.fixed_len.Goals as goal

pub halves-preserved : goal.halves-preserved
halves-preserved c =
    let middle = c.halves.low + (c.halves.high - c.halves.low) / 2 in
    let within : middle < length c.args.trail.now.literals = omega (arith, c.halves-test.true, c.halves.invariant.within) in
    let here : get_or c.args.trail.now.levels middle 0 ≡ 0 = omega (arith, c.level_of.ensures, c.if-level_of-gt0.false) in
    record {
      ordered = omega (arith, c.halves-test.true);
      within = c.halves.invariant.within;
      fixed = λ p lt. elim (cases_lt p middle) [
        | inl early ↦ omega (arith, c.is_sound.ensures.leveled.rising p middle early within, here)
        | inr late ↦ let is : p ≡ middle = omega (arith, lt, late) in omega (arith, here, ap (λ (k : ℕ). get_or c.args.trail.now.levels k 0) is)
      ];
      others = c.halves.invariant.others;
    }

pub returns-clause-fixed : goal.returns-clause-fixed
returns-clause-fixed c p lt = c.halves.invariant.fixed p (omega (arith, lt, c.halves.invariant.ordered, c.halves-test.false))
