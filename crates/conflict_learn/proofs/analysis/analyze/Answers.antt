-- That the analysis comes down to the point.
use Rattle.std.proofs.Common.{◌≡◌, ◌∙◌, ◌+◌, ◌-◌, ℕ, sym, subst, inl, inr, arith}
use Rattle.std.proofs.lemmas.Bool.{cases_lt}
use Rattle.conflict_learn.specs.Conflicts.{Conflict}
use Rattle.conflict_learn.specs.Points.{HasTwo}
use Rattle.conflict_learn.specs.Analyses.{HasComeTo, sorting_of}
use Rattle.conflict_learn.proofs.Sorting.{count_le}
use Rattle.conflict_learn.proofs.Following.{has_two, has_no_two, of_level}
use Rattle.conflict_learn.proofs.analysis.analyze.Goals as goal

pub places-init : goal.places-init
places-init c =
    let v = c.args.trail.now in
    let x : Conflict = record { table = c.args.table.now; log = c.args.log.now; trail = v; clash = c.args.clash } in
    let a = c.in_ok-analysis.analysis in
    let come = subst (λ (k : ℕ). HasComeTo x c.args.level k a) (c.in_ok-analysis.ensures.begun.0 ∙ sym c.len-at.ensures) c.in_ok-analysis.ensures.begun.1 in
    record {
      there = omega (arith, c.len-at.ensures);
      size = c.in_ok-analysis.ensures.size;
      come = come;
      above = λ k lt le. absurd (omega (arith, lt, le, c.len-at.ensures));
      few = omega (arith, come.sorted.counted, count_le v c.args.level a.seen.marks.items c.len-at.result);
    }

pub pass-requires-clause-of_level : goal.pass-requires-clause-of_level
pass-requires-clause-of_level c m =
    let x : Conflict = record { table = c.args.table.now; log = c.args.log.now; trail = c.args.trail.now; clash = c.args.clash } in
    let a = sorting_of c.places.analysis.seen in
    let ps = c.places.analysis.premises.items in
    let once = c.is_sound.ensures.once in
    let leveled = c.is_sound.ensures.leveled in
    let r = c.places.invariant.come in
    let two = has_two x once c.ids_are_unique.ensures leveled c.requires.clash c.requires.reasons c.args.level c.places.at a ps r c.places-test.true in
    of_level x once c.ids_are_unique.ensures leveled c.requires.clash c.requires.reasons c.args.level c.places.at a ps r c.requires.level two.one (c.places.at - 1)
    (omega (arith, two.apart, two.before)) (omega (arith, two.before, c.places.invariant.there)) two.one_level m

pub places-preserved : goal.places-preserved
places-preserved c =
    let v = c.args.trail.now in
    let x : Conflict = record { table = c.args.table.now; log = c.args.log.now; trail = v; clash = c.args.clash } in
    let a = sorting_of c.places.analysis.seen in
    let ps = c.places.analysis.premises.items in
    let n = c.args.level in
    let less = c.places.at - 1 in
    let next : c.places.at ≡ less + 1 = omega (arith, c.places-test.true, c.places.invariant.few) in
    let r = c.places.invariant.come in
    let two = has_two x c.is_sound.ensures.once c.ids_are_unique.ensures c.is_sound.ensures.leveled c.requires.clash c.requires.reasons n c.places.at a ps r c.places-test.true in
    let come = c.in_ok-pass.ensures.passed c.args.clash c.requires.clash (subst (λ (k : ℕ). HasComeTo x n k c.places.analysis) next r) in
    record {
      there = omega (arith, c.places.invariant.there);
      size = c.pass.ensures.size;
      come = come;
      above = λ k lt le. elim (cases_lt c.places.at k) [
        | inl more ↦ c.places.invariant.above k more le
        | inr ge ↦ let is : k ≡ c.places.at = omega (arith, lt, ge, next) in subst (HasTwo x n) (sym is) two
      ];
      few = omega (arith, come.sorted.counted, count_le v n c.pass.new.analysis.seen.marks.items less);
    }

pub returns-clause-passed : goal.returns-clause-passed
returns-clause-passed c =
    let x : Conflict = record { table = c.args.table.now; log = c.args.log.now; trail = c.args.trail.now; clash = c.args.clash } in
    let a = sorting_of c.places.analysis.seen in
    let ps = c.places.analysis.premises.items in
    let r = c.places.invariant.come in (
      r,
      record {
        within = c.places.invariant.there;
        above = c.places.invariant.above;
        here = has_no_two x c.is_sound.ensures.once c.ids_are_unique.ensures c.is_sound.ensures.leveled c.requires.clash c.requires.reasons c.args.level c.places.at a ps r (omega (arith, c.places-test.false));
      },
    )
