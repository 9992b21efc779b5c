-- Mark by mark.
use Rattle.std.proofs.Common.{◌∙◌, ℕ, refl, ap, arith}
use Rattle.proof_log.specs.Theories.{gone_back}
use Rattle.search_loop.proofs.SearchTheories.{back_more, marks_left}
use Rattle.search_loop.proofs.feeding.back.Goals as goal

pub marks-init : goal.marks-init
marks-init g c = record { view = refl; goes = λ t h. h; came = λ t ts n es h. h }

pub back-requires : goal.back-requires
back-requires g c =
    let v = (g.T.Theory.meaning c.args.theory.now).view in
    let n = c.marks.counter in
    record { there = rw c.marks.invariant.view (omega (arith, marks_left v n (omega (arith, c.requires.there, c.marks-test.true)), c.requires.there, c.marks-test.true)) }

pub marks-preserved : goal.marks-preserved
marks-preserved g c =
    let v = (g.T.Theory.meaning c.args.theory.now).view in
    let n = c.marks.counter in
    record {
      view = c.back.ensures.back ∙ ap (gone_back 1) c.marks.invariant.view ∙ back_more v n c.requires.rising (omega (arith, c.requires.there, c.marks-test.true));
      goes = λ t h. c.back.ensures.keeps.with t (c.marks.invariant.goes t h);
      came = λ t ts n es h. c.back.ensures.keeps.came t ts n es (c.marks.invariant.came t ts n es h);
    }

pub returns : goal.returns
returns g c =
    let v = (g.T.Theory.meaning c.args.theory.now).view in
    record {
      keeps = record { with = c.marks.invariant.goes; came = c.marks.invariant.came };
      back = c.marks.invariant.view ∙ ap (λ (n : ℕ). gone_back n v) (omega (arith, c.marks-test.false, c.marks.auto.counter-end));
    }
