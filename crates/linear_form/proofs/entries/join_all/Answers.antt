-- One entry after the other is joined.
use Rattle.std.proofs.Common.{◌∷◌, [], ◌∙◌, arith}
use Rattle.spec_arithmetic.specs.Forms.{all_joined}
use Rattle.linear_form.specs.Entries.{live, variables_meant}
use Rattle.linear_form.specs.Making.{way_meant}
use Rattle.linear_form.proofs.Joining.{fails_on, comes_err}
use Rattle.linear_form.proofs.Steps.{join_more, join_err, join_none, has_at}
use Rattle.linear_form.proofs.entries.join_all.Goals as goal

pub returns-in_err-join_entry-clause-comes : goal.returns-in_err-join_entry-clause-comes
returns-in_err-join_entry-clause-comes c t d has others =
    let p = c.index-others-at.result in
    let os = c.args.others.now in
    let way = way_meant c.args.way in
    let es = variables_meant t (live c.others.entries.items) in
    comes_err _ c.from_residual.result _ _
    (fails_on (all_joined way (variables_meant t (live c.args.entries.now.items)) (variables_meant t (live os))) (all_joined way es (variables_meant t (live (p ∷ [])))) c.in_err-join_entry.field-0.0
    (λ w e. c.others.invariant.comes t d has others ∙ join_err t way es os c.others.at p w c.others-test.true c.index-others-at.is e)
    (c.in_err-join_entry.ensures.comes t d (c.others.invariant.there t has others) (has_at t os c.others.at p c.others-test.true c.index-others-at.is others)))
    c.from_residual.ensures.1

pub others-preserved : goal.others-preserved
others-preserved c =
    let p = c.index-others-at.result in
    let os = c.args.others.now in
    record {
      index = c.join_entry.ensures.index;
      comes = λ t d has others. c.others.invariant.comes t d has others ∙ join_more t (way_meant c.args.way) (variables_meant t (live c.others.entries.items)) _ os c.others.at p c.others-test.true c.index-others-at.is
          (c.in_ok-join_entry.ensures.comes t d (c.others.invariant.there t has others) (has_at t os c.others.at p c.others-test.true c.index-others-at.is others));
      there = λ t has others. c.in_ok-join_entry.ensures.there t (c.others.invariant.there t has others) (has_at t os c.others.at p c.others-test.true c.index-others-at.is others);
    }

pub returns-clause-comes : goal.returns-clause-comes
returns-clause-comes c t d has others = c.others.invariant.comes t d has others ∙ join_none t (way_meant c.args.way) (variables_meant t (live c.others.entries.items)) c.args.others.now c.others.at (omega arith)
