-- One entry after the other comes, and its variable is new.
use Rattle.std.proofs.Common.{◌∷◌, [], ◌∙◌, arith}
use Rattle.linear_form.specs.Entries.{live, variables_meant}
use Rattle.linear_form.specs.Making.{change_meant, with_front}
use Rattle.spec_arithmetic.specs.Forms.{each_number}
use Rattle.linear_form.proofs.Joining.{fails_on, comes_err}
use Rattle.linear_form.proofs.Steps.{change_more, change_err, change_none, has_at, lacks_here, lacks_taken}
use Rattle.linear_form.proofs.entries.change_all.Goals as goal

pub change_entry-requires-clause-new : goal.change_entry-requires-clause-new
change_entry-requires-clause-new c z =
    let p = c.index-others-at.result in
    c.others.invariant.new p.0.0 (lacks_here c.requires.others.0 c.args.others.now c.others.at p c.requires.others.1 c.others-test.true c.index-others-at.is z)

pub returns-in_err-change_entry-clause-comes : goal.returns-in_err-change_entry-clause-comes
returns-in_err-change_entry-clause-comes c t =
    let p = c.index-others-at.result in
    let os = c.args.others.now in
    let change = change_meant c.args.change in
    let es = variables_meant t (live c.others.entries.items) in
    comes_err _ c.from_residual.result _ _
    (fails_on (each_number change (variables_meant t (live os))) (with_front es (each_number change (variables_meant t (live (p ∷ []))))) c.in_err-change_entry.field-0.0
    (λ w e. c.others.invariant.comes t ∙ change_err t change es os c.others.at p w c.others-test.true c.index-others-at.is e) (c.in_err-change_entry.ensures.comes t))
    c.from_residual.ensures.1

pub others-preserved : goal.others-preserved
others-preserved c =
    let p = c.index-others-at.result in
    let os = c.args.others.now in
    let es = c.others.entries.items in
    record {
      index = c.change_entry.ensures.index;
      comes = λ t. c.others.invariant.comes t ∙ change_more t (change_meant c.args.change) (variables_meant t (live es)) _ os c.others.at p c.others-test.true c.index-others-at.is (c.in_ok-change_entry.ensures.comes t);
      new = λ q h.
          let both = lacks_taken os c.others.at p q c.others-test.true c.index-others-at.is h in
          c.in_ok-change_entry.ensures.new q (c.others.invariant.new q both.0) both.1;
      there = λ t has. c.in_ok-change_entry.ensures.there t (c.others.invariant.there t has) (has_at t os c.others.at p c.others-test.true c.index-others-at.is has);
    }

pub returns-clause-comes : goal.returns-clause-comes
returns-clause-comes c t = c.others.invariant.comes t ∙ change_none t (change_meant c.args.change) (variables_meant t (live c.others.entries.items)) c.args.others.now c.others.at (omega arith)
