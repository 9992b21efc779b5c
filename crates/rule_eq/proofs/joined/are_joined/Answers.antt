-- That each two are one, or a reason joins them.
use Rattle.std.proofs.Common.{sym, ◌∙◌, arith}
use Rattle.std.proofs.lemmas.List.{length-map}
use Rattle.term_core.specs.Tables.{term_at}
use Rattle.rule_eq.specs.Reasoning.{reasons_meant}
use Rattle.rule_eq.proofs.Joining.{not_joined, joined_here, joined_after, joined_from, joined_end}
use Rattle.rule_eq.proofs.joined.are_joined.Goals as goal

pub returns-then-terms-others : goal.returns-then-terms-others
returns-then-terms-others c = not_joined (reasons_meant c.args.table.now c.args.reasons) _ _
    (λ e. c.if-terms-others.true (sym (length-map c.args.terms.now (term_at c.args.table.now)) ∙ e ∙ length-map c.args.others.now (term_at c.args.table.now)))

pub returns-in_default : goal.returns-in_default
returns-in_default c =
    let table = c.args.table.now in
    let rs = reasons_meant table c.args.reasons in
    λ h. c.in_default.ensures (joined_here table rs c.args.terms.now c.args.others.now c.loop-at.at (record { 0 = 0 }) c.loop-at-test.true (omega (arith, c.loop-at-test.true, c.if-terms-others.false)) (c.loop-at.invariant.left h))

pub loop-at-preserved : goal.loop-at-preserved
loop-at-preserved c =
    let table = c.args.table.now in
    let rs = reasons_meant table c.args.reasons in
    let within = c.loop-at-test.true in
    record {
      there = c.in-Some.ensures.0;
      joined = λ h. c.loop-at.invariant.joined (joined_from table rs c.args.terms.now c.args.others.now c.loop-at.at (record { 0 = 0 }) within (omega (arith, within, c.if-terms-others.false)) c.in-Some.ensures.1 h);
      left = λ h. joined_after table rs c.args.terms.now c.args.others.now c.loop-at.at (record { 0 = 0 }) within (omega (arith, within, c.if-terms-others.false)) (c.loop-at.invariant.left h);
    }

pub returns : goal.returns
returns c =
    let table = c.args.table.now in
    c.loop-at.invariant.joined (joined_end table (reasons_meant table c.args.reasons) c.args.terms.now c.args.others.now c.loop-at.at c.loop-at-test.false (omega (arith, c.loop-at-test.false, c.if-terms-others.false)))
