-- That the quotient is read so.
use Rattle.std.proofs.Common.{sym, ◌∙◌}
use Rattle.spec_model_files.specs.Values.{quotient}
use Rattle.smt_sexpr.specs.Items.{tree_meant}
use Rattle.model_read.proofs.NumberTexts.{quotient_is, quotient_by_zero, quotient_fails}
use Rattle.model_read.proofs.numbers.divided.Goals as goal

pub quotient-requires : goal.quotient-requires
quotient-requires c y hy = sym (c.is_zero.ensures y hy) ∙ c.if-is_zero.false

pub returns-then-is_zero : goal.returns-then-is_zero
returns-then-is_zero c x hx =
    let r = c.in-Ok.ensures in
    quotient_by_zero c.args.at (tree_meant c.args.text) x r.value c.fault_at.result r.is (sym (c.is_zero.ensures r.value r.means) ∙ c.if-is_zero.true) c.fault_at.ensures

pub returns-else-is_zero : goal.returns-else-is_zero
returns-else-is_zero c x hx =
    let r = c.in-Ok.ensures in
    record {
      value = quotient x r.value;
      is = quotient_is c.args.at (tree_meant c.args.text) x r.value r.is (sym (c.is_zero.ensures r.value r.means) ∙ c.if-is_zero.false);
      means = c.quotient.ensures x r.value hx r.means;
    }

pub returns-in-Err : goal.returns-in-Err
returns-in-Err c x hx = quotient_fails c.args.at (tree_meant c.args.text) x _ c.in-Err.ensures
