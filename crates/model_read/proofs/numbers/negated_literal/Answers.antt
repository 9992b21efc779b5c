-- That a list is the negation of a literal, or nothing.
use Rattle.spec_model_files.specs.Values.{negation}
use Rattle.smt_sexpr.specs.Items.{trees_meant, tree_meant}
use Rattle.model_read.proofs.NumberTexts.{divisor_is, divisor_fails, divisor_none}
use Rattle.model_read.proofs.numbers.negated_literal.Goals as goal

pub returns-in-Ok : goal.returns-in-Ok
returns-in-Ok c end =
    let r = c.in-Ok.ensures in
    record {
      value = negation r.value;
      is = divisor_is c.args.at end (trees_meant c.args.inside) (tree_meant c.in-Some.text) r.value c.in-Some.ensures.shape r.is;
      means = c.negation.ensures r.value r.means;
    }

pub returns-in-Err : goal.returns-in-Err
returns-in-Err c end = divisor_fails c.args.at end (trees_meant c.args.inside) (tree_meant c.in-Some.text) _ c.in-Some.ensures.shape c.in-Err.ensures

pub returns-in-None : goal.returns-in-None
returns-in-None c end = divisor_none c.args.at end (trees_meant c.args.inside) c.fault_at.result c.in-None.ensures.shape c.fault_at.ensures
