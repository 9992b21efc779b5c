-- That one text more is read, and that all are.
use Rattle.smt_sexpr.specs.Items.{trees_meant, tree_meant}
use Rattle.alethe_reader.proofs.CoefficientTexts.{one_read, all_read}
use Rattle.alethe_reader.proofs.coefficients.written.Goals as goal

pub texts-preserved : goal.texts-preserved
texts-preserved c =
    one_read _ c.texts.found.items _ c.in_ok-coefficient_of.field-0 (tree_meant c.in-Some.text) (trees_meant c.texts.rest) (trees_meant c.in-Some.others)
    c.texts.invariant c.in-Some.ensures.first c.in_ok-coefficient_of.ensures c.in_ok-push.ensures.items

pub returns : goal.returns
returns c = all_read _ c.texts.found.items (trees_meant c.texts.rest) c.texts.invariant c.in_default.ensures.first
