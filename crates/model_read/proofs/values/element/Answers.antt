-- An element by its word.
use Rattle.std.proofs.Common.{sym, subst}
use Rattle.spec_model_files.specs.Faults.{ReadModel}
use Rattle.spec_model_files.specs.Values.{Written}
use Rattle.smt_sexpr.specs.Items.{tree_meant}
use Rattle.smt_sexpr.specs.Views.{word_view}
use Rattle.model_read.specs.Answers.{Answers}
use Rattle.model_read.specs.Values.{IsWritten}
use Rattle.model_read.proofs.WrittenValues.{element_is, element_no_number, element_no_word}
use Rattle.model_read.proofs.values.element.Goals as goal

pub returns-in-Some : goal.returns-in-Some
returns-in-Some c =
    let h = c.in-Some.ensures in
    subst (λ (r : ReadModel Written). Answers IsWritten c.with_sort.result r)
    (sym (element_is (tree_meant c.args.word) (tree_meant c.args.sort) (word_view c.in-Ok.name) (sym c.in-Ok.ensures) h.number h.is)) (c.with_sort.ensures h.number h.index)

pub returns-in-None : goal.returns-in-None
returns-in-None c = element_no_number (tree_meant c.args.word) (tree_meant c.args.sort) (word_view c.in-Ok.name) (sym c.in-Ok.ensures) c.fault_at.result c.in-None.ensures c.fault_at.ensures

pub returns-in-Err : goal.returns-in-Err
returns-in-Err c = element_no_word (tree_meant c.args.word) (tree_meant c.args.sort) _ (sym c.in-Err.ensures)
