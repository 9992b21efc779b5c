use Rattle.std.proofs.Common.{ap, ◌∙◌}
use Rattle.spec_reading.specs.Names.{script, new_name, is_sort}
use Rattle.smt_sexpr.specs.Views.{word_view}
use Rattle.assertion_stack.proofs.Known.{new_by}
use Rattle.assertion_stack.proofs.names.new_sort.Goals as goal

pub returns : goal.returns
returns c t s h =
    c.new_name.ensures
    ∙ ap (λ w. new_name w (λ _. c.is_sort.result) (word_view c.args.word)) c.in_script.ensures
    ∙ new_by script (is_sort s) (word_view c.args.word) c.is_sort.result (c.is_sort.ensures t s h)
