-- One comes after the other.
use Rattle.std.proofs.Common.{true, false, [], ◌∷◌}
use Rattle.std.proofs.lemmas.Result.{on_ok_weaker}
use Rattle.term_clauses.specs.Choices.{truth_fact}
use Rattle.term_clauses.proofs.Speaking.{more_trans}
use Rattle.term_clauses.proofs.spoken.add_truth_facts.Goals as goal

pub returns-clause-more : goal.returns-clause-more
returns-clause-more c =
    let some = c.add_truth_fact.new.ids.items in
    let all = c.add_truth_fact-2.new.ids.items in
    on_ok_weaker c.add_truth_fact-2.result
    (more_trans c.args.table.now c.add_truth_fact.new.table c.add_truth_fact-2.new.table c.args.ids.now.items some all (truth_fact true ∷ []) (truth_fact false ∷ []) c.in_ok-add_truth_fact.ensures.more)
    c.add_truth_fact-2.ensures.more
