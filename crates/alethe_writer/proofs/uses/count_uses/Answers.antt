-- Both are counted, one after the other.
use Rattle.std.proofs.Common.{◌∙◌}
use Rattle.alethe_writer.proofs.Counts.{uses_counted}
use Rattle.alethe_writer.proofs.uses.count_uses.Goals as goal

pub count_in_terms-requires-clause-as_many_uses : goal.count_in_terms-requires-clause-as_many_uses
count_in_terms-requires-clause-as_many_uses c = c.count_in_clauses.ensures.same_length ∙ c.requires.as_many_uses

pub returns-clause-uses : goal.returns-clause-uses
returns-clause-uses c = uses_counted c.args.table.now c.args.log.now c.args.support.now c.args.printed.now c.args.uses.now c.count_in_clauses.new.uses c.count_in_terms.new.uses c.requires.as_many_uses c.requires.none c.count_in_clauses.ensures c.count_in_terms.ensures

pub returns-clause-as_many : goal.returns-clause-as_many
returns-clause-as_many c = c.count_in_terms.ensures.same_length ∙ c.count_in_clauses.ensures.same_length
