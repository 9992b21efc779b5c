-- Terms come last, each with its own number.
use Rattle.class_table.proofs.Joined.{length-with_terms, added_alone}
use Rattle.class_table.proofs.laws.adding_adds_terms_alone.Goals as goal

pub returns-clause-count : goal.returns-clause-count
returns-clause-count c = length-with_terms

pub returns-clause-added : goal.returns-clause-added
returns-clause-added c = added_alone
