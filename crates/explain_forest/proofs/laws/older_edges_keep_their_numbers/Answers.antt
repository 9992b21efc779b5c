use Rattle.explain_forest.proofs.Linking.{older-none, older-next, older-all, length-older, numbered-of_older}
use Rattle.explain_forest.proofs.laws.older_edges_keep_their_numbers.Goals as goal

pub returns-clause-none : goal.returns-clause-none
returns-clause-none c = older-none

pub returns-clause-next : goal.returns-clause-next
returns-clause-next c = older-next

pub returns-clause-all : goal.returns-clause-all
returns-clause-all c = older-all

pub returns-clause-count : goal.returns-clause-count
returns-clause-count c = length-older

pub returns-clause-numbers : goal.returns-clause-numbers
returns-clause-numbers c = numbered-of_older
