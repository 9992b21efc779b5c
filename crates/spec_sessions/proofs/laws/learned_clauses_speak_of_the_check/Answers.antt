-- They stand apart from the other equalities of elements.
use Rattle.spec_sessions.proofs.Apart.{speak_of}
use Rattle.spec_sessions.proofs.laws.learned_clauses_speak_of_the_check.Goals as goal

pub returns-clause-spent : goal.returns-clause-spent
returns-clause-spent c = λ limits k n d learned shown. speak_of k shown.0 shown.1 learned shown.2.apart

pub returns-clause-overflowed : goal.returns-clause-overflowed
returns-clause-overflowed c = λ limits k o kept shown. let on = shown.2 in speak_of k on.0 on.1 kept.learned on.2.apart
