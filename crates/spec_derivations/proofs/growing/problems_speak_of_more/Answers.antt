-- All is made of the known terms.
use Rattle.spec_derivations.proofs.Grown.{subterms, whole, atom, over, lemma, clauses}
use Rattle.spec_derivations.proofs.growing.problems_speak_of_more.Goals as goal

pub returns-clause-subterms : goal.returns-clause-subterms
returns-clause-subterms c p q h = subterms p q h

pub returns-clause-terms : goal.returns-clause-terms
returns-clause-terms c p q h = whole p q h

pub returns-clause-atoms : goal.returns-clause-atoms
returns-clause-atoms c p q t h a = atom p q h t a

pub returns-clause-over : goal.returns-clause-over
returns-clause-over c p q x h a = over p q h x a

pub returns-clause-lemmas : goal.returns-clause-lemmas
returns-clause-lemmas c p q d n x h i = lemma p q h d n x i

pub returns-clause-clauses : goal.returns-clause-clauses
returns-clause-clauses c p q a h = clauses p q h a
