-- That the term states the literal.
use Rattle.term_core.proofs.TermsExtend.{Extends-self}
use Rattle.conflict_learn.proofs.Stating.{states_own, states_put}
use Rattle.conflict_learn.proofs.stated.term_of.Goals as goal

pub returns-then-l-clause-grown : goal.returns-then-l-clause-grown
returns-then-l-clause-grown c = Extends-self c.args.table.now

pub returns-then-l-clause-states : goal.returns-then-l-clause-states
returns-then-l-clause-states c = states_own c.args.table.now c.args.l c.requires c.if-l.true

pub returns-clause-states : goal.returns-clause-states
returns-clause-states c = states_put c.args.table.now c.negation.new.table (record { terms = c.negation.ensures.grown; declared = c.negation.ensures.declared }) c.args.l c.requires c.if-l.false c.negation.result c.negation.ensures.means

pub negation-requires : goal.negation-requires
negation-requires c = (c.requires.there, c.requires.formula)
