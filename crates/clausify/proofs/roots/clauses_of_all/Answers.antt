-- A search that begins knows no terms.
use Rattle.spec_derivations.specs.Orders.{ordered_terms}
use Rattle.term_clauses.specs.SpokenTerms.{problem_in}
use Rattle.clausify.proofs.Bases.{begun_clauses, begun_terms}
use Rattle.clausify.proofs.roots.clauses_of_all.Goals as goal

pub returns-clause-clauses : goal.returns-clause-clauses
returns-clause-clauses c =
    let t = c.args.table.now in
    let roots = c.args.roots.now in
    let interface = c.args.interface.now in
    let h = c.clauses_of_new-stated.ensures in
    begun_clauses t c.clauses_of_new-stated.new.table c.args.log.now c.clauses_of_new-stated.new.log roots interface c.clauses_of_new-stated.result c.requires.roots c.ids_are_unique.ensures (c.subterms_are_least.ensures.once (ordered_terms (problem_in t roots interface))) h.grown h.terms h.clauses

pub returns-clause-terms : goal.returns-clause-terms
returns-clause-terms c = begun_terms c.args.table.now c.clauses_of_new-stated.new.table c.args.log.now c.clauses_of_new-stated.new.log c.args.roots.now c.args.interface.now c.clauses_of_new-stated.result c.clauses_of_new-stated.ensures.terms
