-- From the beginning to an answer, with no theory.
use Rattle.std.proofs.Common.{arith}
use Rattle.spec_derivations.specs.Orders.{whole_terms}
use Rattle.spec_derivations.specs.Examples.{speaking}
use Rattle.term_core.proofs.TermsExtend.{Extends-self}
use Rattle.search_loop.specs.declared.cdcl.Answer.{Answer}
use Rattle.search_loop.specs.declared.cdcl.Answer.TheVariants.{Sat, Unsat, Unknown}
use Rattle.search_loop.proofs.SearchRounds.{shows_on}
use Rattle.solve_core.proofs.SearchRuns.{made, exchanged_none}
use Rattle.solve_core.proofs.SearchStops.{answered_by}
use Rattle.solve_core.proofs.SearchTruthsAlone.{propositional_later}
use Rattle.solve_core.proofs.propositional.answer_propositional.Goals as goal

pub returns-in_default-clause-grown : goal.returns-in_default-clause-grown
returns-in_default-clause-grown g c = Extends-self c.args.table.now

pub propositional_model-requires-clause-propositional : goal.propositional_model-requires-clause-propositional
propositional_model-requires-clause-propositional g c =
    let ends = rw c.in-Saturated.is at (rw c.in-Ok-run.is at c.run.ensures.ends) in
    propositional_later c.args.table.now c.run.new.table c.run.ensures.grown c.args.search.now c.run.new.self c.requires.0.begun.ready ends.1.terms c.requires.1

pub returns-in-Saturated-clause-answered : goal.returns-in-Saturated-clause-answered
returns-in-Saturated-clause-answered g c =
    let t = c.args.table.now in
    let w = c.run.new.table in
    let x = c.args.search.now in
    let y = c.run.new.self in
    let b = c.requires.0 in
    let p = speaking g.asked b.interface in
    let a : Answer = Sat c.in_ok-model-in-Saturated.model in
    let ends = rw c.in-Saturated.is at (rw c.in-Ok-run.is at c.run.ensures.ends) in
    let came = rw c.in-Ok-run.is at (c.run.ensures.came (whole_terms p) 0 (0, omega arith, b.begun.unspent)) in
    answered_by g.asked x.budget.limit t w x y b.interface b.begun.search b.apart
    (rw c.in-Ok-run.is at c.run.ensures.right) (rw c.in-Ok-run.is at c.run.ensures.limit) a
    (shows_on t w w x y y a ends.1 c.in_ok-model-in-Saturated.ensures) (made p y.budget a (exchanged_none (whole_terms p) _ y.budget.exchanges came.2))

pub returns-in-Refuted-clause-answered : goal.returns-in-Refuted-clause-answered
returns-in-Refuted-clause-answered g c =
    let t = c.args.table.now in
    let w = c.run.new.table in
    let x = c.args.search.now in
    let y = c.run.new.self in
    let b = c.requires.0 in
    let p = speaking g.asked b.interface in
    let a : Answer = Unsat c.in-Refuted.step in
    let came = rw c.in-Ok-run.is at (c.run.ensures.came (whole_terms p) 0 (0, omega arith, b.begun.unspent)) in
    answered_by g.asked x.budget.limit t w x y b.interface b.begun.search b.apart
    (rw c.in-Ok-run.is at c.run.ensures.right) (rw c.in-Ok-run.is at c.run.ensures.limit) a
    (rw c.in-Refuted.is at (rw c.in-Ok-run.is at c.run.ensures.ends)) (made p y.budget a (exchanged_none (whole_terms p) _ y.budget.exchanges came.2))

pub returns-clause-answered : goal.returns-clause-answered
returns-clause-answered g c =
    let t = c.args.table.now in
    let w = c.run.new.table in
    let x = c.args.search.now in
    let y = c.run.new.self in
    let b = c.requires.0 in
    let p = speaking g.asked b.interface in
    let a : Answer = Unknown c.in-Stopped.reason in
    let came = rw c.in-Ok-run.is at (c.run.ensures.came (whole_terms p) 0 (0, omega arith, b.begun.unspent)) in
    answered_by g.asked x.budget.limit t w x y b.interface b.begun.search b.apart
    (rw c.in-Ok-run.is at c.run.ensures.right) (rw c.in-Ok-run.is at c.run.ensures.limit) a
    (rw c.in-Stopped.is at (rw c.in-Ok-run.is at c.run.ensures.ends)) (made p y.budget a (exchanged_none (whole_terms p) _ y.budget.exchanges came.2))
