-- That the step refutes the terms.
use Rattle.std.proofs.Common.{◌∷◌, [], refl}
use Rattle.spec_proofs.specs.declared.Rule.TheVariants.{Resolution}
use Rattle.term_core.proofs.TermsExtend.{Extends-self}
use Rattle.proof_log.specs.Logs.{stepped}
use Rattle.search_loop.proofs.SearchAppends.{appends_logged}
use Rattle.search_loop.proofs.SearchGrown.{ready_grown}
use Rattle.search_loop.proofs.SearchReasons.{reasons_are}
use Rattle.search_loop.proofs.SearchShows.{unsat_shows}
use Rattle.search_loop.proofs.search.Search.refuted.Goals as goal

pub refute-requires-clause-reasons : goal.refute-requires-clause-reasons
refute-requires-clause-reasons c =
    let x = c.args.self.now in
    reasons_are c.args.table.now c.ids_are_unique.ensures x.log x.store c.requires.ready.derives x.trail c.requires.ready.implied

pub returns-clause-shows : goal.returns-clause-shows
returns-clause-shows c = unsat_shows c.args.table.now c.args.self.now (record c.args.self.now { log = c.refute.new.log }) c.args.clash c.in_ok-step.step refl c.in_ok-step.ensures

pub returns-clause-ready : goal.returns-clause-ready
returns-clause-ready c =
    let t = c.args.table.now in
    let x = c.args.self.now in
    let l = c.in_ok-step.ensures in
    ready_grown t t (Extends-self t) refl x x.fed c.refute.new.log (stepped Resolution l.premises [] l.terms ∷ []) l.last l.right refl c.requires.ready

-- it is the one that came
pub returns-clause-appended : goal.returns-clause-appended
returns-clause-appended c =
    let x = c.args.self.now in
    let l = c.in_ok-step.ensures in
    appends_logged x (record x { log = c.refute.new.log }) (stepped Resolution l.premises [] l.terms ∷ [], l.last) (record { clauses = refl; steps = refl }) refl refl
