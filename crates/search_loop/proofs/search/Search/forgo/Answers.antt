-- That one clause more could be learned.
use Rattle.std.proofs.Common.{[], List, sym, subst}
use Rattle.spec_proofs.specs.declared.Rule.TheVariants.{Resolution}
use Rattle.proof_log.specs.Logs.{Logged, stepped, IsLogOf}
use Rattle.search_loop.specs.Search.{SearchFits}
use Rattle.search_loop.specs.Rounds.{ShowsAnswer}
use Rattle.search_loop.proofs.SearchReasons.{reasons_are}
use Rattle.sat_budget.specs.declared.limits.Reason.TheVariants.{Conflicts}
use Rattle.search_loop.specs.declared.cdcl.Answer.TheVariants.{Unknown}
use Rattle.search_loop.proofs.SearchStored.{log_back}
use Rattle.search_loop.proofs.SearchGrown.{ready_wider}
use Rattle.search_loop.proofs.SearchShows.{forgone_shows}
use Rattle.search_loop.proofs.search.Search.forgo.Goals as goal

pub learn-requires-clause-reasons : goal.learn-requires-clause-reasons
learn-requires-clause-reasons c =
    let x = c.args.self.now in
    reasons_are c.args.table.now c.ids_are_unique.ensures x.log x.store c.requires.ready.derives x.trail c.requires.ready.implied

pub returns-clause-right : goal.returns-clause-right
returns-clause-right c =
    let x = c.args.self.now in
    subst (IsLogOf c.learn.new.table) (sym (log_back x.log c.learn.new.log (stepped Resolution c.in_ok-learn.ensures.learned.logged.premises [] c.in_ok-learn.ensures.learned.logged.terms) c.len-len.result c.in_ok-learn.ensures.learned.logged.last c.len-len.ensures c.cut.new.self c.cut.ensures.clauses))
    (c.logs_hold_in_grown_tables.ensures.right c.args.table.now c.learn.new.table x.log c.requires.ready.right c.learn.ensures.grown)

pub returns-clause-ready : goal.returns-clause-ready
returns-clause-ready c =
    let t = c.args.table.now in
    let u = c.learn.new.table in
    let x = c.args.self.now in
    let l = c.in_ok-learn.ensures.learned in
    let grown = c.learn.ensures.grown in
    let kept = c.logs_hold_in_grown_tables.ensures.right t u x.log c.requires.ready.right grown in
    let same = c.logs_hold_in_grown_tables.ensures.same t u x.log c.requires.ready.right grown in
    let back = log_back x.log c.learn.new.log (stepped Resolution l.logged.premises [] l.logged.terms) c.len-len.result l.logged.last c.len-len.ensures c.cut.new.self c.cut.ensures.clauses in
    subst (λ (log : List Logged). SearchFits u (record x { log = log })) (sym back) (ready_wider t u grown c.learn.ensures.declared x kept same c.requires.ready)

pub returns-clause-shows : goal.returns-clause-shows
returns-clause-shows c n full carries =
    let t = c.args.table.now in
    let u = c.learn.new.table in
    let x = c.args.self.now in
    let l = c.in_ok-learn.ensures.learned in
    let kept = c.logs_hold_in_grown_tables.ensures.right t u x.log c.requires.ready.right c.learn.ensures.grown in
    let back = log_back x.log c.learn.new.log (stepped Resolution l.logged.premises [] l.logged.terms) c.len-len.result l.logged.last c.len-len.ensures c.cut.new.self c.cut.ensures.clauses in
    subst (λ (log : List Logged). ShowsAnswer t u x (record x { log = log }) (Unknown (Conflicts n))) (sym back)
    (forgone_shows t u c.learn.ensures.grown c.ids_are_unique.ensures c.learn.ensures.declared x c.requires.ready c.is_sound.ensures.once c.is_sound.ensures.leveled c.is_sound.ensures.consistent
    (c.logs_hold_in_grown_tables.ensures.same t u x.log c.requires.ready.right c.learn.ensures.grown) c.args.clash c.learn.new.log c.in_ok-learn.field-0 l kept n full carries)
