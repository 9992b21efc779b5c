-- That premises are clauses of the log.
use Rattle.std.proofs.Common.{◌<◌, List, length, get_or, All, subst, sym, arith}
use Rattle.term_core.specs.declared.ids.TermId.{TermId}
use Rattle.term_core.specs.Tables.{IsIn}
use Rattle.proof_log.specs.declared.premises.StepId.{StepId}
use Rattle.proof_log.specs.Logs.{Logged, premises_in, no_logged}
use Rattle.clause_store.specs.Stores.{no_step}
use Rattle.search_loop.proofs.activity.bump_conflict.Goals as goal

pub clause-requires-in-loop-premise : goal.clause-requires-in-loop-premise
clause-requires-in-loop-premise c =
    let n = c.args.step.0 in
    let all : All (λ (s : StepId). s.0 < n) c.in-Some.learned.now.premises = subst (λ (l : Logged). All (λ (s : StepId). s.0 < n) (premises_in l)) c.in-Some.ensures (c.premises_are_earlier.ensures n c.requires.step) in
    let items : All (λ (s : StepId). s.0 < n) c.as_slice-premise-items.result.now = subst (λ (ss : List StepId). All (λ (s : StepId). s.0 < n) ss) (sym c.as_slice-premise-items.ensures) all in
    omega (arith, items c.loop-premise.premise-index no_step c.loop-premise-test.true, c.requires.step)

pub bump_clause-requires-in-loop-premise-clause-clause : goal.bump_clause-requires-in-loop-premise-clause-clause
bump_clause-requires-in-loop-premise-clause-clause c =
    let n = c.args.step.0 in
    let all : All (λ (s : StepId). s.0 < n) c.in-Some.learned.now.premises = subst (λ (l : Logged). All (λ (s : StepId). s.0 < n) (premises_in l)) c.in-Some.ensures (c.premises_are_earlier.ensures n c.requires.step) in
    let items : All (λ (s : StepId). s.0 < n) c.as_slice-premise-items.result.now = subst (λ (ss : List StepId). All (λ (s : StepId). s.0 < n) ss) (sym c.as_slice-premise-items.ensures) all in
    let s : StepId = get_or c.as_slice-premise-items.result.now c.loop-premise.premise-index no_step in
    let lt : s.0 < length c.args.log.now = omega (arith, items c.loop-premise.premise-index no_step c.loop-premise-test.true, c.requires.step) in
    subst (λ (ids : List TermId). All (IsIn c.args.table.now) ids) (sym c.clause-in-loop-premise.ensures) (λ k d small. (c.requires.log.formulas s.0 no_logged lt k d small).0)
