-- That the search ends in a decision.
use Rattle.std.proofs.Common.{[], inl, refl, sym, subst}
use Rattle.std.proofs.lemmas.Result.{IfOk-weaker}
use Rattle.std.proofs.lemmas.List.Elements.{All-nil}
use Rattle.spec_derivations.specs.Problems.{subterms_in}
use Rattle.spec_derivations.specs.Examples.{asserting}
use Rattle.spec_interfaces.specs.Interfaces.{IsInterfaceEquality}
use Rattle.term_core.specs.Tables.{TableView, clause_at}
use Rattle.term_core.proofs.TermsExtend.{Extends-self}
use Rattle.solve_core.specs.Decisions.{HasDecision, IsOverflowedBy}
use Rattle.solve_core.proofs.SearchOverflowed.{overflowed_justified}
use Rattle.solve_core.proofs.SearchOutcome.{grows_to, decided_overflow, roots_in, begun, decided_answer}
use Rattle.solve_core.proofs.outcome.decided.Goals as goal

pub returns-in-Some-clause-grown : goal.returns-in-Some-clause-grown
returns-in-Some-clause-grown c = Extends-self c.args.table.now

pub returns-in-Some-clause-decided : goal.returns-in-Some-clause-decided
returns-in-Some-clause-decided c =
    let t = c.args.table.now in
    let ts = clause_at t c.args.roots.now in
    let limits = c.args.limits.now in
    let found = rw c.in-Some.is at c.in_ok-wide.ensures in
    IfOk-weaker c.overflowed.result (IsOverflowedBy limits c.in-Some.wide) (HasDecision t ts limits) (λ d by. record {
      interface = [];
      equalities = All-nil (IsInterfaceEquality (subterms_in (asserting ts)));
      justified = overflowed_justified t (asserting ts) limits (c.empty_logs_are_right.ensures t) c.in-Some.wide d by (inl found);
    }) c.overflowed.ensures

pub returns-in_err-wide-clause-grown : goal.returns-in_err-wide-clause-grown
returns-in_err-wide-clause-grown c = Extends-self c.args.table.now

pub returns-in_err-search-clause-grown : goal.returns-in_err-search-clause-grown
returns-in_err-search-clause-grown c = Extends-self c.args.table.now

-- the empty search fits together over each table
pub grow-requires-clause-ready : goal.grow-requires-clause-ready
grow-requires-clause-ready c = c.in_ok-search.ensures.ready c.args.table.now

-- where a clause of an order leaves the bound, the table is as it was
pub returns-in-Err-Wide-clause-decided : goal.returns-in-Err-Wide-clause-decided
returns-in-Err-Wide-clause-decided c =
    let t = c.args.table.now in
    let roots = c.args.roots.now in
    let ts = clause_at t roots in
    let limits = c.args.limits.now in
    let x = c.in_ok-search.search in
    let e = c.in_ok-search.ensures in
    let wide = c.in-Err-Wide.wide in
    let forms = rw c.in_default.is at c.in_ok-wide.ensures in
    let stays = rw c.in-Err-Wide.field-0-is at c.in-Err-Wide.ensures.same in
    let order = (rw c.in-Err-Wide.field-0-is at c.in-Err-Wide.ensures.wide) (asserting ts) [] (grows_to t roots limits x e) in
    IfOk-weaker c.overflowed-in-Err-Wide.result (IsOverflowedBy limits wide) (HasDecision c.grow.new.table ts limits)
    (λ d by. subst (λ (w : TableView). HasDecision w ts limits d) (sym stays.0) (decided_overflow t roots limits x e (c.empty_logs_are_right.ensures t) wide d by forms order)) c.overflowed-in-Err-Wide.ensures

pub answer-requires : goal.answer-requires
answer-requires c =
    let t = c.args.table.now in
    let roots = c.args.roots.now in
    let limits = c.args.limits.now in
    let x = c.in_ok-search.search in
    let e = c.in_ok-search.ensures in (
      refl,
      (
        roots_in t roots limits x e c.requires.roots c.grow.new.table c.grow.new.self c.in-Ok.ensures.grows,
        begun t roots limits x e c.requires.roots c.grow.new.table c.grow.new.self c.in-Ok.ensures.grows,
      ),
    )

pub returns-clause-decided : goal.returns-clause-decided
returns-clause-decided c =
    let forms = rw c.in_default.is at c.in_ok-wide.ensures in
    decided_answer c.args.table.now c.args.roots.now c.args.limits.now c.in_ok-search.search c.in_ok-search.ensures c.requires.roots c.grow.new.table c.grow.new.self c.in-Ok.ensures.grows
    c.answer.new.table c.answer.new.search c.in_ok-answer.answer forms c.is_within.ensures.learned c.in_ok-answer.ensures.answered
