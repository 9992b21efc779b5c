-- From the beginning to an answer, where some term is a number.
use Rattle.std.proofs.Common.{ℕ, subst}
use Rattle.spec_sorts.specs.Subterms.{subterms_of}
use Rattle.term_core.proofs.TermsExtend.{Extends-trans}
use Rattle.search_loop.specs.Asking.{state}
use Rattle.solve_core.proofs.SearchAsked.{shared_kept}
use Rattle.solve_core.specs.Answering.{IsAnswered}
use Rattle.solve_core.proofs.SearchEnds.{answers_show}
use Rattle.solve_core.proofs.SearchRelated.{begun_for_related, begun_for_wider}
use Rattle.solve_core.proofs.SearchStops.{stopped_limit}
use Rattle.solve_core.proofs.answering.answer_numbers.Goals as goal

pub begin_with-requires : goal.begin_with-requires
begin_with-requires g c =
    let t = c.args.table.now in
    let s = c.relate_bounds.new.table in
    let u = c.truth_values.new.table in
    let y = c.relate_bounds.new.search in
    let e = c.truth_values.ensures in
    let b = begun_for_related g.asked t s c.args.search.now y c.in_ok-relate_bounds.ensures.related c.requires.0 in
    let laws = c.logs_hold_in_grown_tables.ensures in
    let theory = c.in_ok-theory.ensures in (
      begun_for_wider g.asked s u e.grown e.declared y (laws.right s u y.log b.begun.ready.right e.grown) (laws.same s u y.log b.begun.ready.right e.grown) b,
      (
        shared_kept t u (Extends-trans t s u c.relate_bounds.ensures.grown e.grown) (subterms_of g.asked) c.args.shared.now c.requires.1,
        (theory.empty, (theory.congruence, (theory.simplex, theory.came))),
      ),
    )

pub returns-in-Ok-clause-answered : goal.returns-in-Ok-clause-answered
returns-in-Ok-clause-answered g c =
    let limit = c.in_ok-relate_bounds.ensures.related.continues.limit in
    subst (λ (n : ℕ). IsAnswered g.asked n (state c.begin_with.new.table c.begin_with.new.search) c.in-Ok.answer) limit (rw c.in-Ok.is at c.begin_with.ensures.answers)

pub returns-clause-answered : goal.returns-clause-answered
returns-clause-answered g c =
    let w = c.begin_with.new.table in
    let z = c.begin_with.new.search in
    let stop = c.in-Err.stop in
    let limit = c.in_ok-relate_bounds.ensures.related.continues.limit in
    answers_show g.asked c.args.search.now.budget.limit (state w z) stop c.answer_to.result c.answer_to.ensures
    (stopped_limit g.asked c.relate_bounds.new.search.budget.limit c.args.search.now.budget.limit w z limit stop (rw c.in-Err.is at c.begin_with.ensures.answers))

pub returns-in-Ok-clause-grown : goal.returns-in-Ok-clause-grown
returns-in-Ok-clause-grown g c =
    let t = c.args.table.now in
    let s = c.relate_bounds.new.table in
    let u = c.truth_values.new.table in
    let w = c.begin_with.new.table in
    Extends-trans t s w c.relate_bounds.ensures.grown (Extends-trans s u w c.truth_values.ensures.grown c.begin_with.ensures.grown)

pub returns-clause-grown : goal.returns-clause-grown
returns-clause-grown g c =
    let t = c.args.table.now in
    let s = c.relate_bounds.new.table in
    let u = c.truth_values.new.table in
    let w = c.begin_with.new.table in
    Extends-trans t s w c.relate_bounds.ensures.grown (Extends-trans s u w c.truth_values.ensures.grown c.begin_with.ensures.grown)
