-- Literals are tried, no more than there are atoms of linear arithmetic, and the search goes on or ends.
use Rattle.std.proofs.Common.{◌+◌, ◌≤◌, length, refl, ap, subst, arith}
use Rattle.term_core.proofs.TermsExtend.{Extends-self}
use Rattle.simplex.specs.Coming.{CameBy}
use Rattle.search_loop.specs.declared.cdcl.End.TheVariants.{Refuted, Stopped}
use Rattle.search_loop.specs.declared.cdcl.Answer.TheVariants.{Unsat, Unknown}
use Rattle.search_loop.specs.Asking.{state}
use Rattle.search_loop.specs.Paying.{counted_among, paid_by, IsPaid}
use Rattle.solve_core.specs.Answering.{IsStoppedBy}
use Rattle.solve_core.proofs.SearchRests.{tried_on, ended_in, stopped_in, handed_answers}
use Rattle.solve_core.proofs.answering.try_and_search.Goals as goal

pub returns-in_err-orders-clause-grown : goal.returns-in_err-orders-clause-grown
returns-in_err-orders-clause-grown g c = Extends-self c.args.table.now

pub returns-in_err-tried-clause-answers : goal.returns-in_err-tried-clause-answers
returns-in_err-tried-clause-answers g c =
    let t = c.args.table.now in
    let x = c.args.search.now in
    let v = c.args.theory.now in
    let w = c.try_all.new.table in
    let y = c.try_all.new.self in
    let z = c.try_all.new.theory in
    let ids = c.args.shared.now in
    let h = c.requires.0.0 in
    let n = length c.deref-2.result.now in
    let few : 0 + n ≤ counted_among t x.terms.items = omega (arith, c.in_ok-orders.ensures, ap length c.deref-2.ensures.value, ap (counted_among t) c.deref.ensures.value) in
    let stop = c.in_err-tried.field-0.0 in
    handed_answers _ (IsStoppedBy g.asked x.budget.limit (state w y)) c.from_residual-in_err-tried.result stop c.from_residual-in_err-tried.ensures.1
    (stopped_in g.asked ids t w x y v z h c.ids_are_unique.ensures x.budget.limit refl _ _ stop c.in_err-tried.ensures.stopped c.in_err-tried.ensures.stops (0 + n) few
    (λ us among. c.in_err-tried.ensures.came us 0 (subst (λ r. IsPaid (λ m. CameBy t us m x.budget.exchanges v.simplex) (paid_by t x r 0)) c.requires.0.1 (h.paid us among))))

pub search_with-requires : goal.search_with-requires
search_with-requires g c =
    let t = c.args.table.now in
    let x = c.args.search.now in
    let v = c.args.theory.now in
    let w = c.try_all.new.table in
    let y = c.try_all.new.self in
    let z = c.try_all.new.theory in
    let ids = c.args.shared.now in
    let h = c.requires.0.0 in
    let n = length c.deref-2.result.now in
    let few : 0 + n ≤ counted_among t x.terms.items = omega (arith, c.in_ok-orders.ensures, ap length c.deref-2.ensures.value, ap (counted_among t) c.deref.ensures.value) in
    let goes = rw c.in_default.is at c.in_ok-tried.ensures.goes in
    tried_on g.asked ids t w x y v z h goes.1 (0 + n) few goes.0.ready goes.0.asked goes.0.with.0 goes.0.with.1
    (λ us among. rw c.in_default.is at (c.in_ok-tried.ensures.came us 0 (subst (λ r. IsPaid (λ m. CameBy t us m x.budget.exchanges v.simplex) (paid_by t x r 0)) c.requires.0.1 (h.paid us among))))

pub returns-in-Refuted-clause-answers : goal.returns-in-Refuted-clause-answers
returns-in-Refuted-clause-answers g c =
    let t = c.args.table.now in
    let x = c.args.search.now in
    let v = c.args.theory.now in
    let w = c.try_all.new.table in
    let y = c.try_all.new.self in
    let z = c.try_all.new.theory in
    let ids = c.args.shared.now in
    let h = c.requires.0.0 in
    let n = length c.deref-2.result.now in
    let few : 0 + n ≤ counted_among t x.terms.items = omega (arith, c.in_ok-orders.ensures, ap length c.deref-2.ensures.value, ap (counted_among t) c.deref.ensures.value) in
    let goes = rw (c.in-Some.is, c.in-Refuted.is) at c.in_ok-tried.ensures.goes in
    ended_in g.asked ids t w x y v z h c.try_all.ensures.grown c.in_ok-tried.ensures.terms c.ids_are_unique.ensures x.budget.limit c.in_ok-tried.ensures.limit c.in_ok-tried.ensures.right (Refuted c.in-Refuted.step) (Unsat c.in-Refuted.step)
    goes (0 + n) few
    (λ us among. rw (c.in-Some.is, c.in-Refuted.is) at (c.in_ok-tried.ensures.came us 0 (subst (λ r. IsPaid (λ m. CameBy t us m x.budget.exchanges v.simplex) (paid_by t x r 0)) c.requires.0.1 (h.paid us among))))

pub returns-in-Stopped-clause-answers : goal.returns-in-Stopped-clause-answers
returns-in-Stopped-clause-answers g c =
    let t = c.args.table.now in
    let x = c.args.search.now in
    let v = c.args.theory.now in
    let w = c.try_all.new.table in
    let y = c.try_all.new.self in
    let z = c.try_all.new.theory in
    let ids = c.args.shared.now in
    let h = c.requires.0.0 in
    let n = length c.deref-2.result.now in
    let few : 0 + n ≤ counted_among t x.terms.items = omega (arith, c.in_ok-orders.ensures, ap length c.deref-2.ensures.value, ap (counted_among t) c.deref.ensures.value) in
    let goes = rw (c.in-Some.is, c.in-Stopped.is) at c.in_ok-tried.ensures.goes in
    ended_in g.asked ids t w x y v z h c.try_all.ensures.grown c.in_ok-tried.ensures.terms c.ids_are_unique.ensures x.budget.limit c.in_ok-tried.ensures.limit c.in_ok-tried.ensures.right (Stopped c.in-Stopped.reason) (Unknown c.in-Stopped.reason)
    goes (0 + n) few
    (λ us among. rw (c.in-Some.is, c.in-Stopped.is) at (c.in_ok-tried.ensures.came us 0 (subst (λ r. IsPaid (λ m. CameBy t us m x.budget.exchanges v.simplex) (paid_by t x r 0)) c.requires.0.1 (h.paid us among))))
