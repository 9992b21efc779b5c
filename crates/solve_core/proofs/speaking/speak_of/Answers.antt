-- The search goes on, or why it does not.
use Rattle.std.proofs.Common.{Result, Ok, Err, ◌≡◌, ◌+◌, ◌-◌, length, List, [], take, drop, sym, ap, ◌∙◌, subst, arith}
use Rattle.std.specs.Prelude.{Vec, IfErr, IsErrAnd}
use Rattle.std.specs.declared.alloc.Global.{Global}
use Rattle.term_core.specs.declared.ids.TermId.{TermId}
use Rattle.term_core.specs.Tables.{TableView, clause_at}
use Rattle.term_core.proofs.TermsExtend.{Extends-trans}
use Rattle.search_loop.specs.Answered.{AreAnswered}
use Rattle.search_loop.specs.Asking.{state}
use Rattle.spec_derivations.specs.Orders.{whole_terms}
use Rattle.sat_budget.specs.declared.limits.Stop.{Stop}
use Rattle.sat_budget.specs.Budgets.{BudgetView, StopsBy}
use Rattle.simplex_check.specs.Assignments.{IsBasisOf}
use Rattle.simplex.specs.Views.{SimplexView}
use Rattle.simplex.specs.Coming.{CameBy}
use Rattle.search_loop.specs.declared.search.Search.{Search}
use Rattle.search_loop.specs.Paying.{counted_among}
use Rattle.solve_core.specs.Answering.{IsStoppedBy}
use Rattle.congruence.specs.Views.{theory_of}
use Rattle.congruence.specs.contracts.theory.CongruenceTheory.TheImpl.Laws as of_congruence
use Rattle.simplex.specs.contracts.theory.SimplexTheory.TheImpl.Laws as of_simplex
use Rattle.search_loop.proofs.SearchGrown.{ready_wider}
use Rattle.solve_core.proofs.SearchSpeaking.{after, comparable, linear, order_stops, resting, resting_facts, grows_to, grown_table, grown_search, grown_facts, grown_budget, grown_terms, keeps_asked, once, goes_on, watching_stops}
use Rattle.solve_core.proofs.speaking.speak_of.Goals as goal

pub equalities_of-requires : goal.equalities_of-requires
equalities_of-requires g c = record { pairs = comparable g.asked c.requires.0 c.args.table.now c.args.search.now c.args.theory.now c.args.pairs.now c.requires.1 }

pub grow-requires-clause-ready : goal.grow-requires-clause-ready
grow-requires-clause-ready g c =
    let t = c.args.table.now in
    let u = c.equalities_of.new.table in
    let x = c.args.search.now in
    let wider = c.equalities_of.ensures.wider in
    let ready = c.requires.1.searching.ready in
    c.rest.ensures.ready u (ready_wider t u wider.terms wider.declared x (c.logs_hold_in_grown_tables.ensures.right t u x.log ready.right wider.terms) (c.logs_hold_in_grown_tables.ensures.same t u x.log ready.right wider.terms) ready)

pub grow-requires-clause-answered_interface : goal.grow-requires-clause-answered_interface
grow-requires-clause-answered_interface g c =
    let u = c.equalities_of.new.table in
    let ids = c.in_ok-equalities.equalities.items in
    subst (λ (ns : List TermId). AreAnswered (clause_at u ns)) (sym c.deref.ensures.value)
    (linear g.asked c.requires.0 c.args.table.now c.args.search.now c.args.theory.now c.args.pairs.now c.requires.1 (clause_at u ids) c.in_ok-equalities.ensures.are)

pub returns-in_err-relate_bounds-clause-grown : goal.returns-in_err-relate_bounds-clause-grown
returns-in_err-relate_bounds-clause-grown g c =
    Extends-trans c.args.table.now c.equalities_of.new.table c.relate_bounds.new.table c.equalities_of.ensures.wider.terms (Extends-trans c.equalities_of.new.table c.grow.new.table c.relate_bounds.new.table c.grow.ensures.grown c.relate_bounds.ensures.grown)

pub returns-clause-grown : goal.returns-clause-grown
returns-clause-grown g c =
    Extends-trans c.args.table.now c.equalities_of.new.table c.relate_bounds.new.table c.equalities_of.ensures.wider.terms (Extends-trans c.equalities_of.new.table c.grow.new.table c.relate_bounds.new.table c.grow.ensures.grown c.relate_bounds.ensures.grown)

pub returns-in_err-watch_all-clause-grown : goal.returns-in_err-watch_all-clause-grown
returns-in_err-watch_all-clause-grown g c =
    Extends-trans c.args.table.now c.equalities_of.new.table c.relate_bounds.new.table c.equalities_of.ensures.wider.terms (Extends-trans c.equalities_of.new.table c.grow.new.table c.relate_bounds.new.table c.grow.ensures.grown c.relate_bounds.ensures.grown)

-- a clause of an order leaves the bound
pub returns-in-Err-Wide-clause-stopped : goal.returns-in-Err-Wide-clause-stopped
returns-in-Err-Wide-clause-stopped g c =
    let t = c.args.table.now in
    let u = c.equalities_of.new.table in
    let x = c.args.search.now in
    let v = c.args.theory.now in
    let pairs = c.args.pairs.now in
    let ids = c.requires.0 in
    let h = c.requires.1 in
    let wider = c.equalities_of.ensures.wider in
    let log = c.logs_hold_in_grown_tables.ensures.right t u x.log h.searching.ready.right wider.terms in
    let same = c.logs_hold_in_grown_tables.ensures.same t u x.log h.searching.ready.right wider.terms in
    let at = c.rest.new.self in
    let rested = c.rest.new.theory in
    let differ = c.ids_are_unique.ensures in
    let ready = c.rest.ensures.ready u (ready_wider t u wider.terms wider.declared x log same h.searching.ready) in
    let new = c.deref.result.now in
    let are = ap (clause_at u) c.deref.ensures.value ∙ c.in_ok-equalities.ensures.are in
    let stays = rw c.in-Err-Wide.field-0-is at c.in-Err-Wide.ensures.same in
    let order = (rw c.in-Err-Wide.field-0-is at c.in-Err-Wide.ensures.wide) (after g.asked ids t x v pairs h (clause_at u new) are) [] (grows_to g.asked ids t x v pairs h u wider log same at (c.rest.ensures.continues u) c.rest.ensures.budget new are) in
    let limit = ap (λ (b : BudgetView). b.limit) c.rest.ensures.budget in
    let by = subst (λ (z : SimplexView). StopsBy (λ s. (s.wide ≡ c.in-Err-Wide.wide) × IsBasisOf z.assignment s.basis) c.stop_of.result) c.simplex.ensures c.stop_of.ensures in
    let stopped = order_stops g.asked ids t x v pairs h (clause_at u new) are differ u at (resting g.asked ids t x v pairs h u wider log same at (c.rest.ensures.continues u) c.rest.ensures.budget new are)
    (resting_facts g.asked ids t x v pairs h u wider log same at (c.rest.ensures.continues u) c.rest.ensures.budget new are) ready.right c.rest.ensures.budget x.budget.limit limit rested.simplex
    (λ us n. c.rest.ensures.keeps.came t us n x.budget.exchanges) c.in-Err-Wide.wide order c.stop_of.result by in
    subst (λ (z : TableView). IsStoppedBy g.asked x.budget.limit (state z c.grow.new.self) c.stop_of.result) (sym stays.0) (subst (λ (z : Search). IsStoppedBy g.asked x.budget.limit (state u z) c.stop_of.result) (sym stays.1) stopped)

pub watch_all-requires-clause-once : goal.watch_all-requires-clause-once
watch_all-requires-clause-once g c =
    let t = c.args.table.now in
    let u = c.equalities_of.new.table in
    let x = c.args.search.now in
    let h = c.requires.1 in
    let wider = c.equalities_of.ensures.wider in
    let log = c.logs_hold_in_grown_tables.ensures.right t u x.log h.searching.ready.right wider.terms in
    let same = c.logs_hold_in_grown_tables.ensures.same t u x.log h.searching.ready.right wider.terms in
    once g.asked c.requires.0 t x c.args.theory.now c.args.pairs.now h u wider log same c.rest.new.self (c.rest.ensures.continues u) c.rest.ensures.budget c.deref.result.now (ap (clause_at u) c.deref.ensures.value ∙ c.in_ok-equalities.ensures.are)
    c.grow.new.table c.grow.new.self c.in-Ok.ensures.grows c.relate_bounds.new.table c.relate_bounds.new.search c.in_ok-relate_bounds.ensures.related c.deref-2.result.now c.deref-2.ensures.value c.len-from.result (omega (arith, c.rest.new.self.terms.ok.0, c.len-from.ensures))
    (theory_of c.rest.new.theory.congruence) c.rest.ensures.asked

pub watch_all-requires-clause-with : goal.watch_all-requires-clause-with
watch_all-requires-clause-with g c =
    let t = c.args.table.now in
    let r = c.relate_bounds.new.table in
    let grows = Extends-trans t c.equalities_of.new.table r c.equalities_of.ensures.wider.terms (Extends-trans c.equalities_of.new.table c.grow.new.table r c.grow.ensures.grown c.relate_bounds.ensures.grown) in
    let goes = c.rest.ensures.keeps.with t (c.requires.1.searching.congruence, c.requires.1.searching.simplex) in
    ((of_congruence.lawful-law c.rest.new.theory.congruence).grown t r grows goes.0, (of_simplex.lawful-law c.rest.new.theory.simplex).grown t r grows goes.1)

pub returns-clause-goes_on : goal.returns-clause-goes_on
returns-clause-goes_on g c shared h =
    let t = c.args.table.now in
    let u = c.equalities_of.new.table in
    let r = c.relate_bounds.new.table in
    let x = c.args.search.now in
    let y = c.relate_bounds.new.search in
    let v = c.args.theory.now in
    let at = c.rest.new.self in
    let rested = c.rest.new.theory in
    let later = c.watch_all.new.theory in
    let pairs = c.args.pairs.now in
    let wider = c.equalities_of.ensures.wider in
    let log = c.logs_hold_in_grown_tables.ensures.right t u x.log h.searching.ready.right wider.terms in
    let same = c.logs_hold_in_grown_tables.ensures.same t u x.log h.searching.ready.right wider.terms in
    let new = c.deref.result.now in
    let are = ap (clause_at u) c.deref.ensures.value ∙ c.in_ok-equalities.ensures.are in
    let back = c.rest.ensures.continues u in
    let unspent = c.rest.ensures.budget in
    let grown_by = c.in-Ok.ensures.grows in
    let related = c.in_ok-relate_bounds.ensures.related in
    let grows = grown_table g.asked shared t x v pairs h u wider log same at back unspent new are c.grow.new.table c.grow.new.self grown_by r y related in
    let terms = c.deref-2.result.now in
    let from = c.len-from.result in
    let count : from ≡ length at.terms.items = omega (arith, at.terms.ok.0, c.len-from.ensures) in
    let came = take (length terms - from) (drop from terms) in
    let goes = c.rest.ensures.keeps.with t (h.searching.congruence, h.searching.simplex) in
    goes_on g.asked shared t x v pairs h (clause_at u new) are r grows y came
    (grown_terms g.asked shared t x v pairs h u wider log same at back unspent new are c.grow.new.table c.grow.new.self grown_by r y related terms c.deref-2.ensures.value from count)
    (grown_search g.asked shared t x v pairs h u wider log same at back unspent new are c.grow.new.table c.grow.new.self grown_by r y related)
    (grown_facts g.asked shared t x v pairs h u wider log same at back unspent new are c.grow.new.table c.grow.new.self grown_by r y related)
    (grown_budget g.asked shared t x v pairs h u wider log same at back unspent new are c.grow.new.table c.grow.new.self grown_by r y related)
    related.ready later
    (keeps_asked g.asked shared t x v pairs h u wider log same at back unspent new are c.grow.new.table c.grow.new.self grown_by r y related terms c.deref-2.ensures.value from count
    (theory_of rested.congruence) (theory_of later.congruence) c.rest.ensures.asked c.rest.ensures.level c.in_ok-watch_all.ensures.watches)
    c.watch_all.ensures.with.0 c.watch_all.ensures.with.1
    (λ us n es among by. c.in_ok-watch_all.ensures.came us n es among ((of_simplex.lawful-law rested.simplex).came_grown t r grows goes.1 us n es (c.rest.ensures.keeps.came t us n es by)))

-- what is given on is the stop
given_on : (r : Result (Unit {0}) Stop) (P : Stop → Type 0) (stop : Stop) → IsErrAnd r (λ e. e ≡ stop) → P stop → IfErr r P
given_on (Ok a) P stop is h = tt
given_on (Err e) P stop is h = subst P (sym is) h

pub returns-in_err-watch_all-clause-stopped : goal.returns-in_err-watch_all-clause-stopped
returns-in_err-watch_all-clause-stopped g c =
    let t = c.args.table.now in
    let u = c.equalities_of.new.table in
    let r = c.relate_bounds.new.table in
    let x = c.args.search.now in
    let y = c.relate_bounds.new.search in
    let v = c.args.theory.now in
    let at = c.rest.new.self in
    let rested = c.rest.new.theory in
    let later = c.watch_all.new.theory in
    let pairs = c.args.pairs.now in
    let ids = c.requires.0 in
    let h = c.requires.1 in
    let wider = c.equalities_of.ensures.wider in
    let log = c.logs_hold_in_grown_tables.ensures.right t u x.log h.searching.ready.right wider.terms in
    let same = c.logs_hold_in_grown_tables.ensures.same t u x.log h.searching.ready.right wider.terms in
    let new = c.deref.result.now in
    let are = ap (clause_at u) c.deref.ensures.value ∙ c.in_ok-equalities.ensures.are in
    let back = c.rest.ensures.continues u in
    let unspent = c.rest.ensures.budget in
    let grown_by = c.in-Ok.ensures.grows in
    let related = c.in_ok-relate_bounds.ensures.related in
    let grows = grown_table g.asked ids t x v pairs h u wider log same at back unspent new are c.grow.new.table c.grow.new.self grown_by r y related in
    let terms = c.deref-2.result.now in
    let from = c.len-from.result in
    let count : from ≡ length at.terms.items = omega (arith, at.terms.ok.0, c.len-from.ensures) in
    let came = take (length terms - from) (drop from terms) in
    let goes = c.rest.ensures.keeps.with t (h.searching.congruence, h.searching.simplex) in
    let budget = grown_budget g.asked ids t x v pairs h u wider log same at back unspent new are c.grow.new.table c.grow.new.self grown_by r y related in
    let watched = (theory_of rested.congruence).watched in
    let stop = c.in_err-watch_all.field-0.0 in
    let stops = c.in_err-watch_all.ensures.stops in
    let us = whole_terms (after g.asked ids t x v pairs h (clause_at u new) are) in
    given_on c.from_residual-in_err-watch_all.result (IsStoppedBy g.asked x.budget.limit (state r y)) stop c.from_residual-in_err-watch_all.ensures.1
    (watching_stops g.asked ids t x v pairs h (clause_at u new) are r grows y came
    (grown_terms g.asked ids t x v pairs h u wider log same at back unspent new are c.grow.new.table c.grow.new.self grown_by r y related terms c.deref-2.ensures.value from count)
    (grown_search g.asked ids t x v pairs h u wider log same at back unspent new are c.grow.new.table c.grow.new.self grown_by r y related)
    (grown_facts g.asked ids t x v pairs h u wider log same at back unspent new are c.grow.new.table c.grow.new.self grown_by r y related)
    budget related.ready c.ids_are_unique-2.ensures later.simplex x.budget.limit (ap (λ (b : BudgetView). b.limit) budget) watched
    (c.rest.ensures.asked.terms ∙ ap (λ (ns : Vec TermId Global). ns.items) back.terms) (stops.0 + 1) (λ n. λ (e : Unit {0}). CameBy r us (n + counted_among r came) x.budget.exchanges later.simplex) stop
    (λ n among by. c.in_err-watch_all.ensures.came us n x.budget.exchanges among ((of_simplex.lawful-law rested.simplex).came_grown t r grows goes.1 us n x.budget.exchanges (c.rest.ensures.keeps.came t us n x.budget.exchanges by)))
    stops.3)
