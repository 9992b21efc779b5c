-- That propagation and the theory's check leave all as it should be.
use Rattle.std.specs.Prelude.{Ok}
use Rattle.std.proofs.Common.{rules, ◌+◌, ◌≤◌, ◌∙◌, ℕ, List, Contains, refl, sym, ap, subst, arith}
use Rattle.spec_sorts.specs.Terms.{Term}
use Rattle.spec_sorts.specs.Literals.{Literal}
use Rattle.term_core.specs.declared.ids.TermId.{TermId}
use Rattle.term_core.specs.Tables.{TableView, Extends, declared_in}
use Rattle.term_core.proofs.TermsExtend.{Extends-self}
use Rattle.sat_budget.specs.declared.limits.Stop.{Stop}
use Rattle.sat_budget.specs.declared.limits.Strain.{Strain}
use Rattle.sat_budget.specs.Budgets.{BudgetView, StopsBy}
use Rattle.proof_log.specs.Theories.{TheoryView, Derived, IsTheoryOver, terms_watched, literals_held, Checks, paid_after}
use Rattle.search_loop.proofs.SearchReasons.{clash_is}
use Rattle.search_loop.proofs.SearchTheories.{fed}
use Rattle.search_loop.specs.Asking.{HasStopped, OnStop, state}
use Rattle.search_loop.specs.Paying.{counted_held, atoms_of, IsPaid}
use Rattle.search_loop.proofs.SearchPays.{few_held, few_asked}
use Rattle.search_loop.proofs.SearchRounds.{propagated}
use Rattle.search_loop.proofs.SearchSpends.{handed_on, came_handed_on, came_at_memory, on_stop}
use Rattle.search_loop.proofs.SearchLooks.{looked_after, fed_within, front_held, watches_held, is_over, stopped_checked, looks}
use Rattle.search_loop.proofs.search.Search.look.Goals as goal

pub feed-requires-clause-from : goal.feed-requires-clause-from
feed-requires-clause-from g c =
    let x = c.args.self.now in
    let p = c.propagate.ensures in
    fed_within c.args.table.now x c.requires.ready (g.T.Theory.meaning c.args.theory.now).view c.requires.asked c.is_sound.ensures.leveled.levels_paired c.propagate.new.self c.propagate.new.trail p.same p.seen
    (c.reasons_stay_right.ensures.propagated x.store x.trail c.propagate.new.trail c.requires.ready.implied p.adds) p.adds

pub feed-requires-clause-front : goal.feed-requires-clause-front
feed-requires-clause-front g c =
    let x = c.args.self.now in
    let p = c.propagate.ensures in
    front_held c.args.table.now x c.requires.ready (g.T.Theory.meaning c.args.theory.now).view c.requires.asked c.is_sound.ensures.leveled.levels_paired c.propagate.new.self c.propagate.new.trail p.same p.seen
    (c.reasons_stay_right.ensures.propagated x.store x.trail c.propagate.new.trail c.requires.ready.implied p.adds) p.adds

pub feed-requires-clause-watched : goal.feed-requires-clause-watched
feed-requires-clause-watched g c =
    let x = c.args.self.now in
    let p = c.propagate.ensures in
    watches_held c.args.table.now x c.requires.ready (g.T.Theory.meaning c.args.theory.now).view c.requires.asked c.is_sound.ensures.leveled.levels_paired c.propagate.new.self c.propagate.new.trail p.same p.seen
    (c.reasons_stay_right.ensures.propagated x.store x.trail c.propagate.new.trail c.requires.ready.implied p.adds) p.adds

pub check-requires-clause-over : goal.check-requires-clause-over
check-requires-clause-over g c =
    let x = c.args.self.now in
    let p = c.propagate.ensures in
    subst (IsTheoryOver c.args.table.now) (sym c.feed.ensures.holds)
    (is_over c.args.table.now x c.requires.ready (g.T.Theory.meaning c.args.theory.now).view c.requires.asked c.is_sound.ensures.leveled.levels_paired c.propagate.new.self c.propagate.new.trail p.same p.seen
    (c.reasons_stay_right.ensures.propagated x.store x.trail c.propagate.new.trail c.requires.ready.implied p.adds) p.adds)

-- propagation changes neither table nor log, and the theory holds what it did
pub returns-in_err-step : goal.returns-in_err-step
returns-in_err-step g c =
    let t = c.args.table.now in
    let x = c.args.self.now in
    let v = (g.T.Theory.meaning c.args.theory.now).view in
    record {
      grown = Extends-self t;
      declared = refl;
      with = search rules;
      looks = search rules;
      learned = refl;
      came = λ ts n h. (n, refl, few_asked t x c.requires.ready v c.requires.asked c.ids_are_unique.ensures c.is_sound.ensures.once, came_at_memory _ _ c.from_residual.result c.from_residual.ensures.1);
      stops = search rules;
      stopped = search rules;
    }

pub returns-in-Clash : goal.returns-in-Clash
returns-in-Clash g c =
    let t = c.args.table.now in
    let x = c.args.self.now in
    let v = (g.T.Theory.meaning c.args.theory.now).view in
    let p = c.propagate.ensures in
    let s = c.propagate.new.self in
    let w = c.propagate.new.trail in
    let r = c.requires.ready in
    let implied = c.reasons_stay_right.ensures.propagated x.store x.trail w r.implied p.adds in
    let ends = rw c.in-Clash.is at c.in_ok-step.ensures.ends in
    record {
      grown = Extends-self t;
      declared = refl;
      with = c.requires.with;
      looks = (
        looked_after t x r v c.requires.asked c.is_sound.ensures.leveled.levels_paired s w p.same p.seen implied p.adds,
        clash_is t c.ids_are_unique.ensures x.log x.store r.derives w.literals c.in-Clash.step ends,
      );
      learned = refl;
      came = λ ts n h. (n, refl, few_asked t x r v c.requires.asked c.ids_are_unique.ensures c.is_sound.ensures.once, (n, omega arith, h));
      stops = tt;
      stopped = tt;
    }

pub returns : goal.returns
returns g c =
    let t = c.args.table.now in
    let x = c.args.self.now in
    let v = (g.T.Theory.meaning c.args.theory.now).view in
    let p = c.propagate.ensures in
    let s = c.propagate.new.self in
    let w = c.propagate.new.trail in
    let r = c.requires.ready in
    let u = c.check.new.table in
    let log = c.check.new.log in
    let ends = rw c.in_default.is at c.in_ok-step.ensures.ends in
    let agrees : List Term → List Literal → Type 0 = (g.T.Theory.meaning c.check.new.self).agrees in
    let refuses : List Term → List Literal → Type 0 = (g.T.Theory.meaning c.feed.new.theory).refuses in
    let implied = c.reasons_stay_right.ensures.propagated x.store x.trail w r.implied p.adds in
    let checks = subst (λ (z : TheoryView). Checks (agrees (terms_watched t z) (literals_held t z)) (refuses (terms_watched t z) (literals_held t z)) z (record { table = t; log = x.log }) (Ok c.in_ok-verdict.verdict) (record { table = u; log = log }))
    c.feed.ensures.holds c.in_ok-verdict.ensures.checks in
    let looks_so = looks t x r v c.requires.asked c.is_sound.ensures.leveled.levels_paired s w p.same p.seen implied p.adds u log c.check.new.budget c.check.ensures.budget
    (λ grown. c.logs_hold_in_grown_tables.ensures.same t u x.log r.right grown) agrees (refuses (terms_watched t (fed v w.literals)) (literals_held t (fed v w.literals))) ends c.len-self.result c.len-self.ensures
    (g.T.Theory.meaning c.check.new.self).view (c.check.ensures.same ∙ c.feed.ensures.holds) c.in_ok-verdict.verdict checks in
    let few : counted_held t w.literals ≤ atoms_of t x = few_held t x r c.ids_are_unique.ensures w.literals c.is_sound-2.ensures.once (λ l i.
    subst (λ (ids : List TermId). Contains ids l.term) c.requires.asked.terms
    (watches_held t x r v c.requires.asked c.is_sound.ensures.leveled.levels_paired s w p.same p.seen implied p.adds l i)) in
    let held = ap (λ (y : TheoryView). y.held) c.check.ensures.same in
    record {
      grown = search rules;
      declared = search rules;
      with = c.check.ensures.with;
      looks = looks_so;
      learned = ap (λ (b : BudgetView). b.learned) c.check.ensures.budget.1;
      came = λ ts n h.
          let z = c.feed.ensures.came t ts n x.budget.exchanges c.requires.with h in (
            z.0,
            z.2 ∙ ap (λ ls. n + counted_held t ls) (sym held),
            subst (λ ls. counted_held t ls ≤ atoms_of t x) (sym (held ∙ ap (λ (y : TheoryView). y.held) c.feed.ensures.holds)) few,
            (paid_after c.in_ok-verdict.verdict z.0, omega arith, c.in_ok-verdict.ensures.came ts z.0 z.1),
          );
      stops = tt;
      stopped = tt;
    }

pub returns-in_err-verdict : goal.returns-in_err-verdict
returns-in_err-verdict g c =
    let t = c.args.table.now in
    let x = c.args.self.now in
    let v = (g.T.Theory.meaning c.args.theory.now).view in
    let p = c.propagate.ensures in
    let s = c.propagate.new.self in
    let w = c.propagate.new.trail in
    let r = c.requires.ready in
    let b = c.check.new.budget in
    let n = c.len-self.result in
    let u = c.check.new.table in
    let log = c.check.new.log in
    let after = g.T.Theory.meaning c.check.new.self in
    let v2 = after.view in
    let stop = c.in_err-verdict.field-0.0 in
    let implied = c.reasons_stay_right.ensures.propagated x.store x.trail w r.implied p.adds in
    let few : counted_held t w.literals ≤ atoms_of t x = few_held t x r c.ids_are_unique.ensures w.literals c.is_sound-2.ensures.once (λ l i.
    subst (λ (ids : List TermId). Contains ids l.term) c.requires.asked.terms
    (watches_held t x r v c.requires.asked c.is_sound.ensures.leveled.levels_paired s w p.same p.seen implied p.adds l i)) in
    let held = ap (λ (y : TheoryView). y.held) c.check.ensures.same in
    let may_overflow : List Term → Strain → Type 0 = after.running.may_overflow u in
    let shown : TableView → TheoryView → Stop → Type 0 = λ u v stop. StopsBy (may_overflow (terms_watched u v)) stop in
    let there : HasStopped (state t x) (state t (record (propagated x s w x.decider) { log = x.log; fed = n; budget = b })) (fed v w.literals) =
    stopped_checked t x r v c.requires.asked c.is_sound.ensures.leveled.levels_paired s w p.same p.seen implied p.adds b c.check.ensures.budget n in
    let moved : HasStopped (state t x) (state u (record (propagated x s w x.decider) { log = log; fed = n; budget = b })) v2 =
    subst (HasStopped (state t x) (state u (record (propagated x s w x.decider) { log = log; fed = n; budget = b }))) (sym (c.check.ensures.same ∙ c.feed.ensures.holds))
    (subst (λ (d : Derived). HasStopped (state t x) (state d.table (record (propagated x s w x.decider) { log = d.log; fed = n; budget = b })) (fed v w.literals)) (sym c.in_err-verdict.ensures.checks) there) in
    let P : Type 0 = after.goes_with u × HasStopped (state t x) (state u (record (propagated x s w x.decider) { log = log; fed = n; budget = b })) v2 in
    record {
      grown = subst (λ (u : TableView). Extends t u) (sym (ap (λ (d : Derived). d.table) c.in_err-verdict.ensures.checks)) (Extends-self t);
      declared = ap (λ (d : Derived). declared_in d.table) c.in_err-verdict.ensures.checks;
      with = search rules;
      looks = search rules;
      learned = ap (λ (b : BudgetView). b.learned) c.check.ensures.budget.1;
      came = λ ts n h.
          let z = c.feed.ensures.came t ts n x.budget.exchanges c.requires.with h in
          let es = c.check.new.budget.exchanges in
          let came : ℕ → Type 0 = λ m. after.running.came_by u ts m es in
          let stopped : Type 0 = after.running.stopped_by u ts z.0 es in (
            z.0,
            z.2 ∙ ap (λ ls. n + counted_held t ls) (sym held),
            subst (λ ls. counted_held t ls ≤ atoms_of t x) (sym (held ∙ ap (λ (y : TheoryView). y.held) c.feed.ensures.holds)) few,
            came_handed_on (λ verdict. came (paid_after verdict z.0)) (λ verdict. IsPaid came (paid_after verdict z.0)) stopped stopped
                c.from_residual-in_err-verdict.result stop c.from_residual-in_err-verdict.ensures.1 (λ s. s)
                (c.in_err-verdict.ensures.came ts z.0 z.1),
          );
      stops = handed_on (shown u v2) c.from_residual-in_err-verdict.result stop c.from_residual-in_err-verdict.ensures.1
          (subst (λ (v : TheoryView). shown u v stop) (sym c.check.ensures.same)
          (subst (λ (u : TableView). shown u (g.T.Theory.meaning c.feed.new.theory).view stop) (sym (ap (λ (d : Derived). d.table) c.in_err-verdict.ensures.checks)) c.in_err-verdict.ensures.stops));
      stopped = handed_on (OnStop P) c.from_residual-in_err-verdict.result stop c.from_residual-in_err-verdict.ensures.1 (on_stop P (c.check.ensures.with, moved) stop);
    }
