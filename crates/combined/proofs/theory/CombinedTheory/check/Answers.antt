-- The second is asked over the table and the log of the first.
use Rattle.std.proofs.Common.{rules, ◌≡◌, suc, List, Ok, ap, sym, ◌∙◌, subst, arith}
use Rattle.std.specs.Prelude.{IfErr}
use Rattle.spec_sorts.specs.Terms.{Term}
use Rattle.term_core.specs.Tables.{TableView}
use Rattle.sat_budget.specs.Budgets.{BudgetView, StopsBy}
use Rattle.proof_log.specs.declared.theory.Verdict.{Verdict}
use Rattle.proof_log.specs.Theories.{Derived, terms_watched, literals_held}
use Rattle.congruence.specs.Views.{theory_of}
use Rattle.congruence.specs.contracts.theory.CongruenceTheory.TheImpl as of_congruence
use Rattle.congruence.specs.contracts.theory.CongruenceTheory.TheImpl.Laws as laws_of_congruence
use Rattle.simplex.specs.contracts.theory.SimplexTheory.TheImpl as of_simplex
use Rattle.simplex.specs.contracts.theory.SimplexTheory.TheImpl.Laws as laws_of_simplex
use Rattle.simplex.specs.Checks.{Suits}
use Rattle.simplex.specs.Coming.{CameBy}
use Rattle.simplex.proofs.Coming.{came_more}
use Rattle.combined.specs.Views.{CombinedView}
use Rattle.combined.proofs.Checks.{ChecksOver, grew, second_answers}
use Rattle.combined.proofs.theory.CombinedTheory.check.Goals as goal

pub returns-in-Clash : goal.returns-in-Clash
returns-in-Clash c =
    let t = c.args.table.now in
    let u = c.check.new.table in
    let s = c.self.inside.simplex in
    let x = theory_of c.self.inside.congruence in
    let old : Derived = record { table = t; log = c.args.log.now } in
    let new : Derived = record { table = u; log = c.check.new.log } in
    let suits : Suits s t = subst (λ (v : CombinedView). Suits v.simplex t) (sym c.self.view_is) c.requires.with.1 in
    let lawful = laws_of_simplex.lawful-law s in
    let grown = grew _ _ x old new c.check.result c.check.ensures.checks in
    record {
      with = (c.check.ensures.with, lawful.grown t u grown suits);
      same = search rules;
      budget = c.check.ensures.budget;
      checks = search rules;
      came = λ ts n came.
          let es = c.args.budget.now.exchanges in
          let before = subst (λ (v : CombinedView). CameBy t ts n es v.simplex) (sym c.self.view_is) came in
          subst (λ (b : BudgetView). CameBy u ts (suc n) b.exchanges s) (sym c.check.ensures.kept)
          (came_more u ts n (suc n) es s (omega arith) (lawful.came_grown t u grown suits ts n es before));
      stops = tt;
    }

pub returns-in-Fine : goal.returns-in-Fine
returns-in-Fine c =
    let t = c.args.table.now in
    let s = c.self.inside.simplex in
    let u = c.check-in-Fine.new.self in
    let v = theory_of c.args.self.now.congruence in
    let w = c.check-in-Fine.new.table in
    let old : Derived = record { table = t; log = c.args.log.now } in
    let same : Derived = record { table = c.check.new.table; log = c.check.new.log } in
    let new : Derived = record { table = w; log = c.check-in-Fine.new.log } in
    let nothing = c.in_ok-step.ensures.nothing_came (ap Ok c.in-Fine.is) in
    let view : s.theory ≡ v = sym c.self.invariant ∙ ap (λ (x : CombinedView). theory_of x.congruence) c.self.view_is in
    let agrees = (of_congruence.ghosts.meaning c.check.new.self).agrees in
    let refuses = (of_congruence.ghosts.meaning c.self.inside.congruence).refuses in
    let arithmetic = of_simplex.ghosts.meaning u in
    let fine = (subst (λ (x : Verdict). ChecksOver agrees refuses (theory_of c.self.inside.congruence) old (Ok x) same) c.in-Fine.is c.in_ok-step.ensures.checks).0 in
    record {
      with = (
        (laws_of_congruence.lawful-law c.check.new.self).grown c.check.new.table w (grew _ _ s.theory same new c.check-in-Fine.result c.check-in-Fine.ensures.checks) c.check.ensures.with,
        c.check-in-Fine.ensures.with,
      );
      same = search rules;
      budget = search rules;
      checks = second_answers agrees refuses arithmetic.agrees (of_simplex.ghosts.meaning s).refuses v s.theory old same new c.check-in-Fine.result view (λ i. record { table = nothing.0 i; log = nothing.1 i })
          (subst (λ (x : CombinedView). agrees (terms_watched t (theory_of x.congruence)) (literals_held t (theory_of x.congruence))) c.self.view_is fine) c.check-in-Fine.ensures.checks;
      came = λ ts n came.
          let before = subst (λ (v : CombinedView). CameBy t ts n c.args.budget.now.exchanges v.simplex) (sym c.self.view_is) came in
          c.check-in-Fine.ensures.came ts n (subst (λ (b : BudgetView). CameBy c.check.new.table ts n b.exchanges s) (sym c.check.ensures.kept)
          (subst (λ (u : TableView). CameBy u ts n c.args.budget.now.exchanges s) (sym nothing.0) before));
      stops = subst (λ (ts : List Term). IfErr c.check-in-Fine.result (StopsBy (arithmetic.running.may_overflow w ts)))
          (λ i. terms_watched (nothing.0 i) (view i)) c.check-in-Fine.ensures.stops;
    }
