-- That the search goes on with the lemmas, and with each literal that one implies.
use Rattle.std.proofs.Common.{◌≡◌, ◌<◌, ◌∙◌, Bool, List, length, refl, sym, ap, subst}
use Rattle.std.specs.Prelude.{MatchBool}
use Rattle.spec_sorts.specs.Terms.{Term}
use Rattle.spec_sorts.specs.Literals.{Literal}
use Rattle.sat_budget.specs.Budgets.{BudgetView}
use Rattle.proof_log.specs.declared.premises.StepId.{StepId}
use Rattle.proof_log.specs.Logs.{Logged, AreStepsOf}
use Rattle.proof_log.specs.Theories.{TheoryView, terms_watched, literals_held}
use Rattle.search_loop.specs.declared.search.Search.{Search}
use Rattle.search_loop.specs.Search.{SearchFits}
use Rattle.search_loop.specs.Rounds.{Continues}
use Rattle.search_loop.specs.Asking.{IsAsked}
use Rattle.search_loop.proofs.SearchRounds.{continues_on}
use Rattle.search_loop.proofs.SearchTaken.{over_its, ready_its, continues_its, terms_its, literals_its, holds_more}
use Rattle.search_loop.proofs.search.Search.take_implied.Goals.{then-branch, else-branch}
use Rattle.search_loop.proofs.search.Search.take_implied.Goals as goal

pub implied-requires-clause-over : goal.implied-requires-clause-over
implied-requires-clause-over g c = over_its c.args.table.now c.args.self.now c.requires.going.ready (g.T.Theory.meaning c.args.theory.now).view c.requires.going.asked

pub steps-init : goal.steps-init
steps-init g c =
    let t = c.args.table.now in
    let x = c.args.self.now in
    let v = (g.T.Theory.meaning c.args.theory.now).view in
    let u = c.implied.new.table in
    let log = c.implied.new.log in
    let adds = c.in_ok-steps.ensures.0 in
    record {
      ready = ready_its t x c.requires.going.ready v c.requires.going.asked u log adds.derives;
      asked = subst (λ (w : TheoryView). IsAsked w (record x { log = log })) (sym adds.same) (record { keeps = c.requires.going.asked.keeps; terms = c.requires.going.asked.terms; fed = c.requires.going.asked.fed });
      continues = continues_its t x c.requires.going.ready v c.requires.going.asked u log adds.derives;
      budget = refl;
      steps = subst (AreStepsOf log) (sym c.deref-step-items.ensures.value) c.in_ok-steps.ensures.1;
      holds = refl;
    }

pub imply-requires-clause-ready : goal.imply-requires-clause-ready
imply-requires-clause-ready g c = c.steps.invariant.ready

pub imply-requires-clause-step : goal.imply-requires-clause-step
imply-requires-clause-step g c = c.steps.invariant.steps c.steps.step-index _ c.steps-test.true

pub steps-preserved : goal.steps-preserved
steps-preserved g c =
    let t = c.args.table.now in
    let x = c.args.self.now in
    let u = c.implied.new.table in
    let y = c.steps.self in
    let z = c.imply.new.self in
    let inv = c.steps.invariant in
    let after = (g.T.Theory.meaning c.implied.new.self).view in
    let items : List StepId = c.deref-step-items.result.now in
    let Holds : Bool → Search → Type 0 = λ b s. MatchBool b (length x.trail.literals < length s.trail.literals) (s ≡ record x { log = s.log }) in
    elim c.if-branch.branch [
      | then-branch w ↦
          let h = rw w.if-branch.true at c.in_ok-imply.ensures in
          let on : Search = record y { store = z.store; trail = z.trail } in
          record {
            ready = h.ready;
            asked = h.asked after inv.asked;
            continues = continues_on t u u x y z inv.continues h.continues;
            budget = ap (λ (s : Search). s.budget) {y = on} h.same ∙ inv.budget;
            steps = subst (λ (log : List Logged). AreStepsOf log items) (sym (ap (λ (s : Search). s.log) {y = on} h.same)) inv.steps;
            holds = subst (λ (b : Bool). Holds b z) (sym w.implied-is) (holds_more x y z c.steps.implied inv.holds h.more);
          }
      | else-branch w ↦
          let e = sym (rw w.if-branch.false at c.in_ok-imply.ensures) in
          record {
            ready = subst (SearchFits u) e inv.ready;
            asked = subst (IsAsked after) e inv.asked;
            continues = subst (Continues t u x) e inv.continues;
            budget = subst (λ (s : Search). s.budget ≡ x.budget) e inv.budget;
            steps = subst (λ (s : Search). AreStepsOf s.log items) e inv.steps;
            holds = subst (λ (b : Bool). Holds b z) (sym w.implied-is) (subst (Holds c.steps.implied) e inv.holds);
          }
    ]

pub returns : goal.returns
returns g c =
    let t = c.args.table.now in
    let x = c.args.self.now in
    let u = c.implied.new.table in
    let y = c.steps.self in
    let inv = c.steps.invariant in
    let v = (g.T.Theory.meaning c.args.theory.now).view in
    let after = g.T.Theory.meaning c.implied.new.self in
    let adds = c.in_ok-steps.ensures.0 in
    record {
      grown = adds.derives.table;
      declared = adds.derives.declared;
      takes = record {
        goes_on = record { ready = inv.ready; asked = inv.asked; with = adds.with };
        continues = inv.continues;
        budget = inv.budget;
        same = adds.same;
        came = λ ts n came. subst (λ (b : BudgetView). after.running.came_by u ts n b.exchanges) (sym inv.budget) (adds.came ts n x.budget.exchanges came);
        agrees = λ agrees.
            subst (λ (w : TheoryView). after.agrees (terms_watched u w) (literals_held u w)) (sym adds.same)
            (subst (λ (ls : List Literal). after.agrees (terms_watched u v) ls) (sym (literals_its t x c.requires.going.ready v c.requires.going.asked u c.implied.new.log adds.derives))
            (subst (λ (ts : List Term). after.agrees ts (literals_held t v)) (sym (terms_its t x c.requires.going.ready v c.requires.going.asked u c.implied.new.log adds.derives))
            (adds.agrees (terms_watched t v) (literals_held t v) agrees)));
        holds = inv.holds;
      };
    }
