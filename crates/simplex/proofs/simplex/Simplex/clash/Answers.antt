-- The reasons are held literals of watched atoms.
use Rattle.std.proofs.Common.{◌≡◌, List, Err, sym, subst}
use Rattle.spec_arithmetic.specs.Contradictions.{wide}
use Rattle.ratio128.specs.Meant.{overflow}
use Rattle.ratio128.specs.declared.wide.Wide.{Wide}
use Rattle.sat_budget.specs.Budgets.{StopsBy}
use Rattle.simplex_check.specs.Assignments.{IsBasisOf}
use Rattle.proof_log.specs.Theories.{terms_watched}
use Rattle.held_literals.specs.Room.{AreOverWatched}
use Rattle.simplex_explain.specs.declared.weighted.Weighted.{Weighted}
use Rattle.simplex_explain.specs.Reasons.{AreAtomReasons, AreHeld, Refutes}
use Rattle.simplex_explain.specs.Steps.{IsCause, judged}
use Rattle.simplex_explain.specs.BoundReasons.{OnReasonOverflow}
use Rattle.simplex_explain.proofs.HeldReasons.{infeasible}
use Rattle.simplex.specs.Views.{SimplexView, SimplexFits}
use Rattle.simplex.specs.Checks.{Case, OverflowsFound}
use Rattle.simplex.proofs.Judging.{AreRefuted, overflowed, refuted}
use Rattle.simplex.proofs.Reasoning.{found_weighs, found_adds}
use Rattle.simplex.proofs.Coming.{watched_atoms}
use Rattle.simplex.proofs.simplex.Simplex.clash.Goals as goal

pub returns-in-Err-Wide-clause-stops : goal.returns-in-Err-Wide-clause-stops
returns-in-Err-Wide-clause-stops g c =
    let v = c.args.self.now in
    let t = c.args.table.now in
    let is = c.requires.1.1.0 in
    let fits = subst SimplexFits c.self.view_is c.self.invariant.0 in
    let over = subst (λ (w : SimplexView). AreOverWatched w.theory.held w.theory.watched) c.self.view_is c.are_of_watched_terms.ensures.over in
    overflowed t (terms_watched t v.theory) v c.in-Err-Wide.wide c.stop_of.result
    (found_weighs t v is fits (terms_watched t v.theory) (watched_atoms t v over) c.args.outcome (overflow c.in-Err-Wide.wide) c.requires.1.1.1.1 (subst (OnReasonOverflow (OverflowsFound v c.args.outcome)) c.in-Err-Wide.field-0-is c.in-Err-Wide.ensures.wide))
    (subst (λ (w : Wide). StopsBy (λ s. (s.wide ≡ w) × IsBasisOf v.assignment s.basis) c.stop_of.result) c.in-Err-Wide.wide-is c.stop_of.ensures)

pub explain-requires : goal.explain-requires
explain-requires g c =
    let t = c.args.table.now in
    let v = c.args.self.now in
    let rs = c.in-Ok.reasons.items in
    let is : AreRefuted (terms_watched t v.theory) v t rs = refuted t v rs (subst SimplexFits c.self.view_is c.self.invariant.0)
    (subst (λ (w : SimplexView). AreOverWatched w.theory.held w.theory.watched) c.self.view_is c.are_of_watched_terms.ensures.over) c.requires.1.0 c.in-Ok.ensures.held
    (subst (λ (x : Case). Refutes x.table rs) c.requires.0 c.in-Ok.ensures.refutes) in (
      c.requires.1.1.1.0,
      (
        subst (λ (x : Case). AreAtomReasons (terms_watched x.table x.simplex.theory) t c.deref.result.now) (sym c.requires.0)
            (subst (λ (ws : List Weighted). AreAtomReasons (terms_watched t v.theory) t ws) (sym c.deref.ensures.value) is.watched),
        subst (Refutes t) (sym c.deref.ensures.value) is.refutes,
      ),
    )

pub returns-in-Ok-explain-clause-clash : goal.returns-in-Ok-explain-clause-clash
returns-in-Ok-explain-clause-clash g c =
    let t = c.args.table.now in
    let v = c.args.self.now in
    let rs = c.in-Ok.reasons.items in
    let is : AreRefuted (terms_watched t v.theory) v t rs = refuted t v rs (subst SimplexFits c.self.view_is c.self.invariant.0)
    (subst (λ (w : SimplexView). AreOverWatched w.theory.held w.theory.watched) c.self.view_is c.are_of_watched_terms.ensures.over) c.requires.1.0 c.in-Ok.ensures.held
    (subst (λ (x : Case). Refutes x.table rs) c.requires.0 c.in-Ok.ensures.refutes) in
    c.in-Ok-explain.ensures.clash v.theory.held (subst (AreHeld v.theory.held) (sym c.deref.ensures.value) is.held)

pub returns-in-Ok-explain-clause-infeasible : goal.returns-in-Ok-explain-clause-infeasible
returns-in-Ok-explain-clause-infeasible g c =
    let t = c.args.table.now in
    let v = c.args.self.now in
    let rs = c.in-Ok.reasons.items in
    let is : AreRefuted (terms_watched t v.theory) v t rs = refuted t v rs (subst SimplexFits c.self.view_is c.self.invariant.0)
    (subst (λ (w : SimplexView). AreOverWatched w.theory.held w.theory.watched) c.self.view_is c.are_of_watched_terms.ensures.over) c.requires.1.0 c.in-Ok.ensures.held
    (subst (λ (x : Case). Refutes x.table rs) c.requires.0 c.in-Ok.ensures.refutes) in
    infeasible t v.theory.held rs is.refutes is.held

pub returns-in-Err-Wide-explain-clause-stops : goal.returns-in-Err-Wide-explain-clause-stops
returns-in-Err-Wide-explain-clause-stops g c =
    let t = c.args.table.now in
    let v = c.args.self.now in
    let rs = c.in-Ok.reasons.items in
    let cause = subst (IsCause (judged t c.deref.result.now)) c.in-Err-Wide-explain.field-0-is c.in-Err-Wide-explain.ensures.cause in
    let own = c.requires.1.1.0 in
    let fits = subst SimplexFits c.self.view_is c.self.invariant.0 in
    let over = subst (λ (w : SimplexView). AreOverWatched w.theory.held w.theory.watched) c.self.view_is c.are_of_watched_terms.ensures.over in
    overflowed t (terms_watched t v.theory) v c.in-Err-Wide-explain.wide c.stop_of-in-Err-Wide-explain.result
    (found_adds t v own fits (terms_watched t v.theory) (watched_atoms t v over) c.args.outcome rs (overflow c.in-Err-Wide-explain.wide) c.requires.1.1.1.1 c.in-Ok.ensures.reasons (subst (λ (ws : List Weighted). judged t ws ≡ Err (wide (overflow c.in-Err-Wide-explain.wide))) c.deref.ensures.value cause))
    (subst (λ (w : Wide). StopsBy (λ s. (s.wide ≡ w) × IsBasisOf v.assignment s.basis) c.stop_of-in-Err-Wide-explain.result) c.in-Err-Wide-explain.wide-is c.stop_of-in-Err-Wide-explain.ensures)
