-- The bounds are those that held literals state.
use Rattle.std.proofs.Common.{IfErr, IfOk, sym, ◌∙◌, subst}
use Rattle.simplex_check.specs.declared.check.CheckOutcome.TheVariants.{Crossed, Conflict}
use Rattle.simplex_atoms.specs.Atoms.{AtomsFit}
use Rattle.simplex_explain.specs.BoundReasons.{OnReasonOverflow}
use Rattle.simplex_explain.proofs.StatedBounds.{bounds_stated}
use Rattle.simplex.specs.Views.{SimplexView, IsOf}
use Rattle.simplex.specs.Checks.{Found, OverflowsFound, AreReasonsOf}
use Rattle.simplex.proofs.simplex.Simplex.reasons.Goals as goal

pub crossing_reasons-requires : goal.crossing_reasons-requires
crossing_reasons-requires g c =
    let s = c.self.inside in
    let with : IsOf (record { theory = s.literals; atoms = s.atoms; assignment = s.assignment; bounds = s.bounds; starts = s.starts.items }) g.of.table = subst (λ (v : SimplexView). IsOf v g.of.table) (sym c.self.view_is) c.requires.1.0 in (
      subst (λ (v : SimplexView). AtomsFit g.of.table s.atoms v.assignment s.bounds) (c.self.view_is ∙ sym c.requires.0) with.right,
      (
        bounds_stated s.atoms.slack_list s.literals.held s.bounds.held c.self.invariant.0.bounds_are,
        (subst (λ (v : SimplexView). Found v (Crossed c.in-Crossed.y)) (sym c.self.view_is) (subst (λ o. Found c.args.self.now o) c.in-Crossed.is c.requires.1.1)).holds,
      ),
    )

pub row_reasons-requires : goal.row_reasons-requires
row_reasons-requires g c =
    let s = c.self.inside in
    let with : IsOf (record { theory = s.literals; atoms = s.atoms; assignment = s.assignment; bounds = s.bounds; starts = s.starts.items }) g.of.table = subst (λ (v : SimplexView). IsOf v g.of.table) (sym c.self.view_is) c.requires.1.0 in
    let found = subst (λ (v : SimplexView). Found v (Conflict c.in-Conflict.b)) (sym c.self.view_is) (subst (λ o. Found c.args.self.now o) c.in-Conflict.is c.requires.1.1) in (
      with.right,
      (bounds_stated s.atoms.slack_list s.literals.held s.bounds.held c.self.invariant.0.bounds_are, found),
    )

pub returns-in-Crossed-clause-wide : goal.returns-in-Crossed-clause-wide
returns-in-Crossed-clause-wide g c = subst (λ o. IfErr c.crossing_reasons.result (OnReasonOverflow (OverflowsFound c.args.self.now o))) (sym c.in-Crossed.is)
    (subst (λ (v : SimplexView). IfErr c.crossing_reasons.result (OnReasonOverflow (OverflowsFound v (Crossed c.in-Crossed.y)))) c.self.view_is c.crossing_reasons.ensures.wide)

pub returns-in-Conflict-clause-wide : goal.returns-in-Conflict-clause-wide
returns-in-Conflict-clause-wide g c = subst (λ o. IfErr c.row_reasons.result (OnReasonOverflow (OverflowsFound c.args.self.now o))) (sym c.in-Conflict.is)
    (subst (λ (v : SimplexView). IfErr c.row_reasons.result (OnReasonOverflow (OverflowsFound v (Conflict c.in-Conflict.b)))) c.self.view_is c.row_reasons.ensures.wide)

pub returns-in-Crossed-clause-reasons : goal.returns-in-Crossed-clause-reasons
returns-in-Crossed-clause-reasons g c = subst (λ o. IfOk c.crossing_reasons.result (λ reasons. AreReasonsOf c.args.self.now o reasons.items)) (sym c.in-Crossed.is)
    (subst (λ (v : SimplexView). IfOk c.crossing_reasons.result (λ reasons. AreReasonsOf v (Crossed c.in-Crossed.y) reasons.items)) c.self.view_is c.crossing_reasons.ensures.reasons)

pub returns-in-Conflict-clause-reasons : goal.returns-in-Conflict-clause-reasons
returns-in-Conflict-clause-reasons g c = subst (λ o. IfOk c.row_reasons.result (λ reasons. AreReasonsOf c.args.self.now o reasons.items)) (sym c.in-Conflict.is)
    (subst (λ (v : SimplexView). IfOk c.row_reasons.result (λ reasons. AreReasonsOf v (Conflict c.in-Conflict.b) reasons.items)) c.self.view_is c.row_reasons.ensures.reasons)
