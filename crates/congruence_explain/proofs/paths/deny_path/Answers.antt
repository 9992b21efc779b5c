-- One step more.
use Rattle.std.proofs.Common.{◌≡◌, ◌<◌, ◌∷◌, [], ◌++◌, take, length, get_or, sym, ◌∙◌, subst, arith, false}
use Rattle.std.proofs.lemmas.List.{map_more}
use Rattle.term_core.specs.declared.ids.Lit.{Lit}
use Rattle.explain_forest.specs.declared.types.PathStep.{PathStep}
use Rattle.explain_forest.specs.declared.types.Label.TheVariants.{Held}
use Rattle.congruence_explain.specs.declared.claims.SignedClaim.{SignedClaim}
use Rattle.congruence_explain.specs.Claims.{denied_step, no_term_id}
use Rattle.congruence_explain.specs.Steps.{AddsEdges, edges_on}
use Rattle.congruence_explain.proofs.Needed.{adds_none, adds_more}
use Rattle.congruence_explain.proofs.paths.deny_path.Goals as goal

pub path-init : goal.path-init
path-init c = record { clause = c.new-clause.ensures.items; needed = adds_none c.args.needed.now.keys }

pub path-preserved : goal.path-preserved
path-preserved c =
    let no_lit : Lit = record { term = no_term_id; positive = false } in
    let none : PathStep = record { from = no_term_id; to = no_term_id; label = Held no_lit; edge = 0 } in
    let path = c.args.path.now in
    let at = c.path.s-index in
    let h : at < length path = omega arith in
    let s = get_or path at none in
    let v = c.path.invariant in
    let last : denied_step c.args.truths s ≡ denied_step c.args.truths s = λ i. denied_step c.args.truths s in
    record {
      clause = c.in_ok-push.ensures.items ∙ (λ i. let x : SignedClaim = record { claim = c.claim_of.ensures i; positive = false } in v.clause i ++ x ∷ []) ∙ sym (map_more (denied_step c.args.truths) path at none h);
      needed = subst (λ ks. AddsEdges c.args.needed.now.keys ks c.insert.new.self.keys) (sym (map_more (λ (z : PathStep). z.edge) path at none h))
          (adds_more c.args.needed.now.keys c.path.needed.keys c.insert.new.self.keys (edges_on (take at path)) s.edge c.in_ok-insert.ensures.keys v.needed);
    }
