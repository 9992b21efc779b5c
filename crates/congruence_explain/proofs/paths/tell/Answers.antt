-- That the clause of the path is right, and what it shows.
use Rattle.proof_log.specs.Theories.{derived}
use Rattle.std.proofs.Common.{◌≡◌, ◌∷◌, [], ◌++◌, List, map, refl, sym, ◌∙◌, ap, subst}
use Rattle.std.specs.Prelude.{All}
use Rattle.spec_text.specs.Trees.{none}
use Rattle.spec_rules.specs.Rules.{IsRight}
use Rattle.explain_forest.specs.Forest.{path}
use Rattle.term_clauses.proofs.Arguments.{Widens-self}
use Rattle.congruence_explain.specs.declared.claims.SignedClaim.{SignedClaim}
use Rattle.congruence_explain.specs.Claims.{IsOneEquality, IsClaimIn, IsClaimOf, claim_as_term, claim_as_literal, denied_step}
use Rattle.congruence_explain.specs.Steps.{spoken, setting, steps_since, AddsEdges, edges_on}
use Rattle.congruence_explain.proofs.Terms.{claims_in}
use Rattle.congruence_explain.proofs.Logging.{start_wide, claims_wide}
use Rattle.congruence_explain.proofs.Along.{path_clause, steps_in, path_in, path_right, tells_path, one_equality_back, tells_edge_alone}
use Rattle.congruence_explain.proofs.paths.tell.Goals as goal

pub put_alone-requires : goal.put_alone-requires
put_alone-requires g c =
    let t = g.start.table in
    let ts = c.args.truths in
    let v = c.args.forest.now.now in
    let x = c.args.x in
    let y = c.args.y in
    let told = c.deref.ensures.value ∙ c.in_ok-path.ensures in
    let whole : c.deref-3.result.now ≡ path_clause ts (path v.edges x.0 y.0) x y =
    c.deref-3.ensures.value ∙ c.in_ok-push.ensures.items ∙ (λ i. (c.in_ok-clause.ensures.clause ∙ ap (map (denied_step ts)) told) i ++ c.equality.ensures i ∷ []) in
    let f = g.start.facts in
    let b = c.requires.1.0 in (
      c.requires.0,
      (
        subst (λ (ss : List SignedClaim). All (λ s. IsClaimOf (spoken g.start) t s.claim) ss) (sym whole) (path_in t ts v f b x y c.requires.1.1),
        subst (λ (ss : List SignedClaim). IsRight c.rule_of_path.result [] none (map (claim_as_term t) ss)) (sym whole)
            (subst (λ r. IsRight r [] none (map (claim_as_term t) (path_clause ts (path v.edges x.0 y.0) x y))) (sym c.rule_of_path.ensures) (path_right t ts v f b x y c.requires.1.1)),
      ),
    )

pub returns-clause-told : goal.returns-clause-told
returns-clause-told g c =
    let t = g.start.table in
    let ts = c.args.truths in
    let v = c.args.forest.now.now in
    let x = c.args.x in
    let y = c.args.y in
    let told = c.deref.ensures.value ∙ c.in_ok-path.ensures in
    let whole : c.deref-3.result.now ≡ path_clause ts (path v.edges x.0 y.0) x y =
    c.deref-3.ensures.value ∙ c.in_ok-push.ensures.items ∙ (λ i. (c.in_ok-clause.ensures.clause ∙ ap (map (denied_step ts)) told) i ++ c.equality.ensures i ∷ []) in
    let old = derived c.args.table.now c.args.log.now in
    let new = derived c.put_alone.new.table c.put_alone.new.log in
    tells_path (setting t ts v) c.args.needed.now.keys c.deny_path.new.needed.keys (steps_since g.start old) (steps_since g.start new) x y
    (subst (λ ss. AddsEdges c.args.needed.now.keys (edges_on ss) c.deny_path.new.needed.keys) told c.in_ok-clause.ensures.needed)
    (c.in_ok-put_alone.ensures.put.last ∙ ap (λ ss. steps_since g.start old ++ map (claim_as_literal t) ss ∷ []) whole)

pub is_claimed-requires : goal.is_claimed-requires
is_claimed-requires g c =
    let t = g.start.table in
    let u = c.args.table.now in
    let ts = c.args.truths in
    let v = c.args.forest.now.now in
    let whole : c.deref-2.result.now ≡ map (denied_step ts) (path v.edges c.args.x.0 c.args.y.0) =
    c.deref-2.ensures.value ∙ c.in_ok-clause.ensures.clause ∙ ap (map (denied_step ts)) (c.deref.ensures.value ∙ c.in_ok-path.ensures) in
    let claims = claims_wide g.start u u c.args.log.now c.requires.0 (Widens-self u) (map (denied_step ts) (path v.edges c.args.x.0 c.args.y.0)) (steps_in t ts v g.start.facts c.requires.1.0 c.args.x c.args.y) in
    subst (λ (ss : List SignedClaim). All (λ s. IsClaimIn u s.claim) ss) (sym whole) claims

pub returns-then-is_claimed-clause-told : goal.returns-then-is_claimed-clause-told
returns-then-is_claimed-clause-told g c =
    let t = g.start.table in
    let u = c.args.table.now in
    let ts = c.args.truths in
    let v = c.args.forest.now.now in
    let x = c.args.x in
    let y = c.args.y in
    let steps = map (denied_step ts) (path v.edges x.0 y.0) in
    let told = c.deref.ensures.value ∙ c.in_ok-path.ensures in
    let whole : c.deref-2.result.now ≡ steps = c.deref-2.ensures.value ∙ c.in_ok-clause.ensures.clause ∙ ap (map (denied_step ts)) told in
    let q = subst (λ (ss : List SignedClaim). IsOneEquality u ss x y) whole (c.is_claimed.ensures c.if-is_claimed.true) in
    let says_so = one_equality_back t u (start_wide g.start u c.args.log.now c.requires.0) steps (claims_in (spoken g.start) t steps (steps_in t ts v g.start.facts c.requires.1.0 x y)) x y c.requires.1.1.one.0 c.requires.1.1.other.0 q in
    let here = steps_since g.start (derived u c.args.log.now) in
    tells_edge_alone (setting t ts v) c.args.needed.now.keys c.deny_path.new.needed.keys here here x y
    (subst (λ ss. AddsEdges c.args.needed.now.keys (edges_on ss) c.deny_path.new.needed.keys) told c.in_ok-clause.ensures.needed) refl q.one q.clause_is says_so
