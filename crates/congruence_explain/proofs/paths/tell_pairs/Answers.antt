-- One pair more.
use Rattle.proof_log.specs.Theories.{derived}
use Rattle.std.proofs.Common.{◌≡◌, ◌≢◌, ◌<◌, List, [], ◌∷◌, ◌++◌, length, get_or, sym, ap, ◌∙◌, subst, arith}
use Rattle.std.specs.Prelude.{Contains}
use Rattle.congruence_explain.specs.declared.claims.SignedClaim.{SignedClaim}
use Rattle.congruence_explain.specs.Claims.{no_term_id, unequal, all_unequal}
use Rattle.congruence_explain.specs.Steps.{setting, notes, TellsClause}
use Rattle.congruence_explain.proofs.Pairs.{unequal_other, unequal_next, unequal_all, pairs_none, pairs_more, pairs_again}
use Rattle.congruence_explain.proofs.paths.tell_pairs.Goals as goal

pub pairs-init : goal.pairs-init
pairs-init g c = record {
  derives = c.requires.0;
  clause = ap (λ z. z ++ all_unequal c.args.xs.now c.args.ys.now) c.new-clause.ensures.items;
  told = pairs_none (setting g.start.table c.args.truths c.args.forest.now.now) (notes g.start (derived c.args.table.now c.args.log.now) c.args.needed.now.keys []) c.args.xs.now c.args.ys.now c.new-clause.result.items c.new-clause.ensures.items;
}

pub tell_pair-requires : goal.tell_pair-requires
tell_pair-requires g c =
    let i = c.pairs.i in
    let h : i < length c.args.xs.now = omega arith in
    (c.pairs.invariant.derives, (c.requires.1.0, c.requires.1.1.1 i h))

pub pairs-preserved : goal.pairs-preserved
pairs-preserved g c =
    let xs = c.args.xs.now in
    let ys = c.args.ys.now in
    let i = c.pairs.i in
    let v = c.pairs.invariant in
    let h : i < length xs = omega arith in
    let l : i < length ys = subst (λ n. i < n) c.requires.1.1.0 h in
    record {
      derives = c.tell_pair.ensures.derives;
      clause = unequal_next xs ys i no_term_id h l c.pairs.clause.items c.tell_pair.new.clause.items c.in_ok-tell_pair.ensures.clause v.clause;
      told = pairs_more (setting g.start.table c.args.truths c.args.forest.now.now) (notes g.start (derived c.args.table.now c.args.log.now) c.args.needed.now.keys [])
          (notes g.start (derived c.pairs.table c.pairs.log) c.pairs.needed.keys []) (notes g.start (derived c.tell_pair.new.table c.tell_pair.new.log) c.tell_pair.new.needed.keys [])
          xs ys i no_term_id h c.pairs.clause.items c.tell_pair.new.clause.items c.in_ok-tell_pair.ensures.clause v.told c.in_ok-tell_pair.ensures.told;
    }

pub pairs-preserved-then-denies_last : goal.pairs-preserved-then-denies_last
pairs-preserved-then-denies_last g c =
    let xs = c.args.xs.now in
    let ys = c.args.ys.now in
    let i = c.pairs.i in
    let v = c.pairs.invariant in
    let clause = c.pairs.clause.items in
    let after = c.push.new.self.items in
    let x = get_or xs i no_term_id in
    let y = get_or ys i no_term_id in
    let h : i < length xs = omega arith in
    let l : i < length ys = subst (λ n. i < n) c.requires.1.1.0 h in
    let last : (x.0 ≢ y.0) × Contains clause (unequal x y) = subst (λ (ss : List SignedClaim). (x.0 ≢ y.0) × Contains ss (unequal x y)) c.deref.ensures.value (c.denies_last.ensures c.if-denies_last.true) in
    let is : after ≡ clause ++ unequal x y ∷ [] = c.in_ok-push.ensures.items ∙ (λ j. clause ++ c.unequality.ensures j ∷ []) in
    record {
      derives = v.derives;
      clause = unequal_next xs ys i no_term_id h l clause after (is ∙ sym (ap (λ z. clause ++ z) (unequal_other x y last.0))) v.clause;
      told = pairs_again (setting g.start.table c.args.truths c.args.forest.now.now) (notes g.start (derived c.args.table.now c.args.log.now) c.args.needed.now.keys [])
          (notes g.start (derived c.pairs.table c.pairs.log) c.pairs.needed.keys []) xs ys x y clause after last.1 is v.told;
    }

pub returns-clause-clause : goal.returns-clause-clause
returns-clause-clause g c = unequal_all c.args.xs.now c.args.ys.now c.pairs.i (omega arith) c.pairs.clause.items c.pairs.invariant.clause

pub returns-clause-told : goal.returns-clause-told
returns-clause-told g c =
    subst (TellsClause (setting g.start.table c.args.truths c.args.forest.now.now) (notes g.start (derived c.args.table.now c.args.log.now) c.args.needed.now.keys []) (notes g.start (derived c.pairs.table c.pairs.log) c.pairs.needed.keys []) c.args.xs.now c.args.ys.now)
    (unequal_all c.args.xs.now c.args.ys.now c.pairs.i (omega arith) c.pairs.clause.items c.pairs.invariant.clause) c.pairs.invariant.told
