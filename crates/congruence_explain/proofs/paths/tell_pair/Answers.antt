-- That two terms that differ are explained.
use Rattle.proof_log.specs.Theories.{derived}
use Rattle.std.proofs.Common.{◌++◌, ◌∷◌, [], sym, ap, ◌∙◌, append-nil}
use Rattle.congruence_explain.specs.Steps.{spoken, setting, notes}
use Rattle.congruence_explain.proofs.Pairs.{unequal_same, unequal_other, linked_apart, same_pair, one_pair}
use Rattle.congruence_explain.proofs.paths.tell_pair.Goals as goal

pub returns-then-x-y : goal.returns-then-x-y
returns-then-x-y g c = record {
  derives = c.requires.0;
  clause = sym (ap (λ z. c.args.clause.now.items ++ z) (unequal_same c.args.x c.args.y c.if-x-y.true) ∙ append-nil c.args.clause.now.items);
  told = same_pair (setting g.start.table c.args.truths c.args.forest.now.now) (notes g.start (derived c.args.table.now c.args.log.now) c.args.needed.now.keys []) c.args.x c.args.y c.if-x-y.true;
}

pub tell-requires : goal.tell-requires
tell-requires g c =
    (c.requires.0, (c.requires.1.0, linked_apart (spoken g.start) g.start.table c.args.forest.now.now c.args.x c.args.y c.if-x-y.false c.requires.1.1))

pub returns-clause-clause : goal.returns-clause-clause
returns-clause-clause g c =
    c.in_ok-push.ensures.items ∙ (λ i. c.args.clause.now.items ++ c.unequality.ensures i ∷ []) ∙ sym (ap (λ z. c.args.clause.now.items ++ z) (unequal_other c.args.x c.args.y c.if-x-y.false))

pub returns-clause-told : goal.returns-clause-told
returns-clause-told g c =
    one_pair (setting g.start.table c.args.truths c.args.forest.now.now) (notes g.start (derived c.args.table.now c.args.log.now) c.args.needed.now.keys []) (notes g.start (derived c.tell.new.table c.tell.new.log) c.tell.new.needed.keys [])
    c.args.x c.args.y c.if-x-y.false c.in_ok-tell.ensures.told
