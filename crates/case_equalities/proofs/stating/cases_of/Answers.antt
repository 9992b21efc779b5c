-- One case more.
use Rattle.std.proofs.Common.{◌∙◌, [], ◌∷◌, ◌++◌, ap}
use Rattle.std.proofs.lemmas.List.Elements.{All-nil}
use Rattle.case_equalities.specs.Stating.{IsMade}
use Rattle.case_equalities.proofs.Batches.{made_kept, made_more}
use Rattle.case_equalities.proofs.Leading.{chain_at}
use Rattle.case_equalities.proofs.stating.cases_of.Goals as goal

pub chains-init : goal.chains-init
chains-init g c = made_more g.batch c.args.table.now [] c.push.new.self.items c.args.denied (c.in_ok-push.ensures.items ∙ ap (λ z. z ++ c.args.denied ∷ []) c.new-clause.ensures.items) (All-nil (IsMade g.batch c.args.table.now)) c.requires.1.1

pub chains-preserved : goal.chains-preserved
chains-preserved g c =
    let t = c.args.table.now in
    let chain = chain_at g.batch c.args.chains.now c.requires.1.0 c.chains.chain-index c.chain-item.result c.chains-test.true c.chain-item.is in
    made_more g.batch t c.chains.clause.items c.push-in-chains.new.self.items c.chain-item.result.case c.in_ok-push-2.ensures.items c.chains.invariant
    (made_kept g.batch g.batch.start.table t c.requires.0 c.chain-item.result.case chain.case)
