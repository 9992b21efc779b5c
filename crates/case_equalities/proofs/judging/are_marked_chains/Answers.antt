-- One chain more is of marked formulas.
use Rattle.std.proofs.Common.{List, All, subst}
use Rattle.std.proofs.lemmas.List.{take_all}
use Rattle.std.proofs.lemmas.List.Elements.{All-more}
use Rattle.case_equalities.specs.declared.lead.Chain.{Chain}
use Rattle.case_equalities.specs.Finding.{IsMarkedChain}
use Rattle.case_equalities.proofs.judging.are_marked_chains.Goals as goal

pub chains-preserved : goal.chains-preserved
chains-preserved c =
    let P = IsMarkedChain c.args.table.now c.args.marks.now in
    All-more P c.args.chains.now c.chains.chain-index c.chain-item.result c.chains-test.true c.chains.invariant
    (subst P c.chain-item.is (c.is_marked_chain.ensures c.if-not-is_marked_chain.false))

pub returns : goal.returns
returns c _ =
    subst (λ (cs : List Chain). All (IsMarkedChain c.args.table.now c.args.marks.now) cs) (take_all c.chains.chain-index c.args.chains.now c.chains-test.false) c.chains.invariant
