-- The node that is made is put.
use Rattle.std.proofs.Common.{refl, sym, ◌∙◌}
use Rattle.std.proofs.lemmas.Result.{IfOk-weaker}
use Rattle.term_core.specs.Tables.{clause_at, term_at}
use Rattle.term_core.proofs.TermsExtend.{Extends-self}
use Rattle.term_walks.proofs.Filled.{filled_by}
use Rattle.term_walks.proofs.substitution.put_filled.Goals as goal

pub returns-in_err-node-clause-kept : goal.returns-in_err-node-clause-kept
returns-in_err-node-clause-kept c = (Extends-self _, refl)

pub put-requires : goal.put-requires
put-requires c = (c.in_ok-node.ensures (clause_at c.args.table.now c.args.arguments.now) c.requires.made c.requires.fills).0

pub returns-clause-filled : goal.returns-clause-filled
returns-clause-filled c =
    let t = c.args.table.now in
    let ts = clause_at t c.args.arguments.now in
    IfOk-weaker c.put.result _ _ (λ n h. (h.0, h.1 ∙ (c.in_ok-node.ensures ts c.requires.made c.requires.fills).1 ∙ sym (filled_by ts (term_at t c.args.id) c.requires.none))) c.put.ensures.there
