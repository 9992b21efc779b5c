-- That the nodes say whether the terms are congruent.
use Rattle.std.proofs.Common.{sym, eqb-true, ◌∙◌}
use Rattle.std.proofs.lemmas.Bool.{false≢true}
use Rattle.std.proofs.lemmas.Bool.Decides.{Decides-eqb}
use Rattle.term_core.specs.Tables.{shape_of}
use Rattle.rule_eq.specs.Reasoning.{reasons_meant}
use Rattle.rule_eq.proofs.Heads.{not_heads, not_some, congruent_by}
use Rattle.rule_eq.proofs.joined.are_congruent.Goals as goal

pub returns-then-not-same_head : goal.returns-then-not-same_head
returns-then-not-same_head c = not_heads c.args.table.now (reasons_meant c.args.table.now c.args.reasons) _ _ (shape_of c.node-left.result.now) (shape_of c.node-right.result.now) c.node-left.ensures.means c.node-right.ensures.means
    c.ids_are_unique.ensures (rw c.symbols.ensures at c.are_declared.ensures) c.node-left.ensures.placed c.node-right.ensures.placed c.if-not-same_head.ensures

pub returns-then-is_empty : goal.returns-then-is_empty
returns-then-is_empty c = not_some c.args.table.now (reasons_meant c.args.table.now c.args.reasons) _ _ (shape_of c.node-left.result.now) (shape_of c.node-right.result.now) c.node-left.ensures.means c.node-right.ensures.means
    (eqb-true _ _ (sym c.if-is_empty.ensures))

pub returns : goal.returns
returns c = congruent_by c.args.table.now (reasons_meant c.args.table.now c.args.reasons) _ _ (shape_of c.node-left.result.now) (shape_of c.node-right.result.now) c.node-left.ensures.means c.node-right.ensures.means
    c.if-not-same_head.ensures (λ e. false≢true (c.if-is_empty.ensures ∙ (Decides-eqb _ 0).1 e)) c.are_joined.result (rw (c.as_slice.ensures, c.as_slice-2.ensures) at c.are_joined.ensures)
