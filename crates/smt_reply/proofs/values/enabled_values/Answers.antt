-- The option, the room, and then the values.
use Rattle.std.proofs.Common.{sym, ap, ◌∙◌}
use Rattle.spec_text.specs.declared.Fault.TheVariants.{NotEnabled}
use Rattle.spec_commands.specs.Stack.{Options, signature_of}
use Rattle.spec_sessions.specs.Replies.{valued}
use Rattle.smt_sexpr.specs.Items.{trees_meant}
use Rattle.term_core.specs.Tables.{clause_at}
use Rattle.smt_reply.specs.Pairs.{pairs_after}
use Rattle.smt_reply.proofs.Asked.{refuses}
use Rattle.smt_reply.proofs.ReadValues.{models_off, no_room, some_room, pairs_same}
use Rattle.smt_reply.proofs.values.enabled_values.Goals as goal

pub returns-then-not-stack : goal.returns-then-not-stack
returns-then-not-stack c limit s i held tables =
    let ts = trees_meant c.args.trees in
    let us = clause_at c.args.table.now c.args.ids.now in
    let off = sym (ap (λ (o : Options). o.models) held.options) ∙ c.if-not-stack.true in
    refuses (pairs_after limit c.args.at s i ts us) c.refused.result c.args.at NotEnabled c.refused.ensures (models_off limit c.args.at s i ts us off)

pub returns-in-Err : goal.returns-in-Err
returns-in-Err c limit s i held tables =
    let ts = trees_meant c.args.trees in
    let us = clause_at c.args.table.now c.args.ids.now in
    let on = sym (ap (λ (o : Options). o.models) held.options) ∙ c.if-not-stack.false in
    no_room limit c.args.at s i ts us on c.args.stack.now.limit held.limit_is c.args.table.now.sorts c.in-Err.stop (c.in-Err.ensures (signature_of s) held.states.scope.count)

pub returns-in-Ok : goal.returns-in-Ok
returns-in-Ok c limit s i held tables =
    let ts = trees_meant c.args.trees in
    let us = clause_at c.args.table.now c.args.ids.now in
    let on = sym (ap (λ (o : Options). o.models) held.options) ∙ c.if-not-stack.false in
    let room = some_room limit c.args.at s i ts us on c.args.stack.now.limit held.limit_is (c.in-Ok.ensures (signature_of s) held.states.scope.count) in
    pairs_same c.args.table.now.sorts (valued i ts us) (pairs_after limit c.args.at s i ts us) c.term_values.result (sym room) (c.term_values.ensures i tables)
