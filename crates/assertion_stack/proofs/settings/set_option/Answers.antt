-- An option that is known is set, and any other is not supported.
use Rattle.std.proofs.Common.{◌≡◌, true, None, Some, refl, sym, ap}
use Rattle.spec_commands.specs.Stack.{unsupported, did, key_named, truth_in, with_option, may_set, option_set}
use Rattle.smt_sexpr.specs.Items.{tree_meant}
use Rattle.smt_command.specs.Settings.{key_meant}
use Rattle.assertion_stack.proofs.Stacks.{option_late, option_done, option_stack}
use Rattle.assertion_stack.proofs.settings.set_option.Goals as goal

pub returns-in_default-clause-performs : goal.returns-in_default-clause-performs
returns-in_default-clause-performs c limit t s h =
    let none : key_named c.args.name.now ≡ None = sym (rw c.in_default.is at c.named.ensures) in
    (record { effect = unsupported; stack = s }, ap (λ o. option_set c.args.at s o (truth_in (tree_meant c.args.value))) none, refl, h)

pub returns-then-not-may_set-clause-performs : goal.returns-then-not-may_set-clause-performs
returns-then-not-may_set-clause-performs c limit t s h =
    let k = key_meant c.in-Some.key in
    rw c.refused-then-not-may_set.ensures
    (option_late limit c.args.at s c.args.name.now (tree_meant c.args.value) k c.in-Some-truth_in.truth (sym c.in-Some.ensures) (sym c.in-Some-truth_in.ensures) (sym (c.if-not-may_set.ensures s h.started)))

pub returns-clause-performs : goal.returns-clause-performs
returns-clause-performs c limit t s h =
    let k = key_meant c.in-Some.key in
    let b = c.in-Some-truth_in.truth in
    let key : key_named c.args.name.now ≡ Some k = sym c.in-Some.ensures in
    let value : truth_in (tree_meant c.args.value) ≡ Some b = sym c.in-Some-truth_in.ensures in
    let may : may_set k s ≡ true = sym (c.if-not-may_set.ensures s h.started) in
    (did (record s { options = with_option k b s.options }), option_done limit c.args.at s c.args.name.now (tree_meant c.args.value) k b key value may, refl, option_stack limit t c.args.stack.now s h k b c.with-stack.result may c.with-stack.ensures)
