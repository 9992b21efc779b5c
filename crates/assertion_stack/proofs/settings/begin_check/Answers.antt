-- A check is begun, which assumes nothing.
use Rattle.std.proofs.Common.{[], refl, sym, subst}
use Rattle.std.proofs.lemmas.List.Elements.{All-nil}
use Rattle.spec_commands.specs.Stack.{check, begun}
use Rattle.term_core.specs.Tables.{IsIn}
use Rattle.assertion_stack.specs.Stacks.{AreAssumed}
use Rattle.assertion_stack.proofs.Stacks.{begun_stack}
use Rattle.assertion_stack.proofs.settings.begin_check.Goals as goal

pub returns-clause-performs : goal.returns-clause-performs
returns-clause-performs c limit at t s h =
    let none : AreAssumed t [] [] = record { inside = All-nil (IsIn t); terms = refl } in
    (record { effect = check c.args.place []; stack = begun s }, refl, ([], refl, subst (λ ids. AreAssumed t ids []) (sym c.nothing.ensures.0) none, c.nothing.ensures.1, c.nothing.ensures.2), begun_stack limit t c.args.stack.now s h)
