-- A logic, by its name and by what came before it.
use Rattle.std.proofs.Common.{refl, sym, ◌∙◌}
use Rattle.spec_commands.specs.Stack.{did, begun}
use Rattle.smt_sexpr.specs.Views.{word_view}
use Rattle.assertion_stack.proofs.Stacks.{logic_reserved, logic_unknown, logic_late, logic_set, begun_stack}
use Rattle.assertion_stack.proofs.settings.set_logic.Goals as goal

pub returns-then-is_reserved-clause-performs : goal.returns-then-is_reserved-clause-performs
returns-then-is_reserved-clause-performs c limit t s h = rw c.refused.ensures (logic_reserved limit c.args.at s (word_view c.args.word) (sym c.if-is_reserved.ensures))

pub returns-in_default-clause-performs : goal.returns-in_default-clause-performs
returns-in_default-clause-performs c limit t s h = rw c.refused-in_default.ensures (logic_unknown limit c.args.at s (word_view c.args.word) (sym c.if-is_reserved.ensures) (rw c.in_default.is at c.named.ensures))

pub returns-then-stack-clause-performs : goal.returns-then-stack-clause-performs
returns-then-stack-clause-performs c limit t s h = rw c.refused-then-stack.ensures (logic_late limit c.args.at s (word_view c.args.word) (sym c.if-is_reserved.ensures) c.in-Some.ensures.0 (sym h.started ∙ c.if-stack.true))

pub returns-clause-performs : goal.returns-clause-performs
returns-clause-performs c limit t s h =
    (did (begun s), logic_set limit c.args.at s (word_view c.args.word) (sym c.if-is_reserved.ensures) c.in-Some.ensures.0 (sym h.started ∙ c.if-stack.false), refl, begun_stack limit t c.args.stack.now s h)
