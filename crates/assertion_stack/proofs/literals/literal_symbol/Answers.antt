-- A symbol, or one after `not`.
use Rattle.std.proofs.Common.{ap, ◌∙◌}
use Rattle.smt_sexpr.specs.Items.{trees_meant}
use Rattle.spec_commands.specs.Literals.{literal_symbol}
use Rattle.assertion_stack.proofs.LiteralSymbols.{symbol_in_list}
use Rattle.assertion_stack.proofs.literals.literal_symbol.Goals as goal

pub returns-in-List : goal.returns-in-List
returns-in-List c = c.negated_symbol.ensures ∙ symbol_in_list c.in-List.field-0 (trees_meant c.in-List.inside) c.in-List.field-2 ∙ ap literal_symbol c.in-List.ensures.seen
