-- Nothing, or a numeral alone.
use Rattle.std.proofs.Common.{sym, ◌∙◌}
use Rattle.smt_sexpr.specs.Items.{trees_meant, tree_meant}
use Rattle.smt_command.proofs.Levels.{levels_none, levels_some}
use Rattle.smt_command.proofs.shapes.levels_in.Goals as goal

pub returns-in-None : goal.returns-in-None
returns-in-None c = sym (levels_none (trees_meant c.args.trees) c.in-None.ensures.first)

pub returns-in-Some : goal.returns-in-Some
returns-in-Some c = c.levels_written.ensures ∙ sym (levels_some (trees_meant c.args.trees) (trees_meant c.in-Some.field-0.1) (tree_meant c.in-Some.field-0.0) c.in-Some.ensures.first)
