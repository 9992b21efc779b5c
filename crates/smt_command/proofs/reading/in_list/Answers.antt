-- The first tree of a list, and the others.
use Rattle.std.proofs.Common.{sym, subst}
use Rattle.smt_sexpr.specs.Items.{trees_meant, tree_meant}
use Rattle.smt_sexpr.proofs.Splitting.{split_more}
use Rattle.smt_command.specs.Commands.{command_view, command_in_list, Gives}
use Rattle.smt_command.proofs.reading.in_list.Goals as goal

pub returns-in-Some : goal.returns-in-Some
returns-in-Some c =
    let split = split_more (trees_meant c.args.trees) (trees_meant c.in-Some.rest) (tree_meant c.in-Some.head) c.in-Some.ensures.first in
    subst (λ ts. Gives command_view c.command_as.result (command_in_list c.args.at ts)) (sym split) c.command_as.ensures
