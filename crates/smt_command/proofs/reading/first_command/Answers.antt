-- An atom is no command; a list is what it holds.
use Rattle.std.proofs.Common.{sym, subst}
use Rattle.spec_text.specs.Answers.{Answer}
use Rattle.spec_commands.specs.Commands.{Command}
use Rattle.smt_sexpr.specs.Items.{trees_meant}
use Rattle.smt_command.specs.Commands.{command_view, command_in_list, Gives}
use Rattle.smt_command.proofs.CommandTrees.{atom_command, list_command}
use Rattle.smt_command.proofs.reading.first_command.Goals as goal

pub returns-in-Atom : goal.returns-in-Atom
returns-in-Atom c = rw (c.misshapen.ensures, c.from.ensures) (atom_command _ _ _ _ c.in-Atom.ensures.seen)

pub returns-in-List : goal.returns-in-List
returns-in-List c = subst (λ (a : Answer Command). Gives command_view c.in_list.result a) (sym (list_command _ _ _ _ c.in-List.ensures.seen)) (subst (λ n. Gives command_view c.in_list.result (command_in_list n (trees_meant c.in-List.inside))) c.from-in-List.ensures c.in_list.ensures)
