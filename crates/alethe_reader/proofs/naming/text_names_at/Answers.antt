-- An atom gives no name, and a list those of its term and those in it.
use Rattle.std.proofs.Common.{◌||◌, ap, sym, ◌∙◌}
use Rattle.spec_checking.specs.Reading.{named_in_all, one_is_at}
use Rattle.smt_sexpr.specs.Items.{trees_meant, tree_meant}
use Rattle.alethe_reader.proofs.Namings.{atom_names, list_names, text_by}
use Rattle.alethe_reader.proofs.naming.text_names_at.Goals as goal

pub returns-in-Atom : goal.returns-in-Atom
returns-in-Atom c = sym (atom_names c.args.at (tree_meant c.args.text) _ _ _ c.in-Atom.ensures.seen)

pub returns-then-list_names_at : goal.returns-then-list_names_at
returns-then-list_names_at c = sym (list_names c.args.at (tree_meant c.args.text) _ _ _ c.in-List.ensures.seen ∙ ap (λ b. b || one_is_at (named_in_all (trees_meant c.in-List.inside)) c.args.at) (sym c.if-list_names_at.ensures))

pub returns-else-list_names_at : goal.returns-else-list_names_at
returns-else-list_names_at c = text_by c.args.at (tree_meant c.args.text) _ _ (trees_meant c.in-List.inside) c.in-List.ensures.seen c.if-list_names_at.ensures _ c.texts_name_at.ensures
