-- A row ends, an atom is passed over, or a list opens.
use Rattle.std.proofs.Common.{ap, sym, arith, refl}
use Rattle.smt_sexpr.specs.Items.{trees_meant, tree_meant}
use Rattle.assertion_stack.proofs.PrintedTrees.{less_end, less_list}
use Rattle.alethe_reader.specs.Naming.{open_left}
use Rattle.alethe_reader.proofs.Namings.{rest_ends, rest_pops, rest_atom, rest_named, rest_list, open_left_push}
use Rattle.alethe_reader.proofs.naming.texts_name_at.Goals as goal

pub returns-in_default-pop : goal.returns-in_default-pop
returns-in_default-pop c =
    let empty = rw c.in_default-pop.is at c.pop.ensures.cases in
    sym (rest_ends c.args.at _ _ c.texts.open.items c.texts.invariant (rw c.in_default.is at c.split.ensures.first) (omega (arith, empty.0, c.texts.open.ok.0)))

pub texts-smaller-in_default : goal.texts-smaller-in_default
texts-smaller-in_default c =
    omega (arith, less_end (trees_meant c.texts.rest) (rw c.in_default.is at c.split.ensures.first), ap open_left c.in-Some-pop.ensures.items, open_left_push c.pop.new.self.items c.in-Some-pop.outer)

pub texts-preserved-in_default : goal.texts-preserved-in_default
texts-preserved-in_default c = rest_pops c.args.at _ _ _ c.texts.invariant (rw c.in_default.is at c.split.ensures.first) c.pop.new.self.items c.in-Some-pop.outer c.in-Some-pop.ensures.items

pub texts-preserved-in-Atom : goal.texts-preserved-in-Atom
texts-preserved-in-Atom c = rest_atom c.args.at _ _ _ c.texts.invariant _ _ c.in-Some.ensures.first _ _ _ c.in-Atom.ensures.seen

pub returns-then-list_names_at : goal.returns-then-list_names_at
returns-then-list_names_at c = sym (rest_named c.args.at _ _ _ c.texts.invariant _ _ c.in-Some.ensures.first _ _ _ c.in-List.ensures.seen c.if-list_names_at.ensures)

pub texts-smaller : goal.texts-smaller
texts-smaller c =
    omega (arith, less_list (trees_meant c.texts.rest) (trees_meant c.in-Some.others) (tree_meant c.in-Some.first) c.in-Some.ensures.first _ _ (trees_meant c.in-List.inside) c.in-List.ensures.seen, ap open_left c.in_ok-push-in-List.ensures.items, open_left_push c.texts.open.items c.in-Some.others)

pub texts-preserved : goal.texts-preserved
texts-preserved c = rest_list c.args.at _ _ _ c.texts.invariant _ _ c.in-Some.ensures.first _ _ _ c.in-List.ensures.seen c.if-list_names_at.ensures c.in-Some.others refl _ c.in_ok-push-in-List.ensures.items
