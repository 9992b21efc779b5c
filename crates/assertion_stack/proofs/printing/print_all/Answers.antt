-- A list ends, an atom is printed, or a list opens.
use Rattle.std.proofs.Common.{◌≡◌, length, ap, arith, refl, sym}
use Rattle.smt_sexpr.specs.Items.{trees_meant, tree_meant}
use Rattle.assertion_stack.specs.Printing.{open_left}
use Rattle.assertion_stack.proofs.PrintedTrees.{left_begins, left_ends, left_pops, left_atom, left_list, less_end, less_list, open_left_push}
use Rattle.assertion_stack.proofs.RowEnds.{front_same, front_more, front_further}
use Rattle.assertion_stack.proofs.printing.print_all.Goals as goal

pub trees-init : goal.trees-init
trees-init c = (left_begins c.args.out.now.items (trees_meant c.args.trees) c.new-open.result.items c.new-open.ensures.items, front_same c.args.out.now.items)

pub trees-smaller-in_default : goal.trees-smaller-in_default
trees-smaller-in_default c =
    omega (arith, less_end (trees_meant c.trees.rest) (rw c.in_default.is at c.split.ensures.first), ap open_left c.in-Some-pop.ensures.items, open_left_push c.pop.new.self.items c.in-Some-pop.outer)

pub trees-preserved-in_default : goal.trees-preserved-in_default
trees-preserved-in_default c = (
  left_pops _ _ _ _ c.trees.invariant.0 (rw c.in_default.is at c.split.ensures.first) c.pop.new.self.items c.in-Some-pop.outer c.in-Some-pop.ensures.items _ c.in_ok-end_list.ensures.added,
  front_further _ _ _ c.trees.invariant.1 c.in_ok-end_list.ensures.keeps,
)

pub trees-preserved-in-Atom : goal.trees-preserved-in-Atom
trees-preserved-in-Atom c = (
  left_atom _ _ _ c.trees.open.items c.trees.invariant.0 _ _ c.in-Some.ensures.first _ _ _ c.in-Atom.ensures.seen _ c.in_ok-add_atom-in-Atom.ensures.added,
  front_further _ _ _ c.trees.invariant.1 c.in_ok-add_atom-in-Atom.ensures.keeps,
)

pub trees-smaller : goal.trees-smaller
trees-smaller c =
    omega (arith, less_list (trees_meant c.trees.rest) (trees_meant c.in-Some.others) (tree_meant c.in-Some.first) c.in-Some.ensures.first _ _ (trees_meant c.in-List.inside) c.in-List.ensures.seen, ap open_left c.in_ok-push-in-List-2.ensures.items, open_left_push c.trees.open.items c.in-Some.others)

pub trees-preserved : goal.trees-preserved
trees-preserved c = (
  left_list _ _ _ _ c.trees.invariant.0 _ _ c.in-Some.ensures.first _ _ _ c.in-List.ensures.seen c.in-Some.others refl _ c.in_ok-push-in-List-2.ensures.items _ c.in_ok-push-in-List.ensures.items,
  front_further _ _ _ c.trees.invariant.1 (front_more _ _ _ c.in_ok-push-in-List.ensures.items),
)

pub returns-in_default-pop-clause-added : goal.returns-in_default-pop-clause-added
returns-in_default-pop-clause-added c =
    let none_open : length c.trees.open.items ≡ 0 = omega (arith, c.in_default-pop.ensures.cases.0, c.trees.open.ok.0) in
    sym (left_ends _ _ _ c.trees.open.items c.trees.invariant.0 (rw c.in_default.is at c.split.ensures.first) none_open)

pub returns-in_default-pop-clause-keeps : goal.returns-in_default-pop-clause-keeps
returns-in_default-pop-clause-keeps c = c.trees.invariant.1

pub returns-in_err-end_list-clause-keeps : goal.returns-in_err-end_list-clause-keeps
returns-in_err-end_list-clause-keeps c = front_further _ _ _ c.trees.invariant.1 c.in_err-end_list.ensures.keeps

pub returns-in_err-add_atom-in-Atom-clause-keeps : goal.returns-in_err-add_atom-in-Atom-clause-keeps
returns-in_err-add_atom-in-Atom-clause-keeps c = front_further _ _ _ c.trees.invariant.1 c.in_err-add_atom-in-Atom.ensures.keeps

pub returns-in_err-push-in-List-clause-keeps : goal.returns-in_err-push-in-List-clause-keeps
returns-in_err-push-in-List-clause-keeps c = rw c.in_err-push-in-List.ensures.items c.trees.invariant.1

pub returns-in_err-push-in-List-2-clause-keeps : goal.returns-in_err-push-in-List-2-clause-keeps
returns-in_err-push-in-List-2-clause-keeps c = front_further _ _ _ c.trees.invariant.1 (front_more _ _ _ c.in_ok-push-in-List.ensures.items)
