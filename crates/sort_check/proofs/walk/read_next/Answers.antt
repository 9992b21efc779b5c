-- The text that is next.
use Rattle.std.proofs.Common.{◌≡◌, ◌+◌, sym, ap, ◌∙◌, arith}
use Rattle.spec_text.specs.Trees.{Tree, list, more}
use Rattle.smt_sexpr.specs.Items.{trees_meant, tree_meant}
use Rattle.term_reader.proofs.Tables.{keeps_same}
use Rattle.sort_check.specs.Walks.{here, all_left, frames_left, sizes}
use Rattle.sort_check.proofs.Walking.{less_along}
use Rattle.sort_check.proofs.walk.read_next.Goals as goal

pub returns-in-List-clause-goes : goal.returns-in-List-clause-goes
returns-in-List-clause-goes c =
    let inside = trees_meant c.in-List.inside in
    let is : (let x : Tree = list c.from.result inside c.in-List.field-2 in x) ≡ tree_meant c.args.first = ap (λ a. list a inside c.in-List.field-2) c.from.ensures ∙ c.in-List.ensures.seen in
    λ root k.
    c.open_list.ensures.goes c.args.table.now c.args.scope.now c.in-List.field-2 (c.requires.next ∙ ap (λ x. more x (trees_meant c.args.after)) (sym is)) root k

pub returns-in-List-clause-keeps : goal.returns-in-List-clause-keeps
returns-in-List-clause-keeps c = keeps_same c.args.table.now

pub returns-in-List-clause-less : goal.returns-in-List-clause-less
returns-in-List-clause-less c =
    let inside = trees_meant c.in-List.inside in
    let is : (let x : Tree = list c.from.result inside c.in-List.field-2 in x) ≡ tree_meant c.args.first = ap (λ a. list a inside c.in-List.field-2) c.from.ensures ∙ c.in-List.ensures.seen in
    less_along c.open_list.result (all_left (here c.args.table.now c.args.scope.now c.open_list.new.walk)) (2 + (frames_left c.args.walk.now.frames.items + (sizes inside + sizes (trees_meant c.args.after)))) (all_left (here c.args.table.now c.args.scope.now c.args.walk.now)) (c.open_list.ensures.less c.args.table.now c.args.scope.now)
    (omega (arith, ap sizes (c.requires.next ∙ ap (λ x. more x (trees_meant c.args.after)) (sym is))))
