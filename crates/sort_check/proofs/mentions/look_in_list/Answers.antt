-- A list by its form.
use Rattle.std.proofs.Common.{◌||◌, ◌+◌, sym, ap, arith}
use Rattle.spec_reading.specs.Names.{without, let_mentions, first_mentions}
use Rattle.spec_sorts.specs.Forms.{form}
use Rattle.smt_sexpr.specs.Items.{trees_meant, tree_meant}
use Rattle.sort_check.specs.Walks.{sizes}
use Rattle.sort_check.specs.Mentions.{names_of, form_mentions, rest_of, rest_mentions, left_size}
use Rattle.sort_check.proofs.Looking.{looks_along}
use Rattle.sort_check.proofs.mentions.look_in_list.Goals as goal

pub returns-in-Binds : goal.returns-in-Binds
returns-in-Binds c =
    let ns = names_of c.args.bound.now in
    let r = rest_of c.args.search.now in
    let us = trees_meant c.args.arguments in
    let w = without ns r.inner in
    looks_along ns (let_mentions w us || rest_mentions ns r) (form_mentions w us (form (tree_meant c.args.head) us) || rest_mentions ns r) (3 + (sizes us + left_size r.left)) (3 + (sizes us + left_size r.left)) (rest_of c.look_in_let.new.search) c.look_in_let.result
    (ap (λ f. form_mentions w us f || rest_mentions ns r) (sym c.in-Binds.ensures)) (omega arith) (c.look_in_let.ensures ns)

pub returns-in-Annotates : goal.returns-in-Annotates
returns-in-Annotates c =
    let ns = names_of c.args.bound.now in
    let r = rest_of c.args.search.now in
    let us = trees_meant c.args.arguments in
    let w = without ns r.inner in
    looks_along ns (first_mentions w us || rest_mentions ns r) (form_mentions w us (form (tree_meant c.args.head) us) || rest_mentions ns r) (2 + (sizes us + left_size r.left)) (3 + (sizes us + left_size r.left)) (rest_of c.look_in_annotated.new.search) c.look_in_annotated.result
    (ap (λ f. form_mentions w us f || rest_mentions ns r) (sym c.in-Annotates.ensures)) (omega arith) (c.look_in_annotated.ensures ns)
