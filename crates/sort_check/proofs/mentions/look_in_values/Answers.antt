-- Bindings by the first of them.
use Rattle.std.proofs.Common.{◌||◌, ◌+◌, refl, sym, ap, arith}
use Rattle.spec_reading.specs.Names.{without, mentions, binding_mentions}
use Rattle.smt_sexpr.specs.Items.{trees_meant, tree_meant}
use Rattle.smt_sexpr.specs.Views.{word_view}
use Rattle.sort_check.specs.Walks.{size, sizes}
use Rattle.sort_check.specs.Mentions.{Rest, names_of, rest_of, rest_mentions, left_size}
use Rattle.sort_check.proofs.FreeNames.{binding_none}
use Rattle.sort_check.proofs.Lets.{binding_size}
use Rattle.sort_check.proofs.Looking.{looks_along, values_left}
use Rattle.sort_check.proofs.mentions.look_in_values.Goals as goal

pub returns-in_default : goal.returns-in_default
returns-in_default c =
    let ns = names_of c.args.bound.now in
    let r = rest_of c.args.search.now in
    (ap (λ b. b || rest_mentions ns r) (binding_none (without ns r.inner) (trees_meant c.args.bindings) (sym c.in_default.ensures.gives)), omega arith)

pub returns : goal.returns
returns c =
    let ns = names_of c.args.bound.now in
    let r = rest_of c.args.search.now in
    let new = rest_of c.push.new.search in
    let x = word_view c.in-Some.field-0-0 in
    let t = tree_meant c.in-Some.term in
    let ts = trees_meant c.args.bindings in
    let after = trees_meant c.in-Some.after in
    looks_along ns (mentions (without ns new.inner) t || rest_mentions ns new) (binding_mentions (without ns r.inner) ts || rest_mentions ns r) (size t + left_size new.left) (1 + (sizes ts + left_size r.left)) (rest_of c.look_at.new.search) c.look_at.result
    (values_left ns r new ts after x t c.in-Some.after (sym c.in-Some.ensures.gives) refl c.in_ok-push.ensures)
    (omega (arith, ap (λ (y : Rest). left_size y.left) c.in_ok-push.ensures, binding_size ts x t after (sym c.in-Some.ensures.gives)))
    c.look_at.ensures
