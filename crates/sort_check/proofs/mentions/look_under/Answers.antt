-- A body in which names are bound.
use Rattle.std.proofs.Common.{◌||◌, ◌+◌, ◌++◌, ap, ◌∙◌, arith}
use Rattle.spec_reading.specs.Names.{names_bound, without, mentions}
use Rattle.smt_sexpr.specs.Items.{trees_meant, tree_meant}
use Rattle.sort_check.specs.Walks.{size}
use Rattle.sort_check.specs.Mentions.{Rest, names_of, rest_of, rest_mentions, left_size}
use Rattle.sort_check.proofs.Looking.{looks_along, body_left}
use Rattle.sort_check.proofs.mentions.look_under.Goals as goal

pub returns : goal.returns
returns c =
    let ns = names_of c.args.bound.now in
    let r = rest_of c.args.search.now in
    let names = names_bound (trees_meant c.args.bindings) in
    let body = tree_meant c.args.body in
    let new : Rest = record { inner = c.bind_names.new.inner; left = (rest_of c.push.new.search).left } in
    let left = ap (λ (x : Rest). x.left) c.in_ok-push.ensures in
    looks_along ns (mentions (without ns new.inner) body || rest_mentions ns new) (mentions (without (without ns r.inner) names) body || rest_mentions ns r) (size body + left_size new.left) (3 + (size body + left_size r.left)) (rest_of c.look_at.new.search) c.look_at.result
    (body_left ns r new names body c.len-before.result c.len-before.ensures (λ i. record { inner = (c.in_ok-bind_names.ensures ∙ ap (λ (x : Rest). x.inner ++ names) c.in_ok-push.ensures) i; left = left i }))
    (omega (arith, ap left_size left))
    c.look_at.ensures
