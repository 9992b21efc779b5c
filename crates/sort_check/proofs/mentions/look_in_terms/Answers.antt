-- A row of terms by the first of them.
use Rattle.std.proofs.Common.{◌||◌, ◌+◌, refl, ap, ◌∙◌, arith}
use Rattle.spec_reading.specs.Names.{without, mentions, any_mentions}
use Rattle.smt_sexpr.specs.Items.{trees_meant, tree_meant}
use Rattle.smt_sexpr.proofs.Splitting.{split_end, split_more}
use Rattle.sort_check.specs.Walks.{size, sizes}
use Rattle.sort_check.specs.Mentions.{Rest, names_of, rest_of, rest_mentions, left_size}
use Rattle.sort_check.proofs.FreeNames.{any_none}
use Rattle.sort_check.proofs.Looking.{looks_along, terms_left}
use Rattle.sort_check.proofs.mentions.look_in_terms.Goals as goal

pub returns-in_default : goal.returns-in_default
returns-in_default c =
    let ns = names_of c.args.bound.now in
    let r = rest_of c.args.search.now in
    let w = without ns r.inner in (
      ap (λ ts. any_mentions w ts || rest_mentions ns r) (split_end (trees_meant c.args.terms) c.in_default.ensures.first) ∙ ap (λ b. b || rest_mentions ns r) (any_none w),
      omega arith,
    )

pub returns : goal.returns
returns c =
    let ns = names_of c.args.bound.now in
    let r = rest_of c.args.search.now in
    let new = rest_of c.push.new.search in
    let t = tree_meant c.in-Some.first in
    let ts = trees_meant c.args.terms in
    let after = trees_meant c.in-Some.after in
    let first = split_more ts after t c.in-Some.ensures.first in
    looks_along ns (mentions (without ns new.inner) t || rest_mentions ns new) (any_mentions (without ns r.inner) ts || rest_mentions ns r) (size t + left_size new.left) (1 + (sizes ts + left_size r.left)) (rest_of c.look_at.new.search) c.look_at.result
    (terms_left ns r new ts after t c.in-Some.after first refl c.in_ok-push.ensures)
    (omega (arith, ap (λ (x : Rest). left_size x.left) c.in_ok-push.ensures, ap sizes first))
    c.look_at.ensures
