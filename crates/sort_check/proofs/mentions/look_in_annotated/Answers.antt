-- A term before attributes is left.
use Rattle.std.proofs.Common.{◌||◌, ap, ◌∙◌, arith}
use Rattle.spec_reading.specs.Names.{without, first_mentions}
use Rattle.smt_sexpr.specs.Items.{trees_meant, tree_meant}
use Rattle.smt_sexpr.proofs.Splitting.{split_end, split_more}
use Rattle.sort_check.specs.Mentions.{rest_of, rest_mentions}
use Rattle.sort_check.proofs.FreeNames.{first_none}
use Rattle.sort_check.proofs.Looking.{annotated_left}
use Rattle.sort_check.proofs.mentions.look_in_annotated.Goals as goal

pub returns-in_default : goal.returns-in_default
returns-in_default c =
    let r = rest_of c.args.search.now in
    let us = trees_meant c.args.arguments in
    λ ns. (
      ap (λ ts. first_mentions (without ns r.inner) ts || rest_mentions ns r) (split_end us c.in_default.ensures.first) ∙ ap (λ b. b || rest_mentions ns r) (first_none (without ns r.inner)),
      omega arith,
    )

pub returns : goal.returns
returns c =
    let us = trees_meant c.args.arguments in
    let after = trees_meant c.in-Some.field-0-1 in
    λ ns. annotated_left ns (rest_of c.args.search.now) (rest_of c.push.new.search) us c.in-Some.text after (split_more us after (tree_meant c.in-Some.text) c.in-Some.ensures.first) c.in-Some.ensures.alone c.in_ok-push.ensures
