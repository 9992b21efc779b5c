-- The whole text.
use Rattle.std.proofs.Common.{sym, ap, ◌∙◌}
use Rattle.spec_reading.specs.Names.{mentions}
use Rattle.spec_reading.specs.Reading.{bound_names}
use Rattle.smt_sexpr.specs.Items.{tree_meant}
use Rattle.sort_check.specs.Bindings.{bound_at}
use Rattle.sort_check.specs.Mentions.{names_of, rest_of, rest_mentions}
use Rattle.sort_check.proofs.FreeNames.{names_are}
use Rattle.sort_check.proofs.Looking.{found_first, found_later, answers_along}
use Rattle.sort_check.proofs.mentions.mentions.Goals as goal

pub returns-then-branch : goal.returns-then-branch
returns-then-branch c =
    let v = c.args.bound.now in
    let text = tree_meant c.args.text in
    λ t.
    sym (ap (λ ns. mentions ns text) (names_are t v)
    ∙ found_first (names_of v) c.new.result c.new-2.result.items text c.new.ensures c.new-2.ensures.items (rest_of c.look_at.new.search) c.in_ok-look_at.field-0 c.in_ok-look_at.ensures c.if-branch.true)

pub returns : goal.returns
returns c =
    let v = c.args.bound.now in
    let text = tree_meant c.args.text in
    answers_along (rest_mentions (names_of v) (rest_of c.look_at.new.search)) (λ t. mentions (bound_names (bound_at t v)) text) c.is_left.result
    (λ t.
    sym (ap (λ ns. mentions ns text) (names_are t v)
    ∙ found_later (names_of v) c.new.result c.new-2.result.items text c.new.ensures c.new-2.ensures.items (rest_of c.look_at.new.search) c.in_ok-look_at.field-0 c.in_ok-look_at.ensures c.if-branch.false))
    c.is_left.ensures
