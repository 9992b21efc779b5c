-- The parts of a `let` are left.
use Rattle.std.proofs.Common.{◌||◌, sym, ap, ◌∙◌, arith}
use Rattle.spec_reading.specs.Names.{without}
use Rattle.smt_sexpr.specs.Items.{trees_meant}
use Rattle.sort_check.specs.declared.mentions.Left.TheVariants.{Values}
use Rattle.sort_check.specs.Mentions.{rest_of, rest_mentions, with_next}
use Rattle.sort_check.proofs.FreeNames.{let_none}
use Rattle.sort_check.proofs.Looking.{let_left}
use Rattle.sort_check.proofs.mentions.look_in_let.Goals as goal

pub returns-in_default : goal.returns-in_default
returns-in_default c =
    let r = rest_of c.args.search.now in
    λ ns. (ap (λ b. b || rest_mentions ns r) (let_none (without ns r.inner) (trees_meant c.args.arguments) (sym c.in_default.ensures.gives)), omega arith)

pub returns : goal.returns
returns c =
    λ ns.
    let_left ns (rest_of c.args.search.now) (rest_of c.push-2.new.search) (trees_meant c.args.arguments) c.in-Some.bindings c.in-Some.body (sym c.in-Some.ensures.gives)
    (c.in_ok-push-2.ensures ∙ ap (with_next (Values c.in-Some.bindings)) c.in_ok-push.ensures)
