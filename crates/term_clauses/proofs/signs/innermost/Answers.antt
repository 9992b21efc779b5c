-- The arguments are one, and that is a negation, or not.
use Rattle.std.proofs.Common.{◌≡◌, length, sym, ap, ◌∙◌, arith}
use Rattle.spec_sorts.specs.Terms.{negated}
use Rattle.spec_sorts.specs.Terms.{no_term}
use Rattle.spec_sorts.specs.Subsets.{arguments_of}
use Rattle.term_core.specs.Tables.{term_at, shape_of}
use Rattle.term_clauses.proofs.Arguments.{innermost_there, negation_count, negation_of}
use Rattle.term_clauses.proofs.signs.innermost.Goals as goal

pub argument-requires-clause-place : goal.argument-requires-clause-place
argument-requires-clause-place c =
    let t = c.args.table.now in
    let count = negation_count t (shape_of c.node.result.now) (term_at t c.argument-only.result) c.node.ensures.placed c.in-Not.is c.node.ensures.means in
    omega (arith, count)

pub returns-in-Not : goal.returns-in-Not
returns-in-Not c =
    let t = c.args.table.now in
    let w = term_at t c.argument-only.result in
    let one : length (arguments_of (term_at t c.args.id)) ≡ 1 = omega (arith, c.argument_count.ensures, c.if-argument_count-ne1.false) in
    let negates = negation_of t (shape_of c.node.result.now) w c.node.ensures.placed c.in-Not.is c.node.ensures.means no_term in
    (c.argument.ensures.there, innermost_there (arguments_of (term_at t c.args.id)) w (term_at t c.argument.result) no_term one c.argument-only.ensures.means (negates ∙ ap negated (sym c.argument.ensures.means)))
