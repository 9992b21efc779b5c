-- The bound is the strongest on its side, and its literal has a place.
use Rattle.std.proofs.Common.{refl, ap, sym, ◌∙◌}
use Rattle.spec_numbers.specs.Bounds.{divided}
use Rattle.spec_text.proofs.AnswerLaws.{told}
use Rattle.spec_tableaux.specs.Numbers.{Number}
use Rattle.ratio128.specs.Meant.{fraction, overflow}
use Rattle.tableau.specs.Entries.{entry_of}
use Rattle.simplex_bounds.specs.Held.{strongest}
use Rattle.simplex_atoms.specs.Slacks.{relation_by}
use Rattle.simplex_explain.specs.BoundReasons.{footing, weight_by, OverflowsReason}
use Rattle.simplex_explain.proofs.Telling.{slack_there}
use Rattle.simplex_explain.proofs.weights.reason_for.Goals as goal

pub unreachable-requires-in_default-slack : goal.unreachable-requires-in_default-slack
unreachable-requires-in_default-slack c =
    slack_there c.args.atoms.now.slack_list c.args.bounds.now.held c.stopping_side-side.result c.args.entry.variable c.in-Some.bound c.requires.stated
    (sym c.strongest.ensures ∙ c.in-Some.is) (sym c.slack.ensures ∙ c.in_default-slack.is)

pub returns-in_err-weight-clause-wide : goal.returns-in_err-weight-clause-wide
returns-in_err-weight-clause-wide c =
    told (λ w. OverflowsReason (footing c.args.atoms.now c.args.bounds.now) c.args.up (entry_of c.args.entry) (overflow w)) c.from_residual.result c.in_err-weight.field-0.0 c.from_residual.ensures.1
    (record {
      bound = c.in-Some.bound;
      stops = ap (λ side. strongest side c.args.entry.variable c.args.bounds.now.held) (sym c.stopping_side-side.ensures) ∙ sym c.strongest.ensures ∙ c.in-Some.is;
      slack = c.in-Some-slack.slack;
      there = sym c.slack.ensures ∙ c.in-Some-slack.is;
      quotient = ap (λ (n : Number). divided n.fraction (fraction c.in-Some-slack.slack.factor)) (sym c.directed.ensures) ∙ c.in_err-weight.ensures.wide;
    })

pub returns-clause-reason : goal.returns-clause-reason
returns-clause-reason c = record {
  bound = c.in-Some.bound;
  stops = ap (λ side. strongest side c.args.entry.variable c.args.bounds.now.held) (sym c.stopping_side-side.ensures) ∙ sym c.strongest.ensures ∙ c.in-Some.is;
  literal = refl;
  slack = c.in-Some-slack.slack;
  there = sym c.slack.ensures ∙ c.in-Some-slack.is;
  weight = c.in_ok-weight.ensures.weight ∙ ap (weight_by (relation_by c.in-Some-slack.slack.kind c.in-Some.bound.literal.positive) c.in-Some-slack.slack) c.directed.ensures;
}
