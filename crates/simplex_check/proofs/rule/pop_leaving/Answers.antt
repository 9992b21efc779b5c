use Rattle.std.proofs.Common.{length, ap, sym, ◌∙◌, arith}
use Rattle.simplex_bounds.specs.Held.{ranges_in}
use Rattle.simplex_check.specs.Assignments.{state_of}
use Rattle.simplex_check.proofs.Suspecting.{suspect_rest, suspect_least, suspect_none}
use Rattle.simplex_check.proofs.rule.pop_leaving.Goals as goal

pub loop-y-init : goal.loop-y-init
loop-y-init c = c.requires

pub returns-then-is_out : goal.returns-then-is_out
returns-then-is_out c = suspect_least (ranges_in c.args.bounds.now.held) (state_of c.args.assignment.now) c.in-Some.y c.loop-y.suspects c.pop.new.self c.loop-y.invariant c.in-Some.ensures.0 c.in-Some.ensures.1 (sym c.is_out.ensures ∙ c.if-is_out.true)

pub loop-y-smaller : goal.loop-y-smaller
loop-y-smaller c = let e = ap length c.in-Some.ensures.0 in omega (arith, e)

pub loop-y-preserved : goal.loop-y-preserved
loop-y-preserved c = suspect_rest (ranges_in c.args.bounds.now.held) (state_of c.args.assignment.now) c.in-Some.y c.loop-y.suspects c.pop.new.self c.loop-y.invariant c.in-Some.ensures.0 (sym c.is_out.ensures ∙ c.if-is_out.false)

pub returns : goal.returns
returns c = suspect_none (ranges_in c.args.bounds.now.held) (state_of c.args.assignment.now) c.loop-y.suspects c.loop-y.invariant c.in_default.ensures
