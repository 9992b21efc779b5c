-- The first argument, the others, and the end of the list.
use Rattle.std.proofs.Common.{ap}
use Rattle.world_io.proofs.Chains.{next, fails, last}
use Rattle.rule_bool.specs.Arguments.{fractions_of}
use Rattle.alethe_writer.proofs.Starts.{given_start}
use Rattle.alethe_writer.proofs.lines.write_given.Goals as goal

pub returns-in_err-write_fraction : goal.returns-in_err-write_fraction
returns-in_err-write_fraction g c =
    fails _ (given_start _ _ _ _ (ap fractions_of c.in-Some.ensures.cases.0)) c.in_err-write_fraction.ensures c.from_residual.ensures.0

pub returns-in_err-write_others : goal.returns-in_err-write_others
returns-in_err-write_others g c =
    let s0 = given_start _ _ _ _ (ap fractions_of c.in-Some.ensures.cases.0) in
    let s1 = next s0 c.in_ok-write_fraction.ensures in
    fails _ s1 c.in_err-write_others.ensures c.from_residual-in_err-write_others.ensures.0

pub returns : goal.returns
returns g c =
    let s0 = given_start _ _ _ _ (ap fractions_of c.in-Some.ensures.cases.0) in
    let s1 = next s0 c.in_ok-write_fraction.ensures in
    let s2 = next s1 c.in_ok-write_others.ensures in
    last _ _ s2 c.write_all.ensures
