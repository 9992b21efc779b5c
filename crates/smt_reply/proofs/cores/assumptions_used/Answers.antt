-- The marks of all assertions are taken, and then literals are listed.
use Rattle.spec_sorts.specs.Subterms.{has_term}
use Rattle.spec_commands.specs.Stack.{assertions_of, terms_asserted}
use Rattle.smt_reply.specs.Cores.{planned, planned_terms}
use Rattle.smt_reply.proofs.cores.assumptions_used.Goals as goal

pub returns : goal.returns
returns c = λ limit s ls held literals texts.
    let assumed = planned_terms c.args.table.now (planned c.args.log.now c.args.plan.now) in
    c.in_ok-texts.ensures assumed (terms_asserted (assertions_of s)) ls literals texts (c.strike.ensures.left limit s (has_term assumed) held c.in_ok-marks.ensures)
