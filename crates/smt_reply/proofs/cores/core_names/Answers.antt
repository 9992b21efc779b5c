-- The marks of assertions without a name are taken, and then names are listed.
use Rattle.spec_sorts.specs.Subterms.{has_term}
use Rattle.spec_commands.specs.Stack.{assertions_of}
use Rattle.spec_sessions.specs.Cores.{unnamed}
use Rattle.smt_reply.specs.Cores.{planned, planned_terms}
use Rattle.smt_reply.proofs.Marked.{none_seen}
use Rattle.smt_reply.proofs.cores.core_names.Goals as goal

pub returns : goal.returns
returns c = λ limit s held.
    let t = c.args.table.now in
    let assumed = planned_terms t (planned c.args.log.now c.args.plan.now) in
    c.in_ok-names.ensures limit s assumed held (none_seen t assumed (unnamed (assertions_of s)) c.strike.new.marks.items (c.strike.ensures.left limit s (has_term assumed) held c.in_ok-marks.ensures))
