-- A parameter is its argument, which is there.
use Rattle.std.proofs.Common.{refl}
use Rattle.term_core.specs.Tables.{term_at}
use Rattle.term_core.proofs.TermsExtend.{Extends-self}
use Rattle.term_walks.proofs.Named.{no_number}
use Rattle.term_walks.proofs.Filled.{argument_filled}
use Rattle.term_walks.proofs.substitution.fill_next.Goals as goal

pub returns-in-Some-clause-filled : goal.returns-in-Some-clause-filled
returns-in-Some-clause-filled c =
    let t = c.args.table.now in
    (c.requires.arguments c.in-Some.number no_number c.in-Some.ensures.inside, argument_filled t c.args.arguments.now (term_at t c.args.id) c.in-Some.number no_number c.in-Some.ensures.is c.in-Some.ensures.inside)

pub returns-in-Some-clause-kept : goal.returns-in-Some-clause-kept
returns-in-Some-clause-kept c = (Extends-self _, refl)
