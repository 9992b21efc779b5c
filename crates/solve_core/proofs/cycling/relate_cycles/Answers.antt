-- The atoms are of the table, and where no cycles come nothing changes.
use Rattle.std.proofs.Common.{sym, subst}
use Rattle.std.proofs.lemmas.List.Elements.{All-weaker}
use Rattle.term_core.specs.Tables.{IsIn, AreIn}
use Rattle.term_core.proofs.TermsExtend.{Extends-self}
use Rattle.proof_log.specs.Theories.{IsAtomIn}
use Rattle.solve_core.proofs.cycling.relate_cycles.Goals as goal

pub order_cycles_of-requires : goal.order_cycles_of-requires
order_cycles_of-requires c =
    let t = c.args.table.now in
    subst (AreIn t) (sym c.deref.ensures.value) (All-weaker (IsAtomIn t) (IsIn t) (λ id k. k.0.0) c.args.search.now.atoms.items c.requires.ready.atoms_are.chosen.only)

pub returns-in_err-signs-clause-grown : goal.returns-in_err-signs-clause-grown
returns-in_err-signs-clause-grown c = Extends-self c.args.table.now

pub returns-in_err-cycles-clause-grown : goal.returns-in_err-cycles-clause-grown
returns-in_err-cycles-clause-grown c = Extends-self c.args.table.now
