-- The atoms are of the table, and where no pairs come nothing changes.
use Rattle.std.proofs.Common.{◌∙◌, ap, sym, subst}
use Rattle.std.proofs.lemmas.List.Elements.{All-weaker}
use Rattle.term_core.specs.Tables.{IsIn, AreIn}
use Rattle.term_core.proofs.TermsExtend.{Extends-self, Extends-trans}
use Rattle.proof_log.specs.Theories.{IsAtomIn}
use Rattle.search_loop.specs.declared.search.Search.{Search}
use Rattle.solve_core.proofs.SearchCycled.{related_after}
use Rattle.solve_core.proofs.bounding.relate_bounds.Goals as goal

pub neighbours_of-requires : goal.neighbours_of-requires
neighbours_of-requires c =
    let t = c.args.table.now in
    subst (AreIn t) (sym c.deref.ensures.value) (All-weaker (IsAtomIn t) (IsIn t) (λ id k. k.0.0) c.args.search.now.atoms.items c.requires.ready.atoms_are.chosen.only)

pub returns-in_err-pairs-clause-grown : goal.returns-in_err-pairs-clause-grown
returns-in_err-pairs-clause-grown c = Extends-self c.args.table.now

pub returns-in_err-marks-clause-grown : goal.returns-in_err-marks-clause-grown
returns-in_err-marks-clause-grown c = Extends-self c.args.table.now

pub relate_cycles-requires-clause-ready : goal.relate_cycles-requires-clause-ready
relate_cycles-requires-clause-ready c = c.in_ok-relate_marked.ensures.related.ready

pub relate_cycles-requires-clause-level : goal.relate_cycles-requires-clause-level
relate_cycles-requires-clause-level c = ap (λ (s : Search). s.trail.level) c.in_ok-relate_marked.ensures.related.same ∙ c.requires.level

pub returns-clause-grown : goal.returns-clause-grown
returns-clause-grown c =
    Extends-trans c.args.table.now c.relate_marked.new.table c.relate_cycles.new.table c.relate_marked.ensures.grown c.relate_cycles.ensures.grown

pub returns-clause-declared : goal.returns-clause-declared
returns-clause-declared c = c.relate_cycles.ensures.declared ∙ c.relate_marked.ensures.declared

pub returns-clause-related : goal.returns-clause-related
returns-clause-related c =
    related_after c.args.table.now c.relate_marked.new.table c.relate_cycles.new.table c.args.search.now c.relate_marked.new.search c.relate_cycles.new.search c.relate_cycles.result c.in_ok-relate_marked.ensures.related
    c.relate_cycles.ensures.related
