-- Cycle by cycle: a search goes on.
use Rattle.std.proofs.Common.{◌∙◌, List, Vec, Global, refl, sym, ap, subst}
use Rattle.term_core.proofs.TermsExtend.{Extends-trans}
use Rattle.simplex_explain.specs.declared.weighted.Weighted.{Weighted}
use Rattle.bound_lemmas.specs.Cycles.{AreReasonsOf}
use Rattle.search_loop.specs.declared.search.Search.{Search}
use Rattle.solve_core.proofs.SearchRelated.{related_same, related_on}
use Rattle.solve_core.proofs.SearchCycled.{reasons_later}
use Rattle.solve_core.proofs.cycling.relate_each.Goals as goal

pub cycles-init : goal.cycles-init
cycles-init c = related_same c.args.table.now c.args.search.now c.requires.ready

pub relate_cycle-requires : goal.relate_cycle-requires
relate_cycle-requires c =
    let x = c.args.search.now in
    let y = c.cycles.search in
    let v = c.cycle-item.result in (
      refl,
      (
        c.cycles.invariant.ready,
        (
          ap (λ (s : Search). s.trail.level) c.cycles.invariant.same ∙ c.requires.level,
          subst (λ (rs : List Weighted). AreReasonsOf y.atoms.items rs) (sym c.deref.ensures.value)
              (reasons_later c.args.table.now c.cycles.table x y v.items c.cycles.invariant
              (subst (λ (w : Vec Weighted Global). AreReasonsOf x.atoms.items w.items) (sym c.cycle-item.is) (c.requires.reasons c.cycles.cycle-index v c.cycles-test.true))),
        ),
      ),
    )

pub returns-in_err-relate_cycle-clause-grown : goal.returns-in_err-relate_cycle-clause-grown
returns-in_err-relate_cycle-clause-grown c = Extends-trans c.args.table.now c.cycles.table c.relate_cycle.new.table c.cycles.invariant.continues.table c.relate_cycle.ensures.grown

pub returns-in_err-relate_cycle-clause-declared : goal.returns-in_err-relate_cycle-clause-declared
returns-in_err-relate_cycle-clause-declared c = c.relate_cycle.ensures.declared ∙ c.cycles.invariant.continues.declared

pub cycles-preserved : goal.cycles-preserved
cycles-preserved c =
    related_on c.args.table.now c.cycles.table c.relate_cycle.new.table c.args.search.now c.cycles.search c.relate_cycle.new.search c.cycles.invariant c.in_ok-relate_cycle.ensures.related

pub returns-clause-grown : goal.returns-clause-grown
returns-clause-grown c = c.cycles.invariant.continues.table

pub returns-clause-declared : goal.returns-clause-declared
returns-clause-declared c = c.cycles.invariant.continues.declared

pub returns-clause-related : goal.returns-clause-related
returns-clause-related c = c.cycles.invariant
