-- Pair by pair: a search goes on.
use Rattle.std.proofs.Common.{◌∙◌, refl, sym, ap, subst}
use Rattle.term_core.proofs.TermsExtend.{Extends-trans}
use Rattle.bound_lemmas.specs.declared.pair.BoundPair.{BoundPair}
use Rattle.bound_lemmas.specs.Pairs.{IsPairOf}
use Rattle.search_loop.specs.declared.search.Search.{Search}
use Rattle.solve_core.proofs.SearchRelated.{related_same, related_on, pair_later}
use Rattle.solve_core.proofs.bounding.relate_marked.Goals as goal

pub pairs-init : goal.pairs-init
pairs-init c = related_same c.args.table.now c.args.search.now c.requires.ready

pub relate-requires : goal.relate-requires
relate-requires c =
    let y = c.pairs.search in
    let p = c.pair-item.result in (
      refl,
      (
        c.pairs.invariant.ready,
        (
          ap (λ (s : Search). s.trail.level) c.pairs.invariant.same ∙ c.requires.level,
          subst (λ (q : BoundPair). IsPairOf y.atoms.items q) (sym c.pair-item.is)
              (pair_later c.args.table.now c.pairs.table c.args.search.now y _ c.pairs.invariant (c.requires.pairs c.pairs.pair-index p c.pairs-test.true)),
        ),
      ),
    )

pub returns-in_err-relate-clause-grown : goal.returns-in_err-relate-clause-grown
returns-in_err-relate-clause-grown c = Extends-trans c.args.table.now c.pairs.table c.relate.new.table c.pairs.invariant.continues.table c.relate.ensures.grown

pub returns-in_err-relate-clause-declared : goal.returns-in_err-relate-clause-declared
returns-in_err-relate-clause-declared c = c.relate.ensures.declared ∙ c.pairs.invariant.continues.declared

pub pairs-preserved : goal.pairs-preserved
pairs-preserved c =
    related_on c.args.table.now c.pairs.table c.relate.new.table c.args.search.now c.pairs.search c.relate.new.search c.pairs.invariant c.in_ok-relate.ensures.related

pub returns-clause-grown : goal.returns-clause-grown
returns-clause-grown c = c.pairs.invariant.continues.table

pub returns-clause-declared : goal.returns-clause-declared
returns-clause-declared c = c.pairs.invariant.continues.declared

pub returns-clause-related : goal.returns-clause-related
returns-clause-related c = c.pairs.invariant
