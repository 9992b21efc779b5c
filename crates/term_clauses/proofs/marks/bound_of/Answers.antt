-- The bound is above one number more.
use Rattle.std.proofs.Common.{◌<◌, List, All, arith, subst}
use Rattle.std.proofs.lemmas.List.{take_all}
use Rattle.std.proofs.lemmas.List.Elements.{All-more}
use Rattle.term_core.specs.declared.ids.TermId.{TermId}
use Rattle.term_clauses.proofs.Arguments.{no_number}
use Rattle.term_clauses.proofs.marks.bound_of.Goals as goal

pub ids-preserved : goal.ids-preserved
ids-preserved c =
    let new = c.above-bound.result in
    record {
      above = All-more (λ (id : TermId). id.0 < new) c.args.ids.now c.ids.id-index no_number c.ids-test.true (λ k d lt. omega (arith, c.ids.invariant.above k d lt, c.above-bound.ensures.0)) c.above-bound.ensures.1;
      within = c.above-bound.ensures.2;
    }

pub returns-clause-above : goal.returns-clause-above
returns-clause-above c = subst (λ (xs : List TermId). All (λ id. id.0 < c.ids.bound) xs) (take_all c.ids.id-index c.args.ids.now c.ids-test.false) c.ids.invariant.above
