-- The terms that are filled already give the next, and in the end the term.
use Rattle.std.proofs.Common.{◌<◌, ℕ, length, get_or, sym, ap, refl, ◌∙◌, subst, rules, arith}
use Rattle.spec_sorts.specs.Terms.{filled}
use Rattle.term_core.specs.Tables.{clause_at}
use Rattle.term_core.proofs.TermsExtend.{Extends-self, Extends-trans, IsIn-kept, clause_at-kept}
use Rattle.term_walks.specs.Filling.{FillsAll}
use Rattle.term_walks.specs.FilledTerms.{AreFilled}
use Rattle.term_walks.specs.Orders.{number_term, HasArgumentsBefore}
use Rattle.term_walks.proofs.Among.{at_in}
use Rattle.term_walks.proofs.Taking.{ready, root_among_first}
use Rattle.term_walks.proofs.Filled.{ready_kept, number_kept, filled_push}
use Rattle.term_walks.proofs.substitution.fill_along.Goals as goal

pub terms-init : goal.terms-init
terms-init c = record {
  long = ap length c.new-made.ensures.items;
  kept = Extends-self _;
  declared = refl;
  so_far = λ j d lt. absurd (omega (arith, lt, ap length c.new-made.ensures.items));
}

pub fill_next-requires-clause-there : goal.fill_next-requires-clause-there
fill_next-requires-clause-there c =
    let k = get_or c.args.order.now c.terms.at 0 in
    IsIn-kept c.args.table.now c.terms.table c.terms.invariant.kept (record { 0 = k }) (c.requires.order.there k (at_in c.args.order.now c.terms.at c.terms-test.true))

pub fill_next-requires-clause-fills : goal.fill_next-requires-clause-fills
fill_next-requires-clause-fills c =
    let old = c.args.table.now in
    let now = c.terms.table in
    let k = get_or c.args.order.now c.terms.at 0 in
    let in_order = at_in c.args.order.now c.terms.at c.terms-test.true in
    subst (λ l. FillsAll l (number_term now k)) (sym (clause_at-kept old now c.terms.invariant.kept c.args.arguments.now c.requires.arguments))
    (subst (FillsAll (clause_at old c.args.arguments.now)) (sym (number_kept old now c.terms.invariant.kept k (c.requires.order.there k in_order))) (c.requires.order.filled (clause_at old c.args.arguments.now) c.requires.fills k in_order))

pub fill_next-requires-clause-ready : goal.fill_next-requires-clause-ready
fill_next-requires-clause-ready c =
    let old = c.args.table.now in
    let now = c.terms.table in
    let order = c.args.order.now in
    let k = get_or order c.terms.at 0 in
    subst (λ n. HasArgumentsBefore now order n k) (sym (ap length c.as_slice.ensures.value ∙ c.terms.invariant.long))
    (ready_kept old now c.terms.invariant.kept order c.terms.at k (c.requires.order.there k (at_in order c.terms.at c.terms-test.true)) (ready old c.args.body.0 order c.terms.at c.requires.order c.terms-test.true))

pub fill_next-requires-clause-made : goal.fill_next-requires-clause-made
fill_next-requires-clause-made c =
    let old = c.args.table.now in
    let now = c.terms.table in
    subst (λ l. AreFilled now l c.args.order.now c.as_slice.result.now) (sym (clause_at-kept old now c.terms.invariant.kept c.args.arguments.now c.requires.arguments))
    (subst (AreFilled now (clause_at old c.args.arguments.now) c.args.order.now) (sym c.as_slice.ensures.value) c.terms.invariant.so_far)

pub terms-preserved : goal.terms-preserved
terms-preserved c =
    let old = c.args.table.now in
    let now = c.terms.table in
    let new = c.fill_next.new.table in
    let order = c.args.order.now in
    let ts = clause_at old c.args.arguments.now in
    let k = get_or order c.terms.at 0 in
    let same = clause_at-kept old now c.terms.invariant.kept c.args.arguments.now c.requires.arguments in
    let there : (j : ℕ) → j < length order → get_or order j 0 < length now.terms = λ j lt. IsIn-kept old now c.terms.invariant.kept (record { 0 = get_or order j 0 }) (c.requires.order.there (get_or order j 0) (at_in order j lt)) in
    let h = c.in_ok-next.ensures.filled in
    record {
      long = search rules;
      kept = Extends-trans old now new c.terms.invariant.kept c.in_ok-next.ensures.kept.0;
      declared = c.in_ok-next.ensures.kept.1 ∙ c.terms.invariant.declared;
      so_far = filled_push now new c.in_ok-next.ensures.kept.0 ts order c.terms.made.items c.push.new.self.items c.in_ok-next.next c.terms.at c.in_ok-push.ensures.items c.terms.invariant.long
          (λ j lt. there j (omega (arith, lt, c.terms.invariant.long, c.terms-test.true))) c.terms.invariant.so_far
          (h.0, h.1 ∙ (λ i. filled (same i) (sym (number_kept now new c.in_ok-next.ensures.kept.0 k (there c.terms.at c.terms-test.true)) i)));
    }

pub made_at-requires-clause-there : goal.made_at-requires-clause-there
made_at-requires-clause-there c =
    root_among_first c.args.table.now c.args.body.0 c.args.order.now _ c.requires.order
    (omega (arith, ap length c.as_slice-2.ensures.value, c.terms.invariant.long, c.terms-test.false))

pub returns-clause-filled : goal.returns-clause-filled
returns-clause-filled c =
    let old = c.args.table.now in
    let now = c.terms.table in
    let ts = clause_at old c.args.arguments.now in
    let h = c.made_at.ensures now ts (subst (AreFilled now ts c.args.order.now) (sym c.as_slice-2.ensures.value) c.terms.invariant.so_far) in
    (h.0, h.1 ∙ ap (filled ts) (number_kept old now c.terms.invariant.kept c.args.body.0 (c.requires.order.there c.args.body.0 c.requires.order.root_there)))
