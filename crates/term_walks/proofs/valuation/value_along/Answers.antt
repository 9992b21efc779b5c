-- What is known of the first terms gives the next, and in the end the value.
use Rattle.std.proofs.Common.{length, get_or, All, sym, ap, ◌∙◌, subst, rules, arith}
use Rattle.term_core.specs.NameLists.{HaveNoTwice}
use Rattle.term_core.specs.Symbols.{SymbolsView}
use Rattle.term_walks.specs.Valuations.{Tells}
use Rattle.term_walks.specs.Orders.{HasArgumentsBefore}
use Rattle.term_walks.specs.KnownValues.{IsKnownNamed, AreKnownValues}
use Rattle.term_walks.proofs.Among.{at_in}
use Rattle.term_walks.proofs.Taking.{ready, root_among_first, known_push, all_push}
use Rattle.term_walks.proofs.valuation.value_along.Goals as goal

pub known_next-requires-clause-there : goal.known_next-requires-clause-there
known_next-requires-clause-there c = c.requires.order.there (get_or c.args.order.now c.terms.at 0) (at_in c.args.order.now c.terms.at c.terms-test.true)

pub known_next-requires-clause-ready : goal.known_next-requires-clause-ready
known_next-requires-clause-ready c =
    let order = c.args.order.now in
    subst (λ n. HasArgumentsBefore c.args.table.now order n (get_or order c.terms.at 0)) (sym (ap length c.as_slice.ensures.value ∙ c.terms.invariant.long))
    (ready c.args.table.now c.args.id.0 order c.terms.at c.requires.order c.terms-test.true)

pub terms-preserved : goal.terms-preserved
terms-preserved c =
    let t = c.args.table.now in
    let order = c.args.order.now in
    record {
      long = search rules;
      named = all_push (IsKnownNamed t.sorts) c.terms.known.items c.push.new.self.items c.in_ok-next.next c.in_ok-push.ensures.items c.terms.invariant.named c.in_ok-next.ensures.named;
      so_far = λ i tells.
          known_push t i order c.terms.known.items c.push.new.self.items c.in_ok-next.next c.terms.at c.in_ok-push.ensures.items c.terms.invariant.long (c.terms.invariant.so_far i tells)
          (c.in_ok-next.ensures.exact i tells (subst (AreKnownValues t i order) (sym c.as_slice.ensures.value) (c.terms.invariant.so_far i tells)));
    }

pub known_at-requires-clause-there : goal.known_at-requires-clause-there
known_at-requires-clause-there c =
    root_among_first c.args.table.now c.args.id.0 c.args.order.now _ c.requires.order
    (omega (arith, ap length c.as_slice-2.ensures.value, c.terms.invariant.long, c.terms-test.false))

pub returns-in-Value-clause-exact : goal.returns-in-Value-clause-exact
returns-in-Value-clause-exact c i represents =
    let t = c.args.table.now in
    let tells : Tells t c.args.interp.now i = record { apart = subst (λ (s : SymbolsView). HaveNoTwice s.sorts) c.symbols.ensures c.are_declared.ensures.sorts_apart; tables = c.requires.interprets; represents = represents } in
    sym (c.in-Value.ensures.exact t i (subst (AreKnownValues t i c.args.order.now) (sym c.as_slice-2.ensures.value) (c.terms.invariant.so_far i tells)))

pub returns-in-Value-clause-named : goal.returns-in-Value-clause-named
returns-in-Value-clause-named c =
    let t = c.args.table.now in
    c.in-Value.ensures.named t.sorts (subst (All (IsKnownNamed t.sorts)) (sym c.as_slice-2.ensures.value) c.terms.invariant.named)

pub returns-clause-exact : goal.returns-clause-exact
returns-clause-exact c i represents =
    let t = c.args.table.now in
    let tells : Tells t c.args.interp.now i = record { apart = subst (λ (s : SymbolsView). HaveNoTwice s.sorts) c.symbols.ensures c.are_declared.ensures.sorts_apart; tables = c.requires.interprets; represents = represents } in
    sym (c.in-Wide.ensures.exact t i (subst (AreKnownValues t i c.args.order.now) (sym c.as_slice-2.ensures.value) (c.terms.invariant.so_far i tells)))
