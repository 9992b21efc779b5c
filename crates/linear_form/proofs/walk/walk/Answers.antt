-- One term after the other becomes known.
use Rattle.std.proofs.Common.{rules, ◌≡◌, ◌+◌, ◌<◌, ◌≤◌, IfOk, length, get_or, sym, subst, ap, ◌∙◌, arith}
use Rattle.std.proofs.lemmas.List.{get_or_default}
use Rattle.linear_form.specs.Walks.{needed_at, IsKnown, AreKnownForms}
use Rattle.term_walks.proofs.Among.{at_in}
use Rattle.term_walks.proofs.Named.{numbers_length}
use Rattle.linear_form.proofs.ReadyForms.{left_known, left_next, left_before, end_fits, end_root, ready_more}
use Rattle.linear_form.proofs.walk.walk.Goals as goal

pub needed-count-requires : goal.needed-count-requires
needed-count-requires c =
    let order = c.in_ok-plan.plan.order.items in
    let n : c.len-at-end.result ≡ length order = search rules in
    let lt : c.terms.at < length order = omega (arith, c.terms-test.true, n) in
    let k = c.index.result.now in
    let is : get_or order c.terms.at 0 ≡ k = get_or_default order c.terms.at 0 k lt ∙ sym c.index.ensures in
    record { there = subst (λ k. k < length c.args.table.now.terms) is (c.in_ok-plan.ensures.in_order.there (get_or order c.terms.at 0) (at_in order c.terms.at lt)) }

pub fetch_all-requires-clause-places : goal.fetch_all-requires-clause-places
fetch_all-requires-clause-places c =
    let needed = needed_at c.args.table.now in
    let order = c.in_ok-plan.plan.order.items in
    let n : c.len-at-end.result ≡ length order = search rules in
    let lt : c.terms.at < length order = omega (arith, c.terms-test.true, n) in
    let k = c.index.result.now in
    let is : k ≡ get_or order c.terms.at 0 = c.index.ensures ∙ get_or_default order c.terms.at k 0 lt in
    let count = sym (numbers_length c.needed-count.result.now) ∙ ap length c.needed-count.ensures.same in
    let p = c.in_ok-plan.ensures in
    λ i le low. subst (λ n. get_or c.in_ok-plan.plan.uses.items i 0 < n) (sym c.terms.invariant.len)
    (left_before needed order c.in_ok-plan.plan.uses.items c.args.id.0 c.terms.at c.terms.tick k lt is c.terms.invariant.left _ count p.in_order.ascends p.inside c.needed-count.ensures.before i le low)

pub known_of-requires-clause-there : goal.known_of-requires-clause-there
known_of-requires-clause-there c =
    let order = c.in_ok-plan.plan.order.items in
    let n : c.len-at-end.result ≡ length order = search rules in
    let lt : c.terms.at < length order = omega (arith, c.terms-test.true, n) in
    let k = c.index.result.now in
    let is : get_or order c.terms.at 0 ≡ k = get_or_default order c.terms.at 0 k lt ∙ sym c.index.ensures in
    subst (λ k. k < length c.args.table.now.terms) is (c.in_ok-plan.ensures.in_order.there (get_or order c.terms.at 0) (at_in order c.terms.at lt))

pub known_of-requires-clause-known : goal.known_of-requires-clause-known
known_of-requires-clause-known c =
    let needed = needed_at c.args.table.now in
    let order = c.in_ok-plan.plan.order.items in
    let n : c.len-at-end.result ≡ length order = search rules in
    let lt : c.terms.at < length order = omega (arith, c.terms-test.true, n) in
    let k = c.index.result.now in
    let is : k ≡ get_or order c.terms.at 0 = c.index.ensures ∙ get_or_default order c.terms.at k 0 lt in
    let count = sym (numbers_length c.needed-count.result.now) ∙ ap length c.needed-count.ensures.same in
    subst (λ l. AreKnownForms c.args.table.now l c.in_ok-arguments.arguments.items)
    (left_known needed order c.in_ok-plan.plan.uses.items c.args.id.0 c.terms.at c.terms.tick k lt is c.terms.invariant.left _ count) (c.in_ok-arguments.ensures.known c.args.table.now c.terms.invariant.ready)

pub terms-preserved : goal.terms-preserved
terms-preserved c =
    let needed = needed_at c.args.table.now in
    let t = c.args.table.now in
    let order = c.in_ok-plan.plan.order.items in
    let n : c.len-at-end.result ≡ length order = search rules in
    let lt : c.terms.at < length order = omega (arith, c.terms-test.true, n) in
    let k = c.index.result.now in
    let is : k ≡ get_or order c.terms.at 0 = c.index.ensures ∙ get_or_default order c.terms.at k 0 lt in
    let count = sym (numbers_length c.needed-count.result.now) ∙ ap length c.needed-count.ensures.same in
    record {
      len = search rules;
      ready = ready_more t order c.in_ok-plan.plan.last.items c.fetch_all.new.slots.items c.push.new.self.items c.in_ok-known.known c.terms.at (c.terms.tick + length c.needed-count.result.now) (c.in_ok-arguments.ensures.ready t c.terms.invariant.ready) c.in_ok-push.ensures.items
          (c.in_ok-arguments.ensures.len ∙ c.terms.invariant.len) (subst (λ k. IsKnown t k c.in_ok-known.known) is c.in_ok-known.ensures);
      left = left_next needed order c.in_ok-plan.plan.uses.items c.args.id.0 c.terms.at c.terms.tick k lt is c.terms.invariant.left _ count;
    }

pub fetch-requires-clause-place : goal.fetch-requires-clause-place
fetch-requires-clause-place c =
    let needed = needed_at c.args.table.now in
    let order = c.in_ok-plan.plan.order.items in
    let n : c.len-at-end.result ≡ length order = search rules in
    let le : length order ≤ c.terms.at = omega (arith, c.terms-test.false, n) in
    let low = c.in_ok-plan.ensures.inside c.terms.tick 0 (end_fits needed order c.in_ok-plan.plan.uses.items c.args.id.0 c.terms.at c.terms.tick le c.terms.invariant.left) in
    omega (arith, low, le, c.terms.invariant.len)

pub returns : goal.returns
returns c =
    let needed = needed_at c.args.table.now in
    let order = c.in_ok-plan.plan.order.items in
    let n : c.len-at-end.result ≡ length order = search rules in
    let le : length order ≤ c.terms.at = omega (arith, c.terms-test.false, n) in
    subst (λ k. IfOk c.fetch.result (IsKnown c.args.table.now k)) (end_root needed order c.in_ok-plan.plan.uses.items c.args.id.0 c.terms.at c.terms.tick le c.terms.invariant.left) (c.fetch.ensures.known c.args.table.now c.terms.invariant.ready)
