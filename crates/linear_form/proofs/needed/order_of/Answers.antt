-- The greatest that waits is found next.
use Rattle.std.proofs.Common.{true≢false, [], ◌∷◌, ◌++◌, reverse, ap, sym, subst, ◌∙◌}
use Rattle.std.proofs.lemmas.List.{reverse-append}
use Rattle.spec_text.proofs.General.{nothing_left}
use Rattle.term_walks.specs.Orders.{AddsNumbers}
use Rattle.linear_form.specs.Walks.{IsOrder}
use Rattle.linear_form.proofs.FoundTerms.{IsFound, found_first, found_more, found_end, k_there, k_below}
use Rattle.linear_form.proofs.needed.order_of.Goals as goal

pub terms-init : goal.terms-init
terms-init c =
    let t = c.args.table.now in
    let k = c.args.id.0 in
    record {
      found = subst (λ l. IsFound t k c.add_all.new.waiting.keys l k) (sym (ap reverse (c.in_ok-push.ensures.items ∙ ap (λ l. l ++ k ∷ []) c.new-order.ensures.items)))
          (found_first t k c.new-waiting.result.keys c.add_all.new.waiting.keys c.new-waiting.ensures.empty
          (subst (λ l. AddsNumbers c.new-waiting.result.keys l c.add_all.new.waiting.keys) c.needed.ensures.same c.in_ok-add_all.ensures) c.needed.ensures.before c.requires);
    }

pub needed-requires-in-Some : goal.needed-requires-in-Some
needed-requires-in-Some c = record { there = k_there _ _ _ _ _ _ _ c.terms.invariant.found c.in-Some.ensures.removal }

pub terms-smaller : goal.terms-smaller
terms-smaller c = k_below _ _ _ _ _ _ _ c.terms.invariant.found c.in-Some.ensures.removal

pub terms-preserved : goal.terms-preserved
terms-preserved c =
    let t = c.args.table.now in
    let k = c.in-Some.number in
    let found = reverse c.terms.order.items in
    let new = c.add_all-in-Some.new.waiting.keys in
    record {
      found = subst (λ l. IsFound t c.args.id.0 new l k) (sym (ap reverse c.in_ok-push-2.ensures.items ∙ reverse-append c.terms.order.items (k ∷ [])))
          (found_more t c.args.id.0 k c.terms.waiting.keys c.pop_last.new.self.keys new found c.terms.top c.terms.invariant.found c.in-Some.ensures.removal c.in-Some.ensures.all_below
          (subst (λ l. AddsNumbers c.pop_last.new.self.keys l new) c.needed-in-Some.ensures.same c.in_ok-add_all-2.ensures) c.needed-in-Some.ensures.before);
    }

pub returns : goal.returns
returns c =
    let t = c.args.table.now in
    subst (IsOrder t c.args.id.0) (sym c.reverse.ensures.items) (found_end t c.args.id.0 c.terms.waiting.keys (reverse c.terms.order.items) c.terms.top c.terms.invariant.found (nothing_left c.terms.waiting.keys (λ lt. true≢false (sym (c.in_default.ensures.variant.1 lt)))))
