-- The greatest that waits is found next.
use Rattle.std.proofs.Common.{true≢false, [], ◌∷◌, ◌++◌, reverse, ap, sym, subst, ◌∙◌}
use Rattle.std.proofs.lemmas.List.{reverse-append}
use Rattle.spec_text.proofs.General.{nothing_left}
use Rattle.term_walks.specs.Orders.{IsOrder}
use Rattle.term_walks.proofs.Found.{IsFound, found_first, found_more, found_end, k_there, k_below}
use Rattle.term_walks.proofs.order.order_of.Goals as goal

pub terms-init : goal.terms-init
terms-init c =
    let t = c.args.table.now in
    let k = c.args.root.0 in
    let came = c.in_ok-add_arguments.ensures in
    record {
      found = subst (λ l. IsFound t k c.add_arguments.new.waiting.keys l k) (sym (ap reverse (c.in_ok-push.ensures.items ∙ ap (λ l. l ++ k ∷ []) c.new-order.ensures.items)))
          (found_first t k came.0 c.new-waiting.result.keys c.add_arguments.new.waiting.keys c.new-waiting.ensures.empty came.2 came.1 c.requires);
    }

pub add_arguments-requires-in-Some : goal.add_arguments-requires-in-Some
add_arguments-requires-in-Some c = k_there _ _ _ _ _ _ _ c.terms.invariant.found c.in-Some.ensures.removal

pub terms-smaller : goal.terms-smaller
terms-smaller c = k_below _ _ _ _ _ _ _ c.terms.invariant.found c.in-Some.ensures.removal

pub terms-preserved : goal.terms-preserved
terms-preserved c =
    let t = c.args.table.now in
    let k = c.in-Some.number in
    let found = reverse c.terms.order.items in
    let new = c.add_arguments-in-Some.new.waiting.keys in
    let came = c.in_ok-add_arguments-2.ensures in
    record {
      found = subst (λ l. IsFound t c.args.root.0 new l k) (sym (ap reverse c.in_ok-push-2.ensures.items ∙ reverse-append c.terms.order.items (k ∷ [])))
          (found_more t c.args.root.0 k came.0 c.terms.waiting.keys c.pop_last.new.self.keys new found c.terms.top c.terms.invariant.found c.in-Some.ensures.removal c.in-Some.ensures.all_below came.2 came.1);
    }

pub returns : goal.returns
returns c =
    let t = c.args.table.now in
    subst (IsOrder t c.args.root.0) (sym c.reverse.ensures.items) (found_end t c.args.root.0 c.terms.waiting.keys (reverse c.terms.order.items) c.terms.top c.terms.invariant.found (nothing_left c.terms.waiting.keys (λ lt. true≢false (sym (c.in_default.ensures.variant.1 lt)))))
