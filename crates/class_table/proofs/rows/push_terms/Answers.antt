-- One term more is there.
use Rattle.std.proofs.Common.{arith, ◌≡◌, ◌∙◌, ◌+◌, ◌++◌, ◌∷◌, [], ℕ, List, length, replicate, refl, sym, ap, append_assoc}
use Rattle.std.proofs.lemmas.List.{length-append, replicate_more}
use Rattle.std.proofs.lemmas.List.FromFn.{length-range_with_len}
use Rattle.std.specs.List.{range_with_len}
use Rattle.class_table.proofs.Lists.{range_follow}
use Rattle.class_table.proofs.rows.push_terms.Goals as goal

pub loop-preserved : goal.loop-preserved
loop-preserved c =
    let k = c.loop.counter in
    let a = length c.args.numbers.now.items in
    let term : c.len-term.result ≡ a + k =
    omega (arith, c.len-term.ensures, c.loop.numbers.ok.0, ap length c.loop.invariant.numbers, length-append c.args.numbers.now.items (range_with_len a k), length-range_with_len a k) in
    let more : range_with_len a k ++ c.len-term.result ∷ [] ≡ range_with_len a (k + 1) = ap (λ t. range_with_len a k ++ t ∷ []) term ∙ sym (range_follow a k 1 (a + k) refl) in
    let goes : (xs : List ℕ) → (xs ++ range_with_len a k) ++ c.len-term.result ∷ [] ≡ xs ++ range_with_len a (k + 1) = λ xs. append_assoc xs (range_with_len a k) (c.len-term.result ∷ []) ∙ ap (λ ys. xs ++ ys) more in
    record {
      room = omega (arith, c.loop.invariant.room, c.push_reserved.ensures.len, c.push_reserved.ensures.capacity, c.loop-test.true);
      next_room = omega (arith, c.loop.invariant.next_room, c.push_reserved-in-loop.ensures.len, c.push_reserved-in-loop.ensures.capacity, c.loop-test.true);
      sizes_room = omega (arith, c.loop.invariant.sizes_room, c.push_reserved-in-loop-2.ensures.len, c.push_reserved-in-loop-2.ensures.capacity, c.loop-test.true);
      sized = omega (arith, c.loop.invariant.sized, c.push_reserved.ensures.len, c.push_reserved-in-loop.ensures.len);
      numbers = c.push_reserved.ensures.items ∙ ap (λ (xs : List ℕ). xs ++ c.len-term.result ∷ []) c.loop.invariant.numbers ∙ goes c.args.numbers.now.items;
      next = c.push_reserved-in-loop.ensures.items ∙ ap (λ (xs : List ℕ). xs ++ c.len-term.result ∷ []) c.loop.invariant.next ∙ goes c.args.next.now.items;
      sizes = c.push_reserved-in-loop-2.ensures.items ∙ ap (λ (xs : List ℕ). xs ++ 1 ∷ []) c.loop.invariant.sizes
          ∙ append_assoc c.args.sizes.now.items (replicate k 1) (1 ∷ []) ∙ ap (λ ys. c.args.sizes.now.items ++ ys) (replicate_more k 1);
    }
