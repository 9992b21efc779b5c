-- The rows are what the merges make of more terms.
use Rattle.std.proofs.Common.{arith, ◌≡◌, ◌∙◌, ◌++◌, ◌≤◌, ℕ, List, length, replicate, vec_capacity, ap, ap₂}
use Rattle.std.specs.List.{range_with_len}
use Rattle.std.proofs.lemmas.List.{length-append}
use Rattle.std.proofs.lemmas.List.FromFn.{length-range_with_len}
use Rattle.class_table.proofs.Kept.{kept_whole, kept_grown}
use Rattle.class_table.proofs.rings.Rings.grow.Goals as goal

pub push_terms-requires-clause-sized : goal.push_terms-requires-clause-sized
push_terms-requires-clause-sized c =
    let r = c.self.inside in
    omega (arith, (kept_whole r c.self.invariant).next_long, c.reserve.ensures.len, c.reserve-2.ensures.len, r.numbers.ok.0, r.next.ok.0)

pub invariant_of-self-2 : goal.invariant_of-self-2
invariant_of-self-2 c =
    let r = c.self.inside in
    let more = c.saturating_sub-more.result in
    let numbers : c.push_terms.new.numbers.items ≡ r.numbers.items ++ range_with_len (length r.numbers.items) more =
    c.push_terms.ensures.numbers ∙ ap (λ (xs : List ℕ). xs ++ range_with_len (length xs) more) c.reserve.ensures.items in
    let next : c.push_terms.new.next.items ≡ r.next.items ++ range_with_len (length r.numbers.items) more =
    c.push_terms.ensures.next ∙ ap₂ (λ (xs ys : List ℕ). xs ++ range_with_len (length ys) more) c.reserve-2.ensures.items c.reserve.ensures.items in
    let sizes : c.push_terms.new.sizes.items ≡ r.sizes.items ++ replicate more 1 =
    c.push_terms.ensures.sizes ∙ ap (λ (xs : List ℕ). xs ++ replicate more 1) c.reserve-3.ensures.items in
    let room : length c.push_terms.new.numbers.items ≤ vec_capacity c.reserve-4.new.self = omega (
      arith,
      ap length numbers,
      length-append r.numbers.items (range_with_len (length r.numbers.items) more),
      length-range_with_len (length r.numbers.items) more,
      c.self.invariant.room,
      c.saturating_sub-more.ensures,
      c.len.ensures,
      c.len-2.ensures,
      c.saturating_sub-room.ensures,
      c.in_ok-reserve-4.ensures.ok,
      c.reserve-4.ensures.len,
      r.numbers.ok.0,
      r.merges.ok.0,
    ) in
    kept_grown r c.self.invariant (record { numbers = c.push_terms.new.numbers; next = c.push_terms.new.next; sizes = c.push_terms.new.sizes; merges = c.reserve-4.new.self }) more numbers next sizes c.reserve-4.ensures.items room
