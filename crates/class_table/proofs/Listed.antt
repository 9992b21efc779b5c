-- To go once round the ring of a term lists the terms of its class.
use Rattle.std.proofs.Common.{arith, ◌≡◌, ◌∙◌, ◌<◌, ◌==◌, ◌&&◌, ◌↔◌, nat_lt, ℕ, List, Contains, length, map, slice_index, if◌then◌else◌, refl, sym, ap}
use Rattle.std.proofs.lemmas.Bool.Decides.{nat_tests}
use Rattle.std.proofs.lemmas.List.{length-map, get_or-map}
use Rattle.term_core.specs.declared.ids.TermId.{TermId}
use Rattle.class_table.specs.Classes.{class_at, AreMembers}
use Rattle.class_table.specs.Rings.{walk, occurrences, RingState, RingsFit}
use Rattle.class_table.proofs.Lists.{occurs, has_place, occurrences-count}
use Rattle.class_table.proofs.Circles.{walk-members, length-walk}

named : ℕ → TermId
named n = record { 0 = n }

module _ (ns xs : List ℕ) (t : TermId) (once : (n : ℕ) → occurrences n xs ≡ (if nat_lt n (length ns) && (slice_index ns n == class_at ns t) then 1 else 0)) where
  only : (n : ℕ) → 0 < occurrences n xs → (n < length ns) × (slice_index ns n ≡ class_at ns t)
  only n h = let e = once n in (grind (arith, nat_tests), grind (arith, nat_tests))

  all : (n : ℕ) → n < length ns → slice_index ns n ≡ class_at ns t → 0 < occurrences n xs
  all n lt same = let e = once n in grind (arith, nat_tests)

  each : (m : TermId) → Contains (map named xs) m ↔ ((m.0 < length ns) × (class_at ns m ≡ class_at ns t))
  unfolding named
  each m = (
    λ c. let low : c.0 < length xs = omega (arith, c.1, length-map xs named) in
        only m.0 (occurs m.0 xs c.0 low (ap (λ (u : TermId). u.0) (sym (get_or-map named xs c.0 0 m low) ∙ c.2))),
    λ p. let k = has_place m.0 xs (all m.0 p.0 p.1) in
        (k.0, omega (arith, k.1, length-map xs named), get_or-map named xs k.0 0 m k.1 ∙ ap named k.2),
  )

pub are_members : (s : RingState) (t : TermId) → RingsFit s → t.0 < length s.numbers
    → AreMembers s.numbers t (map (λ n. record { 0 = n }) (walk s.next (slice_index s.sizes (class_at s.numbers t)) t.0))
unfolding named
are_members s t w h =
    let size = slice_index s.sizes (class_at s.numbers t) in
    let class = w.classes t.0 h in
    let ring = class.ring in
    let xs = walk s.next size t.0 in
    record {
      each = each s.numbers xs t (walk-members s.next s.numbers size (class_at s.numbers t) t.0 ring h refl);
      count = length-map xs named ∙ length-walk s.next s.numbers size (class_at s.numbers t) t.0 ring h refl ∙ class.size ∙ occurrences-count (class_at s.numbers t) s.numbers;
    }
