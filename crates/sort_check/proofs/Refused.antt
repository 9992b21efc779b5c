-- A `distinct` of too many terms is refused.
use Rattle.std.proofs.Common.{◌≡◌, ℕ, zero, suc, ◌*◌, ◌-◌, ◌<◌, ◌≤◌, Bool, true, false, ◌&&◌, List, [], ◌∷◌, length, map, Some, refl, ap, ◌∙◌, nat_le, arith}
use Rattle.std.specs.Prelude.{None, Ok}
use Rattle.std.specs.Set.{distinct_count}
use Rattle.std.proofs.lemmas.Map.Made.{distinct_count-le}
use Rattle.std.proofs.lemmas.Bool.Decides.{nat_tests}
use Rattle.spec_text.specs.declared.Fault.TheVariants.{WrongCount, WrongSort, Full}
use Rattle.spec_text.specs.Answers.{◌>>=◌, require, refused}
use Rattle.spec_text.specs.Trees.{Tree, Trees, offset_of}
use Rattle.spec_sorts.specs.Lists.{all_pairs}
use Rattle.spec_sorts.specs.Terms.{Truth, Term, same_sort, same_term, sort_of}
use Rattle.spec_sorts.specs.Theory.{at_least, alike, sorts_fit, unequal, each_pair}
use Rattle.spec_sorts.specs.Signatures.{Signature, known_as, with_definitions}
use Rattle.spec_reading.specs.Names.{Setting}
use Rattle.spec_reading.specs.Reading.{Reading, readings, reading, reading_of_sort, by_rule, applied_as, applied}
use Rattle.spec_reading.proofs.Values.{by_form}
use Rattle.term_core.specs.TheoryHeads.{rule_of}
use Rattle.term_core.specs.declared.theory_heads.TheoryHead.TheVariants.{Distinct}
use Rattle.sort_check.specs.Reads.{Room, within, roomy_reading}
use Rattle.sort_check.specs.TooMany.{AreTooMany, IsDistinctOf, HasTooMany}
use Rattle.sort_check.proofs.Opening.{list_is}
use Rattle.sort_check.proofs.Rooms.{after_reading, no_room_for_names, no_room_for_terms}
use Rattle.sort_check.proofs.Pairs.{too_many_subterms}

-- how `distinct` is read
distinct_rule : rule_of Distinct ≡ at_least 2 alike (λ ts. each_pair unequal (all_pairs ts))
unfolding rule_of
distinct_rule = refl

-- that terms differ is a truth value
is_truth : (ps : List (Term × Term)) → sort_of (each_pair unequal ps) ≡ Truth
unfolding sort_of
is_truth [] = refl
is_truth (p ∷ []) = refl
is_truth (p ∷ q ∷ ps) = refl

-- too many are two at least
two_at_least : (limit n : ℕ) → limit < n * n - n → 2 ≤ n
two_at_least limit zero h = absurd (omega (arith, h))
two_at_least limit (suc zero) h = absurd (omega (arith, h))
two_at_least limit (suc (suc n)) h = omega arith

are_counted : (limit : ℕ) (ts : List Term) → AreTooMany limit ts → nat_le 2 (length ts) ≡ true
are_counted limit ts many = below (length ts) (enough (distinct_count same_term ts) (two_at_least limit (distinct_count same_term ts) many) (distinct_count-le same_term ts))
  where
    enough : (n : ℕ) → 2 ≤ n → n ≤ length ts → 2 ≤ length ts
    enough n h k = omega (arith, h, k)

    below : (n : ℕ) → 2 ≤ n → nat_le 2 n ≡ true
    below n h = grind (arith, nat_tests, h)

-- the term that says that they differ
abbrev whole : List Term → Term
whole ts = each_pair unequal (all_pairs ts)

read_by_rule : (limit : ℕ) (ts : List Term) (at : ℕ) → AreTooMany limit ts → sorts_fit alike (map sort_of ts) ≡ true → by_rule (at_least 2 alike (λ us. each_pair unequal (all_pairs us))) at ts ≡ Ok (whole ts)
unfolding ◌>>=◌ require
read_by_rule limit ts at many fit =
    let counted : nat_le 2 (length ts) ≡ true = are_counted limit ts many in
    λ i. require (counted i && true) at WrongCount >>= λ c. require (fit i) at WrongSort >>= λ c. Ok (whole ts)

-- there is no room, for names or else for terms
no_room : (limit : ℕ) (ts : List Term) (room : Room) (s : Signature) → AreTooMany limit ts → room.limit ≡ Some limit → within room s (whole ts ∷ []) ≡ refused room.at Full
no_room limit ts room s many is = ap (λ l. within (record { limit = l; at = room.at }) s (whole ts ∷ [])) is ∙ go (nat_le (length s) limit) refl
  where
    go : (b : Bool) → nat_le (length s) limit ≡ b → within (record { limit = Some limit; at = room.at }) s (whole ts ∷ []) ≡ refused room.at Full
    go true e = no_room_for_terms room.at limit s (whole ts ∷ []) e (too_many_subterms limit ts many)
    go false e = no_room_for_names room.at limit s (whole ts ∷ []) e

pub refused_distinct : (room : Room) (limit : ℕ) (w : Setting) (s : Signature) (t : Tree) (us : Trees) → room.limit ≡ Some limit → IsDistinctOf t us → HasTooMany limit (readings w s [] us) → roomy_reading room w s Truth t ≡ refused room.at Full
unfolding roomy_reading ◌>>=◌ require
refused_distinct room limit w s t us limited x h =
    ap (λ a. a >>= after_reading room w s) of_sort ∙ ap (λ a. a >>= λ fits. Ok r) (no_room limit h.readings.terms room (with_definitions s h.readings.made) h.many limited)
  where
    r : Reading
    r = record { made = h.readings.made; term = whole h.readings.terms }

    by_name : applied (with_definitions s h.readings.made) [] x.place x.name x.at h.readings.terms ≡ Ok r.term
    by_name =
        ap (λ q. applied_as None q (known_as (with_definitions s h.readings.made) x.name) x.place x.at h.readings.terms) (x.rule ∙ ap Some distinct_rule)
        ∙ read_by_rule limit h.readings.terms x.at h.many h.alike

    is_read : reading w s [] t ≡ Ok r
    is_read =
        ap (reading w s []) x.is
        ∙ list_is w s [] x.at x.end x.head us
        ∙ ap (by_form w s [] x.at us) x.applied
        ∙ ap (λ a. a >>= λ q. applied (with_definitions s q.made) [] x.place x.name x.at q.terms >>= λ u. Ok (let y : Reading = record { made = q.made; term = u } in y)) h.read
        ∙ ap (λ a. a >>= λ u. Ok (let y : Reading = record { made = h.readings.made; term = u } in y)) by_name

    of_sort : reading_of_sort w s [] Truth t ≡ Ok r
    of_sort =
        ap (λ a. a >>= λ q. require (same_sort Truth (sort_of q.term)) (offset_of t) WrongSort >>= λ fits. Ok q) is_read
        ∙ ap (λ z. require (same_sort Truth z) (offset_of t) WrongSort >>= λ fits. Ok r) (is_truth (all_pairs h.readings.terms))
