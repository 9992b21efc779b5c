-- Pairs of neighbours on which the theories do not agree, one place after the other.
use Rattle.std.specs.Prelude.{Contains, ◌⊎◌}
use Rattle.std.proofs.Common.{inl, inr, ◌≡◌, ◌==◌, false, true≢false, ℕ, zero, suc, ◌+◌, ◌-◌, ◌<◌, ◌≤◌, List, [], ◌∷◌, ◌++◌, length, get_or, refl, sym, ap, ◌∙◌, subst, arith, append_assoc, length-append}
use Rattle.std.proofs.lemmas.List.{append-nil, get_or_default}
use Rattle.std.proofs.lemmas.List.Elements.{All-nil, All-push, All-append}
use Rattle.std.proofs.lemmas.List.Sorted.{all_adjacent_more}
use Rattle.std.specs.List.Sorted.{IsPermutation}
use Rattle.term_core.specs.declared.ids.TermId.{TermId}
use Rattle.agreement.specs.declared.agreeing.Shared.{Shared}
use Rattle.agreement.specs.Agreeing.{Clash, Concur, NeighboursConcur, IsDifferingPair, ArePairs, HasPairs, HasClashesBelow, HasClashes}
use Rattle.agreement.proofs.Orders.{pair_back}

-- none came yet
pub pairs_begin : (xs : List Shared) (ps : List (TermId × TermId)) → HasPairs xs ps ps
pairs_begin xs ps = record { more = []; is = sym (append-nil ps); are = All-nil (λ (p : TermId × TermId). IsDifferingPair xs p.0 p.1) }

-- one came more
pub pairs_more : (xs : List Shared) (old now new : List (TermId × TermId)) (p : TermId × TermId) → IsDifferingPair xs p.0 p.1 → new ≡ now ++ p ∷ [] → HasPairs xs old now → HasPairs xs old new
pairs_more xs old now new p pair e h = record {
  more = h.more ++ p ∷ [];
  is = e ∙ ap (λ (ps : List (TermId × TermId)). ps ++ p ∷ []) h.is ∙ append_assoc old h.more (p ∷ []);
  are = All-push (λ (q : TermId × TermId). IsDifferingPair xs q.0 q.1) h.more p h.are pair;
}

-- those of all neighbours are some
pub pairs_of : (xs : List Shared) (old new : List (TermId × TermId)) → HasClashes xs old new → HasPairs xs old new
pairs_of xs old new h = record { more = h.more; is = h.is; are = h.are }

-- before the first neighbours
pub clashes_begin : (xs : List Shared) (ps : List (TermId × TermId)) → HasClashesBelow xs 1 ps ps
clashes_begin xs ps = record {
  more = [];
  is = sym (append-nil ps);
  are = All-nil (λ (p : TermId × TermId). IsDifferingPair xs p.0 p.1);
  none = λ e k d lt. absurd (omega (arith, lt));
}

-- on the next ones they do not agree
pub clashes_more : (xs : List Shared) (n : ℕ) (old now new : List (TermId × TermId)) (p : TermId × TermId) → IsDifferingPair xs p.0 p.1 → new ≡ now ++ p ∷ [] → HasClashesBelow xs n old now → HasClashesBelow xs (n + 1) old new
clashes_more xs n old now new p pair e h = record {
  more = h.more ++ p ∷ [];
  is = e ∙ ap (λ (ps : List (TermId × TermId)). ps ++ p ∷ []) h.is ∙ append_assoc old h.more (p ∷ []);
  are = All-push (λ (q : TermId × TermId). IsDifferingPair xs q.0 q.1) h.more p h.are pair;
  none = λ none. absurd (omega (arith, length-append h.more (p ∷ []), ap length none));
}

-- or they do
pub clashes_same : (xs : List Shared) (n : ℕ) (old now : List (TermId × TermId)) (x y : Shared) → 0 < n → n < length xs → x ≡ get_or xs (n - 1) x → y ≡ get_or xs n y → Concur x y
    → HasClashesBelow xs n old now → HasClashesBelow xs (n + 1) old now
clashes_same xs n old now x y some lt first second concur h = record {
  more = h.more;
  is = h.is;
  are = h.are;
  none = λ none. all_adjacent_more xs Concur n some (h.none none) (λ d.
      subst (λ a. Concur a (get_or xs n d)) (first ∙ get_or_default xs (n - 1) x d (omega (arith, lt)))
      (subst (Concur x) (second ∙ get_or_default xs n y d lt) concur));
}

-- after the last ones
pub clashes_all : (xs : List Shared) (n : ℕ) (old new : List (TermId × TermId)) → length xs ≤ n → HasClashesBelow xs n old new → HasClashes xs old new
clashes_all xs n old new all h = record { more = h.more; is = h.is; are = h.are; none = λ none k d lt. h.none none k d (omega (arith, lt, all)) }

-- pairs of a list in another order are pairs of the list
pub pairs_back : (xs ys : List Shared) (ps : List (TermId × TermId)) → IsPermutation xs ys → ArePairs ys ps → ArePairs xs ps
pairs_back xs ys ps p h k d lt = pair_back xs ys _ _ p (h k d lt)

-- what both orders gave are pairs of the list
pub both_are : (xs ys zs : List Shared) (start one two : List (TermId × TermId)) → start ≡ [] → IsPermutation xs ys → IsPermutation xs zs → HasPairs ys start one → HasPairs zs one two → ArePairs xs two
both_are xs ys zs start one two first p q a b =
    subst (ArePairs xs) (sym b.is) (All-append (λ (x : TermId × TermId). IsDifferingPair xs x.0 x.1) one b.more
    (subst (ArePairs xs) (sym (a.is ∙ ap (λ (ps : List (TermId × TermId)). ps ++ a.more) first)) (pairs_back xs ys a.more p a.are)) (pairs_back xs zs b.more q b.are))

-- none came at all only where none came of each
pub none_of_both : (ys zs : List Shared) (start one two : List (TermId × TermId)) → HasClashes ys start one → HasClashes zs one two → length two ≡ 0 → NeighboursConcur ys × NeighboursConcur zs
none_of_both ys zs start one two a b e =
    let all = ap length b.is ∙ length-append one b.more in (
      a.none (empty a.more (omega (arith, all, e, ap length a.is, length-append start a.more))),
      b.none (empty b.more (omega (arith, all, e))),
    )
  where
    empty : (ps : List (TermId × TermId)) → length ps ≡ 0 → ps ≡ []
    empty [] f = refl
    empty (p ∷ ps) f = absurd (omega (arith, f))

-- a count that is not 0 is above it
pub above_none : (n : ℕ) → (n == 0) ≡ false → 0 < n
above_none zero e = absurd (true≢false e)
above_none (suc n) e = omega arith

-- two terms on which the theories do not agree are a pair in either order
pub pair_either : (xs : List Shared) (x y : Shared) (p : TermId × TermId) → Contains xs x → Contains xs y → Clash x y → (p ≡ (x.term, y.term)) ⊎ (p ≡ (y.term, x.term)) → IsDifferingPair xs p.0 p.1
pair_either xs x y p x_in y_in clash (inl e) = record { one = x; one_in = x_in; one_is = ap (λ q. q.0) e; other = y; other_in = y_in; other_is = ap (λ q. q.1) e; clash = clash }
pair_either xs x y p x_in y_in clash (inr e) = record {
  one = y;
  one_in = y_in;
  one_is = ap (λ q. q.0) e;
  other = x;
  other_in = x_in;
  other_is = ap (λ q. q.1) e;
  clash = elim clash [ inl c ↦ inl (sym c.0, λ v. c.1 (sym v)) | inr c ↦ inr (λ v. c.0 (sym v), sym c.1) ];
}
