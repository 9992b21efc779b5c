-- What propagation keeps of the prefixes.
use Rattle.std.proofs.Common.{◌≡◌, ◌≢◌, ℕ, ◌+◌, ◌-◌, ◌<◌, ◌≤◌, List, [], ◌∷◌, ◌++◌, length, get_or, take, Contains, ◌⊎◌, inl, inr, refl, sym, ap, ◌∙◌, subst, arith}
use Rattle.std.proofs.lemmas.Bool.{cases_lt}
use Rattle.std.proofs.lemmas.List.{take-take, take_all, get_or-take, get_or_default, get_or_past, get_or_push, get_or_append_left, length_push}
use Rattle.std.proofs.lemmas.List.Elements.{Contains-get_or, Contains-push, Contains-push_cases, Contains-append_left}
use Rattle.term_core.specs.declared.ids.Lit.{Lit}
use Rattle.sat_trail.specs.Trails.{TrailView}
use Rattle.clause_store.specs.declared.pair.Pair.{Pair}
use Rattle.clause_store.specs.Stores.{StoreView, no_pair}
use Rattle.clause_store.specs.Watching.{ArePairs, IsQuietPair, AreQuietPairs, HaveSameShapes, PropagatesPart, Below}
use Rattle.clause_store.specs.QuietPairs.{LengthsRise, IsPrefixOf, QuietLengths, AreAttached, last_of}
use Rattle.clause_store.proofs.Adding.{same_front}
use Rattle.clause_store.proofs.Indexing.{one_or_two}
use Rattle.clause_store.proofs.QuietPairs.{front_within}

-- ---- lengths

module _ (new old : List ℕ) (f : IsPrefixOf new old) where
  front_at : (i : ℕ) → i < length new → get_or new i 0 ≡ get_or old i 0
  front_at i lt = ap (λ xs. get_or xs i 0) f.1 ∙ get_or-take (length new) old i 0 lt

  -- what is in the prefix was there
  pub front_had : (r : ℕ) → Contains new r → Contains old r
  front_had r (i, lt, e) = (i, omega (arith, lt, f.0), get_or_default old i r 0 (omega (arith, lt, f.0)) ∙ sym (front_at i lt) ∙ sym (get_or_default new i r 0 lt) ∙ e)

  -- they rise still
  pub front_rising : LengthsRise old → LengthsRise new
  front_rising h i j lt within = subst (λ (a : ℕ). a ≤ get_or new j 0) (sym (front_at i (omega (arith, lt, within)))) (subst (λ (b : ℕ). get_or old i 0 ≤ b) (sym (front_at j within)) (h i j lt (omega (arith, within, f.0))))

-- none is longer than the last
pub last_most : (quiet_at : List ℕ) → LengthsRise quiet_at → (r : ℕ) → Contains quiet_at r → r ≤ last_of quiet_at
last_most quiet_at h r (i, lt, e) =
    let is : get_or quiet_at i 0 ≡ r = get_or_default quiet_at i 0 r lt ∙ e in
    elim (cases_lt i (length quiet_at - 1)) [
      | inl before ↦ omega (arith, h i (length quiet_at - 1) before (omega (arith, lt)), is)
      | inr last ↦ let same : i ≡ length quiet_at - 1 = omega (arith, last, lt) in omega (arith, is, ap (λ (j : ℕ). get_or quiet_at j 0) same)
    ]

pub last_there : (quiet_at : List ℕ) → 0 < length quiet_at → Contains quiet_at (last_of quiet_at)
last_there quiet_at lt = Contains-get_or quiet_at (length quiet_at - 1) 0 (omega (arith, lt))

-- the last, as code reads it
pub last_read : (quiet_at : List ℕ) (k x : ℕ) → k ≡ length quiet_at - 1 → 0 < length quiet_at → x ≡ get_or quiet_at k x → x ≡ last_of quiet_at
last_read quiet_at k x place lt e = e ∙ ap (λ (j : ℕ). get_or quiet_at j x) place ∙ get_or_default quiet_at (length quiet_at - 1) x 0 (omega (arith, lt))

pub last_none : (quiet_at : List ℕ) → length quiet_at ≡ 0 → last_of quiet_at ≡ 0
last_none quiet_at e = get_or_past quiet_at (length quiet_at - 1) 0 (omega (arith, e))

-- it is no longer than the longest
pub last_within : (quiet_at : List ℕ) (most : ℕ) → ((r : ℕ) → Contains quiet_at r → r ≤ most) → last_of quiet_at ≤ most
last_within quiet_at most h = elim (cases_lt 0 (length quiet_at)) [
  | inl lt ↦ h (last_of quiet_at) (last_there quiet_at lt)
  | inr le ↦ omega (arith, last_none quiet_at (omega (arith, le)))
]

pub none_there : (quiet_at : List ℕ) → quiet_at ≡ [] → (r : ℕ) → Contains quiet_at r → ⊥
none_there quiet_at e r (i, lt, is) = omega (arith, lt, ap length e)

-- a greater one comes last
pub rising_push : (quiet_at : List ℕ) (most : ℕ) → LengthsRise quiet_at → ((r : ℕ) → Contains quiet_at r → r ≤ most) → LengthsRise (quiet_at ++ most ∷ [])
rising_push quiet_at most h within i j lt jlt = elim (cases_lt j (length quiet_at)) [
  | inl before ↦ subst (λ (a : ℕ). a ≤ get_or (quiet_at ++ most ∷ []) j 0) (sym (get_or_append_left quiet_at (most ∷ []) 0 i (omega (arith, lt, before))))
      (subst (λ (b : ℕ). get_or quiet_at i 0 ≤ b) (sym (get_or_append_left quiet_at (most ∷ []) 0 j before)) (h i j lt before))
  | inr last ↦
      let is : length quiet_at ≡ j = omega (arith, last, jlt, length_push quiet_at most) in
      subst (λ (a : ℕ). a ≤ get_or (quiet_at ++ most ∷ []) j 0) (sym (get_or_append_left quiet_at (most ∷ []) 0 i (omega (arith, lt, is))))
      (subst (λ (b : ℕ). get_or quiet_at i 0 ≤ b) (sym (get_or_push quiet_at most 0 j is)) (within (get_or quiet_at i 0) (Contains-get_or quiet_at i 0 (omega (arith, lt, is)))))
]

-- where the last literal of the longest is below a level, so are all
pub below_last : (t : TrailView) (quiet_at : List ℕ) (level : ℕ) → LengthsRise quiet_at → ((p q : ℕ) → p < q → q < length t.literals → get_or t.levels p 0 ≤ get_or t.levels q 0) → last_of quiet_at ≤ length t.literals
    → (0 < last_of quiet_at → get_or t.levels (last_of quiet_at - 1) 0 < level) → (r : ℕ) → Contains quiet_at r → Below t level r
below_last t quiet_at level h rising le last r c i lt =
    let most = last_most quiet_at h r c in
    let top = last (omega (arith, lt, most)) in
    elim (cases_lt i (last_of quiet_at - 1)) [
      | inl before ↦ omega (arith, rising i (last_of quiet_at - 1) before (omega (arith, le, before)), top)
      | inr from ↦ let is : i ≡ last_of quiet_at - 1 = omega (arith, from, lt, most) in omega (arith, top, ap (λ (j : ℕ). get_or t.levels j 0) is)
    ]

-- ---- prefixes at which the pairs are quiet

-- fewer prefixes
pub quiet_front : (new old : List ℕ) (count : ℕ) (pairs : List Pair) (most : ℕ) (held : List Lit) → IsPrefixOf new old → QuietLengths old count pairs most held → QuietLengths new count pairs most held
quiet_front new old count pairs most held f h = record {
  rising = front_rising new old f h.rising;
  within = λ r c. h.within r (front_had new old f r c);
  were_quiet = λ r c. h.were_quiet r (front_had new old f r c);
}

pub quiet_none : (count : ℕ) (pairs : List Pair) (most : ℕ) (held : List Lit) → QuietLengths [] count pairs most held
quiet_none count pairs most held = record {
  rising = λ i j lt within. absurd (omega (arith, within));
  within = λ r c. absurd (omega (arith, c.1));
  were_quiet = λ r c. absurd (omega (arith, c.1));
}

-- of other literals that have the same prefix
pub quiet_by_other : (quiet_at : List ℕ) (count : ℕ) (pairs : List Pair) (most small new : ℕ) (held other : List Lit) → take small held ≡ take small other → small ≤ new → ((r : ℕ) → Contains quiet_at r → r ≤ small)
    → QuietLengths quiet_at count pairs most held → QuietLengths quiet_at count pairs new other
quiet_by_other quiet_at count pairs most small new held other e le within h = record {
  rising = h.rising;
  within = λ r c. omega (arith, within r c, le);
  were_quiet = λ r c. subst (λ (xs : List Lit). AreQuietPairs count pairs xs xs) (sym (take-take r small held (within r c)) ∙ ap (take r) e ∙ take-take r small other (within r c)) (h.were_quiet r c);
}

-- after a part of propagation
pub quiet_lengths_go : (s : StoreView) (quiet_at : List ℕ) (count : ℕ) (old new : List Pair) (t u : TrailView) → t.propagated ≤ length t.literals → PropagatesPart s count old new t u → QuietLengths quiet_at count old t.propagated t.literals → QuietLengths quiet_at count new u.propagated u.literals
quiet_lengths_go s quiet_at count old new t u le g h = record {
  rising = h.rising;
  within = λ r c. omega (arith, h.within r c, g.advances.1);
  were_quiet = λ r c.
      let small : r ≤ length t.literals = omega (arith, h.within r c, le) in
      subst (λ (xs : List Lit). AreQuietPairs count new xs xs) (sym (same_front s t u r g.advances.0 small))
      (g.prefixes (take r t.literals) (take r t.literals) (front_within r t.literals small) (front_within r t.literals small) (h.were_quiet r c));
}

-- with one clause more
pub quiet_lengths_more : (quiet_at : List ℕ) (count : ℕ) (pairs : List Pair) (most : ℕ) (held : List Lit) → QuietLengths quiet_at count pairs most held → ((r : ℕ) → Contains quiet_at r → IsQuietPair (take r held) (take r held) (get_or pairs count no_pair)) → QuietLengths quiet_at (count + 1) pairs most held
quiet_lengths_more quiet_at count pairs most held h one = record {
  rising = h.rising;
  within = h.within;
  were_quiet = λ r c n lt. elim (cases_lt n count) [
    | inl before ↦ h.were_quiet r c n before
    | inr last ↦ let is : count ≡ n = omega (arith, last, lt) in subst (λ (k : ℕ). IsQuietPair (take r held) (take r held) (get_or pairs k no_pair)) is (one r c)
  ];
}

-- with one prefix more
pub quiet_push : (new old : List ℕ) (count : ℕ) (pairs : List Pair) (most len : ℕ) (held : List Lit) → QuietLengths old count pairs most held → most ≤ len → LengthsRise new → ((r : ℕ) → Contains new r → Contains old r ⊎ (r ≡ len)) → AreQuietPairs count pairs (take len held) (take len held)
    → QuietLengths new count pairs len held
quiet_push new old count pairs most len held h le rising each last = record {
  rising = rising;
  within = λ r c. elim (each r c) [ inl was ↦ omega (arith, h.within r was, le) | inr is ↦ omega (arith, is) ];
  were_quiet = λ r c. elim (each r c) [ inl was ↦ h.were_quiet r was | inr is ↦ subst (λ (k : ℕ). AreQuietPairs count pairs (take k held) (take k held)) (sym is) last ];
}

-- what is kept of the literals has their prefixes
pub seen_same : (n : ℕ) (held seen : List Lit) → n ≤ length seen → seen ≡ take (length seen) held → take n held ≡ take n seen
seen_same n held seen le e = sym (ap (take n) e ∙ take-take n (length seen) held le)

pub quiet_seen : (quiet_at : List ℕ) (count : ℕ) (pairs : List Pair) (most : ℕ) (held seen : List Lit) → QuietLengths quiet_at count pairs most held → most ≤ length seen → seen ≡ take (length seen) held → QuietLengths quiet_at count pairs (length seen) seen
quiet_seen quiet_at count pairs most held seen h le e = quiet_by_other quiet_at count pairs most most (length seen) held seen (seen_same most held seen le e) le h.within h

-- with a prefix of all that holds, which was seen
pub quiet_at_all : (new old : List ℕ) (count : ℕ) (pairs : List Pair) (most len : ℕ) (held seen : List Lit) → seen ≡ held → len ≡ length held → QuietLengths old count pairs most held → most ≤ length held → LengthsRise new → ((r : ℕ) → Contains new r → Contains old r ⊎ (r ≡ len))
    → AreQuietPairs count pairs held held → QuietLengths new count pairs (length seen) seen
quiet_at_all new old count pairs most len held seen se is h le rising each were_quiet =
    let whole : take len held ≡ held = take_all len held (omega (arith, is)) in
    subst (λ (xs : List Lit). QuietLengths new count pairs (length xs) xs) (sym se)
    (subst (λ (n : ℕ). QuietLengths new count pairs n held) is
    (quiet_push new old count pairs most len held h (omega (arith, le, is)) rising each (subst (λ (xs : List Lit). AreQuietPairs count pairs xs xs) (sym whole) were_quiet)))

-- no prefixes are a prefix of any
pub front_none : (new old : List ℕ) → new ≡ [] → IsPrefixOf new old
front_none new old e = subst (λ (xs : List ℕ). IsPrefixOf xs old) (sym e) (omega arith, refl)

pub front_all : (quiet_at : List ℕ) → IsPrefixOf quiet_at quiet_at
front_all quiet_at = (omega arith, sym (take_all (length quiet_at) quiet_at (omega arith)))

-- ---- what was looked at

module _ (clauses : List (List Lit)) (count : ℕ) (short : List ℕ) where
  pub attached_on : (old new : List Pair) → HaveSameShapes old new → ArePairs clauses new → AreAttached clauses old count short → AreAttached clauses new count short
  attached_on old new g ps h = record {
    within = h.within;
    there = λ n lt. elim (one_or_two (get_or old n no_pair)) [
      | inl e ↦ subst (λ (p : Pair). Contains (get_or clauses n []) p.first) (sym (g.one n e)) (h.there n lt)
      | inr d ↦ (ps.each n (omega (arith, lt, h.within))).first_in (g.two n d)
    ];
    listed = λ n lt e. elim (one_or_two (get_or old n no_pair)) [
      | inl was ↦ h.listed n lt was
      | inr d ↦ absurd (g.two n d e)
    ];
    only = λ n c. ((h.only n c).0, subst (λ (p : Pair). p.first ≡ p.second) (sym (g.one n (h.only n c).1)) (h.only n c).1);
  }

  module _ (pairs : List Pair) (lt : count < length clauses) (there : Contains (get_or clauses count []) (get_or pairs count no_pair).first) (h : AreAttached clauses pairs count short) where
    more_there : (n : ℕ) → n < count + 1 → Contains (get_or clauses n []) (get_or pairs n no_pair).first
    more_there n nlt = elim (cases_lt n count) [
      | inl before ↦ h.there n before
      | inr last ↦ let is : count ≡ n = omega (arith, last, nlt) in subst (λ (k : ℕ). Contains (get_or clauses k []) (get_or pairs k no_pair).first) is there
    ]

    -- a clause of two literals more
    pub attached_two : (get_or pairs count no_pair).first ≢ (get_or pairs count no_pair).second → AreAttached clauses pairs (count + 1) short
    attached_two d = record {
      within = omega (arith, lt);
      there = more_there;
      listed = λ n nlt e. elim (cases_lt n count) [
        | inl before ↦ h.listed n before e
        | inr last ↦ let is : n ≡ count = omega (arith, last, nlt) in absurd (d (subst (λ (k : ℕ). (get_or pairs k no_pair).first ≡ (get_or pairs k no_pair).second) is e))
      ];
      only = λ n c. (omega (arith, (h.only n c).0), (h.only n c).1);
    }

    -- a clause of one literal more
    pub attached_one : (get_or pairs count no_pair).first ≡ (get_or pairs count no_pair).second → AreAttached clauses pairs (count + 1) (short ++ count ∷ [])
    attached_one e = record {
      within = omega (arith, lt);
      there = more_there;
      listed = λ n nlt f. elim (cases_lt n count) [
        | inl before ↦ Contains-append_left short (count ∷ []) n (h.listed n before f)
        | inr last ↦ let is : count ≡ n = omega (arith, last, nlt) in subst (Contains (short ++ count ∷ [])) is (Contains-push short count)
      ];
      only = λ n c. elim (Contains-push_cases short count n c) [
        | inl was ↦ (omega (arith, (h.only n was).0), (h.only n was).1)
        | inr is ↦ (omega (arith, is), subst (λ (k : ℕ). (get_or pairs k no_pair).first ≡ (get_or pairs k no_pair).second) is e)
      ];
    }
