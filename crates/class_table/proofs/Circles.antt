-- Two rings become one where two successors are exchanged, and the class numbers follow.
use Rattle.std.proofs.Common.{arith, ◌≡◌, ◌≢◌, ◌∙◌, ◌⊎◌, ℕ, zero, suc, ◌+◌, ◌<◌, ◌==◌, ◌&&◌, nat_lt, Bool, true, false, List, [], ◌∷◌, ◌++◌, length, slice_index, slice_set, if◌then◌else◌, inl, inr, refl, sym, ap, subst, length-append, length-set}
use Rattle.std.proofs.lemmas.Grind.{common_steps, same_number_lists}
use Rattle.std.proofs.lemmas.Bool.{cases_eq}
use Rattle.std.proofs.lemmas.List.{length-map, get_or-map}
use Rattle.std.proofs.lemmas.Bool.Decides.{nat_tests}
use Rattle.class_table.specs.declared.rings.Merge.{Merge}
use Rattle.class_table.specs.Classes.{renumbered}
use Rattle.class_table.specs.Rings.{walk, set_each, swapped, occurrences, RingLeads, IsRing, Joins}
use Rattle.class_table.proofs.Lists.{occurrences-append}

leads-append : (next : List ℕ) (s : ℕ) (xs ys : List ℕ) (m e : ℕ) → RingLeads next s xs m → RingLeads next m ys e → RingLeads next s (xs ++ ys) e
leads-append next s [] ys m e p q = rw p q
leads-append next s (x ∷ xs) ys m e p q = (p.0, leads-append next (slice_index next x) xs ys m e p.1 q)

leads_split : (next : List ℕ) (s : ℕ) (xs ys : List ℕ) (e : ℕ) → RingLeads next s (xs ++ ys) e → (m : ℕ) × RingLeads next s xs m × RingLeads next m ys e
leads_split next s [] ys e p = (s, refl, p)
leads_split next s (x ∷ xs) ys e p = let r = leads_split next (slice_index next x) xs ys e p.1 in (r.0, (p.0, r.1), r.2)

walk-leads : (next : List ℕ) (s : ℕ) (xs : List ℕ) (e : ℕ) → RingLeads next s xs e → walk next (length xs) s ≡ xs
walk-leads next s [] e p = refl
walk-leads next s (x ∷ xs) e p = (λ i. p.0 i ∷ walk next (length xs) (slice_index next (p.0 i))) ∙ ap (λ l. x ∷ l) (walk-leads next (slice_index next x) xs e p.1)

-- what occurs splits the list
found : (t : ℕ) (xs : List ℕ) → 0 < occurrences t xs → (front : List ℕ) × (back : List ℕ) × (xs ≡ front ++ t ∷ back)
found t [] p = absurd (omega (arith, p))
found t (x ∷ xs) p = go (cases_eq t x) (found t xs)
  where
    go : (t ≡ x) ⊎ (t ≢ x) → (0 < occurrences t xs → (front : List ℕ) × (back : List ℕ) × (xs ≡ front ++ t ∷ back)) → (front : List ℕ) × (back : List ℕ) × (x ∷ xs ≡ front ++ t ∷ back)
    go (inl e) rest = ([], xs, ap (λ y. y ∷ xs) (sym e))
    go (inr e) rest = let r = rest (grind (arith, nat_tests, p, e)) in (x ∷ r.0, r.1, ap (λ l. x ∷ l) r.2)

-- the successors after the exchange
module _ (next : List ℕ) (a b : ℕ) (ain : a < length next) (bin : b < length next) (apart : a ≢ b) where
  pub next_a : slice_index (swapped next a b) a ≡ slice_index next b
  next_a = grind (arith, common_steps)

  pub next_b : slice_index (swapped next a b) b ≡ slice_index next a
  next_b = grind (arith, common_steps)

  pub next_other : (t : ℕ) → t ≢ a → t ≢ b → slice_index (swapped next a b) t ≡ slice_index next t
  next_other t p q = grind (arith, common_steps)

  -- a way that meets neither stays
  leads_still : (s : ℕ) (xs : List ℕ) (e : ℕ) → RingLeads next s xs e → occurrences a xs ≡ 0 → occurrences b xs ≡ 0 → RingLeads (swapped next a b) s xs e
  leads_still s [] e p ca cb = p
  leads_still s (x ∷ xs) e p ca cb =
      let xa : x ≢ a = λ h. grind (arith, nat_tests) in
      let xb : x ≢ b = λ h. grind (arith, nat_tests) in
      (p.0, subst (λ m. RingLeads (swapped next a b) m xs e) (sym (next_other x xa xb)) (leads_still (slice_index next x) xs e p.1 (omega arith) (omega arith)))

-- The rest of a ring, from the successor of one term on.
record Arc (next ring : List ℕ) (a : ℕ) : Type 0 where
  arc : List ℕ
  leads : RingLeads next (slice_index next a) arc a
  counts : (t : ℕ) → occurrences t ring ≡ (if t == a then 1 else 0) + occurrences t arc
  long : length ring ≡ suc (length arc)

arc_of : (next ring : List ℕ) (s a : ℕ) → RingLeads next s ring s → 0 < occurrences a ring → Arc next ring a
arc_of next ring s a p h =
    let f = found a ring h in
    let front = f.0 in
    let back = f.1 in
    let q = leads_split next s front (a ∷ back) s (subst (λ r. RingLeads next s r s) f.2 p) in
    record {
      arc = back ++ front;
      leads = leads-append next (slice_index next a) back front s a q.2.1 (subst (λ m. RingLeads next s front m) q.2.0 q.1);
      counts = λ t. ap (occurrences t) f.2 ∙ omega (arith, occurrences-append t front (a ∷ back), occurrences-append t back front);
      long = ap length f.2 ∙ omega (arith, length-append front (a ∷ back), length-append back front);
    }

hits_join : (b : Bool) (x from into : ℕ) → from ≢ into
    → (if b && (x == from) then 1 else 0) + (if b && (x == into) then 1 else 0) ≡ (if b && ((if x == from then into else x) == into) then 1 else 0)
hits_join false x from into apart = refl
hits_join true x from into apart = grind (arith, nat_tests)

hits_other : (b : Bool) (x from into c : ℕ) → c ≢ from → c ≢ into
    → (if b && (x == c) then (suc zero) else zero) ≡ (if b && ((if x == from then into else x) == c) then 1 else 0)
hits_other false x from into c p q = refl
hits_other true x from into c p q = grind (arith, nat_tests)

at_renumbered : (from into : ℕ) (ns : List ℕ) (t c : ℕ)
    → (nat_lt t (length (renumbered from into ns)) && (slice_index (renumbered from into ns) t == c))
    ≡ (nat_lt t (length ns) && ((if slice_index ns t == from then into else slice_index ns t) == c))
at_renumbered from into [] t c = grind (arith, nat_tests)
at_renumbered from into (x ∷ ns) zero c = grind (arith, nat_tests)
at_renumbered from into (x ∷ ns) (suc t) c = grind (arith, nat_tests, at_renumbered from into ns t c)

-- a term of a ring, and how the ring goes on from it
module _ (next ns : List ℕ) (size c t : ℕ) (r : IsRing next ns size c) (h : t < length ns) (is : slice_index ns t ≡ c) where
  hit : occurrences t r.ring ≡ 1
  hit = r.members t ∙ grind (arith, nat_tests)

  rest : Arc next r.ring t
  rest = arc_of next r.ring r.start t r.leads (omega (arith, hit))

  around : walk next size t ≡ t ∷ rest.arc
  around = ap (λ n. walk next n t) (sym r.long ∙ rest.long) ∙ ap (λ l. t ∷ l) (walk-leads next (slice_index next t) rest.arc t rest.leads)

  alone_in_arc : occurrences t rest.arc ≡ 0
  alone_in_arc = let e = rest.counts t in grind (arith, nat_tests, hit)

  -- to go once round the ring meets the class, each term once
  pub walk-members : (u : ℕ) → occurrences u (walk next size t) ≡ (if nat_lt u (length ns) && (slice_index ns u == c) then 1 else 0)
  walk-members u = ap (occurrences u) around ∙ sym (rest.counts u) ∙ r.members u

  pub length-walk : length (walk next size t) ≡ size
  length-walk = ap length around ∙ sym rest.long ∙ r.long

-- a term of another class is not in the ring
not_hit : (next ns : List ℕ) (size c t : ℕ) (r : IsRing next ns size c) → slice_index ns t ≢ c → occurrences t r.ring ≡ 0
not_hit next ns size c t r apart = r.members t ∙ none (nat_lt t (length ns))
  where
    none : (b : Bool) → (if b && (slice_index ns t == c) then 1 else zero) ≡ 0
    none b = grind (arith, nat_tests)

module _ (next ns : List ℕ) (m : Merge) (long : length next ≡ length ns) (j : Joins ns m) where
  from_in : m.from < length next
  from_in = omega (arith, long, j.from_in)

  into_in : m.into < length next
  into_in = omega (arith, long, j.into_in)

  pub merged : (sa sb : ℕ) → IsRing next ns sa m.from → IsRing next ns sb m.into
      → IsRing (swapped next m.from m.into) (renumbered m.from m.into ns) (sa + sb) m.into
  merged sa sb p q =
      let na : occurrences m.from q.ring ≡ 0 = not_hit next ns sb m.into m.from q (λ h. j.apart (sym j.from_is ∙ h)) in
      let nb : occurrences m.into p.ring ≡ 0 = not_hit next ns sa m.from m.into p (λ h. j.apart (sym h ∙ j.into_is)) in
      let x = rest next ns sa m.from m.from p j.from_in j.from_is in
      let y = rest next ns sb m.into m.into q j.into_in j.into_is in
      let new = swapped next m.from m.into in
      record {
        ring = m.from ∷ (y.arc ++ m.into ∷ x.arc);
        start = m.from;
        leads = (
          refl,
          subst (λ s. RingLeads new s (y.arc ++ m.into ∷ x.arc) m.from) (sym (next_a next m.from m.into from_in into_in j.apart))
              (leads-append new (slice_index next m.into) y.arc (m.into ∷ x.arc) m.into m.from
              (leads_still next m.from m.into from_in into_in j.apart (slice_index next m.into) y.arc m.into y.leads (omega (arith, y.counts m.from, na))
              (alone_in_arc next ns sb m.into m.into q j.into_in j.into_is)) (
                refl,
                subst (λ s. RingLeads new s x.arc m.from) (sym (next_b next m.from m.into from_in into_in j.apart))
                    (leads_still next m.from m.into from_in into_in j.apart (slice_index next m.from) x.arc m.from x.leads
                    (alone_in_arc next ns sa m.from m.from p j.from_in j.from_is) (omega (arith, x.counts m.into, nb))),
              )),
        );
        long = omega (arith, length-append y.arc (m.into ∷ x.arc), x.long, y.long, p.long, q.long);
        members = λ t. omega (arith, occurrences-append t y.arc (m.into ∷ x.arc), x.counts t, y.counts t, p.members t, q.members t, hits_join (nat_lt t (length ns)) (slice_index ns t) m.from m.into j.apart) ∙ sym (ap (λ h. if h then 1 else zero) (at_renumbered m.from m.into ns t m.into));
      }

  -- the other rings stay
  pub other_ring : (size c : ℕ) → c ≢ m.from → c ≢ m.into → IsRing next ns size c
      → IsRing (swapped next m.from m.into) (renumbered m.from m.into ns) size c
  other_ring size c p q r = record {
    ring = r.ring;
    start = r.start;
    leads = leads_still next m.from m.into from_in into_in j.apart r.start r.ring r.start r.leads
        (not_hit next ns size c m.from r (λ h. p (sym h ∙ j.from_is))) (not_hit next ns size c m.into r (λ h. q (sym h ∙ j.into_is)));
    long = r.long;
    members = λ t. r.members t ∙ hits_other (nat_lt t (length ns)) (slice_index ns t) m.from m.into c p q ∙ sym (ap (λ h. if h then 1 else zero) (at_renumbered m.from m.into ns t c));
  }

length-set_each : (ts ns : List ℕ) (into : ℕ) → length (set_each ns into ts) ≡ length ns
length-set_each [] ns into = refl
length-set_each (t ∷ ts) ns into = length-set_each ts (slice_set ns t into) into ∙ length-set ns t into

set_each-at : (ts ns : List ℕ) (into t : ℕ) → t < length ns → slice_index (set_each ns into ts) t ≡ (if occurrences t ts == 0 then slice_index ns t else into)
set_each-at [] ns into t h = grind (arith, nat_tests)
set_each-at (x ∷ ts) ns into t h = set_each-at ts (slice_set ns x into) into t (rw length-set h) ∙ step (cases_eq t x)
  where
    step : (t ≡ x) ⊎ (t ≢ x) → (if occurrences t ts == 0 then slice_index (slice_set ns x into) t else into) ≡ (if occurrences t (x ∷ ts) == 0 then slice_index ns t else into)
    step (inl e) = grind (arith, nat_tests, common_steps)
    step (inr e) = grind (arith, nat_tests, common_steps)

module _ (ns ts : List ℕ) (from into : ℕ) (members : (t : ℕ) → occurrences t ts ≡ (if nat_lt t (length ns) && (slice_index ns t == from) then 1 else 0)) where
  -- to set each member of a class is to renumber it
  pub set_members : set_each ns into ts ≡ renumbered from into ns
  set_members =
      same_number_lists (set_each ns into ts) (renumbered from into ns) (length-set_each ts ns into ∙ sym (length-map ns (λ c. if c == from then into else c)))
      (λ t h. set_each-at ts ns into t (within t h) ∙ at t (occurrences t ts) (within t h) (members t) ∙ sym (get_or-map (λ c. if c == from then into else c) ns t 0 0 (within t h)))
    where
      within : (t : ℕ) → t < length (set_each ns into ts) → t < length ns
      within t h = subst (λ n. t < n) (length-set_each ts ns into) h

      at : (t k : ℕ) → t < length ns → k ≡ (if nat_lt t (length ns) && (slice_index ns t == from) then 1 else 0)
          → (if k == 0 then slice_index ns t else into) ≡ (if slice_index ns t == from then into else slice_index ns t)
      at t k h e = grind (arith, nat_tests)

  -- to set each former member back undoes that
  pub unset_members : set_each (renumbered from into ns) from ts ≡ ns
  unset_members =
      same_number_lists (set_each (renumbered from into ns) from ts) ns long
      (λ t h. set_each-at ts (renumbered from into ns) from t (inside t (within t h)) ∙ ap (λ y. if occurrences t ts == 0 then y else from) (get_or-map (λ c. if c == from then into else c) ns t 0 0 (within t h)) ∙ at t (occurrences t ts) (within t h) (members t))
    where
      long : length (set_each (renumbered from into ns) from ts) ≡ length ns
      long = length-set_each ts (renumbered from into ns) from ∙ length-map ns (λ c. if c == from then into else c)

      within : (t : ℕ) → t < length (set_each (renumbered from into ns) from ts) → t < length ns
      within t h = omega (arith, long, h)

      inside : (t : ℕ) → t < length ns → t < length (renumbered from into ns)
      inside t h = omega (arith, length-map ns (λ c. if c == from then into else c), h)

      at : (t k : ℕ) → t < length ns → k ≡ (if nat_lt t (length ns) && (slice_index ns t == from) then 1 else 0)
          → (if k == 0 then (if slice_index ns t == from then into else slice_index ns t) else from) ≡ slice_index ns t
      at t k h e = grind (arith, nat_tests)
