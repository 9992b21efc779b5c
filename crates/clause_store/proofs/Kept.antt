-- Clauses, pairs and lists fit together after some clauses went.
use Rattle.std.proofs.Common.{◌≡◌, ◌<◌, ◌≤◌, ◌+◌, ◌==◌, ℕ, zero, suc, List, [], ◌∷◌, length, map, get_or, set, Contains, Option, Some, None, ◌⊎◌, inl, inr, refl, sym, ap, ◌∙◌, subst, arith}
use Rattle.std.specs.Prelude.{All}
use Rattle.std.specs.List.{cons_option}
use Rattle.std.proofs.lemmas.Bool.{cases_lt, cases_eq}
use Rattle.std.proofs.lemmas.Option.{none-some, same_Some}
use Rattle.std.proofs.lemmas.List.{length-map, get_or-map, get_or_past, get_or_default, map-set, set-get_or}
use Rattle.std.proofs.lemmas.List.Elements.{Contains-get_or}
use Rattle.std.proofs.lemmas.List.Sums.{sum_by-cons}
use Rattle.term_core.specs.declared.ids.Lit.{Lit}
use Rattle.proof_log.specs.declared.premises.StepId.{StepId}
use Rattle.watch_index.specs.Indexes.{one_if, renumbered}
use Rattle.clause_store.specs.declared.entry.StoredClause.{StoredClause}
use Rattle.clause_store.specs.declared.pair.Pair.{Pair}
use Rattle.clause_store.specs.Stores.{tally, hits, hits_at, no_pair}
use Rattle.clause_store.specs.Entries.{clauses_of, steps_of}
use Rattle.clause_store.specs.declared.watched.Watched.{Watched}
use Rattle.clause_store.specs.declared.parts.StoreParts.{StoreParts}
use Rattle.clause_store.specs.Watching.{IsPairOf, ArePairs, IsIndexed, IsWatched}
use Rattle.clause_store.specs.QuietPairs.{QuietLengths, AreAttached, StoreFits}
use Rattle.clause_store.specs.Keeping.{staying, steps_in, count_first, numbered_from, KeepsEntries}
use Rattle.clause_store.proofs.Indexing.{is_one, is_none, hits_there, hits_past, listed}
use Rattle.clause_store.proofs.Stored.{clause_count}
use Rattle.clause_store.proofs.Places.{numbered_at, number_at, WasAt, was_at, count_rises, count_grows, count_past, count_most, number_tells, chosen_count, chosen_at, chosen_map, numbered_count, steps_within}

-- ---- entries

pub same_literals : (es : List StoredClause) (n : ℕ) (e : StoredClause) → e.literals.items ≡ get_or (clauses_of es) n [] → clauses_of (set es n e) ≡ clauses_of es
same_literals es n e h = map-set (λ (x : StoredClause). x.literals.items) es n e ∙ ap (set (clauses_of es) n) h ∙ set-get_or (clauses_of es) n []

pub keeps_entries : (kept : List (Option StepId)) (old mid new : List StoredClause) → clauses_of mid ≡ clauses_of old → staying kept (steps_of mid) ≡ steps_in kept → new ≡ staying kept mid → KeepsEntries kept old new
keeps_entries kept old mid new a b e = record {
  clauses = ap clauses_of e ∙ chosen_map (λ (x : StoredClause). x.literals.items) kept mid ∙ ap (staying kept) a;
  steps = ap steps_of e ∙ chosen_map (λ (x : StoredClause). x.step) kept mid ∙ b;
}

-- ---- numbers in a list

module _ (numbers : List (Option ℕ)) where
  -- a number's new one stands as often
  pub tally_same : (m n : ℕ) → get_or numbers m None ≡ Some n → ((j : ℕ) → get_or numbers j None ≡ Some n → j ≡ m) → (ns : List ℕ) → tally n (renumbered numbers ns) ≡ tally m ns
  tally_same m n e one [] = refl
  tally_same m n e one (j ∷ ns) = go (tally_same m n e one ns) (get_or numbers j None) refl ∙ sym (sum_by-cons (λ x. one_if (x == m)) j ns)
    where
      go : tally n (renumbered numbers ns) ≡ tally m ns → (o : Option ℕ) → get_or numbers j None ≡ o → tally n (cons_option (get_or numbers j None) (renumbered numbers ns)) ≡ one_if (j == m) + tally m ns
      go rest None f = ap (λ p. tally n (cons_option p (renumbered numbers ns))) f ∙ omega (arith, rest, is_none j m (λ is. none-some n (sym f ∙ ap (λ x. get_or numbers x None) is ∙ e)))
      go rest (Some k) f = ap (λ p. tally n (cons_option p (renumbered numbers ns))) f ∙ sum_by-cons (λ x. one_if (x == n)) k (renumbered numbers ns) ∙ (λ i. each i + rest i)
        where
          each : one_if (k == n) ≡ one_if (j == m)
          each = elim (cases_eq k n) [
            | inl is ↦ is_one k n is ∙ sym (is_one j m (one j (f ∙ ap Some is)))
            | inr other ↦ is_none k n other ∙ sym (is_none j m (λ is. other (same_Some k n (sym f ∙ ap (λ x. get_or numbers x None) is ∙ e))))
          ]

  -- what is no number's new one stands nowhere
  pub tally_none : (n : ℕ) → ((j : ℕ) → get_or numbers j None ≡ Some n → ⊥) → (ns : List ℕ) → tally n (renumbered numbers ns) ≡ 0
  tally_none n never [] = refl
  tally_none n never (j ∷ ns) = go (tally_none n never ns) (get_or numbers j None) refl
    where
      go : tally n (renumbered numbers ns) ≡ 0 → (o : Option ℕ) → get_or numbers j None ≡ o → tally n (cons_option (get_or numbers j None) (renumbered numbers ns)) ≡ 0
      go rest None f = ap (λ p. tally n (cons_option p (renumbered numbers ns))) f ∙ rest
      go rest (Some k) f = ap (λ p. tally n (cons_option p (renumbered numbers ns))) f ∙ sum_by-cons (λ x. one_if (x == n)) k (renumbered numbers ns)
          ∙ omega (arith, rest, is_none k n (λ is. never j (f ∙ ap Some is)))

  pub renumbered_has : (ns : List ℕ) (m n : ℕ) → Contains ns m → get_or numbers m None ≡ Some n → Contains (renumbered numbers ns) n
  renumbered_has ns m n c e = has ns c
    where
      later : (o : Option ℕ) (ks : List ℕ) → Contains ks n → Contains (cons_option o ks) n
      later None ks c = c
      later (Some k) ks (i, lt, is) = (suc i, omega (arith, lt), is)

      has : (ns : List ℕ) → Contains ns m → Contains (renumbered numbers ns) n
      has [] (i, lt, is) = absurd (omega (arith, lt))
      has (j ∷ ns) (zero, lt, is) = subst (λ (o : Option ℕ). Contains (cons_option o (renumbered numbers ns)) n) (sym (ap (λ x. get_or numbers x None) is ∙ e)) (0, omega arith, refl)
      has (j ∷ ns) (suc i, lt, is) = later (get_or numbers j None) (renumbered numbers ns) (has ns (i, omega (arith, lt), is))

  pub renumbered_had : (ns : List ℕ) (n : ℕ) → Contains (renumbered numbers ns) n → (m : ℕ) × Contains ns m × (get_or numbers m None ≡ Some n)
  renumbered_had [] n (i, lt, is) = absurd (omega (arith, lt))
  renumbered_had (j ∷ ns) n c = go (renumbered_had ns n) (get_or numbers j None) refl c
    where
      more : ((m : ℕ) × Contains ns m × (get_or numbers m None ≡ Some n)) → (m : ℕ) × Contains (j ∷ ns) m × (get_or numbers m None ≡ Some n)
      more (m, (i, lt, is), e) = (m, (suc i, omega (arith, lt), is), e)

      go : (Contains (renumbered numbers ns) n → (m : ℕ) × Contains ns m × (get_or numbers m None ≡ Some n)) → (o : Option ℕ) → get_or numbers j None ≡ o → Contains (cons_option o (renumbered numbers ns)) n → (m : ℕ) × Contains (j ∷ ns) m × (get_or numbers m None ≡ Some n)
      go rest None f c = more (rest c)
      go rest (Some k) f (zero, lt, is) = (j, (0, omega arith, refl), f ∙ ap Some is)
      go rest (Some k) f (suc i, lt, is) = more (rest (i, omega (arith, lt), is))

-- ---- clauses, pairs and lists

module _ (kept : List (Option StepId)) where
  pub all_chosen : {X : Type 0} (P : X → Type 0) (xs : List X) → length kept ≡ length xs → All P xs → All P (staying kept xs)
  all_chosen P xs count h n d lt =
      let w = was_at kept n (omega (arith, lt, chosen_count kept xs count)) in
      subst P (sym (ap (λ k. get_or (staying kept xs) k d) (sym w.count) ∙ chosen_at kept xs w.place w.step d w.has (omega (arith, w.within, count)))) (h w.place d (omega (arith, w.within, count)))

  pub pairs_kept : (clauses : List (List Lit)) (pairs : List Pair) → length kept ≡ length clauses → ArePairs clauses pairs → ArePairs (staying kept clauses) (staying kept pairs)
  pairs_kept clauses pairs count ps = record {
    paired = chosen_count kept pairs (count ∙ sym ps.paired) ∙ sym (chosen_count kept clauses count);
    each = λ n lt.
        let w = was_at kept n (omega (arith, lt, chosen_count kept clauses count)) in
        let within : w.place < length clauses = omega (arith, w.within, count) in
        let clause : get_or (staying kept clauses) n [] ≡ get_or clauses w.place [] = ap (λ k. get_or (staying kept clauses) k []) (sym w.count) ∙ chosen_at kept clauses w.place w.step [] w.has within in
        let pair : get_or (staying kept pairs) n no_pair ≡ get_or pairs w.place no_pair = ap (λ k. get_or (staying kept pairs) k no_pair) (sym w.count) ∙ chosen_at kept pairs w.place w.step no_pair w.has (omega (arith, within, ps.paired)) in
        subst (λ (xs : List Lit). IsPairOf xs (get_or (staying kept pairs) n no_pair)) (sym clause) (subst (IsPairOf (get_or clauses w.place [])) (sym pair) (ps.each w.place within));
  }

  module _ (pairs : List Pair) (index : List (List ℕ)) (count : length kept ≡ length pairs) (h : IsIndexed pairs index) where
    -- each number in a list is a clause's
    pub index_within : All (All (λ n. n < length (numbered_from 0 kept))) index
    index_within k d lt = subst (All (λ n. n < length (numbered_from 0 kept))) (sym (get_or_default index k d [] lt)) (below k)
      where
        below : (k : ℕ) → All (λ n. n < length (numbered_from 0 kept)) (get_or index k [])
        below k i e lt = omega (arith, (listed pairs index h k (get_or (get_or index k []) i e) (Contains-get_or (get_or index k []) i e lt)).0, count, numbered_count kept 0)

    pub indexed_kept : IsIndexed (staying kept pairs) (map (renumbered (numbered_from 0 kept)) index)
    indexed_kept = record { counted = λ k n. ap (tally n) (list_at k) ∙ go k n (cases_lt n (length (steps_in kept))) }
      where
        list_at : (k : ℕ) → get_or (map (renumbered (numbered_from 0 kept)) index) k [] ≡ renumbered (numbered_from 0 kept) (get_or index k [])
        list_at k = elim (cases_lt k (length index)) [
          | inl lt ↦ get_or-map (renumbered (numbered_from 0 kept)) index k [] [] lt
          | inr past ↦ get_or_past (map (renumbered (numbered_from 0 kept)) index) k [] (omega (arith, past, length-map index (renumbered (numbered_from 0 kept)))) ∙ sym (ap (renumbered (numbered_from 0 kept)) (get_or_past index k [] past))
        ]

        stays : (k n : ℕ) → WasAt kept n → tally n (renumbered (numbered_from 0 kept) (get_or index k [])) ≡ hits_at (staying kept pairs) n k
        stays k n w =
            let number : get_or (numbered_from 0 kept) w.place None ≡ Some n = number_at kept 0 w.place w.step w.has ∙ ap Some (omega (arith, w.count)) in
            let within : w.place < length pairs = omega (arith, w.within, count) in
            tally_same (numbered_from 0 kept) w.place n number (λ j e. number_tells kept j w.place n e number) (get_or index k []) ∙ h.counted k w.place ∙ hits_there pairs w.place k within
            ∙ ap (λ (p : Pair). hits p k) (sym (chosen_at kept pairs w.place w.step no_pair w.has within) ∙ ap (λ j. get_or (staying kept pairs) j no_pair) w.count)
            ∙ sym (hits_there (staying kept pairs) n k (omega (arith, count_past kept w.place w.step w.has, w.count, chosen_count kept pairs count)))

        none : (k n : ℕ) → length (steps_in kept) ≤ n → tally n (renumbered (numbered_from 0 kept) (get_or index k [])) ≡ hits_at (staying kept pairs) n k
        none k n past = tally_none (numbered_from 0 kept) n (λ j e. let p = numbered_at kept 0 j n e in omega (arith, past, p.2, count_past kept j p.0 p.1)) (get_or index k [])
            ∙ sym (hits_past (staying kept pairs) n k (omega (arith, past, chosen_count kept pairs count)))

        go : (k n : ℕ) → (n < length (steps_in kept)) ⊎ (length (steps_in kept) ≤ n) → tally n (renumbered (numbered_from 0 kept) (get_or index k [])) ≡ hits_at (staying kept pairs) n k
        go k n (inl lt) = stays k n (was_at kept n lt)
        go k n (inr past) = none k n past

  -- what was looked at and stays was looked at
  pub attached_kept : (clauses : List (List Lit)) (pairs : List Pair) (first : ℕ) (short : List ℕ) → length kept ≡ length clauses → length kept ≡ length pairs → AreAttached clauses pairs first short
      → AreAttached (staying kept clauses) (staying kept pairs) (count_first kept first) (renumbered (numbered_from 0 kept) short)
  attached_kept clauses pairs first short count count2 h = record {
    within = omega (arith, count_most kept first, chosen_count kept clauses count);
    there = λ n lt. let w = was n lt in subst (λ (xs : List Lit). Contains xs (get_or (staying kept pairs) n no_pair).first) (sym (clause n w))
        (subst (λ (p : Pair). Contains (get_or clauses w.place []) p.first) (sym (pair n w)) (h.there w.place (before n lt w)));
    listed = λ n lt e. let w = was n lt in renumbered_has (numbered_from 0 kept) short w.place n (h.listed w.place (before n lt w) (rw (pair n w) at e)) (number_at kept 0 w.place w.step w.has ∙ ap Some (omega (arith, w.count)));
    only = λ n c. had n (renumbered_had (numbered_from 0 kept) short n c);
  }
    where
      was : (n : ℕ) → n < count_first kept first → WasAt kept n
      was n lt = was_at kept n (omega (arith, lt, count_most kept first))

      before : (n : ℕ) → n < count_first kept first → (w : WasAt kept n) → w.place < first
      before n lt w = elim (cases_lt w.place first) [ inl b ↦ b | inr past ↦ absurd (omega (arith, lt, w.count, count_grows kept first w.place past)) ]

      clause : (n : ℕ) (w : WasAt kept n) → get_or (staying kept clauses) n [] ≡ get_or clauses w.place []
      clause n w = ap (λ k. get_or (staying kept clauses) k []) (sym w.count) ∙ chosen_at kept clauses w.place w.step [] w.has (omega (arith, w.within, count))

      pair : (n : ℕ) (w : WasAt kept n) → get_or (staying kept pairs) n no_pair ≡ get_or pairs w.place no_pair
      pair n w = ap (λ k. get_or (staying kept pairs) k no_pair) (sym w.count) ∙ chosen_at kept pairs w.place w.step no_pair w.has (omega (arith, w.within, count2))

      had : (n : ℕ) → (m : ℕ) × Contains short m × (get_or (numbered_from 0 kept) m None ≡ Some n) → (n < count_first kept first) × ((get_or (staying kept pairs) n no_pair).first ≡ (get_or (staying kept pairs) n no_pair).second)
      had n (m, c, e) =
          let o = h.only m c in
          let p = numbered_at kept 0 m n e in
          let is : get_or (staying kept pairs) n no_pair ≡ get_or pairs m no_pair = ap (λ k. get_or (staying kept pairs) k no_pair) (omega (arith, p.2)) ∙ chosen_at kept pairs m p.0 no_pair p.1 (omega (arith, o.0, h.within, count, count2)) in
          (omega (arith, p.2, count_rises kept m first p.0 o.0 p.1), rw is o.1)

-- ---- the parts

pub watched_kept : (kept : List (Option StepId)) (numbers : List (Option ℕ)) (old new : Watched) → IsWatched old → length kept ≡ length old.entries.items → numbers ≡ numbered_from 0 kept → KeepsEntries kept old.entries.items new.entries.items
    → new.pairs.items ≡ staying kept old.pairs.items → new.index ≡ map (renumbered numbers) old.index → IsWatched new
watched_kept kept numbers old new w count ns es ps ix =
    let clauses : length kept ≡ length (clauses_of old.entries.items) = count ∙ sym (clause_count old.entries.items) in
    record {
      pairs_by = subst (λ (cs : List (List Lit)). ArePairs cs new.pairs.items) (sym es.clauses)
          (subst (ArePairs (staying kept (clauses_of old.entries.items))) (sym ps) (pairs_kept kept (clauses_of old.entries.items) old.pairs.items clauses w.pairs_by));
      index_by = subst (λ (qs : List Pair). IsIndexed qs new.index) (sym ps)
          (subst (IsIndexed (staying kept old.pairs.items)) (sym (ix ∙ ap (λ (xs : List (Option ℕ)). map (renumbered xs) old.index) ns)) (indexed_kept kept old.pairs.items old.index (clauses ∙ sym w.pairs_by.paired) w.index_by));
    }

quiet_none : (quiet_at : List ℕ) (count : ℕ) (pairs : List Pair) (most : ℕ) (held : List Lit) → quiet_at ≡ [] → QuietLengths quiet_at count pairs most held
quiet_none quiet_at count pairs most held e = record {
  rising = λ i j lt lt2. absurd (omega (arith, lt2, ap length e));
  within = λ r c. absurd (omega (arith, c.1, ap length e));
  were_quiet = λ r c. absurd (omega (arith, c.1, ap length e));
}

pub fits_kept : (kept : List (Option StepId)) (old new : StoreParts) → StoreFits old → length kept ≡ length old.watched.entries.items → IsWatched new.watched → KeepsEntries kept old.watched.entries.items new.watched.entries.items
    → new.watched.pairs.items ≡ staying kept old.watched.pairs.items → new.attached ≡ count_first kept old.attached → new.short.items ≡ renumbered (numbered_from 0 kept) old.short.items → new.quiet_at.items ≡ [] → StoreFits new
fits_kept kept old new h count w es ps a s q =
    let clauses : length kept ≡ length (clauses_of old.watched.entries.items) = count ∙ sym (clause_count old.watched.entries.items) in
    record {
      watched = w;
      attached = rw (es.clauses, ps, a, s) (attached_kept kept (clauses_of old.watched.entries.items) old.watched.pairs.items old.attached old.short.items clauses (clauses ∙ sym h.watched.pairs_by.paired) h.attached);
      quiet_at = quiet_none new.quiet_at.items new.attached new.watched.pairs.items (length new.seen.items) new.seen.items q;
    }

-- there are no more clauses than before
pub fewer_kept : (kept : List (Option StepId)) (old new : List StoredClause) → length kept ≡ length old → KeepsEntries kept old new → length new ≤ length kept
fewer_kept kept old new count h = omega (arith, clause_count new, ap length h.clauses, chosen_count kept (clauses_of old) (count ∙ sym (clause_count old)), steps_within kept)
