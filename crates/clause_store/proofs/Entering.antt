-- A clause more comes last, with its pair.
use Rattle.std.proofs.Common.{◌≡◌, ℕ, ◌<◌, ◌≤◌, List, [], ◌∷◌, ◌++◌, length, get_or, take, inl, inr, sym, ap, ◌∙◌, subst, arith}
use Rattle.std.proofs.lemmas.Bool.{cases_lt}
use Rattle.std.proofs.lemmas.List.{get_or_append_left, get_or_push, length_push, map_push}
use Rattle.term_core.specs.declared.ids.Lit.{Lit}
use Rattle.clause_store.specs.declared.entry.StoredClause.{StoredClause}
use Rattle.clause_store.specs.declared.pair.Pair.{Pair}
use Rattle.clause_store.specs.declared.watched.Watched.{Watched}
use Rattle.clause_store.specs.Stores.{no_pair}
use Rattle.clause_store.specs.Entries.{clauses_of}
use Rattle.clause_store.specs.Watching.{IsPairOf, ArePairs, IsEnteredIfTwo, IsWatched, IsOneMore, IsAsBefore, IsQuietPair}
use Rattle.clause_store.specs.QuietPairs.{QuietLengths, AreAttached}
use Rattle.clause_store.proofs.Stored.{clause_count}
use Rattle.clause_store.proofs.Indexing.{indexed_more}

clauses_more : (es : List StoredClause) (e : StoredClause) → clauses_of (es ++ e ∷ []) ≡ clauses_of es ++ e.literals.items ∷ []
clauses_more es e = map_push (λ (x : StoredClause). x.literals.items) es e

pub pairs_more : (clauses : List (List Lit)) (pairs : List Pair) (clause : List Lit) (p : Pair) → ArePairs clauses pairs → IsPairOf clause p → ArePairs (clauses ++ clause ∷ []) (pairs ++ p ∷ [])
pairs_more clauses pairs clause p ps h = record {
  paired = omega (arith, ps.paired, length_push clauses clause, length_push pairs p);
  each = λ n lt. elim (cases_lt n (length clauses)) [
    | inl before ↦ rw (get_or_append_left clauses (clause ∷ []) [] n before, get_or_append_left pairs (p ∷ []) no_pair n (omega (arith, before, ps.paired))) (ps.each n before)
    | inr from ↦
        let last : length clauses ≡ n = omega (arith, from, lt, length_push clauses clause) in
        rw (get_or_push clauses clause [] n last, get_or_push pairs p no_pair n (ps.paired ∙ last)) h
  ];
}

-- clauses, pairs and lists fit together with it
pub watched_more : (old new : Watched) (e : StoredClause) (p : Pair) → IsWatched old → new.entries.items ≡ old.entries.items ++ e ∷ [] → new.pairs.items ≡ old.pairs.items ++ p ∷ [] → IsPairOf e.literals.items p
    → IsEnteredIfTwo old.index p (length old.entries.items) new.index → IsWatched new
watched_more old new e p w ee pe h m =
    let count : length old.entries.items ≡ length old.pairs.items = sym (w.pairs_by.paired ∙ clause_count old.entries.items) in
    record {
      pairs_by = subst (λ (qs : List Pair). ArePairs (clauses_of new.entries.items) qs) (sym pe)
          (subst (λ (cs : List (List Lit)). ArePairs cs (old.pairs.items ++ p ∷ [])) (sym (ap clauses_of ee ∙ clauses_more old.entries.items e))
          (pairs_more (clauses_of old.entries.items) old.pairs.items e.literals.items p w.pairs_by h));
      index_by = rw pe (indexed_more old.pairs.items old.index w.index_by p new.index (subst (λ (n : ℕ). IsEnteredIfTwo old.index p n new.index) count m));
    }

-- what was looked at is as it was
pub attached_more : (clauses : List (List Lit)) (pairs : List Pair) (count : ℕ) (short : List ℕ) (clause : List Lit) (p : Pair) → ArePairs clauses pairs → AreAttached clauses pairs count short → AreAttached (clauses ++ clause ∷ []) (pairs ++ p ∷ []) count short
attached_more clauses pairs count short clause p ps h = record {
  within = omega (arith, h.within, length_push clauses clause);
  there = λ n lt. rw (get_or_append_left clauses (clause ∷ []) [] n (omega (arith, lt, h.within)), same n lt) (h.there n lt);
  listed = λ n lt e. h.listed n lt (rw (same n lt) at e);
  only = λ n c. ((h.only n c).0, rw (same n (h.only n c).0) (h.only n c).1);
}
  where
    same : (n : ℕ) → n < count → get_or (pairs ++ p ∷ []) n no_pair ≡ get_or pairs n no_pair
    same n lt = get_or_append_left pairs (p ∷ []) no_pair n (omega (arith, lt, h.within, ps.paired))

pub quiet_lengths_more : (quiet_at : List ℕ) (count : ℕ) (pairs : List Pair) (most : ℕ) (held : List Lit) (p : Pair) → count ≤ length pairs → QuietLengths quiet_at count pairs most held → QuietLengths quiet_at count (pairs ++ p ∷ []) most held
quiet_lengths_more quiet_at count pairs most held p le h = record {
  rising = h.rising;
  within = h.within;
  were_quiet = λ r c n lt. subst (IsQuietPair (take r held) (take r held)) (sym (get_or_append_left pairs (p ∷ []) no_pair n (omega (arith, lt, le)))) (h.were_quiet r c n lt);
}

module _ (old new : Watched) (e : StoredClause) (w : IsWatched old) (m : IsOneMore old e new) (count : ℕ) (short : List ℕ) (h : AreAttached (clauses_of old.entries.items) old.pairs.items count short) where
  pub attached_with : AreAttached (clauses_of new.entries.items) new.pairs.items count short
  attached_with = subst (λ (qs : List Pair). AreAttached (clauses_of new.entries.items) qs count short) (sym m.pairs)
      (subst (λ (cs : List (List Lit)). AreAttached cs (old.pairs.items ++ m.pair ∷ []) count short) (sym (ap clauses_of m.entries ∙ clauses_more old.entries.items e))
      (attached_more (clauses_of old.entries.items) old.pairs.items count short e.literals.items m.pair w.pairs_by h))

  pub quiet_with : (quiet_at : List ℕ) (most : ℕ) (held : List Lit) → QuietLengths quiet_at count old.pairs.items most held → QuietLengths quiet_at count new.pairs.items most held
  quiet_with quiet_at most held r = subst (λ (qs : List Pair). QuietLengths quiet_at count qs most held) (sym m.pairs)
      (quiet_lengths_more quiet_at count old.pairs.items most held m.pair (omega (arith, h.within, w.pairs_by.paired)) r)

-- where nothing came they are as they were
pub attached_before : (old new : Watched) (count : ℕ) (short : List ℕ) → IsAsBefore old new → AreAttached (clauses_of old.entries.items) old.pairs.items count short → AreAttached (clauses_of new.entries.items) new.pairs.items count short
attached_before old new count short m h = rw (m.entries, m.pairs) h

pub quiet_before : (old new : Watched) (quiet_at : List ℕ) (count most : ℕ) (held : List Lit) → IsAsBefore old new → QuietLengths quiet_at count old.pairs.items most held → QuietLengths quiet_at count new.pairs.items most held
quiet_before old new quiet_at count most held m h = rw m.pairs h
