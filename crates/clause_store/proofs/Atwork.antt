-- The parts in the midst of propagation, and before and after it.
use Rattle.std.proofs.Common.{◌≡◌, ℕ, ◌+◌, ◌<◌, ◌≤◌, List, [], length, get_or, take, All, Contains, inl, inr, refl, sym, ap, ◌∙◌, subst, arith}
use Rattle.std.proofs.lemmas.Bool.{cases_lt}
use Rattle.std.proofs.lemmas.List.{length-append}
use Rattle.term_core.specs.declared.ids.Lit.{Lit}
use Rattle.sat_trail.specs.Trails.{TrailView}
use Rattle.clause_store.specs.declared.entry.StoredClause.{StoredClause}
use Rattle.clause_store.specs.declared.pair.Pair.{Pair}
use Rattle.clause_store.specs.declared.parts.StoreParts.{StoreParts}
use Rattle.clause_store.specs.declared.watched.Watched.{Watched}
use Rattle.clause_store.specs.Stores.{StoreView, HasSeen, no_pair}
use Rattle.clause_store.specs.Entries.{clauses_of, bare}
use Rattle.clause_store.specs.Propagating.{AddsImplied, Advances, IsPropagated}
use Rattle.clause_store.specs.Watching.{IsWatched, ArePairs, AreKnownIn, IsQuietPair, AreQuietPairs, AreLiteralsAmong, IsFresh, PropagatesPart}
use Rattle.clause_store.specs.QuietPairs.{store_of, IsPrefixOf, QuietLengths, AreAttached, StoreFits, IsAtWork, WorksOn, IsSameBut}
use Rattle.clause_store.proofs.Adding.{adds_on, advances_none, advances_on, holds_on, same_front}
use Rattle.clause_store.proofs.QuietPairs.{front_within, quiet, all_quiet_on}
use Rattle.clause_store.proofs.Seen.{seen_more}
use Rattle.clause_store.proofs.Stored.{clause_count}
use Rattle.clause_store.proofs.Working.{front_had, quiet_by_other, quiet_front, quiet_lengths_go, quiet_lengths_more, attached_on}

-- after propagation that ended early the parts fit by what was seen
pub kept_by : (p : StoreParts) (t : TrailView) → IsAtWork p t → StoreFits p
kept_by p t w = record {
  watched = w.watched;
  attached = w.attached;
  quiet_at = quiet_by_other p.quiet_at.items p.attached p.watched.pairs.items t.propagated t.propagated (length p.seen.items) t.literals p.seen.items w.seen.same w.seen.within w.quiet_at.within w.quiet_at;
}

-- before it they fit by the trail, where no prefix is longer than what is marked
pub work_by : (p : StoreParts) (t : TrailView) → IsWatched p.watched → AreAttached (clauses_of p.watched.entries.items) p.watched.pairs.items p.attached p.short.items → AreKnownIn p.watched t.vars → HasSeen (store_of p) t
    → ((r : ℕ) → Contains p.quiet_at.items r → r ≤ t.propagated) → QuietLengths p.quiet_at.items p.attached p.watched.pairs.items (length p.seen.items) p.seen.items → IsAtWork p t
work_by p t w s k seen within h = record {
  watched = w;
  attached = s;
  quiet_at = quiet_by_other p.quiet_at.items p.attached p.watched.pairs.items (length p.seen.items) t.propagated t.propagated p.seen.items t.literals (sym seen.same) (omega arith) within h;
  known = k;
  seen = seen;
}

-- nothing is done
pub works_none : (p : StoreParts) (t : TrailView) → WorksOn p p t t
works_none p t = record { advances = advances_none _ t; entries = refl; seen = refl; prefixes = λ F w h. h }

pub works_on : (p q r : StoreParts) (t u v : TrailView) → WorksOn p q t u → WorksOn q r u v → WorksOn p r t v
works_on p q r t u v g h = record {
  advances = advances_on _ t u v g.advances (subst (λ (es : List StoredClause). Advances (bare es) u v) g.entries h.advances);
  entries = h.entries ∙ g.entries;
  seen = h.seen ∙ g.seen;
  prefixes = λ F w x. h.prefixes F (λ l i. holds_on _ t u g.advances.0 l (w l i)) (g.prefixes F w x);
}

-- the first pairs are quiet by what holds now
pub quiet_goes : (es : List StoredClause) (count : ℕ) (old new : Watched) (t u : TrailView) → PropagatesPart (bare es) count old.pairs.items new.pairs.items t u → (F : List Lit) → AreLiteralsAmong F t.literals → AreQuietPairs count old.pairs.items F t.literals → AreQuietPairs count new.pairs.items F u.literals
quiet_goes es count old new t u g F w h = all_quiet_on count new.pairs.items F t.literals u.literals (holds_on (bare es) t u g.advances.0) (g.prefixes F t.literals w (λ l i. i) h)

-- with one pair more
quiet_with_one : (count : ℕ) (pairs : List Pair) (F held : List Lit) → AreQuietPairs count pairs F held → IsQuietPair F held (get_or pairs count no_pair) → AreQuietPairs (count + 1) pairs F held
quiet_with_one count pairs F held h one n lt = elim (cases_lt n count) [
  | inl before ↦ h n before
  | inr last ↦ let is : count ≡ n = omega (arith, last, lt) in subst (λ (k : ℕ). IsQuietPair F held (get_or pairs k no_pair)) is one
]

-- ---- a part of propagation, from parts at work

module _ (p q : StoreParts) (t u : TrailView) (le : t.propagated ≤ length t.literals) (ok : IsWatched q.watched) (es : q.watched.entries.items ≡ p.watched.entries.items) (se : q.seen.items ≡ p.seen.items)
    (g : PropagatesPart (bare p.watched.entries.items) p.attached p.watched.pairs.items q.watched.pairs.items t u) (h : IsAtWork p t) where
  known_now : AreKnownIn q.watched u.vars
  known_now = subst (λ (es : List StoredClause). All (All (λ (l : Lit). l.term.0 < u.vars)) (clauses_of es)) (sym es) (subst (λ (n : ℕ). All (All (λ (l : Lit). l.term.0 < n)) (clauses_of p.watched.entries.items)) (sym g.advances.0.vars) h.known)

  seen_now : HasSeen (store_of q) u
  seen_now =
      let x = seen_more (store_of p) t u g.advances.0.more le h.seen g.advances.0.literals g.advances.1 in
      record { within = omega (arith, x.within, ap length se); same = x.same ∙ ap (take u.propagated) (sym se) }

  -- the pairs are those of the clauses
  pairs_now : ArePairs (clauses_of p.watched.entries.items) q.watched.pairs.items
  pairs_now = subst (λ (es : List StoredClause). ArePairs (clauses_of es) q.watched.pairs.items) es ok.pairs_by

  pub attached_now : AreAttached (clauses_of p.watched.entries.items) q.watched.pairs.items p.attached p.short.items
  attached_now = attached_on (clauses_of p.watched.entries.items) p.attached p.short.items p.watched.pairs.items q.watched.pairs.items g.shapes pairs_now h.attached

  quiet_now : QuietLengths p.quiet_at.items p.attached q.watched.pairs.items u.propagated u.literals
  quiet_now = quiet_lengths_go (bare p.watched.entries.items) p.quiet_at.items p.attached p.watched.pairs.items q.watched.pairs.items t u le g h.quiet_at

  -- no more was looked at
  pub work_goes : q.attached ≡ p.attached → q.short.items ≡ p.short.items → q.quiet_at.items ≡ p.quiet_at.items → IsAtWork q u
  work_goes st sh re = record {
    watched = ok;
    attached = subst (λ (es : List StoredClause). AreAttached (clauses_of es) q.watched.pairs.items q.attached q.short.items) (sym es)
        (subst (λ (n : ℕ). AreAttached (clauses_of p.watched.entries.items) q.watched.pairs.items n q.short.items) (sym st)
        (subst (AreAttached (clauses_of p.watched.entries.items) q.watched.pairs.items p.attached) (sym sh) attached_now));
    quiet_at = subst (λ (n : ℕ). QuietLengths q.quiet_at.items n q.watched.pairs.items u.propagated u.literals) (sym st)
        (subst (λ (rs : List ℕ). QuietLengths rs p.attached q.watched.pairs.items u.propagated u.literals) (sym re) quiet_now);
    known = known_now;
    seen = seen_now;
  }

  pub works_goes : q.attached ≡ p.attached → WorksOn p q t u
  works_goes st = record {
    advances = g.advances;
    entries = es;
    seen = se;
    prefixes = λ F w x. subst (λ (n : ℕ). AreQuietPairs n q.watched.pairs.items F u.literals) (sym st) (quiet_goes p.watched.entries.items p.attached p.watched q.watched t u g F w x);
  }

  -- one more was looked at, and the prefixes that are left are safe for it
  module _ (Safe : ℕ → Type 0) (st : q.attached ≡ p.attached + 1) (attached : AreAttached (clauses_of p.watched.entries.items) q.watched.pairs.items (p.attached + 1) q.short.items)
      (fr : IsFresh (get_or (clauses_of p.watched.entries.items) p.attached []) u.literals (get_or q.watched.pairs.items p.attached no_pair) Safe)
      (front : IsPrefixOf q.quiet_at.items p.quiet_at.items) (safe : (r : ℕ) → Contains q.quiet_at.items r → Safe r) where
    pub work_one : IsAtWork q u
    work_one = record {
      watched = ok;
      attached = subst (λ (es : List StoredClause). AreAttached (clauses_of es) q.watched.pairs.items q.attached q.short.items) (sym es)
          (subst (λ (n : ℕ). AreAttached (clauses_of p.watched.entries.items) q.watched.pairs.items n q.short.items) (sym st) attached);
      quiet_at = subst (λ (n : ℕ). QuietLengths q.quiet_at.items n q.watched.pairs.items u.propagated u.literals) (sym st)
          (quiet_lengths_more q.quiet_at.items p.attached q.watched.pairs.items u.propagated u.literals
          (quiet_front q.quiet_at.items p.quiet_at.items p.attached q.watched.pairs.items u.propagated u.literals front quiet_now) one);
      known = known_now;
      seen = seen_now;
    }
      where
        one : (r : ℕ) → Contains q.quiet_at.items r → IsQuietPair (take r u.literals) (take r u.literals) (get_or q.watched.pairs.items p.attached no_pair)
        one r c = fr.prefixes r (omega (arith, quiet_now.within r (front_had q.quiet_at.items p.quiet_at.items front r c), g.advances.1, le, ap length g.advances.0.literals, length-append t.literals g.advances.0.more)) (safe r c)

    pub works_one : WorksOn p q t u
    works_one = record {
      advances = g.advances;
      entries = es;
      seen = se;
      prefixes = λ F w x. subst (λ (n : ℕ). AreQuietPairs n q.watched.pairs.items F u.literals) (sym st)
          (quiet_with_one p.attached q.watched.pairs.items F u.literals (quiet_goes p.watched.entries.items p.attached p.watched q.watched t u g F w x)
          (fr.now F (λ l i. holds_on (bare p.watched.entries.items) t u g.advances.0 l (w l i))));
    }

-- ---- where all were looked at

module _ (p : StoreParts) (ok : IsWatched p.watched) (all : p.attached ≡ length p.watched.entries.items) where
  pub count_attached : length p.watched.pairs.items ≡ p.attached
  count_attached = omega (arith, all, ok.pairs_by.paired, clause_count p.watched.entries.items)

  pub goes_attached : (new : List Pair) (t u : TrailView) → PropagatesPart (bare p.watched.entries.items) (length p.watched.pairs.items) p.watched.pairs.items new t u → PropagatesPart (bare p.watched.entries.items) p.attached p.watched.pairs.items new t u
  goes_attached new t u g = subst (λ (n : ℕ). PropagatesPart (bare p.watched.entries.items) n p.watched.pairs.items new t u) count_attached g

-- the parts with another count of those that were looked at
abbrev pub looked : StoreParts → ℕ → StoreParts
looked p n = record { watched = p.watched; attached = n; short = p.short; seen = p.seen; quiet_at = p.quiet_at }

-- ---- the whole of propagation

-- what is added by both parts
pub adds_after : (p q r : StoreParts) (t u v : TrailView) → q.watched ≡ p.watched → Advances (bare p.watched.entries.items) t u → WorksOn q r u v → AddsImplied (bare p.watched.entries.items) t v
adds_after p q r t u v e a g = adds_on (bare p.watched.entries.items) t u v a.0 (subst (λ (w : Watched). AddsImplied (bare w.entries.items) u v) e g.advances.0)

-- then the literals are marked
pub adds_marked : (s : StoreView) (t u v : TrailView) → AddsImplied s t u → IsSameBut u v → AddsImplied s t v
adds_marked s t u v g e = record {
  more = g.more;
  why = g.why;
  literals = e.same.literals ∙ g.literals;
  reasons = e.same.reasons ∙ g.reasons;
  paired = g.paired;
  levels = e.same.levels ∙ g.levels;
  level = e.same.level ∙ g.level;
  implied = g.implied;
  vars = e.vars ∙ g.vars;
}

-- a prefix that was there is left, and the pairs are quiet by it
pub quiet_still : (p q : StoreParts) (t u : TrailView) (n : ℕ) → n ≤ length t.literals → WorksOn p q t u → AreQuietPairs p.attached p.watched.pairs.items (take n t.literals) t.literals → AreQuietPairs q.attached q.watched.pairs.items (take n u.literals) u.literals
quiet_still p q t u n le g h = subst (λ (F : List Lit). AreQuietPairs q.attached q.watched.pairs.items F u.literals) (sym (same_front (bare p.watched.entries.items) t u n g.advances.0 le))
    (g.prefixes (take n t.literals) (front_within n t.literals le) h)

-- where all are quiet, nothing follows
pub quiet_by : (p : StoreParts) (t : TrailView) → IsAtWork p t → p.attached ≡ length p.watched.entries.items → AreQuietPairs p.attached p.watched.pairs.items t.literals t.literals → IsPropagated (clauses_of p.watched.entries.items) t.literals
quiet_by p t w all h = quiet (clauses_of p.watched.entries.items) p.watched.pairs.items t.literals w.watched.pairs_by (λ n lt. w.attached.there n (omega (arith, lt, all, clause_count p.watched.entries.items))) (λ n lt. h n (omega (arith, lt, all, clause_count p.watched.entries.items)))
