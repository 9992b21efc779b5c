-- Clauses without a second literal, looked at again.
use Rattle.std.proofs.Common.{◌≡◌, ℕ, ◌+◌, ◌<◌, ◌≤◌, List, [], length, get_or, take, Contains, inl, inr, sym, ap, ◌∙◌, subst, arith}
use Rattle.std.proofs.lemmas.List.{get_or_default, take_all, take_more}
use Rattle.std.proofs.lemmas.List.Elements.{Contains-get_or, Contains-push_cases}
use Rattle.term_core.specs.declared.ids.Lit.{Lit}
use Rattle.sat_trail.specs.Trails.{TrailView}
use Rattle.clause_store.specs.declared.pair.Pair.{Pair}
use Rattle.clause_store.specs.declared.parts.StoreParts.{StoreParts}
use Rattle.clause_store.specs.Stores.{no_pair}
use Rattle.clause_store.specs.Entries.{clauses_of}
use Rattle.clause_store.specs.Watching.{AreQuietPairs}
use Rattle.clause_store.specs.QuietPairs.{IsAtWork}
use Rattle.clause_store.proofs.Stored.{clause_count}

module _ (p : StoreParts) (t : TrailView) (w : IsAtWork p t) (list : List ℕ) (is : list ≡ p.short.items) where
  -- the literals of the first of them hold
  abbrev pub Hold : List Lit → ℕ → Type 0
  Hold held k = (m : ℕ) → Contains (take k p.short.items) m → Contains held (get_or p.watched.pairs.items m no_pair).first

  module _ (k : ℕ) (lt : k < length list) where
    abbrev n : ℕ
    n = get_or list k 0

    here : (n < p.attached) × ((get_or p.watched.pairs.items n no_pair).first ≡ (get_or p.watched.pairs.items n no_pair).second)
    here = w.attached.only n (subst (λ (xs : List ℕ). Contains xs n) is (Contains-get_or list k 0 lt))

    pub again_clause : get_or list k 0 < length (clauses_of p.watched.entries.items)
    again_clause = omega (arith, here.0, w.attached.within)

    pub again_entry : get_or list k 0 < length p.watched.entries.items
    again_entry = omega (arith, again_clause, clause_count p.watched.entries.items)

    pub again_pair : get_or list k 0 < length p.watched.pairs.items
    again_pair = omega (arith, again_clause, w.watched.pairs_by.paired)

    module _ (x : Pair) (read : x ≡ get_or p.watched.pairs.items (get_or list k 0) x) where
      pub again_literal : x.first ≡ (get_or p.watched.pairs.items (get_or list k 0) no_pair).first
      again_literal = ap (λ (y : Pair). y.first) (read ∙ get_or_default p.watched.pairs.items n x no_pair again_pair)

      -- its only literal
      pub again_there : Contains (get_or (clauses_of p.watched.entries.items) (get_or list k 0) []) x.first
      again_there = subst (Contains (get_or (clauses_of p.watched.entries.items) n [])) (sym again_literal) (w.attached.there n here.0)

      pub again_alone : (m : Lit) → Contains (get_or (clauses_of p.watched.entries.items) (get_or list k 0) []) m → m ≡ x.first
      again_alone m i = (w.watched.pairs_by.each n again_clause).alone here.1 m i ∙ sym again_literal

      -- it holds too
      pub again_more : (held : List Lit) → Hold held k → Contains held x.first → Hold held (k + 1)
      again_more held h one m i = elim (Contains-push_cases (take k p.short.items) (get_or p.short.items k 0) m (subst (λ (ys : List ℕ). Contains ys m) (take_more p.short.items k 0 (omega (arith, lt, ap length is))) i)) [
        | inl was ↦ h m was
        | inr e ↦ subst (λ (j : ℕ). Contains held (get_or p.watched.pairs.items j no_pair).first) (ap (λ (xs : List ℕ). get_or xs k 0) is ∙ e) (subst (Contains held) again_literal one)
      ]

  -- where all of them hold, the clauses are quiet at no prefix
  pub again_all : (k : ℕ) → length list ≤ k → (held : List Lit) → Hold held k → AreQuietPairs p.attached p.watched.pairs.items [] held
  again_all k le held h n lt = record {
    by_first = λ c. absurd (omega (arith, c.1));
    by_second = λ c. absurd (omega (arith, c.1));
    alone = λ e. h n (subst (λ (xs : List ℕ). Contains xs n) (sym (take_all k p.short.items (omega (arith, le, ap length is)))) (w.attached.listed n lt e));
  }
