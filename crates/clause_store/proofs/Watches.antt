-- Which clauses a literal watches.
use Rattle.std.proofs.Common.{◌≡◌, ◌≢◌, ℕ, ◌<◌, List, [], length, Contains, get_or, ◌⊎◌, inl, inr, sym, ◌∙◌, arith}
use Rattle.term_core.specs.declared.ids.Lit.{Lit}
use Rattle.watch_index.specs.Indexes.{code, list_of}
use Rattle.clause_store.specs.declared.pair.Pair.{Pair}
use Rattle.clause_store.specs.Stores.{StoreView, no_pair, IsWatchedTwice, AreWatchedBy}
use Rattle.clause_store.specs.Watching.{ArePairs, IsIndexed}
use Rattle.clause_store.proofs.Indexing.{code_tells, one_or_two, listed, listed_once}
use Rattle.clause_store.proofs.Looking.{has_code}

twice_by : (clauses : List (List Lit)) (pairs : List Pair) → ArePairs clauses pairs → (n : ℕ) → n < length clauses → (get_or pairs n no_pair).first ≢ (get_or pairs n no_pair).second → IsWatchedTwice (get_or clauses n []) (get_or pairs n no_pair)
twice_by clauses pairs ps n lt d = record { has_first = (ps.each n lt).first_in d; has_second = (ps.each n lt).second_in d; differ = d }

-- a clause with two different literals is watched by two
pub watched_twice : (clauses : List (List Lit)) (pairs : List Pair) → ArePairs clauses pairs → (n : ℕ) (l m : Lit) → n < length clauses → Contains (get_or clauses n []) l → Contains (get_or clauses n []) m → l ≢ m → IsWatchedTwice (get_or clauses n []) (get_or pairs n no_pair)
watched_twice clauses pairs ps n l m lt a b d = elim (one_or_two (get_or pairs n no_pair)) [
  | inl e ↦ absurd (d ((ps.each n lt).alone e l a ∙ sym ((ps.each n lt).alone e m b)))
  | inr o ↦ twice_by clauses pairs ps n lt o
]

pub watched_by : (s : StoreView) (index : List (List ℕ)) (l : Lit) → ArePairs s.clauses s.pairs → IsIndexed s.pairs index → AreWatchedBy s l (list_of index l)
watched_by s index l ps ix = record {
  there = λ n c.
      let h = listed s.pairs index ix (code l) n c in
      let lt : n < length s.clauses = omega (arith, h.0, ps.paired) in
      (lt, twice_by s.clauses s.pairs ps n lt h.1, literal n h.2);
  once = λ n lt d w. listed_once s.pairs index ix n (code l) (omega (arith, lt, ps.paired)) d (has_code l (get_or s.pairs n no_pair) w);
}
  where
    literal : (n : ℕ) → (code (get_or s.pairs n no_pair).first ≡ code l) ⊎ (code (get_or s.pairs n no_pair).second ≡ code l) → ((get_or s.pairs n no_pair).first ≡ l) ⊎ ((get_or s.pairs n no_pair).second ≡ l)
    literal n (inl e) = inl (code_tells _ l e)
    literal n (inr e) = inr (code_tells _ l e)
