-- By its pair.
use Rattle.std.proofs.Common.{◌≡◌, ◌<◌, ℕ, [], length, Contains, get_or, subst}
use Rattle.term_core.specs.declared.ids.Lit.{Lit}
use Rattle.clause_store.specs.Stores.{StoreView, IsWatchedTwice, no_pair}
use Rattle.clause_store.proofs.Watches.{watched_twice}
use Rattle.clause_store.proofs.store.ClauseStore.are_watched_twice.Goals as goal

pub returns : goal.returns
returns c =
    let p = c.self.inside.parts.watched in
    subst (λ (s : StoreView). (n : ℕ) (l m : Lit) → n < length s.clauses → Contains (get_or s.clauses n []) l → Contains (get_or s.clauses n []) m → (l ≡ m → ⊥) → IsWatchedTwice (get_or s.clauses n []) (get_or s.pairs n no_pair))
    c.self.view_is (watched_twice _ p.pairs.items c.self.invariant.fits.watched.pairs_by)
