-- The first look at a clause, by what two watches do to its pair.
use Rattle.std.proofs.Common.{◌≡◌, ◌≢◌, ℕ, ◌<◌, List, [], length, get_or, Contains, inl, inr, refl, sym, ◌∙◌, subst}
use Rattle.term_core.specs.declared.ids.Lit.{Lit}
use Rattle.clause_literals.proofs.LiteralLists.{decide}
use Rattle.clause_store.specs.declared.entry.StoredClause.{StoredClause}
use Rattle.clause_store.specs.declared.pair.Pair.{Pair}
use Rattle.clause_store.specs.Stores.{no_pair}
use Rattle.clause_store.specs.Entries.{clauses_of}
use Rattle.clause_store.specs.Watching.{IsPairOf, ArePairs, IsRepaired}
use Rattle.clause_store.proofs.QuietPairs.{shapes_none, shapes_on}

-- nothing is repaired
pub repaired_none : (n : ℕ) (pairs : List Pair) → IsRepaired n pairs pairs
repaired_none n pairs = record { paired = refl; others = λ m o. refl; shapes = shapes_none pairs }

-- the same clause is repaired twice
pub repaired_on : (n : ℕ) (a b c : List Pair) → IsRepaired n a b → IsRepaired n b c → IsRepaired n a c
repaired_on n a b c g h = record {
  paired = h.paired ∙ g.paired;
  others = λ m o. h.others m o ∙ g.others m o;
  shapes = shapes_on a b c g.shapes h.shapes;
}

-- a clause with two different literals has a pair of two
pub two_of : (clause : List Lit) (p : Pair) (l m : Lit) → IsPairOf clause p → Contains clause l → Contains clause m → l ≢ m → p.first ≢ p.second
two_of clause p l m pair a b d e = d (pair.alone e l a ∙ sym (pair.alone e m b))

-- the other of a pair of two is not that literal
pub other_differs : (p : Pair) (l other : Lit) → p.first ≢ p.second → (p.first ≡ l → other ≡ p.second) → (p.first ≢ l → other ≡ p.first) → other ≢ l
other_differs p l other d one two e = elim (decide p.first l) [
  | inl s ↦ d (s ∙ sym e ∙ one s)
  | inr o ↦ o (sym (two o) ∙ e)
]

-- the pair of a number, where the entries are as they were
pub pair_kept : (es fs : List StoredClause) (pairs : List Pair) (n : ℕ) → ArePairs (clauses_of fs) pairs → fs ≡ es → n < length (clauses_of es) → IsPairOf (get_or (clauses_of es) n []) (get_or pairs n no_pair)
pair_kept es fs pairs n ps e lt = (subst (λ (xs : List StoredClause). ArePairs (clauses_of xs) pairs) e ps).each n lt
