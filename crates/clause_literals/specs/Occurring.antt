-- In which clauses a literal occurs.
use Rattle.std.specs.Prelude.{◌≡◌, ◌<◌, ℕ, List, [], length, get_or, All, Contains}
use Rattle.term_core.specs.declared.ids.Lit.{Lit}
use Rattle.clause_literals.specs.declared.occurrences.Occurrences.{Occurrences}
use Rattle.clause_literals.specs.Literals.{lists, HasNoTwice}

-- each literal has a list, and none has two
pub record OccurrencesFit (w : Occurrences) : Type 0 where
  pub paired : length w.literals.keys ≡ length w.lists.items
  pub once : HasNoTwice w.literals.keys

-- the list of the literal has the number
abbrev pub IsListed : List Lit → List (List ℕ) → Lit → ℕ → Type 0
IsListed keys ls l k = (i : ℕ) × (i < length keys) × (get_or keys i l ≡ l) × Contains (get_or ls i []) k

-- the literal's list has the number
abbrev pub OccursIn : Occurrences → Lit → ℕ → Type 0
OccursIn w l k = IsListed w.literals.keys (lists w.lists.items) l k

-- each number is one of the first n
abbrev pub AreBelow : ℕ → Occurrences → Type 0
AreBelow n w = All (λ ks. All (λ k. k < n) ks) (lists w.lists.items)

-- the literal has a list, with that index, and the lists are as they were
pub record Places (old : Occurrences) (l : Lit) (index : ℕ) (new : Occurrences) : Type 0 where
  pub whole : OccurrencesFit new
  pub within : index < length new.literals.keys
  pub stored : get_or new.literals.keys index l ≡ l
  pub kept : (m : Lit) (k : ℕ) → OccursIn old m k → OccursIn new m k
  pub below : (n : ℕ) → AreBelow n old → AreBelow n new

-- the lists are as they were, but that those of some literals have one more number
pub record Notes (old : Occurrences) (noted : List Lit) (number : ℕ) (new : Occurrences) : Type 0 where
  pub whole : OccurrencesFit new
  pub kept : (m : Lit) (k : ℕ) → OccursIn old m k → OccursIn new m k
  pub added : (m : Lit) → Contains noted m → OccursIn new m number
  pub below : (n : ℕ) → number < n → AreBelow n old → AreBelow n new

-- each literal of the clauses has their numbers
pub record IsIndexOf (w : Occurrences) (clauses : List (List Lit)) : Type 0 where
  pub whole : OccurrencesFit w
  pub below : AreBelow (length clauses) w
  pub complete : (k : ℕ) (l : Lit) → k < length clauses → Contains (get_or clauses k []) l → OccursIn w l k
