-- The terms that variables of a tableau stand for.
use Rattle.std.specs.Prelude.{◌≡◌, ℕ, List, get_or, Option, Some, None}
use Rattle.spec_sorts.specs.Terms.{Term}
use Rattle.term_core.specs.declared.ids.TermId.{TermId}
use Rattle.term_core.specs.Tables.{TableView, term_at, IsIn}

-- the term that a variable stands for, if it stands for one; those of rows stand for none
abbrev pub owner_at : List (Option TermId) → ℕ → Option TermId
owner_at owners y = get_or owners y None

-- y is the variable that means a term, or none does
abbrev pub IsNumberOf : List (Option TermId) → TermId → Option ℕ → Type 0
IsNumberOf owners id (Some y) = owner_at owners y ≡ Some id
IsNumberOf owners id None = (y : ℕ) → owner_at owners y ≡ Some id → ⊥

-- no two variables stand for one term
abbrev pub AreOwnedOnce : List (Option TermId) → Type 0
AreOwnedOnce owners = (x y : ℕ) (id : TermId) → owner_at owners x ≡ Some id → owner_at owners y ≡ Some id → x ≡ y

-- each term that a variable stands for is one of the table
abbrev pub AreOwnersIn : TableView → List (Option TermId) → Type 0
AreOwnersIn t owners = (y : ℕ) (id : TermId) → owner_at owners y ≡ Some id → IsIn t id

-- values of variables are those of the terms that they stand for
abbrev pub AreOwned : {V : Type 0} → TableView → List (Option TermId) → (Term → V) → (ℕ → V) → Type 0
AreOwned t owners n v = (y : ℕ) (id : TermId) → owner_at owners y ≡ Some id → v y ≡ n (term_at t id)

-- Each variable that means a term by its number, for all such variables.
pub record IsInverse (numbers : ℕ → Option ℕ) (owners : List (Option TermId)) : Type 0 where
  -- what is given means the term
  pub tells : (q y : ℕ) → numbers q ≡ Some y → owner_at owners y ≡ Some (record { 0 = q })
  -- all are given
  pub tells_all : (y : ℕ) (id : TermId) → owner_at owners y ≡ Some id → numbers id.0 ≡ Some y

-- For each variable the term that it stands for, and how many more variables there can be without memory.
pub record OwnersView : Type 0 where
  -- the terms
  pub list : List (Option TermId)
  -- how many more
  pub room : ℕ
