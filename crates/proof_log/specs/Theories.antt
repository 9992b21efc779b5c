-- What a theory holds and watches, and what its calls come to.
use Rattle.std.specs.Prelude.{◌≡◌, ℕ, zero, suc, ◌-◌, List, [], ◌∷◌, ◌++◌, length, take, map, get_or, All, Result, Ok}
use Rattle.std.specs.Prelude.{Err}
use Rattle.spec_sorts.specs.Terms.{Term}
use Rattle.spec_sorts.specs.Literals.{Literal, literal_of}
use Rattle.spec_sorts.specs.WellSorted.{IsWellSorted}
use Rattle.spec_sorts.specs.Subsets.{IsClosed}
use Rattle.spec_derivations.specs.Lemmas.{IsLemma}
use Rattle.term_core.specs.declared.ids.TermId.{TermId}
use Rattle.term_core.specs.declared.ids.Lit.{Lit}
use Rattle.term_core.specs.Tables.{TableView, term_at, IsIn, clause_at, literal_at, positive_literal, declared_in}
use Rattle.term_core.specs.Tables.{Extends}
use Rattle.sat_budget.specs.declared.limits.Stop.{Stop}
use Rattle.sat_budget.specs.declared.limits.Stop.TheVariants.{Strained}
use Rattle.sat_budget.specs.declared.limits.Stop.TheVariants as stops
use Rattle.proof_log.specs.declared.theory.Verdict.{Verdict}
use Rattle.proof_log.specs.declared.theory.Verdict.TheVariants.{Fine, Clash}
use Rattle.proof_log.specs.Logs.{Logged, inference_of, derivation_in, IsFormulaIn, IsLogOf}
use Rattle.proof_log.specs.Clashes.{IsClash}

-- How many literals and terms a theory had at a mark.
pub record Mark : Type 0 where
  -- the literals that it held
  pub held : ℕ
  -- the terms that it watched
  pub watched : ℕ

-- What a theory means: the literals that it holds and the terms that it watches, oldest first, and what these were at
-- each mark, oldest mark first.
pub record TheoryView : Type 0 where
  -- the literals
  pub held : List Lit
  -- the terms
  pub watched : List TermId
  -- how many of both there were
  pub marks : List Mark

-- what no mark has
abbrev pub no_mark : Mark
no_mark = record { held = 0; watched = 0 }

-- a mark of what is there now
abbrev pub mark_now : TheoryView → Mark
mark_now v = record { held = length v.held; watched = length v.watched }

-- a literal more is held
abbrev pub with_held : TheoryView → Lit → TheoryView
with_held v l = record { held = v.held ++ l ∷ []; watched = v.watched; marks = v.marks }

-- a term more is watched
abbrev pub with_watched : TheoryView → TermId → TheoryView
with_watched v id = record { held = v.held; watched = v.watched ++ id ∷ []; marks = v.marks }

-- there is a mark more
abbrev pub with_mark : TheoryView → TheoryView
with_mark v = record { held = v.held; watched = v.watched; marks = v.marks ++ mark_now v ∷ [] }

-- what there was at a mark, without it and those after it
abbrev pub at_mark : TheoryView → ℕ → TheoryView
at_mark v k =
    let m = get_or v.marks k no_mark in
    record { held = take m.held v.held; watched = take m.watched v.watched; marks = take k v.marks }

-- after going back so many marks
abbrev pub gone_back : ℕ → TheoryView → TheoryView
gone_back zero v = v
gone_back (suc n) v = at_mark v (length v.marks - suc n)

-- the number is that of a term over the table's symbols
abbrev pub IsTermIn : TableView → TermId → Type 0
IsTermIn t id = IsIn t id × IsWellSorted t.symbols [] (term_at t id)

-- the number is that of a formula that is no negation
abbrev pub IsAtomIn : TableView → TermId → Type 0
IsAtomIn t id = IsFormulaIn t id × (literal_of (term_at t id) ≡ positive_literal (term_at t id))

-- the watched terms
abbrev pub terms_watched : TableView → TheoryView → List Term
terms_watched t v = clause_at t v.watched

-- the held literals
abbrev pub literals_held : TableView → TheoryView → List Literal
literals_held t v = map (literal_at t) v.held

-- What a theory watches are terms over the table's symbols, with each its arguments, and what it holds are literals of
-- atoms.
pub record IsTheoryOver (t : TableView) (v : TheoryView) : Type 0 where
  -- the watched terms
  pub terms : All (IsTermIn t) v.watched
  -- the arguments of a watched term are watched
  pub closed : IsClosed (terms_watched t v)
  -- the terms of the held literals
  pub atoms : All (λ (l : Lit). IsAtomIn t l.term) v.held

-- A table with a log of its formulas.
pub record Derived : Type 0 where
  -- the table
  pub table : TableView
  -- the log
  pub log : List Logged

-- a table with a log
abbrev pub derived : TableView → List Logged → Derived
derived t log = record { table = t; log = log }

-- Terms and steps came, and each step is right. They are lemmas: they depend on each other alone, and speak of terms
-- made of these.
pub record DerivesLemmas (ts : List Term) (old new : Derived) : Type 0 where
  -- the table has all that it had
  pub table : Extends old.table new.table
  -- no sort and no symbol came
  pub declared : declared_in new.table ≡ declared_in old.table
  -- the steps that came
  pub more : List Logged
  -- they are last
  pub log : new.log ≡ old.log ++ more
  -- the log is right over the table
  pub right : IsLogOf new.table new.log
  -- what came are lemmas
  pub lemmas : All (λ l. IsLemma ts (derivation_in new.table new.log) (length old.log) (inference_of new.table l)) more

-- what a check answers of what is held and watched: that nothing is wrong with the literals, with what it changes; or a
-- step whose
-- clause is false under them, and that something is; where it is stopped nothing is changed
abbrev pub Checks : Type 0 → Type 0 → TheoryView → Derived → Result Verdict Stop → Derived → Type 0
Checks agrees refuses v old (Ok Fine) new = agrees × DerivesLemmas (terms_watched old.table v) old new
Checks agrees refuses v old (Ok (Clash step)) new = refuses × DerivesLemmas (terms_watched old.table v) old new
    × IsClash new.table new.log v.held step
Checks agrees refuses v old (Err stop) new = new ≡ old

-- what a call of a theory came to: by what it gives, and where an overflow stopped it; where memory runs out nothing is
-- stated
abbrev pub CameTo : {A : Type 0} → Result A Stop → (came : A → Type 0) → (overflowed : Type 0) → Type 0
CameTo (Ok x) came overflowed = came x
CameTo (Err (Strained s)) came overflowed = overflowed
CameTo (Err stops.Memory) came overflowed = Unit {0}

-- how many runs are paid for after a check: one more where it found something wrong
abbrev pub paid_after : Verdict → ℕ → ℕ
paid_after Fine n = n
paid_after (Clash step) n = suc n
