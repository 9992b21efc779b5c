-- How often terms of a table are used, and which of them are in place.
use Rattle.std.specs.Prelude.{◌≡◌, ℕ, zero, suc, ◌+◌, ◌<◌, Bool, true, false, ◌&&◌, List, [], ◌∷◌, length, get_or}
use Rattle.std.specs.Prelude.{nat_eq, max}
use Rattle.std.specs.Prelude.{if◌then◌else◌}
use Rattle.spec_sorts.specs.Terms.{Term, no_term}
use Rattle.spec_sorts.specs.Subsets.{arguments_of}
use Rattle.spec_proof_texts.specs.Plans.{is_compound, times_in_clauses, times_in_terms, height_over, height_of}
use Rattle.spec_proof_texts.specs.Plans.{greatest_height}
use Rattle.term_core.specs.declared.ids.TermId.{TermId}
use Rattle.term_core.specs.Tables.{TableView, term_at}
use Rattle.proof_log.specs.Logs.{Logged, derivation_in}
use Rattle.alethe_writer.specs.declared.uses.Uses.{Uses}
use Rattle.alethe_writer.specs.declared.uses.Uses.TheVariants.{Never, Once, Often}

-- one use more
abbrev pub one_use_more : Uses → Uses
one_use_more Never = Once
one_use_more Once = Often
one_use_more Often = Often

-- so many uses more
abbrev pub uses_more : ℕ → Uses → Uses
uses_more zero u = u
uses_more (suc n) u = one_use_more (uses_more n u)

-- how often a number is one of those of terms
abbrev pub times_of : List TermId → ℕ → ℕ
times_of [] k = 0
times_of (id ∷ ids) k = if nat_eq id.0 k then suc (times_of ids k) else times_of ids k

-- Each number is used as often more as it is one of some.
pub record CountsUses (old : List Uses) (ids : List TermId) (new : List Uses) : Type 0 where
  -- there are as many
  pub same_length : length new ≡ length old
  -- each is counted
  pub counted : (k : ℕ) → get_or new k Never ≡ uses_more (times_of ids k) (get_or old k Never)

-- Each term of a table is used so many times more.
pub record CountsTerms (t : TableView) (times : Term → ℕ) (old new : List Uses) : Type 0 where
  -- there are as many
  pub same_length : length new ≡ length old
  -- each is counted
  pub counted : (k : ℕ) → k < length t.terms
      → get_or new k Never ≡ uses_more (times (get_or t.terms k no_term)) (get_or old k Never)

-- the uses of each term in the clauses and the terms that are printed
abbrev pub times_printed : TableView → List Logged → (support printed : List Bool) → Term → ℕ
times_printed t log support printed u =
    times_in_clauses support (derivation_in t log) u + times_in_terms printed t.terms u

-- The uses of the terms of a table in what is printed.
pub record AreUses (t : TableView) (log : List Logged) (support printed : List Bool) (uses : List Uses) : Type 0 where
  -- there is one for each term
  pub as_many : length uses ≡ length t.terms
  -- each is counted
  pub each : (k : ℕ) → k < length t.terms
      → get_or uses k Never ≡ uses_more (times_printed t log support printed (get_or t.terms k no_term)) Never

-- it is used once
abbrev pub is_once : Uses → Bool
is_once Never = false
is_once Once = true
is_once Often = false

-- The marks are of the printed terms of a table with arguments that are used once.
pub record AreUsedOnce (t : TableView) (printed : List Bool) (uses : List Uses) (single : List Bool) : Type 0 where
  -- there is one for each term
  pub as_many : length single ≡ length t.terms
  -- which are marked
  pub each : (k : ℕ) → k < length t.terms → get_or single k false
      ≡ get_or printed k false && (is_compound (get_or t.terms k no_term) && is_once (get_or uses k Never))

-- the greatest of the heights at the places of terms
abbrev pub greatest_of : List ℕ → List TermId → ℕ
greatest_of heights [] = 0
greatest_of heights (id ∷ ids) = max (get_or heights id.0 0) (greatest_of heights ids)

-- the height of a term of a table over those before it, where so many are in place
abbrev pub height_in : TableView → List ℕ → Bool → ℕ → TermId → ℕ
height_in t heights wanted places id =
    height_over wanted (greatest_height (height_of t.terms heights) (arguments_of (term_at t id))) places

-- one more is counted where a height is above 0
abbrev pub placed_more : ℕ → ℕ → ℕ
placed_more places zero = places
placed_more places (suc n) = suc places
