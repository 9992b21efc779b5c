-- Marks of a table's terms, and the assumes of what is printed.
use Rattle.std.specs.Prelude.{◌≡◌, ℕ, ◌<◌, Bool, true, false, List, length, Option, Some, None, get_or}
use Rattle.std.specs.Prelude.{slice_index_or}
use Rattle.spec_sorts.specs.Terms.{Term, no_term}
use Rattle.term_core.specs.Tables.{TableView}
use Rattle.proof_log.specs.Logs.{Logged}
use Rattle.proof_log.specs.Logs as logged

-- The marks say of each term of a table whether it passes a test.
pub record SaysWhether (t : TableView) (test : Term → Bool) (marks : List Bool) : Type 0 where
  -- there is one for each term
  pub as_many : length marks ≡ length t.terms
  -- which says so
  pub each : (k : ℕ) → k < length t.terms → get_or marks k false ≡ test (slice_index_or t.terms k no_term)

-- whether a clause of a log with a number or none is printed as an assume
abbrev pub is_printed_assume : Option ℕ → Logged → Bool
is_printed_assume (Some n) (logged.assumed id) = true
is_printed_assume (Some n) (logged.stepped r ps qs c) = false
is_printed_assume None l = false
