-- Zeros first, then marks.
use Rattle.std.proofs.Common.{◌≡◌, ◌<◌, ◌≤◌, ℕ, List, length, get_or, take}
use Rattle.proof_log.specs.declared.premises.StepId.{StepId}
use Rattle.proof_log.proofs.Marks.{IsMarking}
use Rattle.proof_log.proofs.keeping.mark_names.Given as goal

-- From one number up to another there are zeros.
pub record IsCleared (now : List ℕ) (size from k : ℕ) : Type 0 where
  pub same : length now ≡ size
  pub zero : (n : ℕ) → from ≤ n → n < k → get_or now n 0 ≡ 0

abbrev pub invariant-clear : goal.invariant-clear
invariant-clear l = IsCleared l.marks.items (length l.fn.marks.items) l.from l.k

-- All were zeros, and some are marked.
pub record AreNamed (begun now : List ℕ) (size from : ℕ) (names : List StepId) : Type 0 where
  pub cleared : IsCleared begun size from size
  pub marking : IsMarking begun now from names

abbrev pub invariant-names : goal.invariant-names
invariant-names l = AreNamed l.initial.marks.items l.marks.items (length l.fn.marks.items) l.from (take l.s-index l.names)
