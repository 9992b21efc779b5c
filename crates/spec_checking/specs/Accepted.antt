-- Accepted proofs, which are good ones within the limits, and the verdict on a script and a proof.
use Rattle.std.specs.Prelude.{◌≡◌, ℕ, false, ◌⊎◌, List, length, Option, Some}
use Rattle.spec_text.specs.Trees.{Trees}
use Rattle.spec_text.specs.Readings.{is_long}
use Rattle.spec_commands.specs.Checks.{Check, term_limit, IsCurrent, HasNoCheck}
use Rattle.spec_proofs.specs.declared.ProofKind.TheVariants.{NoSuchCheck}
use Rattle.spec_proofs.specs.Faults.{Fault, fault_at}
use Rattle.spec_checking.specs.Commands.{known_at}
use Rattle.spec_proofs.specs.Texts.{Ending, complete, IsProofText, ending_fault}
use Rattle.spec_checking.specs.Judging.{FirstFault}
use Rattle.spec_checking.specs.Good.{AreGood}

-- a proof of the k-th check of a script, within the limits: its whole text is commands, each right after those before
-- it,
-- and one clause is empty
pub record IsAccepted (script : List ℕ) (k : ℕ) (proof : List ℕ) : Type 0 where
  -- the check
  pub check : Check
  -- it is that of the script
  pub current : IsCurrent term_limit script k check
  -- the proof is no longer than it may be
  pub short : is_long proof ≡ false
  -- the commands of the proof
  pub commands : Trees
  -- they are those of the text, and nothing else is there
  pub read : IsProofText proof commands complete
  -- they are good, within the limit on terms
  pub good : AreGood (Some term_limit) (known_at check) commands

-- a proof is judged at a check: its commands, their ending, and the first fault or none
pub record IsJudged (c : Check) (proof : List ℕ) (found : Option Fault) : Type 0 where
  -- the commands of the proof
  pub commands : Trees
  -- what comes after them
  pub ending : Ending
  -- they are those of the text
  pub read : IsProofText proof commands ending
  -- the first fault of the commands and their ending
  pub fault : FirstFault (Some term_limit) (known_at c) (length proof) (ending_fault (is_long proof) ending) commands
      found

-- that the script has no such check: at the start
abbrev pub no_such_check : Fault
no_such_check = fault_at 0 NoSuchCheck

-- the first fault of a proof of the k-th check of a script, or none; that there is no such check comes before all
-- others
abbrev pub IsVerdict : List ℕ → ℕ → List ℕ → Option Fault → Type 0
IsVerdict script k proof found =
    ((c : Check) × IsCurrent term_limit script k c × IsJudged c proof found)
    ⊎ (HasNoCheck term_limit script k × (found ≡ Some no_such_check))
