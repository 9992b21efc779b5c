-- When the commands of a proof are good, and a proof's text, apart from any fault, within a limit or with none. Source:
-- Alethe specification, proofs as lists of commands; limits are own.
use Rattle.std.specs.Prelude.{◌≡◌, ℕ, List, [], ◌∷◌, ◌++◌, Option, None, Ok}
use Rattle.spec_text.specs.Answers.{◌>>=◌}
use Rattle.spec_text.specs.Trees.{Trees, none, more}
use Rattle.spec_commands.specs.Checks.{Check, IsCurrent}
use Rattle.spec_proofs.specs.Faults.{Read}
use Rattle.spec_checking.specs.Commands.{Known, Command, known_at}
use Rattle.spec_checking.specs.Reading.{command_of}
use Rattle.spec_proofs.specs.Texts.{IsWholeText}
use Rattle.spec_checking.specs.Judging.{with_command, IsRightAfter, HasEmptyClause}

-- the commands that trees are, each within a limit and under the names before it
unfoldable pub commands_in : Option ℕ → Known → Trees → Read (List Command)
commands_in limit k none = Ok []
commands_in limit k (more t ts) =
    command_of limit k t >>= λ c. commands_in limit (with_command k c) ts >>= λ cs. Ok (c ∷ cs)

-- what is known after commands
abbrev pub known_after : Known → List Command → Known
known_after k [] = k
known_after k (c ∷ cs) = known_after (with_command k c) cs

-- each of the commands is right after those before it
abbrev pub AreRight : Known → List Command → Type 0
AreRight k commands =
    (before : List Command) (c : Command) (after : List Command) → commands ≡ before ++ c ∷ after
    → IsRightAfter (known_after k before) c.statement

-- the trees are commands that are right, within a limit, and at the end some clause is empty
pub record AreGood (limit : Option ℕ) (k : Known) (ts : Trees) : Type 0 where
  -- the commands
  pub commands : List Command
  -- they are those of the trees
  pub read : commands_in limit k ts ≡ Ok commands
  -- each is right
  pub right : AreRight k commands
  -- one has the empty clause
  pub empty : HasEmptyClause (known_after k commands)

-- a good proof of what is current at the k-th check of a script, under the script's limit on terms; of the length and
-- the terms of the proof itself nothing is asked
pub record IsGood (limit : ℕ) (script : List ℕ) (k : ℕ) (proof : List ℕ) : Type 0 where
  -- the check
  pub check : Check
  -- it is that of the script
  pub current : IsCurrent limit script k check
  -- the commands of the proof
  pub commands : Trees
  -- its whole text is these commands, and nothing else
  pub read : IsWholeText proof commands
  -- they are good
  pub good : AreGood None (known_at check) commands
