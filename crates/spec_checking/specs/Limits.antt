-- When a good proof is within the limits: those on bytes, and on terms and names.
use Rattle.std.specs.Prelude.{◌≡◌, ℕ, ◌^◌, ◌≤◌, false, List, length, Some}
use Rattle.spec_text.specs.Readings.{is_long}
use Rattle.spec_commands.specs.Checks.{term_limit}
use Rattle.spec_checking.specs.Commands.{known_at}
use Rattle.spec_checking.specs.Good.{AreGood, IsGood}

-- a good proof is within the limits
pub record IsWithinLimits (script : List ℕ) (k : ℕ) (proof : List ℕ) (g : IsGood term_limit script k proof) : Type
    0 where
  -- it is no longer than it may be
  pub short : is_long proof ≡ false
  -- the terms of each command, and the names, are no more than they may be
  pub few : AreGood (Some term_limit) (known_at g.check) g.commands

-- so long a script and a proof are at most that have room for no more names and terms than these limits allow
abbrev pub roomy_length : ℕ
roomy_length = 2 ^ 26

-- a script and a proof leave room for the names and terms of both
abbrev pub LeaveRoom : (script proof : List ℕ) → Type 0
LeaveRoom script proof = (length script ≤ roomy_length) × (length proof ≤ roomy_length)
