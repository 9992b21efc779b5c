-- What reading a script up to a check comes to.
use Rattle.std.specs.Prelude.{◌≡◌, ℕ, List, Option, Some, None, Result, Ok, Err}
use Rattle.no_memory.specs.declared.NoMemory.{NoMemory}
use Rattle.spec_commands.specs.Checks.{Check, term_limit, IsCurrent, HasNoCheck}
use Rattle.assertion_stack.specs.declared.assuming.Assumed.{Assumed}
use Rattle.assertion_stack.specs.Assertions.{offsets_of}
use Rattle.assertion_stack.specs.Stacks.{OverTable, over_table, AreAssumed, IsStack}
use Rattle.script_standing.specs.declared.load.Script.{Script}

-- A stack of the code has what is current at the k-th check of a text, and this is what the check assumes.
pub record IsLoaded (text : List ℕ) (k : ℕ) (x : OverTable) (a : Assumed) : Type 0 where
  -- what is current there
  pub check : Check
  -- it is that of the text
  pub current : IsCurrent term_limit text k check
  -- the code's stack represents its stack
  pub represents : IsStack term_limit x check.stack
  -- the numbers are those of its assumptions
  pub assumed : AreAssumed x.table a.ids.items check.assumptions
  -- each begins where it is in the text
  pub starts : a.offsets.items ≡ offsets_of check.assumptions

-- whether there is a k-th check, at which a stack of the code has what is current; of memory that ran out nothing is
-- stated
abbrev pub Reaches : List ℕ → ℕ → Result (Option Assumed) NoMemory → OverTable → Type 0
Reaches text k (Ok (Some a)) x = IsLoaded text k x a
Reaches text k (Ok None) x = HasNoCheck term_limit text k
Reaches text k (Err e) x = Unit {0}

-- what is current at the k-th check; or there is no such check
abbrev pub Loads : List ℕ → ℕ → Result (Option Script) NoMemory → Type 0
Loads text k (Ok (Some x)) = IsLoaded text k (over_table x.table x.stack) x.assumed
Loads text k (Ok None) = HasNoCheck term_limit text k
Loads text k (Err e) = Unit {0}

-- it is what some check asks about
abbrev pub HasCheck : Script → Type 0
HasCheck x = (limit : ℕ) × (c : Check) × IsStack limit (over_table x.table x.stack) c.stack
    × AreAssumed x.table x.assumed.ids.items c.assumptions
