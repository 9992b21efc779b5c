-- Literals of clauses of the table of terms, and what a stop says of a step.
use Rattle.std.specs.Prelude.{◌≡◌, List, map, All}
use Rattle.spec_sorts.specs.Literals.{Clause, literals_of}
use Rattle.term_core.specs.declared.ids.Lit.{Lit}
use Rattle.term_core.specs.Tables.{TableView, literal_at}
use Rattle.clause_literals.specs.Literals.{AreLiteralsIn}
use Rattle.rule_bool.specs.declared.rule_stop.RuleStop.{RuleStop}
use Rattle.rule_bool.specs.declared.rule_stop.RuleStop.TheVariants.{Fails, Wide, Memory}

-- The lists of literals are those of the clauses, in their order.
pub record MeansEach (table : TableView) (literals : List (List Lit)) (clauses : List Clause) : Type 0 where
  -- they are the same in their order
  pub same : map (map (literal_at table)) literals ≡ map literals_of clauses
  -- their terms are of the table
  pub there : All (AreLiteralsIn table) literals

-- a step fails where it is not right, and this can be told; it is wide where this cannot; out of memory tells nothing
abbrev pub StopsRule : RuleStop → Type 0 → Type 0 → Type 0
StopsRule Fails IsRight IsWide = (IsRight → ⊥) × (IsWide → ⊥)
StopsRule Wide IsRight IsWide = IsWide
StopsRule Memory IsRight IsWide = Unit {0}
