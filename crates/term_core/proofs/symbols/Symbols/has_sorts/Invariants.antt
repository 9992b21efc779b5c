-- The sorts up to here are there.
use Rattle.std.proofs.Common.{ℕ, ◌<◌, get_or}
use Rattle.term_core.specs.declared.sorts.Sort.{Sort}
use Rattle.term_core.specs.Symbols.{HasSortIn}
use Rattle.term_core.proofs.symbols.Symbols.has_sorts.Given as goal

abbrev pub invariant-sorts : goal.invariant-sorts
invariant-sorts l = record { so_far : (k : ℕ) (d : Sort) → k < l.sort-index → HasSortIn l.self.sorts (get_or l.sorts k d) }
