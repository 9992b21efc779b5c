-- The values are those of the first terms, before those that are left.
use Rattle.std.proofs.Common.{drop}
use Rattle.spec_sorts.specs.Values.{Interpretation}
use Rattle.smt_sexpr.specs.Items.{trees_meant}
use Rattle.term_core.specs.Tables.{clause_at}
use Rattle.term_walks.specs.Valuations.{HasSymbolTables}
use Rattle.smt_reply.proofs.Valued.{AreFirst}
use Rattle.smt_reply.proofs.values.term_values.Given as goal

abbrev pub invariant-ids : goal.invariant-ids
invariant-ids l =
    let terms = clause_at l.table l.ids in
    record {
      first : (i : Interpretation) → HasSymbolTables l.table l.interp i → AreFirst i l.table.sorts (trees_meant l.fn.trees) terms (trees_meant l.rest) (drop l.id-index terms) l.values.items;
    }
