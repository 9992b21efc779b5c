use Rattle.std.proofs.Common.{ap, ◌∙◌}
use Rattle.spec_tableaux.specs.Rows.{negated}
use Rattle.spec_tableaux.specs.Numbers.{numbers}
use Rattle.tableau.specs.Entries.{entries_of}
use Rattle.tableau.specs.Pivots.{pivot_meant}
use Rattle.tableau.proofs.Loops.{negated_new}
use Rattle.tableau.proofs.pivots.pivot_row.Goals as goal

pub put_new-requires : goal.put_new-requires
put_new-requires c = negated_new (pivot_meant c.args.pivot.now) (entries_of c.in_ok-entries.entries.items) c.requires (c.in_ok-entries.ensures ∙ ap (λ es. negated numbers (entries_of es)) c.deref.ensures.value)
