use Rattle.std.proofs.Common.{◌≡◌, ◌==◌, false, ap, ◌∙◌}
use Rattle.std.proofs.lemmas.Bool.Decides.{nat_tests}
use Rattle.std.proofs.Common.{arith}
use Rattle.spec_tableaux.specs.Rows.{coefficient_of}
use Rattle.spec_tableaux.specs.Numbers.{numbers}
use Rattle.tableau.specs.Numbers.{number_of}
use Rattle.tableau.specs.Entries.{entries_of, rows_of}
use Rattle.tableau.specs.Pivots.{pivot_meant, OverflowsRow, OverflowsOther}
use Rattle.tableau.proofs.Telling.{passed_on}
use Rattle.tableau.proofs.Changing.{tidy_there, over_there, other_overflows}
use Rattle.tableau.proofs.pivots.add_change.Goals as goal

pub substituted-requires-clause-tidy : goal.substituted-requires-clause-tidy
substituted-requires-clause-tidy c = tidy_there c.args.rows.now c.args.number c.index-rows-number.result (entries_of c.deref-2.result.now) c.requires.low c.index-rows-number.is (ap entries_of c.deref-2.ensures.value) c.requires.ready.tidy

pub substituted-requires-clause-new : goal.substituted-requires-clause-new
substituted-requires-clause-new c = over_there c.args.rows.now c.args.number c.index-rows-number.result (entries_of c.deref-2.result.now) c.requires.low c.index-rows-number.is (ap entries_of c.deref-2.ensures.value)
    (λ y. (y == c.args.pivot.now.leaving) ≡ false) c.requires.ready.new

pub returns-in_err-entries-clause-wide : goal.returns-in_err-entries-clause-wide
returns-in_err-entries-clause-wide c =
    let other : (c.index-rows-number.result.basic == c.args.pivot.now.leaving) ≡ false = let h = c.if-row-pivot.false in grind (arith, nat_tests) in
    passed_on (OverflowsRow (pivot_meant c.args.pivot.now) (number_of c.coefficient-c.result) (entries_of c.deref-2.result.now)) (OverflowsOther (pivot_meant c.args.pivot.now) (rows_of c.args.rows.now))
    c.from_residual.result c.in_err-entries.field-0.0
    (other_overflows c.args.rows.now c.args.number c.index-rows-number.result (entries_of c.deref-2.result.now) c.requires.low c.index-rows-number.is (ap entries_of c.deref-2.ensures.value)
    (pivot_meant c.args.pivot.now) (number_of c.coefficient-c.result) other
    (c.coefficient-c.ensures ∙ ap (λ es. coefficient_of numbers c.args.pivot.now.entering (entries_of es)) c.deref.ensures.value))
    c.from_residual.ensures.1 c.in_err-entries.ensures.wide
