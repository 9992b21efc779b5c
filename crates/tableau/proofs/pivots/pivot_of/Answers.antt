use Rattle.std.proofs.Common.{ap, ◌∙◌}
use Rattle.tableau.specs.Numbers.{number_of}
use Rattle.tableau.specs.Entries.{entries_of}
use Rattle.tableau.specs.Pivots.{OverflowsPivot, OverflowsQuotients}
use Rattle.tableau.proofs.Telling.{passed_on}
use Rattle.tableau.proofs.RowOverflowing.{of_quotients}
use Rattle.tableau.proofs.pivots.pivot_of.Goals as goal

pub returns-in_err-others-clause-wide : goal.returns-in_err-others-clause-wide
returns-in_err-others-clause-wide c =
    passed_on (OverflowsQuotients (entries_of c.deref.result.now) (number_of c.coefficient-d.result)) (OverflowsPivot c.args.entering (entries_of c.args.entries.now))
    c.from_residual-in_err-others.result c.in_err-others.field-0.0
    (of_quotients c.args.entering (entries_of c.args.entries.now) (entries_of c.deref.result.now) (number_of c.coefficient-d.result) (ap entries_of c.deref.ensures.value ∙ c.in_ok-rest.ensures) c.coefficient-d.ensures)
    c.from_residual-in_err-others.ensures.1 c.in_err-others.ensures.wide
