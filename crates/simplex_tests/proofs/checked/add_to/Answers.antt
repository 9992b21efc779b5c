use Rattle.std.proofs.Common.{◌<◌, subst}
use Rattle.spec_tableaux.specs.SolvedForms.{AllVariables}
use Rattle.tableau.specs.Entries.{entries_of}
use Rattle.simplex_tests.proofs.checked.add_to.Goals as goal

pub add_row-requires : goal.add_row-requires
add_row-requires c =
    subst (λ t. AllVariables (λ y. y < t.variables) (entries_of c.args.entries.now)) c.tableau.ensures
    (subst (λ n. AllVariables (λ y. y < n) (entries_of c.args.entries.now)) c.variables_len.ensures
    (c.are_below.ensures c.if-are_below.true))
