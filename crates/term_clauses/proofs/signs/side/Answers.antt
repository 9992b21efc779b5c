-- The argument of a place is a formula.
use Rattle.std.proofs.Common.{sym, subst}
use Rattle.spec_sorts.specs.Terms.{no_term}
use Rattle.spec_sorts.specs.WellSorted.{IsFormulaOver}
use Rattle.term_clauses.proofs.signs.side.Goals as goal

pub signed-requires : goal.signed-requires
signed-requires c =
    let t = c.args.table.now in
    (c.argument-term.ensures.there, subst (IsFormulaOver t.symbols) (sym c.argument-term.ensures.means) (c.requires.arguments c.args.side.place no_term c.requires.place))
