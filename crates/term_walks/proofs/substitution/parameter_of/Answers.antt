-- There is an argument for the parameter.
use Rattle.term_core.specs.Tables.{term_at}
use Rattle.term_walks.proofs.Filled.{is_parameter, filled_parameter}
use Rattle.term_walks.proofs.substitution.parameter_of.Goals as goal

pub returns-in-Parameter-clause-inside : goal.returns-in-Parameter-clause-inside
returns-in-Parameter-clause-inside c =
    let t = c.args.table.now in
    filled_parameter t c.args.arguments.now (term_at t c.args.id) c.in-Parameter.number (is_parameter t (term_at t c.args.id) c.node.result.now c.in-Parameter.number _ c.node.ensures.means c.in-Parameter.is) c.requires.fills
