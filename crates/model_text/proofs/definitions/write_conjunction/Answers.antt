-- `and` before the equalities.
use Rattle.std.proofs.Common.{◌<◌, length, arith}
use Rattle.std.proofs.lemmas.List.{length-map}
use Rattle.world_io.proofs.Chains.{next, fails, last}
use Rattle.term_walks.specs.Valuations.{value_meant, values_meant}
use Rattle.model_text.proofs.Texts.{conjunction_start}
use Rattle.model_text.proofs.definitions.write_conjunction.Goals as goal

pub returns-in_err-write_all : goal.returns-in_err-write_all
returns-in_err-write_all g c =
    let sorts = c.args.symbols.now.sorts in
    let several : 1 < length (values_meant sorts c.args.arguments.now) = omega (arith, c.requires.several, length-map c.args.arguments.now (value_meant sorts)) in
    fails _ (conjunction_start (values_meant sorts c.args.arguments.now) _ several) c.in_err-write_all.ensures c.from_residual.ensures.0

pub returns-in_err-write_equalities : goal.returns-in_err-write_equalities
returns-in_err-write_equalities g c =
    let sorts = c.args.symbols.now.sorts in
    let several : 1 < length (values_meant sorts c.args.arguments.now) = omega (arith, c.requires.several, length-map c.args.arguments.now (value_meant sorts)) in
    fails _ (next (conjunction_start (values_meant sorts c.args.arguments.now) _ several) c.in_ok-write_all.ensures) c.in_err-write_equalities.ensures c.from_residual-in_err-write_equalities.ensures.0

pub returns : goal.returns
returns g c =
    let sorts = c.args.symbols.now.sorts in
    let several : 1 < length (values_meant sorts c.args.arguments.now) = omega (arith, c.requires.several, length-map c.args.arguments.now (value_meant sorts)) in
    last _ _ (next (next (conjunction_start (values_meant sorts c.args.arguments.now) _ several) c.in_ok-write_all.ensures) c.in_ok-write_equalities.ensures) c.write_all-2.ensures
