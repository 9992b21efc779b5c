-- One line more was written, or a prefix of it.
use Rattle.std.proofs.Common.{◌<◌, length, arith, refl}
use Rattle.world_io.proofs.Chains.{start, next, fails, finished}
use Rattle.model_text.proofs.Loops.{next_line, no_line}
use Rattle.model_text.proofs.models.write_lines.Goals as goal

pub symbols-init : goal.symbols-init
symbols-init g c = record { sending = start _ _ _ refl }

pub symbols-preserved : goal.symbols-preserved
symbols-preserved g c =
    let here : c.symbols.k < length c.args.symbols.now.symbols = omega (arith, c.symbols-test.true, c.len-k-end.ensures) in
    let there : c.symbols.k < length c.args.interp.now.tables.items = omega (arith, here, c.requires.count) in
    record { sending = next (next_line c.args.symbols.now.sorts c.args.symbols.now.symbols c.args.interp.now c.symbols.k _ c.index.result.now here there c.index.ensures c.symbols.invariant.sending) c.in_ok-write_definition.ensures }

pub returns-in_err-write_definition : goal.returns-in_err-write_definition
returns-in_err-write_definition g c =
    let here : c.symbols.k < length c.args.symbols.now.symbols = omega (arith, c.symbols-test.true, c.len-k-end.ensures) in
    let there : c.symbols.k < length c.args.interp.now.tables.items = omega (arith, here, c.requires.count) in
    fails _ (next_line c.args.symbols.now.sorts c.args.symbols.now.symbols c.args.interp.now c.symbols.k _ c.index.result.now here there c.index.ensures c.symbols.invariant.sending) c.in_err-write_definition.ensures c.from_residual.ensures.0

pub returns : goal.returns
returns g c = finished (no_line c.args.symbols.now.symbols _ c.symbols.k (omega (arith, c.symbols-test.false, c.len-k-end.ensures)) c.symbols.invariant.sending)
