-- The tables of a text, by its definitions.
use Rattle.std.proofs.Common.{[], sym, arith}
use Rattle.model_read.specs.Readings.{HasDefinitions}
use Rattle.model_read.proofs.ReadDefinitions.{up_to_start, rest_tables, text_tables}
use Rattle.model_read.proofs.reading.read_tables.Goals as goal

pub read_rest-requires-clause-tables : goal.read_rest-requires-clause-tables
read_rest-requires-clause-tables c = (c.in_ok-made.ensures c.requires.known.0 c.requires.known.1).count

pub read_rest-requires-clause-marks : goal.read_rest-requires-clause-marks
read_rest-requires-clause-marks c = (c.in_ok-made.ensures c.requires.known.0 c.requires.known.1).marked

pub returns-in-Ok-read_rest : goal.returns-in-Ok-read_rest
returns-in-Ok-read_rest c g m =
    let start : HasDefinitions c.args.table.now g c.args.bytes.now c.in-Ok.begun c.in_ok-made.made =
    record { definitions = []; read = up_to_start g c.args.bytes.now c.in-Ok.begun c.in-Ok.ensures; made = c.in_ok-made.ensures g m } in
    let r = c.in-Ok-read_rest.ensures g c.args.bytes.now m start in
    record {
      definitions = r.definitions;
      reading = r.reading;
      tables = record { count = omega (arith, r.made.count); named = r.made.named };
      represents = λ s s_in. sym (r.made.each s s_in);
    }

pub returns-in-Err-read_rest : goal.returns-in-Err-read_rest
returns-in-Err-read_rest c g m =
    let start : HasDefinitions c.args.table.now g c.args.bytes.now c.in-Ok.begun c.in_ok-made.made =
    record { definitions = []; read = up_to_start g c.args.bytes.now c.in-Ok.begun c.in-Ok.ensures; made = c.in_ok-made.ensures g m } in
    rest_tables c.args.table.now g c.args.bytes.now _ c.in-Err-read_rest.error (c.in-Err-read_rest.ensures g c.args.bytes.now m start)

pub returns-in-Err : goal.returns-in-Err
returns-in-Err c g m = text_tables c.args.table.now g c.args.bytes.now c.in-Err.error c.in-Err.ensures
