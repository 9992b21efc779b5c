-- An atom as a truth value or a number.
use Rattle.std.proofs.Common.{refl}
use Rattle.spec_model_files.specs.Values.{written_truth, written_number}
use Rattle.model_read.proofs.WrittenValues.{atom_truth, atom_number, atom_fails}
use Rattle.model_read.proofs.values.atom_written.Goals as goal

pub returns-in-Some : goal.returns-in-Some
returns-in-Some c = record {
  value = written_truth c.in-Some.truth;
  is = atom_truth c.args.word.at c.args.word.kind c.args.word.bytes.now c.in-Some.truth c.in-Some.ensures;
  means = refl;
}

pub returns-in-Ok : goal.returns-in-Ok
returns-in-Ok c =
    let r = c.in-Ok.ensures in
    record {
      value = written_number r.value;
      is = atom_number c.args.word.at c.args.word.kind c.args.word.bytes.now r.value c.in-None.ensures r.is;
      means = record { number = r.value; is = refl; means = r.means };
    }

pub returns-in-Err : goal.returns-in-Err
returns-in-Err c = atom_fails c.args.word.at c.args.word.kind c.args.word.bytes.now _ c.in-None.ensures c.in-Err.ensures
