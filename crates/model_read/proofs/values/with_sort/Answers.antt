-- An element with the name of its sort.
use Rattle.std.proofs.Common.{refl, sym}
use Rattle.spec_model_files.specs.Values.{written_element}
use Rattle.smt_sexpr.specs.Items.{tree_meant}
use Rattle.smt_sexpr.specs.Views.{word_view}
use Rattle.model_read.proofs.WrittenValues.{sort_named, sort_unnamed}
use Rattle.model_read.proofs.values.with_sort.Goals as goal

pub returns-in-Ok : goal.returns-in-Ok
returns-in-Ok c k h =
    let w = word_view c.in-Ok.field-0 in
    let read = sym c.in-Ok.ensures in
    record {
      value = written_element k w;
      is = sort_named k (tree_meant c.args.sort) w read;
      means = record { number = k; name = w; is = refl; index = h; named = read };
    }

pub returns-in-Err : goal.returns-in-Err
returns-in-Err c k h = sort_unnamed k (tree_meant c.args.sort) _ (sym c.in-Err.ensures)
