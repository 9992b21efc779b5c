-- The form of a value, by what its text is.
use Rattle.std.proofs.Common.{ℕ, refl, sym, ap, ◌∙◌}
use Rattle.spec_model_files.specs.Values.{written_number}
use Rattle.smt_sexpr.specs.Items.{trees_meant, tree_meant}
use Rattle.model_read.specs.Shapes.{triple_view}
use Rattle.model_read.specs.Values.{reserved_read}
use Rattle.model_read.proofs.WrittenValues.{atom_in, list_reserved, list_number, list_stops}
use Rattle.model_read.proofs.values.written.Goals as goal

pub returns-in-Ok : goal.returns-in-Ok
returns-in-Ok c =
    let r = c.in-Ok.ensures in
    record { value = r.value; is = sym (atom_in (tree_meant c.args.text) c.from.result c.in-Atom.at c.in-Atom.kind c.in-Atom.bytes.now c.from.ensures c.in-Atom.ensures.seen) ∙ r.is; means = r.means }

pub returns-in-Err : goal.returns-in-Err
returns-in-Err c = sym (atom_in (tree_meant c.args.text) c.from.result c.in-Atom.at c.in-Atom.kind c.in-Atom.bytes.now c.from.ensures c.in-Atom.ensures.seen) ∙ c.in-Err.ensures

pub returns-in-Ok-reserved : goal.returns-in-Ok-reserved
returns-in-Ok-reserved c =
    let r = c.in-Ok-reserved.ensures in
    record {
      value = r.value;
      is = list_reserved (tree_meant c.args.text) c.in-List.at c.in-List.field-2 (trees_meant c.in-List.inside) c.in-List.ensures.seen (triple_view c.in-Some.parts) c.in-Some.ensures
          ∙ ap (λ (n : ℕ). reserved_read n (triple_view c.in-Some.parts)) (sym c.from-in-Some.ensures) ∙ r.is;
      means = r.means;
    }

pub returns-in-Err-reserved : goal.returns-in-Err-reserved
returns-in-Err-reserved c =
    list_reserved (tree_meant c.args.text) c.in-List.at c.in-List.field-2 (trees_meant c.in-List.inside) c.in-List.ensures.seen (triple_view c.in-Some.parts) c.in-Some.ensures
    ∙ ap (λ (n : ℕ). reserved_read n (triple_view c.in-Some.parts)) (sym c.from-in-Some.ensures) ∙ c.in-Err-reserved.ensures

pub returns-in-Ok-number : goal.returns-in-Ok-number
returns-in-Ok-number c =
    let r = c.in-Ok-number.ensures in
    record {
      value = written_number r.value;
      is = list_number (tree_meant c.args.text) c.in-List.at c.in-List.field-2 (trees_meant c.in-List.inside) c.in-List.ensures.seen r.value c.in-None.ensures r.is;
      means = record { number = r.value; is = refl; means = r.means };
    }

pub returns-in-Err-number : goal.returns-in-Err-number
returns-in-Err-number c = list_stops (tree_meant c.args.text) c.in-List.at c.in-List.field-2 (trees_meant c.in-List.inside) c.in-List.ensures.seen c.in-Err-number.error c.in-None.ensures c.in-Err-number.ensures
