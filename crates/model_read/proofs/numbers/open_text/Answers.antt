-- That an atom or a list is opened so.
use Rattle.std.proofs.Common.{sym, ap, ◌∙◌, ℕ}
use Rattle.spec_text.specs.Trees.{list}
use Rattle.smt_sexpr.specs.Items.{trees_meant, tree_meant, size_of}
use Rattle.model_read.proofs.NumberTexts.{number_atom, opens_wider}
use Rattle.model_read.proofs.numbers.open_text.Goals as goal

pub returns-in-Ok : goal.returns-in-Ok
returns-in-Ok c =
    let r = c.in-Ok.ensures in
    record {
      value = r.value;
      is = sym (number_atom (tree_meant c.args.text) c.from.result c.in-Atom.at c.in-Atom.kind c.in-Atom.digits.now c.from.ensures c.in-Atom.ensures.seen) ∙ r.is;
      means = r.means;
    }

pub returns-in-Err : goal.returns-in-Err
returns-in-Err c = sym (number_atom (tree_meant c.args.text) c.from.result c.in-Atom.at c.in-Atom.kind c.in-Atom.digits.now c.from.ensures c.in-Atom.ensures.seen) ∙ c.in-Err.ensures

pub returns-in-List : goal.returns-in-List
returns-in-List c =
    opens_wider _ (tree_meant c.args.text) (size_of c.in-List.inside) (size_of c.args.text) c.open_list.result (c.open_list.ensures c.in-List.field-2)
    (ap (λ (n : ℕ). list n (trees_meant c.in-List.inside) c.in-List.field-2) c.from-in-List.ensures ∙ c.in-List.ensures.seen) c.in-List.ensures.less
