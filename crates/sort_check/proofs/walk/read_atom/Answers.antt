-- An atom is read.
use Rattle.std.proofs.Common.{◌∷◌, [], ◌++◌, sym, ap, ◌∙◌, arith}
use Rattle.spec_reading.specs.Reading.{atom_term}
use Rattle.smt_sexpr.specs.Items.{trees_meant}
use Rattle.sort_check.specs.Bindings.{bound_at}
use Rattle.sort_check.specs.Walks.{here, known_after, sizes}
use Rattle.sort_check.proofs.Walking.{row_of, atom_goes, atom_fault, ends_by, stops_by, less_by}
use Rattle.sort_check.proofs.walk.read_atom.Goals as goal

pub returns-in-Ok-clause-goes : goal.returns-in-Ok-clause-goes
returns-in-Ok-clause-goes c =
    let t = c.args.table.now in
    let u = c.atom.new.table in
    let v = c.args.scope.now in
    let h = here t v c.args.walk.now in
    let after = trees_meant c.args.after in
    let id = c.in-Ok.id in
    λ w root k.
    let a = c.in-Ok.ensures (known_after (row_of w root h k)) k.represents in
    ends_by w root (here u v c.add_value.new.walk) (record h { table = u; values = h.values ++ id ∷ []; rest = after }) c.add_value.result (c.add_value.ensures.added u v) c.add_value.ensures.memory
    (atom_goes w root h k u c.args.called.at c.args.kind c.args.called.name.now after id c.requires.next a.keeps a.ends.0 (ap (λ b. atom_term (known_after (row_of w root h k)) b c.args.called.at c.args.kind c.args.called.name.now) (sym k.bound) ∙ a.ends.1))

pub returns-in-Ok-clause-less : goal.returns-in-Ok-clause-less
returns-in-Ok-clause-less c =
    let t = c.args.table.now in
    let u = c.atom.new.table in
    let v = c.args.scope.now in
    let h = here t v c.args.walk.now in
    let after = trees_meant c.args.after in
    let id = c.in-Ok.id in
    less_by (here u v c.add_value.new.walk) (record h { table = u; values = h.values ++ id ∷ []; rest = after }) c.add_value.result _ (c.add_value.ensures.added u v) (omega (arith, ap sizes c.requires.next))

pub returns-in-Err-clause-goes : goal.returns-in-Err-clause-goes
returns-in-Err-clause-goes c =
    let t = c.args.table.now in
    let v = c.args.scope.now in
    let h = here t v c.args.walk.now in
    λ w root k.
    let a = c.in-Err.ensures (known_after (row_of w root h k)) k.represents in
    stops_by w root c.atom.new.table (atom_term (known_after (row_of w root h k)) (bound_at t c.args.walk.now.bound) c.args.called.at c.args.kind c.args.called.name.now) c.in-Err.stop a.ends
    (λ e wrong. atom_fault w root h k c.args.called.at c.args.kind c.args.called.name.now (trees_meant c.args.after) e c.requires.next (ap (λ b. atom_term (known_after (row_of w root h k)) b c.args.called.at c.args.kind c.args.called.name.now) (sym k.bound) ∙ wrong))
