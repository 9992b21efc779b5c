-- One edge more.
use Rattle.proof_log.specs.Theories.{derived}
use Rattle.std.proofs.Common.{◌∷◌, [], sym, append-nil}
use Rattle.std.proofs.lemmas.List.Elements.{All-nil}
use Rattle.congruence_explain.specs.Claims.{denied}
use Rattle.congruence_explain.specs.Steps.{setting, notes, steps_since, IsDenial}
use Rattle.congruence_explain.proofs.Going.{edge_with, goes_on, denial_of, by_arguments, held_decided, held_positive}
use Rattle.congruence_explain.proofs.edges.turn.Goals as goal

pub tell_arguments-requires : goal.tell_arguments-requires
tell_arguments-requires g c =
    let label = by_arguments g.start.table c.args.truths c.args.forest.now.now g.start.facts c.requires.1.0 c.args.k c.requires.1.1 c.edge-edge.result c.edge-edge.ensures c.in-Arguments.field-0 c.in-Arguments.field-1 c.in-Arguments.is in
    (c.requires.0, (c.requires.1.0, (c.requires.1.1, label)))

pub tell_held-requires : goal.tell_held-requires
tell_held-requires g c =
    let decided = held_decided g.start.table c.args.truths c.args.forest.now.now g.start.facts c.requires.1.0 c.args.k c.requires.1.1 c.edge-edge.result c.edge-edge.ensures c.in-Held.l c.in-Held.is in
    let positive = held_positive g.start.table c.args.truths c.args.forest.now.now g.start.facts c.requires.1.0 c.args.k c.requires.1.1 c.edge-edge.result c.edge-edge.ensures c.in-Held.l c.in-Held.is in
    (c.requires.0, (decided, (c.in-Held.is, positive)))

pub returns-in_ok-tell_arguments-in-Arguments-clause-on : goal.returns-in_ok-tell_arguments-in-Arguments-clause-on
returns-in_ok-tell_arguments-in-Arguments-clause-on g c =
    let t = g.start.table in
    let s = setting t c.args.truths c.args.forest.now.now in
    let k = c.args.k in
    let old = derived c.args.table.now c.args.log.now in
    let new = derived c.tell_arguments.new.table c.tell_arguments.new.log in
    let stated = c.args.stated.now.items in
    goes_on s k (notes g.start old c.args.needed.now.keys stated) (notes g.start new c.tell_arguments.new.needed.keys stated) [] (sym (append-nil stated)) (All-nil (IsDenial s))
    (edge_with s k c.args.needed.now.keys c.tell_arguments.new.needed.keys (steps_since g.start old) (steps_since g.start new) stated c.in_ok-tell_arguments-in-Arguments.ensures.told)

pub returns-in_ok-tell_held-in-Held-clause-on : goal.returns-in_ok-tell_held-in-Held-clause-on
returns-in_ok-tell_held-in-Held-clause-on g c =
    let t = g.start.table in
    let s = setting t c.args.truths c.args.forest.now.now in
    let k = c.args.k in
    let l = c.in-Held.l in
    let old = derived c.args.table.now c.args.log.now in
    let new = derived c.tell_held.new.table c.tell_held.new.log in
    let stated = c.args.stated.now.items in
    goes_on s k (notes g.start old c.args.needed.now.keys stated) (notes g.start new c.args.needed.now.keys c.tell_held.new.stated.items) (denied l ∷ []) c.in_ok-tell_held-in-Held.ensures.stated
    (denial_of s k c.edge-edge.result l c.requires.1.1 c.edge-edge.ensures c.in-Held.is)
    (c.in_ok-tell_held-in-Held.ensures.told c.args.forest.now.now.edges k c.args.needed.now.keys (sym c.edge-edge.ensures))
