-- The oldest keys are as they were.
use Rattle.std.proofs.Common.{ap, ◌∙◌, sym}
use Rattle.std.proofs.lemmas.List.{take-map}
use Rattle.term_core.specs.Tables.{shape_of, shapes_of}
use Rattle.congruence_closure.specs.Keys.{oldest}
use Rattle.congruence_closure.proofs.Keys.{keys_oldest}
use Rattle.congruence_closure.proofs.key_table.KeyTable.cut.Goals as goal

pub invariant_of-self : goal.invariant_of-self
invariant_of-self c =
    let is = ap shapes_of c.truncate.ensures.keys ∙ sym (take-map shape_of c.args.count c.self.inside.keys.keys) in
    rw (is, c.truncate-2.ensures.items) (keys_oldest (record { shapes = shapes_of c.self.inside.keys.keys; holders = c.self.inside.holders.items }) c.args.count c.self.invariant)

pub returns : goal.returns
returns c =
    let is = ap shapes_of c.truncate.ensures.keys ∙ sym (take-map shape_of c.args.count c.self.inside.keys.keys) in
    (λ i. record { shapes = is i; holders = c.truncate-2.ensures.items i }) ∙ ap (oldest c.args.count) c.self.view_is
