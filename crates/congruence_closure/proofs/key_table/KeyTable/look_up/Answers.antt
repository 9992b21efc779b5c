-- A key that was there has its holder, and a new one is the last.
use Rattle.std.proofs.Common.{◌≡◌, ◌<◌, ◌++◌, ◌∷◌, [], length, get_or, sym, ap, ◌∙◌, subst, arith}
use Rattle.std.proofs.lemmas.List.{map_push, length-map, get_or_default}
use Rattle.term_core.specs.Tables.{shape_of, shapes_of}
use Rattle.congruence_closure.specs.Keys.{Keys, with_key, IsHeld, IsAbsent}
use Rattle.congruence_closure.proofs.Keys.{keys_more, node_there, node_new}
use Rattle.congruence_closure.proofs.key_table.KeyTable.look_up.Goals as goal

pub returns-then-not-is_new-clause-ok : goal.returns-then-not-is_new-clause-ok
returns-then-not-is_new-clause-ok c =
    let n = node_there c.self.inside.keys.keys c.insert_full.new.self.keys c.args.key c.in_ok-at.at c.in_ok-at.is_new c.in_ok-at.ensures.keys c.in_ok-at.ensures.stored c.in_ok-at.ensures.added c.if-not-is_new.true in
    let size : length (shapes_of c.self.inside.keys.keys) ≡ length c.self.inside.keys.keys = length-map c.self.inside.keys.keys shape_of in
    let low : c.in_ok-at.at < length c.self.inside.holders.items = omega (arith, n.1, size, c.self.invariant.count) in
    let holder : get_or c.self.inside.holders.items c.in_ok-at.at 0 ≡ c.index.result.now
    = get_or_default c.self.inside.holders.items c.in_ok-at.at 0 c.index.result.now low ∙ ap (λ xs. get_or xs c.in_ok-at.at c.index.result.now) (sym c.in_ok-reserve.ensures.items) ∙ sym c.index.ensures in (
      subst (λ (v : Keys). IsHeld v (shape_of c.args.key) c.index.result.now) c.self.view_is (c.in_ok-at.at, omega (arith, n.1, size), n.2, holder),
      (λ i. record { shapes = shapes_of (n.0 i); holders = c.in_ok-reserve.ensures.items i }) ∙ c.self.view_is,
    )

pub invariant_of-self-2 : goal.invariant_of-self-2
invariant_of-self-2 c =
    let n = node_new c.self.inside.keys.keys c.insert_full.new.self.keys c.args.key c.in_ok-at.at c.in_ok-at.is_new c.in_ok-at.ensures.keys c.in_ok-at.ensures.stored c.in_ok-at.ensures.added c.if-not-is_new.false in
    let size : length (shapes_of c.self.inside.keys.keys) ≡ length c.self.inside.keys.keys = length-map c.self.inside.keys.keys shape_of in
    let shapes : shapes_of c.insert_full.new.self.keys ≡ shapes_of c.self.inside.keys.keys ++ shape_of c.args.key ∷ [] = ap shapes_of n.0 ∙ map_push shape_of c.self.inside.keys.keys c.args.key in
    let holders : c.push_reserved.new.self.items ≡ c.self.inside.holders.items ++ c.args.place ∷ [] = c.push_reserved.ensures.items ∙ ap (λ xs. xs ++ c.args.place ∷ []) c.in_ok-reserve.ensures.items in
    rw (shapes, holders)
    (keys_more (record { shapes = shapes_of c.self.inside.keys.keys; holders = c.self.inside.holders.items }) (shape_of c.args.key) c.args.place c.self.invariant (λ k lt is. n.1 k (omega (arith, lt, size)) is))

pub returns-clause-ok : goal.returns-clause-ok
returns-clause-ok c =
    let n = node_new c.self.inside.keys.keys c.insert_full.new.self.keys c.args.key c.in_ok-at.at c.in_ok-at.is_new c.in_ok-at.ensures.keys c.in_ok-at.ensures.stored c.in_ok-at.ensures.added c.if-not-is_new.false in
    let size : length (shapes_of c.self.inside.keys.keys) ≡ length c.self.inside.keys.keys = length-map c.self.inside.keys.keys shape_of in
    let shapes : shapes_of c.insert_full.new.self.keys ≡ shapes_of c.self.inside.keys.keys ++ shape_of c.args.key ∷ [] = ap shapes_of n.0 ∙ map_push shape_of c.self.inside.keys.keys c.args.key in
    let holders : c.push_reserved.new.self.items ≡ c.self.inside.holders.items ++ c.args.place ∷ [] = c.push_reserved.ensures.items ∙ ap (λ xs. xs ++ c.args.place ∷ []) c.in_ok-reserve.ensures.items in (
      subst (λ (v : Keys). IsAbsent v (shape_of c.args.key)) c.self.view_is (λ k lt is. n.1 k (omega (arith, lt, size)) is),
      (λ i. record { shapes = shapes i; holders = holders i }) ∙ ap (λ (v : Keys). with_key v (shape_of c.args.key) c.args.place) c.self.view_is,
    )
