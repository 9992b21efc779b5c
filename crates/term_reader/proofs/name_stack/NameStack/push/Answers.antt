-- A name more.
use Rattle.std.proofs.Common.{[], ◌∷◌, ◌++◌, length, refl, ap, ◌∙◌, arith}
use Rattle.term_reader.specs.declared.name_stack.NameEntry.{NameEntry}
use Rattle.term_reader.specs.NameStacks.{names_at}
use Rattle.term_reader.proofs.NameStacks.{in_range, stack_kept, names_kept, names_push, stack_pushed}
use Rattle.term_reader.proofs.name_stack.NameStack.push.Goals as goal

pub invariant_of-self-2 : goal.invariant_of-self-2
invariant_of-self-2 c =
    let met = c.number_of.new.met in
    let latest = c.number_of.new.latest.items in
    let places = c.self.inside.places.items in
    let number = c.in_ok-number.number in
    let p : NameEntry = record { number = number; hidden = c.index-hidden.result.now } in
    let stack = stack_kept c.self.inside.met met c.self.inside.latest.items latest places c.self.invariant c.in_ok-number.ensures.kept in
    let inside = c.in_ok-number.ensures.there.0 in
    let items = c.push_reserved.ensures.items ∙ ap (λ ps. ps ++ p ∷ []) c.in_ok-reserve.ensures.items in
    let count = c.len.ensures in
    rw items
    (stack_pushed met latest places stack number c.len.result p inside (omega (arith, c.len.ensures, c.push_reserved.ensures.len, ap length c.in_ok-reserve.ensures.items)) refl
    (c.index-hidden.ensures ∙ in_range latest number c.index-hidden.result.now 0 (omega (arith, inside, stack.long))))

pub returns-clause-added : goal.returns-clause-added
returns-clause-added c =
    let met = c.number_of.new.met in
    let latest = c.number_of.new.latest.items in
    let places = c.self.inside.places.items in
    let number = c.in_ok-number.number in
    let p : NameEntry = record { number = number; hidden = c.index-hidden.result.now } in
    ap (names_at met) (c.push_reserved.ensures.items ∙ ap (λ ps. ps ++ p ∷ []) c.in_ok-reserve.ensures.items)
    ∙ names_push met places p c.args.name.now c.in_ok-number.ensures.there.1
    ∙ ap (λ ns. ns ++ c.args.name.now ∷ []) (names_kept c.self.inside.met met c.self.inside.latest.items latest places c.self.invariant c.in_ok-number.ensures.kept ∙ c.self.view_is)
