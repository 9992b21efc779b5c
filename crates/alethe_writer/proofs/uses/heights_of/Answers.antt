-- The height of one term more.
use Rattle.std.proofs.Common.{◌≡◌, ◌+◌, ◌<◌, false, get_or, length, sym, ap, subst, ◌∙◌, arith}
use Rattle.spec_proof_texts.specs.Plans.{how_many}
use Rattle.alethe_writer.specs.Uses.{height_in}
use Rattle.alethe_writer.proofs.Listing.{argument_before}
use Rattle.alethe_writer.proofs.Heights.{AreHeightsTo, heights_none, heights_more, heights_many, few_more, heights_end}
use Rattle.alethe_writer.proofs.uses.heights_of.Goals as goal

pub terms-init : goal.terms-init
terms-init c = record { so_far = subst (AreHeightsTo c.args.table.now c.args.single.now 0) (sym c.new-heights.ensures.items) (heights_none c.args.table.now c.args.single.now); places = ap how_many (sym c.new-heights.ensures.items); few = omega arith }

pub height_at-height-requires-clause-there : goal.height_at-height-requires-clause-there
height_at-height-requires-clause-there c = omega (arith, c.terms-test.true, c.requires)

pub height_at-height-requires-clause-before : goal.height_at-height-requires-clause-before
height_at-height-requires-clause-before c = ap length c.deref.ensures.value ∙ c.terms.invariant.so_far.as_many

pub terms-preserved : goal.terms-preserved
terms-preserved c =
    let t = c.args.table.now in
    let n = c.terms.number in
    let hs = c.terms.heights.items in
    let m = c.height_at-height.result in
    let lt : n < length t.terms = omega (arith, c.terms-test.true, c.requires) in
    let is : m ≡ height_in t hs (get_or c.args.single.now n false) (how_many hs) (record { 0 = n }) = c.height_at-height.ensures ∙ (λ i. height_in t (c.deref.ensures.value i) (get_or c.args.single.now n false) (c.terms.invariant.places i) (record { 0 = n })) in
    record {
      so_far = subst (AreHeightsTo t c.args.single.now (n + 1)) (sym c.in_ok-push.ensures.items) (heights_more t c.ids_are_unique.ensures (argument_before t c.ids_are_unique.ensures c.arguments_come_first.ensures) c.args.single.now n m hs lt is c.terms.invariant.so_far);
      places = c.with_place-places.ensures ∙ heights_many hs m c.terms.places c.terms.invariant.places ∙ ap how_many (sym c.in_ok-push.ensures.items);
      few = omega (arith, c.with_place-places.ensures, few_more c.terms.places m, c.terms.invariant.few);
    }

pub returns : goal.returns
returns c = heights_end c.args.table.now c.args.single.now c.terms.number c.terms.heights.items (omega (arith, c.terms-test.false, c.terms.auto.number-end, c.requires)) c.terms.invariant.so_far
