-- A term has the number of its place, or it is in place: a head, its arguments and the end.
use Rattle.std.proofs.Common.{Option, ℕ, sym, ap, ◌∙◌, arith}
use Rattle.spec_proof_texts.specs.Plans.{argument_by}
use Rattle.term_core.specs.Tables.{term_at, shape_of}
use Rattle.world_io.proofs.Sending.{sends_same}
use Rattle.world_io.proofs.Chains.{start_whole, next, fails, last, finished}
use Rattle.alethe_writer.specs.Printing.{spaced, in_place_for}
use Rattle.alethe_writer.proofs.TermNumbers.{number_there}
use Rattle.alethe_writer.proofs.Texts.{named_by}
use Rattle.alethe_writer.proofs.Starts.{next_argument, no_argument, in_place_start, some_ids}
use Rattle.alethe_writer.proofs.arguments.+arguments.Goals as goal

pub write_argument-returns-in-Some : goal.write_argument-returns-in-Some
write_argument-returns-in-Some g t c =
    let v = c.args.table.now in
    let u = term_at v c.args.id in
    let numbers = c.args.plan.now.terms in
    let same = number_there v numbers c.args.id c.ids_are_unique.ensures c.requires.there ∙ sym c.definition.ensures ∙ c.in-Some.is in
    sends_same _ _ c.write_number.result _ _ (ap (λ (o : Option ℕ). spaced (argument_by o (in_place_for v.terms numbers u))) (sym same) ∙ ap spaced (sym (named_by v.terms numbers u))) c.write_number.ensures

pub write_argument-returns : goal.write_argument-returns
write_argument-returns g t c =
    let v = c.args.table.now in
    let u = term_at v c.args.id in
    let numbers = c.args.plan.now.terms in
    let same = number_there v numbers c.args.id c.ids_are_unique.ensures c.requires.there ∙ sym c.definition.ensures ∙ c.in_default.is in
    sends_same _ _ c.write_in_place.result _ _ (ap (λ (o : Option ℕ). spaced (argument_by o (in_place_for v.terms numbers u))) (sym same) ∙ ap spaced (sym (named_by v.terms numbers u))) c.write_in_place.ensures

pub write_terms_below-ids-init : goal.write_terms_below-ids-init
write_terms_below-ids-init g t c = record { sending = start_whole _ _ }

pub write_terms_below-ids-preserved : goal.write_terms_below-ids-preserved
write_terms_below-ids-preserved g t c = record { sending = next (next_argument c.args.table.now c.args.plan.now c.args.ids.now c.ids.id-index c.ids-test.true c.ids.invariant.sending) c.in_ok-write_argument.ensures }

pub write_terms_below-returns-in_err-write_argument : goal.write_terms_below-returns-in_err-write_argument
write_terms_below-returns-in_err-write_argument g t c = fails _ (next_argument c.args.table.now c.args.plan.now c.args.ids.now c.ids.id-index c.ids-test.true c.ids.invariant.sending) c.in_err-write_argument.ensures c.from_residual.ensures.0

pub write_terms_below-returns : goal.write_terms_below-returns
write_terms_below-returns g t c = finished (no_argument c.args.table.now c.args.plan.now c.args.ids.now c.ids.id-index (omega (arith, c.ids-test.false)) c.ids.invariant.sending)

pub write_in_place-returns-in_err-write_head : goal.write_in_place-returns-in_err-write_head
write_in_place-returns-in_err-write_head g t c =
    let s0 = in_place_start c.args.table.now c.args.plan.now c.args.id (shape_of c.node-node.result.now) _ c.node-node.ensures.means (some_ids _ c.is_empty.result c.is_empty.ensures c.if-is_empty.false) in
    fails _ s0 c.in_err-write_head.ensures c.from_residual.ensures.0

pub write_in_place-returns-in_err-write_terms_below : goal.write_in_place-returns-in_err-write_terms_below
write_in_place-returns-in_err-write_terms_below g t c =
    let s0 = in_place_start c.args.table.now c.args.plan.now c.args.id (shape_of c.node-node.result.now) _ c.node-node.ensures.means (some_ids _ c.is_empty.result c.is_empty.ensures c.if-is_empty.false) in
    let s1 = next s0 c.in_ok-write_head.ensures in
    fails _ s1 (rw c.as_slice.ensures at c.in_err-write_terms_below.ensures) c.from_residual-in_err-write_terms_below.ensures.0

pub write_in_place-returns : goal.write_in_place-returns
write_in_place-returns g t c =
    let s0 = in_place_start c.args.table.now c.args.plan.now c.args.id (shape_of c.node-node.result.now) _ c.node-node.ensures.means (some_ids _ c.is_empty.result c.is_empty.ensures c.if-is_empty.false) in
    let s1 = next s0 c.in_ok-write_head.ensures in
    let s2 = next s1 (rw c.as_slice.ensures at c.in_ok-write_terms_below.ensures) in
    last _ _ s2 c.write_all.ensures
