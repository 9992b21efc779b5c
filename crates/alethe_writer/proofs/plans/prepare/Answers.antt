-- The plan has the numbers of what is marked.
use Rattle.std.proofs.Common.{◌≡◌, List, Bool, length, subst, ap, ◌∙◌, sym, refl, arith}
use Rattle.std.proofs.lemmas.List.{length-map}
use Rattle.spec_proof_texts.specs.Plans.{IsSupport, AreSingle, AreHeights, counted, definition_marks, counted_inferences}
use Rattle.spec_proof_texts.proofs.Numbers.{counted_length, definition_marks_length}
use Rattle.proof_log.specs.Logs.{derivation_in}
use Rattle.alethe_writer.proofs.Counted.{inferences_length}
use Rattle.alethe_writer.proofs.plans.prepare.Goals as goal

pub printed_of-requires-clause-short : goal.printed_of-requires-clause-short
printed_of-requires-clause-short c = omega (arith, ap length c.deref.ensures.value, (c.in_ok-support.ensures c.args.table.now).up_to, c.requires.there)

pub single_of-requires-clause-short : goal.single_of-requires-clause-short
single_of-requires-clause-short c = omega (arith, ap length c.deref-2.ensures.value, (c.in_ok-support.ensures c.args.table.now).up_to, c.requires.there)

pub single_of-requires-clause-as_many : goal.single_of-requires-clause-as_many
single_of-requires-clause-as_many c = ap length c.deref-3.ensures.value ∙ c.in_ok-printed.ensures.as_many

pub heights_of-requires : goal.heights_of-requires
heights_of-requires c = ap length c.deref-4.ensures.value ∙ c.in_ok-single.ensures.as_many

pub number_terms-requires-clause-as_many : goal.number_terms-requires-clause-as_many
number_terms-requires-clause-as_many c = ap length c.deref-5.ensures.value ∙ c.in_ok-printed.ensures.as_many

pub number_terms-requires-clause-as_many_heights : goal.number_terms-requires-clause-as_many_heights
number_terms-requires-clause-as_many_heights c = ap length c.deref-6.ensures.value ∙ c.in_ok-heights.ensures.as_many

pub number_steps-requires : goal.number_steps-requires
number_steps-requires c = omega (arith, ap length c.deref-7.ensures.value, (c.in_ok-support.ensures c.args.table.now).up_to, c.requires.there)

pub returns-clause-plan : goal.returns-clause-plan
returns-clause-plan c =
    let t = c.args.table.now in
    let d = derivation_in t c.args.log.now in
    record {
      support = c.in_ok-support.support.items;
      is_support = c.in_ok-support.ensures t;
      inferences = c.in_ok-number_steps.ensures t ∙ ap (λ (bs : List Bool). counted_inferences 1 1 bs d) c.deref-7.ensures.value;
      printed = c.in_ok-printed.printed.items;
      are_printed = c.in_ok-printed.ensures.printed c.args.step.0 (subst (IsSupport d c.args.step.0) (sym c.deref.ensures.value) (c.in_ok-support.ensures t));
      single = c.in_ok-single.single.items;
      are_single = subst (λ (bs : List Bool). AreSingle t.terms d bs c.in_ok-printed.printed.items c.in_ok-single.single.items) c.deref-2.ensures.value (subst (λ (bs : List Bool). AreSingle t.terms d c.deref-2.result.now bs c.in_ok-single.single.items) c.deref-3.ensures.value c.in_ok-single.ensures);
      heights = c.in_ok-heights.heights.items;
      are_heights = subst (λ (bs : List Bool). AreHeights t.terms bs c.in_ok-heights.heights.items) c.deref-4.ensures.value c.in_ok-heights.ensures;
      definitions = c.in_ok-number_terms.ensures ∙ (λ i. counted 1 (definition_marks t.terms (c.deref-5.ensures.value i) (c.deref-6.ensures.value i)));
    }

pub returns-clause-fits : goal.returns-clause-fits
returns-clause-fits c =
    let t = c.args.table.now in
    let d = derivation_in t c.args.log.now in
    let as_long : length d ≡ length c.args.log.now = rw length-map refl in
    let ps = c.deref-5.result.now in
    let hs = c.deref-6.result.now in
    let as_many : length ps ≡ length t.terms = ap length c.deref-5.ensures.value ∙ c.in_ok-printed.ensures.as_many in
    let as_high : length hs ≡ length t.terms = ap length c.deref-6.ensures.value ∙ c.in_ok-heights.ensures.as_many in
    record {
      terms = omega (arith, ap length c.in_ok-number_terms.ensures, counted_length 1 (definition_marks t.terms ps hs), definition_marks_length t.terms ps hs as_many as_high);
      inferences = omega (arith, ap length (c.in_ok-number_steps.ensures t), inferences_length 1 1 c.deref-7.result.now d, as_long);
    }
