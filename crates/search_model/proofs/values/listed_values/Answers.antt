-- That each listed term has its value.
use Rattle.std.proofs.Common.{◌≡◌, ◌<◌, ◌∙◌, length, get_or, take, map, All, sym, ap, subst, arith}
use Rattle.std.specs.Prelude.{slice_set}
use Rattle.std.proofs.Math.Seq.{take-length}
use Rattle.std.proofs.lemmas.List.{take_more, length-set, length-map, get_or-map}
use Rattle.std.proofs.lemmas.List.Elements.{All-get_or, All-weaker}
use Rattle.spec_numbers.specs.Fractions.{zero_fraction}
use Rattle.spec_sorts.specs.Terms.{sort_of}
use Rattle.spec_rules.specs.Truths.{term_true_by}
use Rattle.spec_valuations.specs.Classes.{value_in}
use Rattle.ratio128.specs.Meant.{fraction}
use Rattle.term_core.specs.declared.ids.TermId.{TermId}
use Rattle.term_core.specs.Tables.{term_at}
use Rattle.search_model.specs.Models.{no_id, truths_of, values_of}
use Rattle.search_model.specs.Made.{IsValueOf}
use Rattle.search_model.proofs.ListedValues.{class_at, number_at, value_there, values_more}
use Rattle.search_model.proofs.values.listed_values.Goals as goal

pub terms-preserved : goal.terms-preserved
terms-preserved c =
    let t = c.args.table.now in
    let held = c.args.trail.now.literals in
    let ids = c.args.terms.now in
    let classes = c.args.classes.now in
    let numbers = c.args.numbers.now in
    let v = values_of t held ids classes (map fraction numbers) in
    let vs = c.terms.values.items in
    let at = c.terms.at in
    let id = get_or ids at no_id in
    let x = c.value_of.result in
    let truth = term_true_by (truths_of t held) (term_at t id) in
    let class = class_at t ids classes at c.ids_are_unique.ensures c.requires.terms c.requires.once c.requires.classes c.terms-test.true in
    let number = number_at t ids (map fraction numbers) at c.ids_are_unique.ensures c.requires.terms c.requires.once (length-map numbers fraction ∙ c.requires.numbers) c.terms-test.true
    ∙ get_or-map fraction numbers at c.index-numbers-at.result zero_fraction (omega (arith, c.requires.numbers, c.terms-test.true))
    ∙ ap fraction (sym c.index-numbers-at.is) in
    let means = c.value_of.ensures.means ∙ (λ i. value_in (sort_of (term_at t id)) truth (sym number i) (sym class i)) in
    let there = All-get_or (λ (u : TermId). u.0 < length vs) ids at no_id c.terms-test.true c.terms.invariant.room in
    record {
      room = All-weaker (λ (u : TermId). u.0 < length vs) (λ (u : TermId). u.0 < length (slice_set vs id.0 x)) (λ u h. omega (arith, h, length-set vs id.0 x)) ids c.terms.invariant.room;
      each = subst (All (IsValueOf t v (slice_set vs id.0 x))) (sym (take_more ids at no_id c.terms-test.true))
          (values_more t v vs id x (take at ids) (value_there t v vs id x there means c.value_of.ensures.named) c.terms.invariant.each);
    }

pub returns : goal.returns
returns c =
    let t = c.args.table.now in
    let ids = c.args.terms.now in
    let v = values_of t c.args.trail.now.literals ids c.args.classes.now (map fraction c.args.numbers.now) in
    let all : c.terms.at ≡ length ids = omega (arith, c.terms-test.false, c.terms.auto.at-end) in
    record {
      there = c.requires.terms;
      closed = c.requires.closed;
      each = subst (All (IsValueOf t v c.terms.values.items)) (ap (λ n. take n ids) all ∙ take-length ids) c.terms.invariant.each;
    }
