use Rattle.std.proofs.Common.{◌≡◌, ◌∷◌, length, map, rules, ap, ◌∙◌}
use Rattle.std.proofs.lemmas.List.{nil_from_length}
use Rattle.spec_text.proofs.AnswerLaws.{told}
use Rattle.ratio128.specs.Meant.{overflow}
use Rattle.tableau.specs.Entries.{entry_of, entries_of}
use Rattle.simplex_bounds.specs.Deltas.{pair_of}
use Rattle.spec_tableaux.specs.Points.{deltas, point_in}
use Rattle.spec_tableaux.specs.BoundsOverflows.{OverflowsValue}
use Rattle.simplex_check.proofs.Summing.{summed_none, summed_more, summed_all, overflows_product, overflows_sum, over_first}
use Rattle.simplex_check.proofs.sums.sum_at.Goals as goal

pub loop-e-init : goal.loop-e-init
loop-e-init c = record { summed = summed_none (point_in (map pair_of c.args.values.now)) (entries_of c.args.entries.now) (pair_of c.zero-sum.result) c.zero-sum.ensures; known = c.requires }

pub value_at-value-requires : goal.value_at-value-requires
value_at-value-requires c =
    let some : c.loop-e.rest.now ≡ c.in-Some.e.now ∷ c.in-Some.more.now = search rules in
    (over_first (length c.args.values.now) (entry_of c.in-Some.e.now) (entries_of c.loop-e.rest.now) (entries_of c.in-Some.more.now) (ap entries_of some) c.loop-e.invariant.known).0

pub returns-in_err-product-clause-wide : goal.returns-in_err-product-clause-wide
returns-in_err-product-clause-wide c =
    let some : c.loop-e.rest.now ≡ c.in-Some.e.now ∷ c.in-Some.more.now = search rules in
    told (λ w. OverflowsValue (point_in (map pair_of c.args.values.now)) (entries_of c.args.entries.now) (overflow w)) c.from_residual.result c.in_err-product.field-0.0 c.from_residual.ensures.1
    (overflows_product (point_in (map pair_of c.args.values.now)) (entries_of c.args.entries.now) (entries_of c.loop-e.rest.now) (entries_of c.in-Some.more.now) (entry_of c.in-Some.e.now) (pair_of c.loop-e.sum) (pair_of c.value_at-value.result) (overflow c.in_err-product.field-0.0)
    c.loop-e.invariant.summed (ap entries_of some) c.value_at-value.ensures c.in_err-product.ensures.wide)

pub returns-in_err-sum-clause-wide : goal.returns-in_err-sum-clause-wide
returns-in_err-sum-clause-wide c =
    let some : c.loop-e.rest.now ≡ c.in-Some.e.now ∷ c.in-Some.more.now = search rules in
    told (λ w. OverflowsValue (point_in (map pair_of c.args.values.now)) (entries_of c.args.entries.now) (overflow w)) c.from_residual-in_err-sum.result c.in_err-sum.field-0.0 c.from_residual-in_err-sum.ensures.1
    (overflows_sum (point_in (map pair_of c.args.values.now)) (entries_of c.args.entries.now) (entries_of c.loop-e.rest.now) (entries_of c.in-Some.more.now) (entry_of c.in-Some.e.now) (pair_of c.loop-e.sum) (pair_of c.in_ok-product.product) (overflow c.in_err-sum.field-0.0)
    c.loop-e.invariant.summed (ap entries_of some) (c.in_ok-product.ensures.exact ∙ ap (deltas.scale (entry_of c.in-Some.e.now).coefficient) c.value_at-value.ensures) c.in_err-sum.ensures.wide)

pub loop-e-preserved : goal.loop-e-preserved
loop-e-preserved c =
    let some : c.loop-e.rest.now ≡ c.in-Some.e.now ∷ c.in-Some.more.now = search rules in
    record {
      summed = summed_more (point_in (map pair_of c.args.values.now)) (entries_of c.args.entries.now) (entries_of c.loop-e.rest.now) (entries_of c.in-Some.more.now) (entry_of c.in-Some.e.now) (pair_of c.loop-e.sum) (pair_of c.in_ok-product.product) (pair_of c.in_ok-sum.sum)
          c.loop-e.invariant.summed (ap entries_of some) (c.in_ok-product.ensures.exact ∙ ap (deltas.scale (entry_of c.in-Some.e.now).coefficient) c.value_at-value.ensures) c.in_ok-sum.ensures.exact;
      known = (over_first (length c.args.values.now) (entry_of c.in-Some.e.now) (entries_of c.loop-e.rest.now) (entries_of c.in-Some.more.now) (ap entries_of some) c.loop-e.invariant.known).1;
    }

pub returns-clause-value : goal.returns-clause-value
returns-clause-value c = summed_all (point_in (map pair_of c.args.values.now)) (entries_of c.args.entries.now) (entries_of c.loop-e.rest.now) (pair_of c.loop-e.sum) c.loop-e.invariant.summed (ap entries_of (nil_from_length c.loop-e.rest.now c.in_default.ensures.cases))
