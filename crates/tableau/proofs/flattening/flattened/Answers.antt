use Rattle.std.proofs.Common.{rules, ◌≡◌, ◌<◌, ◌∷◌, length, ap, sym, subst, ◌∙◌}
use Rattle.spec_tableaux.specs.Rows as definitions
use Rattle.spec_tableaux.specs.SolvedForms.{IsTidy, AllVariables}
use Rattle.spec_tableaux.specs.CheckOverflows.{OverflowsSum}
use Rattle.spec_tableaux.specs.Numbers.{numbers}
use Rattle.tableau.specs.Entries.{entry_of, entries_of, rows_of}
use Rattle.tableau.specs.Flattenings.{OverflowsOne}
use Rattle.tableau.proofs.Flattened.{sum_tidy, sum_one, sum_overflowing}
use Rattle.tableau.proofs.Telling.{passed_on}
use Rattle.tableau.proofs.flattening.flattened.Goals as goal

pub with_flattened-requires-clause-tidy : goal.with_flattened-requires-clause-tidy
with_flattened-requires-clause-tidy c = subst (IsTidy numbers 0) (sym (ap entries_of c.deref.ensures.value))
    (sum_tidy (rows_of c.args.rows.now) (entries_of c.args.entries.now) (entries_of c.loop-g.total.items) (entries_of c.loop-g.rest.now) c.loop-g.invariant.so_far)

pub returns-in_err-total-clause-wide : goal.returns-in_err-total-clause-wide
returns-in_err-total-clause-wide c =
    let some : c.loop-g.rest.now ≡ c.in-Some.g.now ∷ c.in-Some.more.now = search rules in
    passed_on (OverflowsOne (rows_of c.args.rows.now) (entries_of c.deref.result.now) (entry_of c.in-Some.g.now)) (OverflowsSum (rows_of c.args.rows.now) (entries_of c.args.entries.now)) c.from_residual.result c.in_err-total.field-0.0
    (λ o s. sum_overflowing (rows_of c.args.rows.now) (entries_of c.args.entries.now) (entries_of c.loop-g.total.items) (entries_of c.loop-g.rest.now) (entries_of c.in-Some.more.now) (entry_of c.in-Some.g.now) (ap entries_of some) c.loop-g.invariant.so_far o
    (subst (λ z. OverflowsOne (rows_of c.args.rows.now) (entries_of z) (entry_of c.in-Some.g.now) o) c.deref.ensures.value s))
    c.from_residual.ensures.1 c.in_err-total.ensures.wide

pub loop-g-preserved : goal.loop-g-preserved
loop-g-preserved c =
    let some : c.loop-g.rest.now ≡ c.in-Some.g.now ∷ c.in-Some.more.now = search rules in
    let low : AllVariables (λ y. y < length c.args.places.now) (entry_of c.in-Some.g.now ∷ entries_of c.in-Some.more.now) = subst (AllVariables (λ y. y < length c.args.places.now)) (ap entries_of some) c.loop-g.invariant.low in
    record {
      low = low.1;
      so_far = sum_one (rows_of c.args.rows.now) (entries_of c.args.entries.now) (entries_of c.loop-g.total.items) (entries_of c.loop-g.rest.now) (entries_of c.in-Some.more.now) (entries_of c.in_ok-total.total.items) (entry_of c.in-Some.g.now)
          (ap entries_of some) (c.in_ok-total.ensures.ok ∙ ap (λ z. definitions.with_flattened numbers (rows_of c.args.rows.now) (entries_of z) (entry_of c.in-Some.g.now)) c.deref.ensures.value) c.loop-g.invariant.so_far;
    }
