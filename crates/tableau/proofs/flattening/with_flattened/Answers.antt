use Rattle.std.proofs.Common.{◌≡◌, false, Some, None, sym, subst, ◌∙◌}
use Rattle.spec_tableaux.specs.Rows as definitions
use Rattle.spec_tableaux.specs.SolvedForms.{IsTidy}
use Rattle.spec_tableaux.specs.Numbers.{numbers}
use Rattle.tableau.specs.Numbers.{number_of}
use Rattle.tableau.specs.Entries.{entry_of, entries_of, rows_of}
use Rattle.tableau.specs.Sums.{OverflowsCombined, OverflowsPut, combined}
use Rattle.tableau.specs.Flattenings.{OverflowsOne, in_put}
use Rattle.tableau.proofs.Places.{IsPlaced, placed_at}
use Rattle.tableau.proofs.Changing.{tidy_at}
use Rattle.tableau.proofs.Flattened.{some_low, flattened_row, flattened_put, one_in_row}
use Rattle.tableau.proofs.Telling.{ok_as, err_as}
use Rattle.tableau.proofs.flattening.with_flattened.Goals as goal

pub returns-in_default-clause-ok : goal.returns-in_default-clause-ok
returns-in_default-clause-ok c =
    let p : IsPlaced c.args.g.variable (rows_of c.args.rows.now) None = placed_at c.args.g.variable (rows_of c.args.rows.now) None (sym c.in_default.is ∙ c.requires.places c.args.g.variable) in
    ok_as (λ v. entries_of v.items ≡ definitions.put numbers c.args.g.variable (number_of c.args.g.coefficient) (entries_of c.args.es.now)) (λ v. entries_of v.items ≡ definitions.with_flattened numbers (rows_of c.args.rows.now) (entries_of c.args.es.now) (entry_of c.args.g))
    c.put.result (λ v e. flattened_put (rows_of c.args.rows.now) (entries_of c.args.es.now) (entry_of c.args.g) (entries_of v.items) p e) c.put.ensures.ok

pub returns-in_default-clause-wide : goal.returns-in_default-clause-wide
returns-in_default-clause-wide c =
    let p : IsPlaced c.args.g.variable (rows_of c.args.rows.now) None = placed_at c.args.g.variable (rows_of c.args.rows.now) None (sym c.in_default.is ∙ c.requires.places c.args.g.variable) in
    err_as (OverflowsPut (entries_of c.args.es.now) c.args.g.variable (number_of c.args.g.coefficient)) (OverflowsOne (rows_of c.args.rows.now) (entries_of c.args.es.now) (entry_of c.args.g)) c.put.result (λ o s. in_put p s) c.put.ensures.wide

pub entries_at-requires : goal.entries_at-requires
entries_at-requires c = some_low c.args.rows.now c.args.g.variable c.in-Some.k (placed_at c.args.g.variable (rows_of c.args.rows.now) (Some c.in-Some.k) (sym c.in-Some.is ∙ c.requires.places c.args.g.variable))

pub merge-requires-clause-gs_tidy : goal.merge-requires-clause-gs_tidy
merge-requires-clause-gs_tidy c =
    let p : IsPlaced c.args.g.variable (rows_of c.args.rows.now) (Some c.in-Some.k) = placed_at c.args.g.variable (rows_of c.args.rows.now) (Some c.in-Some.k) (sym c.in-Some.is ∙ c.requires.places c.args.g.variable) in
    subst (IsTidy numbers 0) (sym c.entries_at.ensures) (tidy_at (rows_of c.args.rows.now) c.in-Some.k p.0 c.requires.rows_tidy)

pub returns-clause-ok : goal.returns-clause-ok
returns-clause-ok c =
    let p : IsPlaced c.args.g.variable (rows_of c.args.rows.now) (Some c.in-Some.k) = placed_at c.args.g.variable (rows_of c.args.rows.now) (Some c.in-Some.k) (sym c.in-Some.is ∙ c.requires.places c.args.g.variable) in
    ok_as (λ v. entries_of v.items ≡ combined false (entries_of c.args.es.now) (number_of c.args.g.coefficient) (entries_of c.entries_at.result.now)) (λ v. entries_of v.items ≡ definitions.with_flattened numbers (rows_of c.args.rows.now) (entries_of c.args.es.now) (entry_of c.args.g))
    c.merge.result (λ v e. flattened_row (rows_of c.args.rows.now) (entries_of c.args.es.now) (entry_of c.args.g) c.in-Some.k (entries_of c.entries_at.result.now) (entries_of v.items) p c.entries_at.ensures e) c.merge.ensures.ok

pub returns-clause-wide : goal.returns-clause-wide
returns-clause-wide c =
    let p : IsPlaced c.args.g.variable (rows_of c.args.rows.now) (Some c.in-Some.k) = placed_at c.args.g.variable (rows_of c.args.rows.now) (Some c.in-Some.k) (sym c.in-Some.is ∙ c.requires.places c.args.g.variable) in
    err_as (OverflowsCombined false (entries_of c.args.es.now) (number_of c.args.g.coefficient) (entries_of c.entries_at.result.now)) (OverflowsOne (rows_of c.args.rows.now) (entries_of c.args.es.now) (entry_of c.args.g)) c.merge.result
    (one_in_row (rows_of c.args.rows.now) (entries_of c.args.es.now) (entry_of c.args.g) c.in-Some.k (entries_of c.entries_at.result.now) p c.entries_at.ensures) c.merge.ensures.wide
