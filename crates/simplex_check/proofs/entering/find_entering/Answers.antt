use Rattle.std.proofs.Common.{◌≡◌, ℕ, Bool, ◌∷◌, ap, sym, ◌∙◌, rules}
use Rattle.std.proofs.lemmas.List.{nil_from_length}
use Rattle.spec_tableaux.specs.Ranges as ranges
use Rattle.spec_tableaux.specs.Numbers.{Number, numbers}
use Rattle.spec_tableaux.proofs.Numbers.{numbers_are_ordered_field}
use Rattle.tableau.specs.Entries.{entry_of, entries_of}
use Rattle.spec_tableaux.specs.Points.{deltas, point_in}
use Rattle.simplex_bounds.specs.Held.{ranges_in}
use Rattle.simplex_check.proofs.FirstOfRow.{passed_none, passed_more, passed_found, passed_all}
use Rattle.simplex_check.proofs.Points.{nothing_moves}
use Rattle.simplex_check.proofs.entering.find_entering.Goals as goal

pub loop-e-init : goal.loop-e-init
loop-e-init c = passed_none numbers (λ y. ranges.moves_by deltas (ranges_in c.args.bounds.now.held y) (point_in c.args.assignment.now.values y) c.args.up) (entries_of c.args.entries.now) c.requires

pub returns-then-can_enter : goal.returns-then-can_enter
returns-then-can_enter c =
    let some : c.loop-e.rest.now ≡ c.in-Some.e.now ∷ c.in-Some.more.now = search rules in
    let test : ℕ → Number → Bool = λ y. ranges.moves_by deltas (ranges_in c.args.bounds.now.held y) (point_in c.args.assignment.now.values y) c.args.up in
    passed_found numbers test (entries_of c.args.entries.now) (entries_of c.loop-e.rest.now) (entries_of c.in-Some.more.now) (entry_of c.in-Some.e.now)
    (λ y. nothing_moves (ranges_in c.args.bounds.now.held y) (point_in c.args.assignment.now.values y) c.args.up) c.loop-e.invariant (ap entries_of some) (sym c.can_enter.ensures ∙ c.if-can_enter.true)

pub loop-e-preserved : goal.loop-e-preserved
loop-e-preserved c =
    let some : c.loop-e.rest.now ≡ c.in-Some.e.now ∷ c.in-Some.more.now = search rules in
    let test : ℕ → Number → Bool = λ y. ranges.moves_by deltas (ranges_in c.args.bounds.now.held y) (point_in c.args.assignment.now.values y) c.args.up in
    passed_more numbers test (entries_of c.args.entries.now) (entries_of c.loop-e.rest.now) (entries_of c.in-Some.more.now) (entry_of c.in-Some.e.now)
    numbers_are_ordered_field.zero_is_zero c.loop-e.invariant (ap entries_of some) (sym c.can_enter.ensures ∙ c.if-can_enter.false)

pub returns : goal.returns
returns c =
    let test : ℕ → Number → Bool = λ y. ranges.moves_by deltas (ranges_in c.args.bounds.now.held y) (point_in c.args.assignment.now.values y) c.args.up in
    passed_all numbers test (entries_of c.args.entries.now) (entries_of c.loop-e.rest.now)
    (λ y. nothing_moves (ranges_in c.args.bounds.now.held y) (point_in c.args.assignment.now.values y) c.args.up) c.loop-e.invariant (ap entries_of (nil_from_length c.loop-e.rest.now c.in_default.ensures.cases))
