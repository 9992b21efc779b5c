-- A shared term has the number of its value, another one that of its variable, and by these numbers the literals hold.
use Rattle.std.proofs.Common.{◌∙◌, List, length, get_or, map, nat_eq, sym, ap, subst, arith}
use Rattle.std.specs.HashMap.{get}
use Rattle.spec_text.proofs.AnswerLaws.{told}
use Rattle.spec_tableaux.specs.Points.{point_in}
use Rattle.spec_tableaux.specs.Halves.{OverflowsNumber}
use Rattle.spec_causes.specs.Causes.{IsEpsilon, finding}
use Rattle.ratio128.specs.Meant.{overflow}
use Rattle.delta_num.specs.declared.delta.Delta.{Delta}
use Rattle.term_core.specs.declared.ids.TermId.{TermId}
use Rattle.term_core.specs.Tables.{clause_at}
use Rattle.sat_budget.specs.Budgets.{StopsBy}
use Rattle.proof_log.specs.Theories.{terms_watched}
use Rattle.held_literals.specs.Room.{AreOverWatched}
use Rattle.tableau.specs.Numbers.{number_of}
use Rattle.tableau.specs.Views.{IsTableau}
use Rattle.simplex_bounds.specs.Deltas.{pair_of}
use Rattle.simplex_bounds.specs.Held.{ranges_in}
use Rattle.simplex_numbers.specs.Values.{KeepsAt, KeepsApart}
use Rattle.simplex_numbers.proofs.Compared.{all_hold}
use Rattle.simplex.specs.Views.{SimplexView, SimplexFits}
use Rattle.simplex.specs.Values.{TellsValues}
use Rattle.simplex.specs.Coming.{term_tableau_of, IsOverflowAt}
use Rattle.simplex.proofs.Judging.{overflowed, keeps_held}
use Rattle.simplex.proofs.Coming.{watched_bounds}
use Rattle.simplex.proofs.TermNumbers.{number_in, held_sorted, numbers_owned, next_number, all_numbers}
use Rattle.simplex.proofs.TellingValues.{values_length}
use Rattle.simplex.proofs.NumbersApart.{number_apart, shared_values_are, hold_apart, number_is_apart, evaluating_overflows}
use Rattle.simplex.proofs.simplex.Simplex.numbers.Goals as goal

pub values_by_term-requires : goal.values_by_term-requires
values_by_term-requires c =
    let v = c.args.self.now in
    let t = c.args.table.now in
    values_length t (term_tableau_of t v) c.args.shared.now c.in_ok-values.values.items c.in_ok-values.ensures.ok ∙ ap length (sym c.deref.ensures.value)

pub returns-in_err-values-clause-stops : goal.returns-in_err-values-clause-stops
returns-in_err-values-clause-stops c =
    let v = c.args.self.now in
    let t = c.args.table.now in
    told (StopsBy (λ s. IsOverflowAt t (terms_watched t v.theory) s v)) c.from_residual.result c.in_err-values.field-0.0 c.from_residual.ensures.1 c.in_err-values.ensures.stops

pub returns-in-Err-clause-stops : goal.returns-in-Err-clause-stops
returns-in-Err-clause-stops c =
    let v = c.args.self.now in
    let t = c.args.table.now in
    let ts = terms_watched t v.theory in
    let fits = subst SimplexFits c.self.view_is c.self.invariant.0 in
    let over = subst (λ (w : SimplexView). AreOverWatched w.theory.held w.theory.watched) c.self.view_is c.are_of_watched_terms.ensures.over in
    let bounds = watched_bounds t v c.requires.with fits over in
    let ps = map pair_of c.in_ok-values.values.items in
    let kept = shared_values_are ts (term_tableau_of t v) (clause_at t c.args.shared.now) ps c.in_ok-values.ensures.ok c.requires.shared in
    overflowed t ts v c.in-Err.wide c.stop_of.result
    (finding (ranges_in v.bounds.held) bounds c.requires.fine.within ps kept
    (subst (λ (w : SimplexView). OverflowsNumber (ranges_in w.bounds.held) (point_in w.assignment.values) ps (overflow c.in-Err.wide)) c.self.view_is
    (subst (λ (ds : List Delta). OverflowsNumber (ranges_in c.self.inside.bounds.held) (point_in c.self.inside.assignment.values) (map pair_of ds) (overflow c.in-Err.wide)) c.as_mut_slice.ensures.value c.in-Err.ensures.wide))) c.stop_of.ensures

pub returns-in-Err-number_with-clause-stops : goal.returns-in-Err-number_with-clause-stops
returns-in-Err-number_with-clause-stops c =
    let v = c.args.self.now in
    let t = c.args.table.now in
    let ts = terms_watched t v.theory in
    let fits = subst SimplexFits c.self.view_is c.self.invariant.0 in
    let over = subst (λ (w : SimplexView). AreOverWatched w.theory.held w.theory.watched) c.self.view_is c.are_of_watched_terms.ensures.over in
    let bounds = watched_bounds t v c.requires.with fits over in
    let ds = c.in_ok-values.values.items in
    let e = number_of c.in-Ok.small in
    let none : TermId = record { 0 = 0 } in
    let id = get_or c.args.terms.now c.terms.id-index none in
    let is = subst (λ (w : SimplexView). IsEpsilon (ranges_in w.bounds.held) (point_in w.assignment.values) (map pair_of ds) e) c.self.view_is
    (subst (λ (xs : List Delta). IsEpsilon (ranges_in c.self.inside.bounds.held) (point_in c.self.inside.assignment.values) (map pair_of xs) e) c.as_mut_slice.ensures.value c.in-Ok.ensures.is) in
    let known = subst (λ (xs : List Delta). TellsValues (get nat_eq c.in_ok-known.known) c.args.shared.now xs (length c.args.shared.now)) c.deref.ensures.value c.in_ok-known.ensures in
    overflowed t ts v c.in-Err-number_with.wide c.stop_of-in-Err-number_with.result
    (evaluating_overflows t v c.ids_are_unique.ensures c.requires.with e c.args.shared.now ds c.in_ok-values.ensures.ok (get nat_eq c.in_ok-known.known) known ts c.requires.shared (ranges_in v.bounds.held) bounds
    c.requires.fine.within is id (overflow c.in-Err-number_with.wide) c.in-Err-number_with.ensures.wide) c.stop_of-in-Err-number_with.ensures

pub terms-preserved : goal.terms-preserved
terms-preserved c =
    let v = c.args.self.now in
    let t = c.args.table.now in
    let e = number_of c.in-Ok.small in
    let ids = c.args.shared.now in
    let none : TermId = record { 0 = 0 } in
    let id = get_or c.args.terms.now c.terms.id-index none in
    let known = subst (λ (xs : List Delta). TellsValues (get nat_eq c.in_ok-known.known) ids xs (length ids)) c.deref.ensures.value c.in_ok-known.ensures in
    next_number t (number_apart (number_in t v e) (clause_at t ids)) c.terms.numbers.items c.push.new.self.items c.in-Ok-number_with.number c.args.terms.now c.terms.id-index none c.terms-test.true c.terms.invariant
    c.in-Ok-push.ensures.items
    (number_is_apart t v c.ids_are_unique.ensures c.requires.with e ids c.in_ok-values.values.items c.in_ok-values.ensures.ok (get nat_eq c.in_ok-known.known) known c.requires.linear c.requires.there
    id (c.requires.terms c.terms.id-index none c.terms-test.true) (number_of c.in-Ok-number_with.number) c.in-Ok-number_with.ensures.number)

pub returns-clause-ok : goal.returns-clause-ok
returns-clause-ok c =
    let v = c.args.self.now in
    let t = c.args.table.now in
    let e = number_of c.in-Ok.small in
    let us = clause_at t c.args.shared.now in
    let ts = clause_at t c.args.terms.now in
    let keeps = subst (λ (w : SimplexView). KeepsAt e (ranges_in w.bounds.held) (point_in w.assignment.values)) c.self.view_is c.in-Ok.ensures.keeps in
    let over = subst (λ (w : SimplexView). AreOverWatched w.theory.held w.theory.watched) c.self.view_is c.are_of_watched_terms.ensures.over in
    let fits = subst SimplexFits c.self.view_is c.self.invariant.0 in
    let tableau = subst (λ (w : SimplexView). IsTableau w.assignment.tableau) c.self.view_is (subst IsTableau c.tableau.ensures c.rows_are_in_solved_form.ensures) in
    let held = keeps_held t v c.ids_are_unique.ensures tableau c.requires.with fits.bounds_are over c.requires.fine in
    hold_apart t v c.ids_are_unique.ensures c.requires.with e us c.requires.linear (map pair_of c.in_ok-values.values.items) c.in_ok-values.ensures.ok ts _
    (subst (λ (xs : List Delta). KeepsApart e (map pair_of xs)) c.as_mut_slice.ensures.value c.in-Ok.ensures.apart)
    (all_hold t v.atoms v.assignment v.bounds v.theory.held held e c.in-Ok.ensures.positive keeps (number_in t v e) (numbers_owned t v e c.ids_are_unique.ensures c.requires.with) (held_sorted t v c.requires.over))
    (all_numbers t (number_apart (number_in t v e) us) c.terms.numbers.items c.args.terms.now c.terms.id-index (omega (arith, c.terms-test.false)) c.terms.invariant)
