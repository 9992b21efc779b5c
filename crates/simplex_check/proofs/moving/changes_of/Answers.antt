use Rattle.std.proofs.Common.{◌≡◌, ◌≤◌, ◌∷◌, ◌++◌, [], true, length, map, slice_index_or, ap, sym, ◌∙◌, subst, refl, arith, below_more}
use Rattle.std.proofs.lemmas.List.Elements.{Contains-get_or}
use Rattle.spec_tableaux.specs.LeastVariable.{moved}
use Rattle.tableau.specs.Views.{row_at}
use Rattle.simplex_bounds.specs.Deltas.{pair_of}
use Rattle.spec_tableaux.specs.Points.{deltas, point_in}
use Rattle.simplex_check.specs.Changes.{ChangesAreBelow, ComeTo, is_changed}
use Rattle.simplex_check.proofs.Writing.{known_push, come_push, changed_push, changed_last}
use Rattle.simplex_check.proofs.Following.{first_comes, others_stay}
use Rattle.simplex_check.proofs.moving.changes_of.Goals as goal

pub loop-row-init : goal.loop-row-init
loop-row-init c =
    let w = moved deltas c.args.tableau.now.rows c.args.first.variable (pair_of c.args.d) (point_in (map pair_of c.args.values.now)) in
    let one : c.push.new.self.items ≡ c.args.first ∷ [] = c.in_ok-push.ensures.items ∙ ap (λ z. z ++ c.args.first ∷ []) c.new-changes.ensures.items in
    record {
      known = subst (ChangesAreBelow c.args.tableau.now.variables) (sym one) (c.requires.known, tt);
      come = subst (ComeTo w) (sym one) (first_comes c.args.tableau.now.rows c.args.first.variable (pair_of c.args.d) (point_in (map pair_of c.args.values.now)) (pair_of c.args.first.value) c.requires.nonbasic c.requires.start, tt);
      first = ap (is_changed c.args.first.variable) one ∙ changed_last c.args.first.variable [] c.args.first refl;
      passed = λ j h. absurd (omega arith);
    }

pub follower-requires-clause-row : goal.follower-requires-clause-row
follower-requires-clause-row c = c.column-column.ensures.within (slice_index_or c.column-column.result.now c.loop-row.row-index 0) (Contains-get_or c.column-column.result.now c.loop-row.row-index 0 c.loop-row-test.true)

pub loop-row-preserved : goal.loop-row-preserved
loop-row-preserved c =
    let i = c.loop-row.invariant in
    let w = moved deltas c.args.tableau.now.rows c.args.first.variable (pair_of c.args.d) (point_in (map pair_of c.args.values.now)) in
    let more = c.in_ok-push-2.ensures.items in
    record {
      known = subst (ChangesAreBelow c.args.tableau.now.variables) (sym more) (known_push c.args.tableau.now.variables c.loop-row.changes.items c.in_ok-change.change i.known c.in_ok-change.ensures.known);
      come = subst (ComeTo w) (sym more) (come_push w c.loop-row.changes.items c.in_ok-change.change i.come c.in_ok-change.ensures.value);
      first = ap (is_changed c.args.first.variable) more ∙ changed_push c.args.first.variable c.loop-row.changes.items c.in_ok-change.change i.first;
      passed = below_more (λ j. is_changed (row_at c.args.tableau.now.rows (slice_index_or c.column-column.result.now j 0)).basic c.push-in-loop-row.new.self.items ≡ true) c.loop-row.row-index
          (λ j h. ap (is_changed (row_at c.args.tableau.now.rows (slice_index_or c.column-column.result.now j 0)).basic) more
          ∙ changed_push (row_at c.args.tableau.now.rows (slice_index_or c.column-column.result.now j 0)).basic c.loop-row.changes.items c.in_ok-change.change (i.passed j h))
          (ap (is_changed (row_at c.args.tableau.now.rows (slice_index_or c.column-column.result.now c.loop-row.row-index 0)).basic) more
          ∙ changed_last (row_at c.args.tableau.now.rows (slice_index_or c.column-column.result.now c.loop-row.row-index 0)).basic c.loop-row.changes.items c.in_ok-change.change c.in_ok-change.ensures.variable);
    }

pub returns-clause-lead : goal.returns-clause-lead
returns-clause-lead c =
    let i = c.loop-row.invariant in
    let whole : length c.column-column.result.now ≤ c.loop-row.row-index = omega (arith, c.loop-row-test.false) in
    record {
      come = i.come;
      others = others_stay c.args.tableau.now.rows c.args.first.variable (pair_of c.args.d) (point_in (map pair_of c.args.values.now)) c.column-column.result.now c.loop-row.changes.items c.column-column.ensures i.first
          (λ j h. i.passed j (omega arith));
    }
