-- Where values keep the bounds of held literals, the point of the terms keeps the literals.
use Rattle.std.proofs.Common.{◌≡◌, ℕ, false, List, map, Contains, Option, Some, None, Ok, refl, sym, ◌∙◌, subst}
use Rattle.std.proofs.lemmas.List.Elements.{All-contains, All-map}
use Rattle.std.proofs.lemmas.Option.{none-some}
use Rattle.spec_tableaux.specs.Spaces.{Pair}
use Rattle.spec_tableaux.specs.Rows.{Solves}
use Rattle.spec_tableaux.specs.Numbers.{Number, numbers}
use Rattle.spec_tableaux.proofs.PairSolutions.{pair_parts, parts_pair}
use Rattle.spec_simplex.specs.Constraints.{Constraint, constraint_of, form_of, HasForm, HaveForms}
use Rattle.spec_simplex.specs.Points.{Point, KeepsLiteral, IsFeasible}
use Rattle.term_core.specs.declared.ids.Lit.{Lit}
use Rattle.term_core.specs.Tables.{TableView, term_at, literal_at, positive_literal}
use Rattle.tableau.specs.Views.{TableauView, IsTableau}
use Rattle.simplex_bounds.specs.declared.bounds.Bound.{Bound}
use Rattle.simplex_bounds.specs.declared.bounds.Side.{Side}
use Rattle.simplex_bounds.specs.declared.bounds.Side.TheVariants.{Lower, Upper}
use Rattle.simplex_bounds.specs.Deltas.{pair_of}
use Rattle.spec_tableaux.specs.Points.{deltas, point_in}
use Rattle.simplex_bounds.specs.Held.{BoundsView, is_tighter, RespectsBound as KeepsBound}
use Rattle.simplex_bounds.proofs.Keeping.{ranges_kept}
use Rattle.simplex_check.specs.Assignments.{AssignmentView}
use Rattle.simplex_atoms.specs.declared.slack.Slack.{Slack}
use Rattle.simplex_atoms.specs.Owners.{AreOwned}
use Rattle.simplex_atoms.specs.Slacks.{HasSlackIn, slack_in}
use Rattle.simplex_atoms.specs.Limits.{Limit, limit_of, limits_by, violates, KeepsLimit, AreLimitsKept}
use Rattle.simplex_atoms.specs.Atoms.{AtomsView, setting_of, ground_of}
use Rattle.simplex_atoms.specs.Watching.{IsWatched}
use Rattle.simplex_atoms.proofs.Keeping.{kept}
use Rattle.simplex_explain.specs.Stated.{IsKnownIn}
use Rattle.simplex_explain.specs.Keeping.{KeepsHeld}
use Rattle.simplex_explain.proofs.StatedBounds.{all_from, held_as_bound}
use Rattle.simplex_explain.proofs.Forms.{form_same, says_nothing}
use Rattle.simplex_explain.proofs.Owners.{point_of, owned}

-- what solves the rows in solved form solves those that were added
listed_solved : (t : TableauView) → IsTableau t → (v : ℕ → Pair Number) → Solves deltas v t.rows → Solves deltas v t.listed
listed_solved t is v h =
    let parts = pair_parts numbers v t.rows h in
    parts_pair numbers v t.listed ((is.same (λ y. (v y).base)).0 parts.0) ((is.same (λ y. (v y).tilt)).0 parts.1)

side_kept : (s : Side) (x y : Pair Number) → is_tighter s y x ≡ false → violates s x y ≡ false
side_kept Lower x y h = h
side_kept Upper x y h = h

-- what keeps a bound keeps what it means
bound_kept : (v : ℕ → Pair Number) (b : Bound) → KeepsBound v b → KeepsLimit v (limit_of b)
bound_kept v b h = side_kept b.side (v b.variable) (pair_of b.value) h

-- The place of the atom of a literal, whose form is that of what the literal says.
pub record IsAt (t : TableView) (a : AtomsView) (b : AssignmentView) (l : Lit) (c : Constraint) : Type 0 where
  pub slack : Slack
  pub there : slack_in a.slack_list l.term ≡ Some slack
  pub is : HasSlackIn (setting_of t (ground_of a.owners b)) slack (term_at t l.term)
  pub has : form_of c ≡ Ok is.form

module _ (t : TableView) (a : AtomsView) (b : AssignmentView) (bounds : BoundsView) (held : List Lit) (k : KeepsHeld t a b bounds held) where
  abbrev v : ℕ → Pair Number
  v = point_in b.values

  pub solved : Solves deltas v b.tableau.listed
  solved = listed_solved b.tableau k.tableau v k.meets.solves

  limits_kept : (l : Lit) → Contains held l → (slack : Slack) → slack_in a.slack_list l.term ≡ Some slack → AreLimitsKept v (limits_by slack l)
  limits_kept l h slack e = all_from (KeepsLimit v) (limits_by slack l) by
    where
      by : (x : Limit) → Contains (limits_by slack l) x → KeepsLimit v x
      by x c =
          let found = held_as_bound a.slack_list held bounds.held k.bounds_are l h slack e x c in
          subst (KeepsLimit v) found.2 (bound_kept v found.0 ((ranges_kept bounds.held v).0 k.meets.within found.0 found.1))

  -- a held literal that says something has a place
  pub slack_list : (l : Lit) → Contains held l → (c : Constraint) → constraint_of (literal_at t l) ≡ Some c → IsAt t a b l c
  slack_list l h c f = by (slack_in a.slack_list l.term) refl (All-contains (λ (l : Lit). IsKnownIn t a.slack_list l.term) held l k.known h)
    where
      by : (o : Option Slack) → slack_in a.slack_list l.term ≡ o → IsWatched o (constraint_of (positive_literal (term_at t l.term))) → IsAt t a b l c
      by None e w = absurd (none-some c (sym (says_nothing (term_at t l.term) l.positive w) ∙ f))
      by (Some slack) e w =
          let is = (k.right.are_slacked l.term slack e).is in
          record { slack = slack; there = e; is = is; has = form_same (term_at t l.term) l.positive is.constraint c is.says f ∙ is.has }

  -- and is kept by each point whose values are those of the variables
  pub literal_kept : (p : Point) → AreOwned t a.owners p v → (l : Lit) → Contains held l → KeepsLiteral p (literal_at t l)
  literal_kept p own l h c f =
      let x = slack_list l h c f in
      kept (setting_of t (ground_of a.owners b)) x.slack (term_at t l.term) x.is p v own solved l (limits_kept l h x.slack x.there) c f

  pub feasible : HaveForms (map (literal_at t) held) × IsFeasible (map (literal_at t) held)
  feasible =
      let p = point_of t a.owners v in (
        All-map HasForm (literal_at t) held (all_from (λ (l : Lit). HasForm (literal_at t l)) held (λ l h c f. let x = slack_list l h c f in (x.is.form, x.has))),
        (p, All-map (KeepsLiteral p) (literal_at t) held (all_from (λ (l : Lit). KeepsLiteral p (literal_at t l)) held (literal_kept p (owned t a.owners v k.unique k.right.owners_in k.right.once)))),
      )
