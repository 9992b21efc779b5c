-- Reasons by the code's words are reasons of simplex in its state, and so are their overflows.
use Rattle.std.proofs.Common.{◌≡◌, Bool, true, not, cond, List, [], ◌∷◌, map, Option, Some, Err, refl, sym, ◌∙◌, ap, subst}
use Rattle.std.specs.Prelude.{All, Contains}
use Rattle.std.proofs.lemmas.Simd.{map-map}
use Rattle.spec_numbers.specs.Fractions.{Fraction}
use Rattle.spec_numbers.specs.Bounds.{Overflow, divided}
use Rattle.spec_sorts.specs.Terms.{Term}
use Rattle.spec_sorts.specs.Literals.{Literal}
use Rattle.spec_arithmetic.specs.Contradictions.{wide, given, la_generic}
use Rattle.spec_tableaux.specs.Fields.{is_positive}
use Rattle.spec_tableaux.specs.Rows.{Entry}
use Rattle.spec_tableaux.specs.Numbers.{Number, numbers}
use Rattle.spec_simplex.specs.Constraints.{Relation, below, at_most, equals, at_least, above}
use Rattle.spec_simplex.specs.Weights.{denial}
use Rattle.spec_tableaux.specs.Points.{Ranges}
use Rattle.spec_causes.specs.TermTableau.{TermTableau}
use Rattle.spec_causes.specs.Bounds.{bound_on, AreBounds}
use Rattle.spec_causes.specs.Reasons.{directed, IsStop, weight_by, IsReason, AreReasons, literals_in, weights_in, crossing, sticking, OverflowsReasons, weighing, adding}
use Rattle.spec_causes.specs.Causes.{OverflowsAt, explaining}
use Rattle.ratio128.specs.Meant.{fraction}
use Rattle.term_core.specs.declared.ids.Lit.{Lit}
use Rattle.term_core.specs.Tables.{TableView, term_at, literal_at}
use Rattle.proof_log.specs.Theories.{literals_held}
use Rattle.tableau.specs.Numbers.{number_of}
use Rattle.simplex_bounds.specs.declared.bounds.Bound.{Bound}
use Rattle.simplex_bounds.specs.Deltas.{pair_of}
use Rattle.simplex_bounds.specs.Held.{value_in, ranges_in}
use Rattle.simplex_check.specs.declared.check.CheckOutcome.{CheckOutcome}
use Rattle.simplex_check.specs.declared.check.CheckOutcome.TheVariants.{Fine, Crossed, Conflict}
use Rattle.simplex_atoms.specs.declared.slack.Slack.{Slack}
use Rattle.simplex_atoms.specs.Slacks.{slack_in, relation_by}
use Rattle.simplex_atoms.specs.Limits.{weight_of}
use Rattle.simplex_atoms.specs.Limits as limits
use Rattle.simplex_explain.specs.declared.weighted.Weighted.{Weighted}
use Rattle.simplex_explain.specs.Reasons.{literals_meant, weights_meant}
use Rattle.simplex_explain.specs.Steps.{judged}
use Rattle.simplex_explain.specs.Stops.{stop_of}
use Rattle.simplex_explain.specs.BoundReasons.{footing, AreReasonsFor}
use Rattle.simplex_explain.specs.BoundReasons as code
use Rattle.simplex.specs.Views.{SimplexView, SimplexFits, IsOf}
use Rattle.simplex.specs.Checks.{Found, OverflowsFound, AreReasonsOf}
use Rattle.simplex.specs.Coming.{term_tableau_of}
use Rattle.simplex.proofs.Bounding.{side_same, bound_same, States, states_strongest, strongest_by_held, are_bounds}

-- a literal with its weight, as a table means them
abbrev pub reason_meant : TableView → Weighted → Literal × Fraction
reason_meant t w = (literal_at t w.literal, fraction w.weight)

literals_same : (t : TableView) (ws : List Weighted) → literals_in (map (reason_meant t) ws) ≡ literals_meant t ws
literals_same t ws = map-map (λ (x : Literal × Fraction). x.0) (reason_meant t) ws

weights_same : (t : TableView) (ws : List Weighted) → weights_in (map (reason_meant t) ws) ≡ weights_meant ws
weights_same t ws = map-map (λ (x : Literal × Fraction). x.1) (reason_meant t) ws ∙ sym (map-map fraction (λ (w : Weighted). w.weight) ws)

-- the weight of a literal that says this
weight_says : (o : Option Relation) (r : Relation) (slack : Slack) (q : Number) → o ≡ Some r → code.weight_by o slack q ≡ weight_by r (numbers.times q (numbers.inverse (number_of slack.factor)))
weight_says o r slack q e = ap (λ z. code.weight_by z slack q) e ∙ by r
  where
    by : (r : Relation) → weight_of r slack q ≡ weight_by r (numbers.times q (numbers.inverse (number_of slack.factor)))
    by below = refl
    by at_most = refl
    by equals = refl
    by at_least = refl
    by above = refl

module _ (t : TableView) (v : SimplexView) (is : IsOf v t) (fits : SimplexFits v) where
  abbrev s : TermTableau
  s = term_tableau_of t v

  abbrev ranges : Ranges
  ranges = ranges_in v.bounds.held

  abbrev held : List Literal
  held = literals_held t v.theory

  -- A literal whose atom has this place stops the variable of an entry, by the factor of the place.
  abbrev Stops : Bool → Entry Number → Lit → Slack → Type 0
  Stops up e l slack =
      (x : IsStop s held ranges up e (literal_at t l)) × (x.states.factor ≡ number_of slack.factor) × (relation_by slack.kind l.positive ≡ Some x.states.constraint.relation)

  stops : (up : Bool) (e : Entry Number) (b : Bound) → stop_of v.bounds.held up e ≡ Some b → (slack : Slack) → slack_in v.atoms.slack_list b.literal.term ≡ Some slack
      → Stops up e b.literal slack
  stops up e b stop slack there =
      let q = cond (is_positive numbers e.coefficient) up (not up) in
      let states = subst (λ side. States t v is b.literal slack e.variable side (pair_of b.value)) (side_same q)
      (states_strongest t v is fits (limits.side_by q) e.variable b stop slack there) in (
        record {
          is_held = strongest_by_held t v is fits (limits.side_by q) e.variable b stop;
          bound = pair_of b.value;
          there = subst (λ side. bound_on side (ranges e.variable) ≡ Some (pair_of b.value)) (side_same q) (bound_same (limits.side_by q) v.bounds.held e.variable ∙ ap value_in stop);
          states = states.0;
        },
        states.1,
        states.2,
      )

  reason_is : (up : Bool) (e : Entry Number) (w : Weighted) → code.IsBoundReason (footing v.atoms v.bounds) up e w → IsReason s held ranges up e (reason_meant t w)
  reason_is up e w r =
      let x = subst (λ l. Stops up e l r.slack) (sym r.literal) (stops up e r.bound r.stops r.slack r.there) in
      record {
        stop = x.0;
        weight =
            let relation = ap (λ (l : Lit). relation_by r.slack.kind l.positive) (sym r.literal) ∙ x.2 in
            r.weight ∙ weight_says (relation_by r.slack.kind r.bound.literal.positive) x.0.states.constraint.relation r.slack (directed up e.coefficient) relation
            ∙ ap (λ k. weight_by x.0.states.constraint.relation (numbers.times (directed up e.coefficient) (numbers.inverse k))) (sym x.1);
      }

  reasons_are : (up : Bool) (es : List (Entry Number)) (ws : List Weighted) → AreReasonsFor (footing v.atoms v.bounds) up es ws → AreReasons s held ranges up es (map (reason_meant t) ws)
  reasons_are up [] [] h = tt
  reasons_are up (e ∷ es) (w ∷ ws) h = (reason_is up e w h.0, reasons_are up es ws h.1)
  reasons_are up [] (w ∷ ws) h = h
  reasons_are up (e ∷ es) [] h = h

  -- a weight of them
  weight_overflows : (up : Bool) (es : List (Entry Number)) (o : Overflow) → code.OverflowsReasons (footing v.atoms v.bounds) up es o → OverflowsReasons s held ranges up es o
  weight_overflows up es o (e, has, r) =
      let x = stops up e r.bound r.stops r.slack r.there in
      weighing e has (literal_at t r.bound.literal) x.0 (ap (λ (k : Number). divided (directed up e.coefficient).fraction k.fraction) x.1 ∙ r.quotient)

  -- their sum
  sum_overflowing : (up : Bool) (es : List (Entry Number)) (ws : List Weighted) (o : Overflow) → AreReasonsFor (footing v.atoms v.bounds) up es ws → judged t ws ≡ Err (wide o)
      → OverflowsReasons s held ranges up es o
  sum_overflowing up es ws o are e =
      adding (map (reason_meant t) ws) (reasons_are up es ws are)
      ((λ i. la_generic (map denial (literals_same t ws i)) (map given (weights_same t ws i))) ∙ e)

  module _ (ts : List Term) (atoms : All (λ (l : Lit). Contains ts (term_at t l.term)) v.theory.held) where
    abbrev bounds : AreBounds ts s ranges
    bounds = are_bounds t v is fits ts atoms

    -- a weight of the reasons for what was found
    pub found_weighs : (outcome : CheckOutcome) (o : Overflow) → Found v outcome → OverflowsFound v outcome o → OverflowsAt ts s o
    found_weighs Fine o found h = absurd found
    found_weighs (Crossed y) o found h = explaining ranges bounds true _ (crossing y found) (weight_overflows true _ o h)
    found_weighs (Conflict b) o found h = explaining ranges bounds _ _ (sticking b found.0 found.1) (weight_overflows _ _ o h)

    -- their sum
    pub found_adds : (outcome : CheckOutcome) (ws : List Weighted) (o : Overflow) → Found v outcome → AreReasonsOf v outcome ws → judged t ws ≡ Err (wide o) → OverflowsAt ts s o
    found_adds Fine ws o found h e = absurd found
    found_adds (Crossed y) ws o found h e = explaining ranges bounds true _ (crossing y found) (sum_overflowing true _ ws o h e)
    found_adds (Conflict b) ws o found h e = explaining ranges bounds _ _ (sticking b found.0 found.1) (sum_overflowing _ _ ws o h e)
