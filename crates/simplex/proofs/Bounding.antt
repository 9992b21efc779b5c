-- Bounds that are held are those that held literals state, over what simplex is on.
use Rattle.std.proofs.Common.{◌≡◌, ℕ, ◌<◌, Bool, true, false, List, [], ◌∷◌, map, All, Contains, Option, Some, None, inl, inr, refl, sym, ◌∙◌, ap, subst}
use Rattle.std.proofs.lemmas.List.{length-map}
use Rattle.std.proofs.lemmas.List.Elements.{All-contains, All-map}
use Rattle.std.proofs.lemmas.Option.{same_Some}
use Rattle.spec_text.proofs.Members.{first, cases, none as no_member, only, to_image}
use Rattle.spec_sorts.specs.Terms.{Term}
use Rattle.spec_sorts.specs.Literals.{Literal}
use Rattle.spec_arithmetic.specs.Forms.{Form}
use Rattle.spec_tableaux.specs.Fields.{is_positive}
use Rattle.spec_tableaux.specs.Spaces.{Pair}
use Rattle.spec_tableaux.specs.Numbers.{Number, numbers}
use Rattle.spec_simplex.specs.Constraints.{Relation, below, at_most, equals, at_least, above}
use Rattle.spec_causes.specs.TermTableau.{TermTableau}
use Rattle.spec_causes.specs.TermTableau as terms
use Rattle.spec_causes.specs.Bounds.{Side, lower, upper, side_by, bound_on, IsSideOf, is_strict, tilt_by, IsMultiple, IsBound, AreBounds}
use Rattle.term_core.specs.declared.ids.TermId.{TermId}
use Rattle.term_core.specs.declared.ids.Lit.{Lit}
use Rattle.term_core.specs.Tables.{TableView, term_at, literal_at}
use Rattle.tableau.specs.Numbers.{number_of}
use Rattle.proof_log.specs.Theories.{literals_held}
use Rattle.simplex_bounds.specs.declared.bounds.Bound.{Bound}
use Rattle.simplex_bounds.specs.declared.bounds.Side.{Side as CodeSide}
use Rattle.simplex_bounds.specs.declared.bounds.Side.TheVariants.{Lower, Upper}
use Rattle.simplex_bounds.specs.Deltas.{pair_of}
use Rattle.simplex_bounds.specs.Held.{strongest, value_in, ranges_in}
use Rattle.simplex_bounds.proofs.Keeping.{strongest_is_held}
use Rattle.simplex_atoms.specs.declared.slack.Slack.{Slack}
use Rattle.simplex_atoms.specs.Owners.{owner_at, AreOwned}
use Rattle.simplex_atoms.specs.Slacks.{IsFormOf, slack_in, relation_by}
use Rattle.simplex_atoms.specs.Atoms.{ground_of, setting_of}
use Rattle.simplex_atoms.specs.Limits.{Limit, limit_of, limit_on, limits_where, limits_by}
use Rattle.simplex_atoms.specs.Limits as limits
use Rattle.simplex_atoms.specs.TermTableauViews.{owner_meant}
use Rattle.simplex_atoms.proofs.Numbered.{owner_mapped}
use Rattle.simplex_explain.specs.Stops.{IsStatedBound}
use Rattle.simplex_explain.proofs.Pieces.{with_relation, reads}
use Rattle.simplex_explain.proofs.StatedBounds.{bounds_stated, literals_held as held_literal}
use Rattle.simplex.specs.Views.{SimplexView, SimplexFits, IsOf}
use Rattle.simplex.specs.Coming.{term_tableau_of}

-- values of the terms of owners are values of the owners
owned_terms : (t : TableView) (os : List (Option TermId)) (n : Term → Number) (v : ℕ → Number) → terms.AreOwned (map (owner_meant t) os) n v → AreOwned t os n v
owned_terms t os n v h y id e = h y (term_at t id) (owner_mapped t os y ∙ ap (owner_meant t) e)

-- what means no term stands for none
none_meant : (t : TableView) (o : Option TermId) → owner_meant t o ≡ None → o ≡ None
none_meant t None e = refl
none_meant t (Some id) e = absurd (cc)

-- sides

-- a side of the code
abbrev pub side_in : CodeSide → Side
side_in Lower = lower
side_in Upper = upper

pub side_same : (up : Bool) → side_in (limits.side_by up) ≡ side_by up
side_same true = refl
side_same false = refl

tilt_same : (s : CodeSide) (strict : Bool) → limits.tilt_by s strict ≡ tilt_by (side_in s) strict
tilt_same Lower true = refl
tilt_same Lower false = refl
tilt_same Upper true = refl
tilt_same Upper false = refl

pub bound_same : (s : CodeSide) (held : List Bound) (y : ℕ) → bound_on (side_in s) (ranges_in held y) ≡ value_in (strongest s y held)
bound_same Lower held y = refl
bound_same Upper held y = refl

-- What a bound of a place says, whose form compares so with 0.
record IsLimit (slack : Slack) (r : Relation) (x : Limit) : Type 0 where
  pub variable : x.variable ≡ slack.variable
  pub on_side : IsSideOf r (is_positive numbers (number_of slack.factor)) (side_in x.side)
  pub value : x.value ≡ record { base = number_of slack.bound; tilt = tilt_by (side_in x.side) (is_strict r) }

-- a bound on one side
limit_is : (slack : Slack) (l : Lit) (r : Relation) (s : CodeSide) (strict : Bool) → IsSideOf r (is_positive numbers (number_of slack.factor)) (side_in s) → strict ≡ is_strict r
    → (x : Limit) → Contains (limit_on slack l s strict ∷ []) x → IsLimit slack r x
limit_is slack l r s strict on e x c = subst (IsLimit slack r) (only (limit_on slack l s strict) x c) (record {
  variable = refl;
  on_side = on;
  value = λ i. record { base = number_of slack.bound; tilt = (tilt_same s strict ∙ ap (tilt_by (side_in s)) e) i };
})

-- what each bound says that a literal states
limit_says : (slack : Slack) (l : Lit) (r : Option Relation) → (x : Limit) → Contains (limits_where r (is_positive numbers (number_of slack.factor)) slack l) x
    → (s : Relation) × (r ≡ Some s) × IsLimit slack s x
limit_says slack l None x c = absurd (no_member x c)
limit_says slack l (Some below) x c = (below, refl, limit_is slack l below _ true (side_same _) refl x c)
limit_says slack l (Some at_most) x c = (at_most, refl, limit_is slack l at_most _ false (side_same _) refl x c)
limit_says slack l (Some at_least) x c = (at_least, refl, limit_is slack l at_least _ false (side_same _) refl x c)
limit_says slack l (Some above) x c = (above, refl, limit_is slack l above _ true (side_same _) refl x c)
limit_says slack l (Some equals) x c = (
  equals,
  refl,
  elim (cases (limit_on slack l Lower false) (limit_on slack l Upper false ∷ []) x c) [
    | inl e ↦ limit_is slack l equals Lower false tt refl x (subst (Contains (limit_on slack l Lower false ∷ [])) e (first (limit_on slack l Lower false) []))
    | inr d ↦ limit_is slack l equals Upper false tt refl x d
  ],
)

module _ (t : TableView) (v : SimplexView) (is : IsOf v t) where
  abbrev s : TermTableau
  s = term_tableau_of t v

  multiple : (slack : Slack) (f : Form) → IsFormOf (setting_of t (ground_of v.atoms.owners v.assignment)) slack f → IsMultiple s f (number_of slack.factor) slack.variable
  multiple slack f m = record {
    nonzero = m.factor;
    there = subst (λ n. slack.variable < n) (sym (length-map v.atoms.owners (owner_meant t))) m.variable;
    unit = λ e. m.unit (none_meant t (owner_at v.atoms.owners slack.variable) (sym (owner_mapped t v.atoms.owners slack.variable) ∙ e));
    value = λ n x o h. m.value n x (owned_terms t v.atoms.owners n x o) h;
  }

  -- A literal of an atom with this place bounds the variable, by the factor of the place.
  abbrev pub States : Lit → Slack → ℕ → Side → Pair Number → Type 0
  States l slack y side b =
      (x : IsBound s (literal_at t l) y side b) × (x.factor ≡ number_of slack.factor) × (relation_by slack.kind l.positive ≡ Some x.constraint.relation)

  states_limit : (l : Lit) (slack : Slack) → slack_in v.atoms.slack_list l.term ≡ Some slack → (x : Limit) → Contains (limits_by slack l) x → States l slack x.variable (side_in x.side) x.value
  states_limit l slack there x c =
      let p = (is.right.are_slacked l.term slack there).is in
      let says = limit_says slack l (relation_by slack.kind l.positive) x c in (
        record {
          constraint = with_relation says.0 p.constraint;
          says = reads (term_at t l.term) l.positive p.constraint slack.kind says.0 p.says p.kind says.1;
          form = p.form;
          has = p.has;
          factor = number_of slack.factor;
          multiple = subst (λ y. IsMultiple s p.form (number_of slack.factor) y) (sym says.2.variable) (multiple slack p.form p.is);
          constant = number_of slack.constant;
          constant_is = sym p.is.constant;
          on_side = says.2.on_side;
          is = says.2.value ∙ (λ i. record { base = p.is.bound i; tilt = tilt_by (side_in x.side) (is_strict says.0) });
        },
        refl,
        says.1,
      )

  module _ (fits : SimplexFits v) where
    states_bound : (b : Bound) → Contains v.bounds.held b → (slack : Slack) → slack_in v.atoms.slack_list b.literal.term ≡ Some slack
        → States b.literal slack b.variable (side_in b.side) (pair_of b.value)
    states_bound b c slack there =
        let stated = All-contains (IsStatedBound v.atoms.slack_list) v.bounds.held b (bounds_stated v.atoms.slack_list v.theory.held v.bounds.held fits.bounds_are) c in
        let same : stated.slack ≡ slack = same_Some stated.slack slack (sym stated.there ∙ there) in
        states_limit b.literal slack there (limit_of b) (subst (λ p. Contains (limits_by p b.literal) (limit_of b)) same stated.states)

    -- the strongest bound on a side
    pub states_strongest : (side : CodeSide) (y : ℕ) (b : Bound) → strongest side y v.bounds.held ≡ Some b → (slack : Slack) → slack_in v.atoms.slack_list b.literal.term ≡ Some slack
        → States b.literal slack y (side_in side) (pair_of b.value)
    states_strongest side y b e slack there =
        let h = strongest_is_held side y v.bounds.held b e in
        subst (λ z. States b.literal slack z (side_in side) (pair_of b.value)) h.2
        (subst (λ z. States b.literal slack b.variable (side_in z) (pair_of b.value)) h.1 (states_bound b h.0 slack there))

    -- the literal of the strongest bound is held
    pub strongest_by_held : (side : CodeSide) (y : ℕ) (b : Bound) → strongest side y v.bounds.held ≡ Some b → Contains (literals_held t v.theory) (literal_at t b.literal)
    strongest_by_held side y b e =
        to_image (literal_at t) v.theory.held b.literal
        (held_literal v.atoms.slack_list v.theory.held v.bounds.held fits.bounds_are b (strongest_is_held side y v.bounds.held b e).0)

    -- a literal states the bound on a side
    on_a_side : (side : CodeSide) (y : ℕ) (b : Pair Number) → value_in (strongest side y v.bounds.held) ≡ Some b
        → (l : Literal) × Contains (literals_held t v.theory) l × IsBound s l y (side_in side) b
    on_a_side side y b e = by (strongest side y v.bounds.held) refl e
      where
        by : (o : Option Bound) → strongest side y v.bounds.held ≡ o → value_in o ≡ Some b → (l : Literal) × Contains (literals_held t v.theory) l × IsBound s l y (side_in side) b
        by None f g = absurd (cc)
        by (Some x) f g =
            let h = strongest_is_held side y v.bounds.held x f in
            let stated = All-contains (IsStatedBound v.atoms.slack_list) v.bounds.held x (bounds_stated v.atoms.slack_list v.theory.held v.bounds.held fits.bounds_are) h.0 in (
              literal_at t x.literal,
              strongest_by_held side y x f,
              subst (IsBound s (literal_at t x.literal) y (side_in side)) (same_Some (pair_of x.value) b g) (states_strongest side y x f stated.slack stated.there).0,
            )

    -- on each side
    pub stated_by_held : (y : ℕ) (side : Side) (b : Pair Number) → bound_on side (ranges_in v.bounds.held y) ≡ Some b → (l : Literal) × Contains (literals_held t v.theory) l × IsBound s l y side b
    stated_by_held y lower b e = on_a_side Lower y b e
    stated_by_held y upper b e = on_a_side Upper y b e

    -- the bounds that are held are those of held literals
    abbrev pub are_bounds : (ts : List Term) → All (λ (l : Lit). Contains ts (term_at t l.term)) v.theory.held → AreBounds ts s (ranges_in v.bounds.held)
    are_bounds ts atoms = record {
      literals = literals_held t v.theory;
      atoms = All-map (λ (l : Literal). Contains ts l.atom) (literal_at t) v.theory.held atoms;
      stated = stated_by_held;
    }
