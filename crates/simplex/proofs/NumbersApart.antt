-- Numbers of terms where shared terms have those of their heads.
use Rattle.std.proofs.Common.{◌≡◌, ℕ, ◌⊎◌, inl, inr, Bool, true, false, cond, List, [], ◌∷◌, length, map, All, Contains, Option, Some, None, refl, sym, ◌∙◌, ap, subst, true≢false}
use Rattle.std.proofs.lemmas.List.Elements.{All-head, All-tail, All-contains}
use Rattle.std.proofs.lemmas.Option.{none-some, same_Some}
use Rattle.spec_text.proofs.Members.{first, later, cases, none as no_member, to_image, from_image}
use Rattle.spec_numbers.specs.Fractions.{Fraction, IsReduced}
use Rattle.spec_numbers.specs.Bounds.{Overflow}
use Rattle.spec_sorts.specs.Terms.{Term}
use Rattle.spec_sorts.specs.Subterms.{has_term}
use Rattle.spec_sorts.proofs.Members.{has_term-Decides}
use Rattle.spec_arithmetic.specs.Numbers.{number_at, IsLinearOver}
use Rattle.spec_tableaux.specs.Spaces.{Pair}
use Rattle.spec_tableaux.specs.Numbers.{Number, numbers}
use Rattle.spec_tableaux.proofs.Numbers.{number_is}
use Rattle.spec_simplex.specs.Numbers.{HoldsAt}
use Rattle.spec_tableaux.specs.Points.{deltas, point_in, Ranges}
use Rattle.spec_tableaux.specs.Halves.{at_number}
use Rattle.spec_causes.specs.TermTableau.{TermTableau, owner_in}
use Rattle.spec_causes.specs.TermTableau as term_tableaux
use Rattle.spec_causes.specs.Shared.{IsSharedAmong, IsValueOf, AreValuesOf, AreSharedValues}
use Rattle.spec_causes.specs.Bounds.{AreBounds}
use Rattle.spec_causes.specs.Causes.{IsEpsilon, AreWithin, OverflowsAt, evaluating, evaluating_shared}
use Rattle.spec_causes.proofs.Owned.{one_value}
use Rattle.spec_causes.proofs.AtNumbers.{value_at_number}
use Rattle.spec_causes.proofs.SharedNumbers.{same_number, still_hold}
use Rattle.delta_num.specs.declared.delta.Delta.{Delta}
use Rattle.term_core.specs.declared.ids.TermId.{TermId}
use Rattle.term_core.specs.Tables.{TableView, term_at, clause_at, IsIn, AreIn, AreDifferent}
use Rattle.term_core.proofs.Numbers.{same_numbers}
use Rattle.proof_log.specs.Theories.{literals_held}
use Rattle.simplex_bounds.specs.Deltas.{pair_of}
use Rattle.simplex_check.proofs.Points.{deltas_are_ordered as o}
use Rattle.simplex_atoms.specs.Owners.{owner_at}
use Rattle.simplex_atoms.specs.TermTableauViews.{owner_meant, TellsOwners}
use Rattle.simplex_atoms.proofs.Numbered.{owner_mapped}
use Rattle.simplex_atoms.proofs.Coming.{term_owned}
use Rattle.simplex_explain.proofs.Owners.{absent}
use Rattle.simplex_numbers.specs.Values.{flat, KeepsApart}
use Rattle.simplex.specs.Views.{SimplexView, IsOf}
use Rattle.simplex.specs.Values.{TellsValues}
use Rattle.simplex.specs.Numbers.{IsNumberWith, OverflowsNumberWith, HoldApart}
use Rattle.simplex.specs.Coming.{term_tableau_of}
use Rattle.simplex.proofs.TermNumbers.{number_in, numbers_owned, number_is_in}
use Rattle.simplex.proofs.TellingValues.{value_at_slack}

-- terms have their own numbers, but the shared ones those of their heads
abbrev pub number_apart : (Term → Number) → List Term → Term → Fraction
number_apart n us u = cond (has_term us u) (number_at (λ w. (n w).fraction) u) (n u).fraction

-- the value of a listed term
value_among : (s : TermTableau) (us : List Term) (ps : List (Pair Number)) → AreValuesOf s us ps → (u : Term) → Contains us u → (p : Pair Number) × Contains ps p × IsValueOf s u p
value_among s [] ps h u c = absurd (no_member u c)
value_among s (w ∷ us) [] h u c = absurd h
value_among s (w ∷ us) (p ∷ ps) h u c = elim (cases w us u c) [
  | inl e ↦ (p, first p ps, subst (λ x. IsValueOf s x p) e h.0)
  | inr rest ↦ let r = value_among s us ps h.1 u rest in (r.0, later p ps r.0 r.1, r.2)
]

-- listed values are those of shared terms
pub shared_values_are : (ts : List Term) (s : TermTableau) (us : List Term) (ps : List (Pair Number)) → AreValuesOf s us ps → All (IsSharedAmong ts) us → AreSharedValues ts s ps
shared_values_are ts s [] [] h all p c = absurd (no_member p c)
shared_values_are ts s [] (q ∷ qs) h all p c = absurd h
shared_values_are ts s (u ∷ us) [] h all p c = absurd h
shared_values_are ts s (u ∷ us) (q ∷ qs) h all p c = elim (cases q qs p c) [
  | inl e ↦ record { term = u; shared = All-head (IsSharedAmong ts) u us all; value = subst (IsValueOf s u) e h.0 }
  | inr rest ↦ shared_values_are ts s us qs h.1 (All-tail (IsSharedAmong ts) u us all) p rest
]

-- values that are kept apart, and are one number, are one
kept_one : (e : Number) (ps : List (Pair Number)) → KeepsApart e ps → (x y : Pair Number) → Contains ps x → Contains ps y → at_number e x ≡ at_number e y → x ≡ y
kept_one e ps k x y a b same = by (deltas.less x y) refl (deltas.less y x) refl
  where
    by : (q : Bool) → deltas.less x y ≡ q → (r : Bool) → deltas.less y x ≡ r → x ≡ y
    by true less r h = absurd (k x y a b (λ one. true≢false (sym less ∙ ap (deltas.less x) (sym one) ∙ o.less_irreflexive x)) same)
    by false h true less = absurd (k x y a b (λ one. true≢false (sym less ∙ ap (deltas.less y) one ∙ o.less_irreflexive y)) same)
    by false h false l = o.less_total x y h l

module _ (t : TableView) (v : SimplexView) (unique : AreDifferent t.terms) (is : IsOf v t) where
  tells : TellsOwners t v.atoms.owners
  tells = (unique, is.right.owners_in)

  abbrev tableau_here : TermTableau
  tableau_here = term_tableau_of t v

  -- the variable that means a term does so by its number
  owner_of : (y : ℕ) (u : Term) → owner_in tableau_here.owners y ≡ Some u → (id : TermId) × (owner_at v.atoms.owners y ≡ Some id) × (term_at t id ≡ u)
  owner_of y u k = by (owner_at v.atoms.owners y) refl (sym (owner_mapped t v.atoms.owners y) ∙ k)
    where
      by : (p : Option TermId) → owner_at v.atoms.owners y ≡ p → owner_meant t p ≡ Some u → (id : TermId) × (owner_at v.atoms.owners y ≡ Some id) × (term_at t id ≡ u)
      by None h m = absurd (none-some u m)
      by (Some id) h m = (id, h, same_Some (term_at t id) u m)

  -- no two variables stand for one term
  once : (y z : ℕ) (w : Term) → owner_in tableau_here.owners y ≡ Some w → owner_in tableau_here.owners z ≡ Some w → y ≡ z
  once y z w a b =
      let i = owner_of y w a in
      is.right.once y z i.0 i.1 (term_owned t v.atoms.owners i.0 tells (is.right.owners_in y i.0 i.1) z (b ∙ ap Some (sym i.2)))

  module _ (e : Number) where
    abbrev own : Term → Number
    own = number_in t v e

    variables_have : term_tableaux.AreOwned tableau_here.owners own (λ y. at_number e (point_in v.assignment.values y))
    variables_have y u k = let i = owner_of y u k in numbers_owned t v e unique is y i.0 i.1 ∙ ap own i.2

    others_have : (u : Term) → ((y : ℕ) → owner_in tableau_here.owners y ≡ Some u → ⊥) → own u ≡ numbers.zero
    others_have u none = ap (λ (p : Pair Number). p.base) (absent t v.atoms.owners (λ y. flat (at_number e (point_in v.assignment.values y))) u
        (λ y id k same. none y (owner_mapped t v.atoms.owners y ∙ ap (owner_meant t) k ∙ ap Some same)))

    -- a linear term has the number of its value
    valued : (u : Term) (p : Pair Number) → IsLinearOver t.symbols u → IsValueOf tableau_here u p → number_at (λ w. (own w).fraction) u ≡ (at_number e p).fraction
    valued u p linear value = value_at_number e tableau_here own variables_have others_have t.symbols u p linear value

    module _ (us : List Term) (linear : All (IsLinearOver t.symbols) us) where
      abbrev given : Term → Fraction
      given = number_apart own us

      listed : (u : Term) → Contains us u → given u ≡ number_at (λ w. (own w).fraction) u
      listed u c = ap (λ b. cond b (number_at (λ w. (own w).fraction) u) (own u).fraction) ((has_term-Decides us u).1 c)

      listed_value : (u : Term) (p : Pair Number) → Contains us u → IsValueOf tableau_here u p → given u ≡ (at_number e p).fraction
      listed_value u p c value = listed u c ∙ valued u p (All-contains (IsLinearOver t.symbols) us u linear c) value

      unlisted : (u : Term) → (Contains us u → ⊥) → given u ≡ (own u).fraction
      unlisted u out = by (has_term us u) refl
        where
          by : (b : Bool) → has_term us u ≡ b → cond b (number_at (λ w. (own w).fraction) u) (own u).fraction ≡ (own u).fraction
          by true h = absurd (out ((has_term-Decides us u).0 h))
          by false h = refl

      -- each has its own number, or that of its head
      each : (u : Term) → (given u ≡ (own u).fraction) ⊎ (given u ≡ number_at (λ w. (own w).fraction) u)
      each u = by (has_term us u)
        where
          by : (b : Bool) → (cond b (number_at (λ w. (own w).fraction) u) (own u).fraction ≡ (own u).fraction)
              ⊎ (cond b (number_at (λ w. (own w).fraction) u) (own u).fraction ≡ number_at (λ w. (own w).fraction) u)
          by true = inr refl
          by false = inl refl

      module _ (ps : List (Pair Number)) (values : AreValuesOf tableau_here us ps) where
        all_reduced : (u : Term) → IsReduced (given u)
        all_reduced u = by (has_term us u) refl
          where
            by : (b : Bool) → has_term us u ≡ b → IsReduced (cond b (number_at (λ w. (own w).fraction) u) (own u).fraction)
            by true h =
                let c = (has_term-Decides us u).0 h in
                let x = value_among tableau_here us ps values u c in
                subst IsReduced (sym (valued u x.0 (All-contains (IsLinearOver t.symbols) us u linear c) x.2)) (at_number e x.0).reduced
            by false h = (own u).reduced

        own_value : (u : Term) (p : Pair Number) → Contains us u → IsValueOf tableau_here u p → Contains ps p
        own_value u p c value =
            let x = value_among tableau_here us ps values u c in
            subst (Contains ps) (one_value tableau_here u x.0 p once x.2 value) x.1

        pub hold_apart : (ts : List Term) (xs : List Fraction) → KeepsApart e ps → All (HoldsAt (λ u. (own u).fraction)) (literals_held t v.theory) → xs ≡ map given ts → HoldApart t v ts us xs
        hold_apart ts xs keeps hold are = record {
          number = given;
          reduced = all_reduced;
          hold = still_hold given (λ u. (own u).fraction) each (literals_held t v.theory) hold;
          apart = λ u w a b p q x y. (
            λ same. kept_one e ps keeps p q (own_value u p a x) (own_value w q b y)
                (number_is (at_number e p) (at_number e q) (sym (listed_value u p a x) ∙ same ∙ listed_value w q b y)),
            λ same. listed_value u p a x ∙ ap (λ z. (at_number e z).fraction) same ∙ sym (listed_value w q b y),
          );
          heads = λ u c. listed u c ∙ sym (same_number given (λ w. (own w).fraction) each u);
          are = are;
        }

    -- the number that the code gives
    module _ (ids : List TermId) (ds : List Delta) (values : AreValuesOf tableau_here (clause_at t ids) (map pair_of ds)) (told : ℕ → Option Delta) (telling : TellsValues told ids ds (length ids)) where
      told_value : (id : TermId) (d : Delta) → told id.0 ≡ Some d → Contains (clause_at t ids) (term_at t id) × IsValueOf tableau_here (term_at t id) (pair_of d)
      told_value id d h =
          let x = telling.tells id.0 d h in
          (to_image (term_at t) ids id (x.0, x.1, x.2), value_at_slack t tableau_here ids ds values x.0 id d x.1 x.2 x.3)

      not_told : (id : TermId) → AreIn t ids → IsIn t id → told id.0 ≡ None → Contains (clause_at t ids) (term_at t id) → ⊥
      not_told id all there h c =
          let x = from_image (term_at t) ids (term_at t id) c in
          let same : x.0 ≡ id = same_numbers t unique x.0 id (All-contains (IsIn t) ids x.0 all x.1) there x.2 in
          let slack = subst (Contains ids) same x.1 in
          telling.tells_all slack.0 id slack.1 slack.2 h

      pub number_is_apart : All (IsLinearOver t.symbols) (clause_at t ids) → AreIn t ids → (id : TermId) → IsIn t id → (q : Number) → IsNumberWith e v id (told id.0) q
          → q.fraction ≡ number_apart (number_in t v e) (clause_at t ids) (term_at t id)
      number_is_apart linear all id there q h = by (told id.0) refl h
        where
          by : (r : Option Delta) → told id.0 ≡ r → IsNumberWith e v id r q → q.fraction ≡ number_apart (number_in t v e) (clause_at t ids) (term_at t id)
          by None k h =
              ap (λ (x : Number). x.fraction) (number_is_in t v e unique is id q there h)
              ∙ sym (unlisted (clause_at t ids) linear (term_at t id) (not_told id all there k))
          by (Some d) k h =
              let x = told_value id d k in
              ap (λ (x : Number). x.fraction) h ∙ sym (listed_value (clause_at t ids) linear (term_at t id) (pair_of d) x.0 x.1)

      -- its overflow
      pub evaluating_overflows : (ts : List Term) → All (IsSharedAmong ts) (clause_at t ids) → (ranges : Ranges) → AreBounds ts tableau_here ranges → AreWithin ranges (point_in v.assignment.values)
          → IsEpsilon ranges (point_in v.assignment.values) (map pair_of ds) e → (id : TermId) (o : Overflow) → OverflowsNumberWith e v (told id.0) o → OverflowsAt ts tableau_here o
      evaluating_overflows ts shared ranges bounds within epsilon id o h = by (told id.0) refl h
        where
          kept : AreSharedValues ts tableau_here (map pair_of ds)
          kept = shared_values_are ts tableau_here (clause_at t ids) (map pair_of ds) values shared

          by : (r : Option Delta) → told id.0 ≡ r → OverflowsNumberWith e v r o → OverflowsAt ts tableau_here o
          by None k h = evaluating ranges bounds within (map pair_of ds) kept e epsilon (h t)
          by (Some d) k h =
              let x = told_value id d k in
              evaluating_shared ranges bounds within (map pair_of ds) kept e epsilon (pair_of d)
              (record { term = term_at t id; shared = All-contains (IsSharedAmong ts) (clause_at t ids) (term_at t id) shared x.0; value = x.1 }) h
