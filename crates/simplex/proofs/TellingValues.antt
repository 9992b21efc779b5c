-- Values by the numbers of their terms, as a table gets them.
use Rattle.std.proofs.Common.{◌≡◌, ℕ, zero, suc, ◌+◌, ◌<◌, ◌≤◌, ◌⊎◌, inl, inr, Bool, true, false, cond, List, [], ◌∷◌, length, map, get_or, Option, Some, None, nat_eq, refl, sym, ◌∙◌, ap, subst, arith, true≢false}
use Rattle.std.proofs.lemmas.Bool.{cases_lt, eqb-true, eq-eqb}
use Rattle.std.proofs.lemmas.List.{get_or_default}
use Rattle.std.proofs.lemmas.Option.{none-some, same_Some}
use Rattle.spec_causes.specs.TermTableau.{TermTableau}
use Rattle.spec_causes.specs.Shared.{IsValueOf, AreValuesOf}
use Rattle.delta_num.specs.declared.delta.Delta.{Delta}
use Rattle.term_core.specs.declared.ids.TermId.{TermId}
use Rattle.term_core.specs.Tables.{TableView, term_at, clause_at}
use Rattle.term_core.proofs.Numbers.{same_id}
use Rattle.simplex_bounds.specs.Deltas.{pair_of}
use Rattle.simplex.specs.Values.{TellsValues}

-- nothing is given
pub tells_none : (told : ℕ → Option Delta) (ids : List TermId) (values : List Delta) → ((q : ℕ) → told q ≡ None) → TellsValues told ids values 0
tells_none told ids values none = record {
  tells = λ q d e. absurd (none-some d (sym (none q) ∙ e));
  tells_all = λ k id lt. absurd (omega (arith, lt));
}

-- one more is given
module _ (old new : ℕ → Option Delta) (ids : List TermId) (values : List Delta) (n : ℕ) (id : TermId) (d : Delta) (there : n < length ids) (id_is : id ≡ get_or ids n id) (d_is : d ≡ get_or values n d)
    (updates : (q : ℕ) → new q ≡ cond (nat_eq id.0 q) (Some d) (old q)) (tells : TellsValues old ids values n) where
  abbrev TellsOne : ℕ → Delta → Type 0
  TellsOne q x = (k : ℕ) × (k < n + 1) × (get_or ids k (record { 0 = q }) ≡ record { 0 = q }) × (get_or values k x ≡ x)

  tells_one : (q : ℕ) (x : Delta) → new q ≡ Some x → (b : Bool) → nat_eq id.0 q ≡ b → TellsOne q x
  tells_one q x e true here =
      let own : id ≡ record { 0 = q } = same_id id (record { 0 = q }) (eqb-true id.0 q here) in
      let same : d ≡ x = same_Some d x (sym (ap (λ b. cond b (Some d) (old q)) here) ∙ sym (updates q) ∙ e) in (
        n,
        omega arith,
        subst (λ (i : TermId). get_or ids n i ≡ i) own (sym id_is),
        subst (λ (y : Delta). get_or values n y ≡ y) same (sym d_is),
      )
  tells_one q x e false other =
      let was = tells.tells q x (sym (ap (λ b. cond b (Some d) (old q)) other) ∙ sym (updates q) ∙ e) in
      let lt = was.1 in
      (was.0, omega (arith, lt), was.2, was.3)

  tells_each : (k : ℕ) (i : TermId) → k < n + 1 → get_or ids k i ≡ i → new i.0 ≡ None → (b : Bool) → nat_eq id.0 i.0 ≡ b → (k < n) ⊎ (n ≤ k) → ⊥
  tells_each k i lt at none true here side = none-some d (sym none ∙ updates i.0 ∙ ap (λ b. cond b (Some d) (old i.0)) here)
  tells_each k i lt at none false other (inl before) = tells.tells_all k i before at (sym (ap (λ b. cond b (Some d) (old i.0)) other) ∙ sym (updates i.0) ∙ none)
  tells_each k i lt at none false other (inr last) =
      let slack : k ≡ n = omega (arith, lt, last) in
      let same : id ≡ i = id_is ∙ get_or_default ids n id i there ∙ ap (λ m. get_or ids m i) (sym slack) ∙ at in
      absurd (true≢false (sym (eq-eqb id.0 i.0 (ap (λ (x : TermId). x.0) same)) ∙ other))

  pub tells_more : TellsValues new ids values (n + 1)
  tells_more = record {
    tells = λ q x e. tells_one q x e (nat_eq id.0 q) refl;
    tells_all = λ k i lt at none. tells_each k i lt at none (nat_eq id.0 i.0) refl (cases_lt k n);
  }

-- there is a value for each term
pub values_length : (t : TableView) (s : TermTableau) (ids : List TermId) (ds : List Delta) → AreValuesOf s (clause_at t ids) (map pair_of ds) → length ids ≡ length ds
values_length t s [] [] h = refl
values_length t s (id ∷ ids) (d ∷ ds) h = ap suc (values_length t s ids ds h.1)
values_length t s [] (d ∷ ds) h = absurd h
values_length t s (id ∷ ids) [] h = absurd h

-- the value at the place of a term is its own
pub value_at_slack : (t : TableView) (s : TermTableau) (ids : List TermId) (ds : List Delta) → AreValuesOf s (clause_at t ids) (map pair_of ds) → (k : ℕ) (id : TermId) (d : Delta) → k < length ids
    → get_or ids k id ≡ id → get_or ds k d ≡ d → IsValueOf s (term_at t id) (pair_of d)
value_at_slack t s [] ds h k id d lt a b = absurd (omega (arith, lt))
value_at_slack t s (i ∷ ids) [] h k id d lt a b = absurd h
value_at_slack t s (i ∷ ids) (x ∷ ds) h zero id d lt a b = subst (λ (y : Delta). IsValueOf s (term_at t id) (pair_of y)) b (subst (λ (j : TermId). IsValueOf s (term_at t j) (pair_of x)) a h.0)
value_at_slack t s (i ∷ ids) (x ∷ ds) h (suc k) id d lt a b = value_at_slack t s ids ds h.1 k id d (omega (arith, lt)) a b
