-- Values by variable: one more, one less, and what they tell of literals.
use Rattle.std.proofs.Common.{◌≡◌, ◌≢◌, ℕ, suc, ◌+◌, ◌<◌, ◌≤◌, ◌==◌, not, Bool, true, false, List, [], ◌∷◌, ◌++◌, length, get_or, set, take, map, Contains, Option, Some, None, ◌⊎◌, inl, inr, refl, sym, ap, ◌∙◌, subst, arith, true≢false}
use Rattle.std.specs.List.{AllPairs, list_any}
use Rattle.std.specs.Bool.{beq}
use Rattle.std.proofs.lemmas.Bool.{cases_eq, cases_lt}
use Rattle.std.proofs.lemmas.Bool.Decides.{Decides-eqb}
use Rattle.std.proofs.lemmas.List.{length-append, length_push, length-set, length-map, get_or-set_same, get_or-set_other, get_or-map, get_or_append_left, get_or_past, get_or_push, take_at, take-take}
use Rattle.std.proofs.lemmas.List.Elements.{Contains-push, Contains-push_cases, Contains-append_left, Contains-get_or}
use Rattle.std.proofs.lemmas.Map.Steps.{length-le_from_distinct_below}
use Rattle.std.proofs.lemmas.Map.Made.{IsDistinct-from_AllPairs, is_member-Decides}
use Rattle.term_core.specs.declared.ids.TermId.{TermId}
use Rattle.term_core.specs.declared.ids.Lit.{Lit}
use Rattle.term_core.proofs.Numbers.{same_id}
use Rattle.clause_literals.specs.Literals.{lit_complement}
use Rattle.sat_trail.specs.Trails.{no_lit, VariablesAreApart, IsUnassigned, HasValue}
use Rattle.sat_trail.specs.Values.{HasValues}
use Rattle.sat_trail.specs.Kept.{by_variable}

-- a variable has a value or none
value_cases : (o : Option Bool) → (o ≡ None) ⊎ ((b : Bool) × (o ≡ Some b))
value_cases None = inl refl
value_cases (Some b) = inr (b, refl)

pub not_some : {X : Type 0} (b : X) → None ≡ Some b → ⊥
not_some b e = cc

some_same : (a b : Bool) → Some a ≡ Some b → a ≡ b
some_same a b e = cc

-- two signs are one or the other
signs : (a b : Bool) → (a ≡ b) ⊎ (a ≡ not b)
signs true true = inl refl
signs true false = inr refl
signs false true = inr refl
signs false false = inl refl

by_term : (l m : Lit) → l.term.0 ≡ m.term.0 → l.positive ≡ m.positive → l ≡ m
by_term l m e f = λ i. record { term = record { 0 = e i }; positive = f i }

abbrev number : Lit → ℕ
number l = l.term.0

module _ (held : List Lit) (values : List (Option Bool)) (h : HasValues held values) where
  -- a variable of which no literal holds has no value
  pub no_value : (l : Lit) → IsUnassigned held l → get_or values l.term.0 None ≡ None
  no_value l o = go (value_cases (get_or values l.term.0 None))
    where
      go : (get_or values l.term.0 None ≡ None) ⊎ ((b : Bool) × (get_or values l.term.0 None ≡ Some b)) → get_or values l.term.0 None ≡ None
      go (inl e) = e
      go (inr (v, e)) = elim (signs v l.positive) [
        | inl s ↦ absurd (o.not_held (h.only l (e ∙ ap Some s)))
        | inr s ↦ absurd (o.not_false (h.only (lit_complement l) (e ∙ ap Some s)))
      ]

  -- a literal that holds has a variable
  pub term_below : (l : Lit) → Contains held l → l.term.0 < length values
  term_below l c = elim (cases_lt l.term.0 (length values)) [
    | inl lt ↦ lt
    | inr le ↦ absurd (not_some l.positive (sym (get_or_past values l.term.0 None le) ∙ h.there l c))
  ]

  -- a literal without a value is of no variable of those that hold
  pub apart_from : (l : Lit) → get_or values l.term.0 None ≡ None → (m : Lit) → Contains held m → m.term.0 ≢ l.term.0
  apart_from l none m c e = not_some m.positive (sym none ∙ ap (λ t. get_or values t None) (sym e) ∙ h.there m c)

  -- one more
  pub push_values : (l : Lit) → l.term.0 < length values → get_or values l.term.0 None ≡ None → HasValues (held ++ l ∷ []) (set values l.term.0 (Some l.positive))
  push_values l lt none = record {
    there = λ m c. there m (Contains-push_cases held l m c);
    only = only;
    once = once;
  }
    where
      there : (m : Lit) → Contains held m ⊎ (l ≡ m) → get_or (set values l.term.0 (Some l.positive)) m.term.0 None ≡ Some m.positive
      there m (inl c) = get_or-set_other values l.term.0 m.term.0 (Some l.positive) None (apart_from l none m c) ∙ h.there m c
      there m (inr e) = subst (λ (x : Lit). get_or (set values l.term.0 (Some l.positive)) x.term.0 None ≡ Some x.positive) e (get_or-set_same values l.term.0 (Some l.positive) None lt)

      only : (m : Lit) → get_or (set values l.term.0 (Some l.positive)) m.term.0 None ≡ Some m.positive → Contains (held ++ l ∷ []) m
      only m e = elim (cases_eq m.term.0 l.term.0) [
        | inl same ↦ subst (Contains (held ++ l ∷ [])) (by_term l m (sym same) (some_same _ _ (sym (get_or-set_same values l.term.0 (Some l.positive) None lt) ∙ ap (λ t. get_or (set values l.term.0 (Some l.positive)) t None) (sym same) ∙ e))) (Contains-push held l)
        | inr other ↦ Contains-append_left held (l ∷ []) m (h.only m (sym (get_or-set_other values l.term.0 m.term.0 (Some l.positive) None other) ∙ e))
      ]

      once : VariablesAreApart (held ++ l ∷ [])
      once i j d ij within = elim (cases_lt j (length held)) [
        | inl lj ↦ λ e. h.once i j d ij lj (sym (ap (λ (x : Lit). x.term) (get_or_append_left held (l ∷ []) d i (omega (arith, ij, lj)))) ∙ e ∙ ap (λ (x : Lit). x.term) (get_or_append_left held (l ∷ []) d j lj))
        | inr le ↦
            let is : j ≡ length held = omega (arith, le, within, length-append held (l ∷ [])) in
            let il : i < length held = omega (arith, ij, is) in
            λ e. apart_from l none (get_or held i d) (Contains-get_or held i d il) (ap (λ (t : TermId). t.0) (sym (ap (λ (x : Lit). x.term) (get_or_append_left held (l ∷ []) d i il)) ∙ e ∙ ap (λ (x : Lit). x.term) (get_or_push held l d j (sym is))))
      ]

  -- no more literals than variables
  pub bounded : length held ≤ length values
  bounded = omega (arith, length-map held number, length-le_from_distinct_below (map number held) (length values) (IsDistinct-from_AllPairs Decides-eqb (map number held) pairs) below)
    where
      pairs : AllPairs (λ (x y : ℕ). x ≢ y) (map number held)
      pairs i j d ij within e =
          let jl : j < length held = omega (arith, within, length-map held number) in
          h.once i j no_lit ij jl (same_id _ _ (sym (get_or-map number held i no_lit d (omega (arith, ij, jl))) ∙ e ∙ get_or-map number held j no_lit d jl))

      below : (q : ℕ) → list_any (◌==◌ q) (map number held) ≡ true → q < length values
      below q e = go ((is_member-Decides Decides-eqb (map number held) q).0 e)
        where
          go : Contains (map number held) q → q < length values
          go (i, lt, is) =
              let il : i < length held = omega (arith, lt, length-map held number) in
              subst (λ (t : ℕ). t < length values) (sym (get_or-map number held i no_lit q il) ∙ is) (term_below (get_or held i no_lit) (Contains-get_or held i no_lit il))

  -- no literal holds with its complement
  pub consistent_by : (l : Lit) → Contains held l → Contains held (lit_complement l) → ⊥
  consistent_by l a b = other l.positive (some_same l.positive (not l.positive) (sym (h.there l a) ∙ h.there (lit_complement l) b))
    where
      other : (s : Bool) → s ≡ not s → ⊥
      other true e = true≢false e
      other false e = true≢false (sym e)

  -- a variable's value gives its literal's
  pub told_none : (l : Lit) → get_or values l.term.0 None ≡ None → IsUnassigned held l
  told_none l e = record { not_held = λ c. apart_from l e l c refl; not_false = λ c. apart_from l e (lit_complement l) c refl }

  pub told_some : (l : Lit) (s : Bool) → get_or values l.term.0 None ≡ Some s → HasValue held l (Some (beq s l.positive))
  told_some l s e = go (signs s l.positive)
    where
      go : (s ≡ l.positive) ⊎ (s ≡ not l.positive) → HasValue held l (Some (beq s l.positive))
      go (inl is) = subst (λ (b : Bool). HasValue held l (Some b)) (sym (same s l.positive is)) (h.only l (e ∙ ap Some is))
        where
          same : (a b : Bool) → a ≡ b → beq a b ≡ true
          same true true e = refl
          same false false e = refl
          same true false e = absurd (true≢false e)
          same false true e = absurd (true≢false (sym e))
      go (inr is) = subst (λ (b : Bool). HasValue held l (Some b)) (sym (differ s l.positive is)) (h.only (lit_complement l) (e ∙ ap Some is))
        where
          differ : (a b : Bool) → a ≡ not b → beq a b ≡ false
          differ true false e = refl
          differ false true e = refl
          differ true true e = absurd (true≢false e)
          differ false false e = absurd (true≢false (sym e))

  -- a variable more
  pub grown_values : HasValues held (values ++ None ∷ [])
  grown_values = record {
    there = λ l c. get_or_append_left values (None ∷ []) None l.term.0 (term_below l c) ∙ h.there l c;
    only = λ l e. h.only l (sym (same l.term.0) ∙ e);
    once = h.once;
  }
    where
      same : (k : ℕ) → get_or (values ++ None ∷ []) k None ≡ get_or values k None
      same k = elim (cases_lt k (length values)) [
        | inl lt ↦ get_or_append_left values (None ∷ []) None k lt
        | inr le ↦ elim (cases_eq (length values) k) [
          | inl is ↦ get_or_push values None None k is ∙ sym (get_or_past values k None le)
          | inr other ↦ get_or_past (values ++ None ∷ []) k None (omega (arith, le, other, length_push values None)) ∙ sym (get_or_past values k None le)
        ]
      ]

-- one less
pub pop_values : (front held : List Lit) (l : Lit) (values : List (Option Bool)) → held ≡ front ++ l ∷ [] → HasValues held values → HasValues front (set values l.term.0 None)
pop_values front held l values e g = record {
  there = λ m c. get_or-set_other values l.term.0 m.term.0 None None (apart m c) ∙ h.there m (Contains-append_left front (l ∷ []) m c);
  only = only;
  once = λ i j d ij within q. h.once i j d ij (omega (arith, within, length-append front (l ∷ []))) (ap (λ (x : Lit). x.term) (get_or_append_left front (l ∷ []) d i (omega (arith, ij, within))) ∙ q ∙ sym (ap (λ (x : Lit). x.term) (get_or_append_left front (l ∷ []) d j within)));
}
  where
    h : HasValues (front ++ l ∷ []) values
    h = subst (λ (x : List Lit). HasValues x values) e g

    apart : (m : Lit) → Contains front m → m.term.0 ≢ l.term.0
    apart m (i, lt, is) q = h.once i (length front) m lt (omega (arith, length-append front (l ∷ []))) (same_id _ _ (ap number (get_or_append_left front (l ∷ []) m i lt ∙ is) ∙ q ∙ sym (ap number (get_or_push front l m (length front) refl))))

    gone : get_or (set values l.term.0 None) l.term.0 None ≡ None
    gone = elim (cases_lt l.term.0 (length values)) [
      | inl lt ↦ get_or-set_same values l.term.0 None None lt
      | inr le ↦ get_or_past (set values l.term.0 None) l.term.0 None (omega (arith, le, length-set values l.term.0 None))
    ]

    only : (m : Lit) → get_or (set values l.term.0 None) m.term.0 None ≡ Some m.positive → Contains front m
    only m q = elim (cases_eq m.term.0 l.term.0) [
      | inl same ↦ absurd (not_some m.positive (sym gone ∙ ap (λ t. get_or (set values l.term.0 None) t None) (sym same) ∙ q))
      | inr other ↦ elim (Contains-push_cases front l m (h.only m (sym (get_or-set_other values l.term.0 m.term.0 None None other) ∙ q))) [
        | inl c ↦ c
        | inr is ↦ absurd (other (ap number (sym is)))
      ]
    ]

-- what is by variable, where a literal more gets its own
pub pushed_map : {X : Type 0} → (held : List Lit) (l : Lit) (xs : List X) (y d : X) → l.term.0 < length xs → ((m : Lit) → Contains held m → m.term.0 ≢ l.term.0)
    → by_variable (set xs l.term.0 y) d (held ++ l ∷ []) ≡ by_variable xs d held ++ y ∷ []
pushed_map [] l xs y d lt apart = λ i. get_or-set_same xs l.term.0 y d lt i ∷ []
pushed_map (m ∷ ms) l xs y d lt apart = λ i. get_or-set_other xs l.term.0 m.term.0 y d (apart m (0, omega arith, refl)) i ∷ pushed_map ms l xs y d lt (λ n c. apart n (suc c.0, omega (arith, c.1), c.2)) i

-- what is by variable, with a variable more
pub grown_map : {X : Type 0} → (held : List Lit) (xs : List X) (y d : X) → ((l : Lit) → Contains held l → l.term.0 < length xs) → by_variable (xs ++ y ∷ []) d held ≡ by_variable xs d held
grown_map [] xs y d h = refl
grown_map (m ∷ ms) xs y d h = λ i. get_or_append_left xs (y ∷ []) d m.term.0 (h m (0, omega arith, refl)) i ∷ grown_map ms xs y d (λ n c. h n (suc c.0, omega (arith, c.1), c.2)) i

-- what is by variable, of the literal of a place
pub at_place : {X : Type 0} → (held : List Lit) (xs : List X) (n : ℕ) (d e : X) (l : Lit) → n < length held → l ≡ get_or held n l → get_or xs l.term.0 d ≡ get_or (by_variable xs d held) n e
at_place held xs n d e l lt is = ap (λ (m : Lit). get_or xs m.term.0 d) is ∙ sym (get_or-map (λ (m : Lit). get_or xs m.term.0 d) held n l e lt)

pub front_less : (xs front whole : List Lit) (l : Lit) → xs ≡ front ++ l ∷ [] → xs ≡ take (length xs) whole → front ≡ take (length front) whole
front_less xs front whole l e t =
    let n : length xs ≡ length front + 1 = ap length e ∙ length_push front l in
    sym (take_at front (l ∷ []) (length front) refl) ∙ ap (take (length front)) (sym e ∙ t) ∙ take-take (length front) (length xs) whole (omega (arith, n))

pub last_below : (xs front : List Lit) (l : Lit) (values : List (Option Bool)) → HasValues xs values → xs ≡ front ++ l ∷ [] → l.term.0 < length values
last_below xs front l values h e = term_below xs values h l (subst (λ (x : List Lit). Contains x l) (sym e) (Contains-push front l))
