-- Places of literals along a trail.
use Rattle.std.proofs.Common.{◌≡◌, ℕ, ◌+◌, ◌<◌, ◌≤◌, List, length, get_or, take, Contains, ◌⊎◌, inl, inr, sym, ap, ◌∙◌, arith}
use Rattle.std.proofs.lemmas.Bool.{cases_lt}
use Rattle.std.proofs.lemmas.List.{get_or-take, length-take-le, get_or_default}
use Rattle.term_core.specs.declared.ids.Lit.{Lit}
use Rattle.sat_trail.specs.Trails.{TrailView, no_lit, VariablesAreApart}
use Rattle.conflict_learn.specs.Conflicts.{IsFalseAt}

-- the place of a literal that is in a list
pub place_of : (xs : List Lit) (l : Lit) → Contains xs l → (k : ℕ) × (k < length xs) × (get_or xs k no_lit ≡ l)
place_of xs l (k, lt, e) = (k, lt, get_or_default xs k no_lit l lt ∙ e)

-- the place of one that is in a prefix
pub early_place : (xs : List Lit) (p : ℕ) (l : Lit) → p ≤ length xs → Contains (take p xs) l → (k : ℕ) × (k < p) × (k < length xs) × (get_or xs k no_lit ≡ l)
early_place xs p l le (k, lt, e) =
    let small : k < p = omega (arith, lt, length-take-le p xs le) in
    let within : k < length xs = omega (arith, small, le) in
    (k, small, within, get_or_default xs k no_lit l within ∙ sym (get_or-take p xs k l small) ∙ e)

-- a place from another on is that one or a later one
pub later_or_here : (at p : ℕ) → at ≤ p → (at + 1 ≤ p) ⊎ (p ≡ at)
later_or_here at p le = elim (cases_lt at p) [ inl lt ↦ inl (omega (arith, lt)) | inr ge ↦ inr (omega (arith, le, ge)) ]

module _ (v : TrailView) (once : VariablesAreApart v.literals) where
  -- one variable has one place
  pub same_place : (p q : ℕ) → p < length v.literals → q < length v.literals → (get_or v.literals p no_lit).term.0 ≡ (get_or v.literals q no_lit).term.0 → p ≡ q
  same_place p q pl ql e = elim (cases_lt p q) [
    | inl lt ↦ absurd (once p q no_lit lt ql (λ i. record { 0 = e i }))
    | inr le ↦ elim (cases_lt q p) [ inl gt ↦ absurd (once q p no_lit gt pl (λ i. record { 0 = sym e i })) | inr ge ↦ omega (arith, le, ge) ]
  ]

  -- so a literal is false since one level
  pub one_level : (m : Lit) (a b : ℕ) → IsFalseAt v m a → IsFalseAt v m b → a ≡ b
  one_level m a b f g =
      let same : f.place ≡ g.place = same_place f.place g.place f.within g.within (ap (λ (x : Lit). x.term.0) (f.there ∙ sym g.there)) in
      sym f.level ∙ ap (λ (k : ℕ). get_or v.levels k 0) same ∙ g.level
