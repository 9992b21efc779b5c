-- Where reasons lead from a place on.
use Rattle.std.proofs.Common.{◌≡◌, ◌≢◌, ℕ, ◌+◌, ◌<◌, ◌≤◌, inl, inr, Bool, true, false, List, ◌∷◌, length, get_or, drop, Option, Some, None, sym, ap, ◌∙◌, subst}
use Rattle.std.proofs.lemmas.List.{drop_more, drop_all}
use Rattle.spec_sorts.specs.Terms.{Term}
use Rattle.std.specs.Prelude.{MatchBool}
use Rattle.spec_equality.specs.Reasons.{equal, Joins, Lead}
use Rattle.term_core.specs.declared.ids.TermId.{TermId}
use Rattle.term_core.specs.Tables.{TableView, IsIn, AreDifferent, term_at}

-- an equality joins a term with one other alone
one_next : (e from next other : Term) → Joins (Some e) from next → Joins (Some e) from other → next ≡ other
one_next e from next other (inl a) (inl b) = cc
one_next e from next other (inl a) (inr b) = cc
one_next e from next other (inr a) (inl b) = cc
one_next e from next other (inr a) (inr b) = cc

module _ (rs : List (Option Term)) (to : Term) where
  module _ (k : ℕ) (from : Term) (lt : k < length rs) where
    opened : Lead (drop k rs) from to → Lead (get_or rs k None ∷ drop (k + 1) rs) from to
    opened h = subst (λ (xs : List (Option Term)). Lead xs from to) (drop_more rs k None lt) h

    -- no reason, or one without that term, leads nowhere
    pub no_reason : get_or rs k None ≡ None → Lead (drop k rs) from to → ⊥
    no_reason none h =
        let w = opened h in
        elim w.1 [
          | inl e ↦ let n : None ≡ Some (equal from w.0) = sym none ∙ e in cc
          | inr e ↦ let n : None ≡ Some (equal w.0 from) = sym none ∙ e in cc
        ]

    module _ (e : Term) (is : get_or rs k None ≡ Some e) where
      pub no_next : ((next : Term) → Joins (Some e) from next → ⊥) → Lead (drop k rs) from to → ⊥
      no_next nowhere h = let w = opened h in nowhere w.0 (subst (λ (r : Option Term). Joins r from w.0) is w.1)

      module _ (next : Term) (joins : Joins (Some e) from next) where
        -- what leads on from the next term leads from this one
        pub led_by : Lead (drop (k + 1) rs) next to → Lead (drop k rs) from to
        led_by h = subst (λ (xs : List (Option Term)). Lead xs from to) (sym (drop_more rs k None lt)) (next, subst (λ (r : Option Term). Joins r from next) (sym is) joins, h)

        pub led_on : Lead (drop k rs) from to → Lead (drop (k + 1) rs) next to
        led_on h =
            let w = opened h in
            subst (λ (t : Term). Lead (drop (k + 1) rs) t to) (sym (one_next e from next w.0 joins (subst (λ (r : Option Term). Joins r from w.0) is w.1))) w.2

  module _ (k : ℕ) (from : Term) (le : length rs ≤ k) where
    -- no reasons lead to the term itself
    pub led_to : from ≡ to → Lead (drop k rs) from to
    led_to e = subst (λ (xs : List (Option Term)). Lead xs from to) (sym (drop_all k rs le)) e

    pub led_there : Lead (drop k rs) from to → from ≡ to
    led_there h = subst (λ (xs : List (Option Term)). Lead xs from to) (drop_all k rs le) h

-- where no reasons are left, the answer is whether the term is reached
pub led_end : (t : TableView) (rs : List (Option Term)) (k : ℕ) (current to from : TermId) → length rs ≤ k → AreDifferent t.terms → IsIn t current → IsIn t to
    → (Lead (drop k rs) (term_at t current) (term_at t to) → Lead rs (term_at t from) (term_at t to)) → (Lead rs (term_at t from) (term_at t to) → Lead (drop k rs) (term_at t current) (term_at t to))
    → (b : Bool) → MatchBool b (current ≡ to) (current ≢ to) → MatchBool b (Lead rs (term_at t from) (term_at t to)) (Lead rs (term_at t from) (term_at t to) → ⊥)
led_end t rs k current to from le differ here there led left true same = led (led_to rs (term_at t to) k (term_at t current) le (ap (term_at t) same))
led_end t rs k current to from le differ here there led left false other = λ h.
    let number : ℕ → TermId = λ n. record { 0 = n } in
    other (ap number (differ current.0 to.0 here there (led_there rs (term_at t to) k (term_at t current) le (left h))))
