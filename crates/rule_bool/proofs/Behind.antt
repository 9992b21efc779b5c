-- What may come after a term, by the numbers of its arguments.
use Rattle.std.proofs.Common.{◌≡◌, ◌≢◌, ℕ, ◌+◌, ◌<◌, Bool, true, false, List, [], ◌∷◌, ◌++◌, map, length, get_or, take, Contains, sym, ap, ◌∙◌, subst}
use Rattle.std.specs.Prelude.{MatchBool}
use Rattle.std.proofs.lemmas.List.{map_more, map-append, get_or-map, length-map}
use Rattle.std.proofs.lemmas.List.Elements.{All-contains}
use Rattle.spec_text.proofs.Members.{to_image, from_image, only}
use Rattle.spec_sorts.specs.Terms.{Term}
use Rattle.spec_sorts.specs.Terms.{no_term}
use Rattle.spec_sorts.specs.Literals.{Clause}
use Rattle.spec_rules.specs.Schemes.{signed_term}
use Rattle.term_core.specs.declared.ids.TermId.{TermId}
use Rattle.term_core.specs.Tables.{TableView, term_at, IsIn, AreIn, AreDifferent, clause_at}
use Rattle.term_core.proofs.Numbers.{same_numbers}
use Rattle.clause_literals.specs.Polarities.{IsSigned, HasNoSign}

-- terms are one where they are with a sign
pub signed_apart : (p : Bool) (t u : Term) → signed_term p t ≡ signed_term p u → t ≡ u
signed_apart true t u e = e
signed_apart false t u e = cc

-- lists of one
one_is : {X : Type 0} (x y : X) → x ∷ [] ≡ y ∷ [] → x ≡ y
one_is x y e = cc

module _ (t : TableView) where
  module _ (p : Bool) (arguments ids : List TermId) where
    -- other than one literal is none of one
    pub not_any_many : length ids ≢ 1 → Contains (map (λ u. signed_term p u ∷ []) (clause_at t arguments)) (clause_at t ids) → ⊥
    not_any_many many i =
        let u = from_image (λ (x : Term). signed_term p x ∷ []) (clause_at t arguments) (clause_at t ids) i in
        many (sym (length-map ids (term_at t)) ∙ sym (ap (λ (xs : Clause). length xs) u.2))

    module _ (id : TermId) (e : ids ≡ id ∷ []) where
      -- a term without that sign
      pub not_any_signed : HasNoSign p (term_at t id) → Contains (map (λ u. signed_term p u ∷ []) (clause_at t arguments)) (clause_at t ids) → ⊥
      not_any_signed none i =
          let u = from_image (λ (x : Term). signed_term p x ∷ []) (clause_at t arguments) (clause_at t ids) i in
          none u.0 (sym (one_is _ _ (u.2 ∙ ap (clause_at t) e)))

      module _ (b : TermId) (is : IsSigned t p (term_at t id) b) where
        -- an argument
        pub is_any : Contains arguments b → Contains (map (λ u. signed_term p u ∷ []) (clause_at t arguments)) (clause_at t ids)
        is_any has = subst (λ (c : Clause). Contains (map (λ (x : Term). signed_term p x ∷ []) (clause_at t arguments)) c)
            ((λ i. sym is.same i ∷ []) ∙ sym (ap (clause_at t) e))
            (to_image (λ (x : Term). signed_term p x ∷ []) (clause_at t arguments) (term_at t b) (to_image (term_at t) arguments b has))

        -- no argument
        pub not_any : AreDifferent t.terms → AreIn t arguments → (Contains arguments b → ⊥) → Contains (map (λ u. signed_term p u ∷ []) (clause_at t arguments)) (clause_at t ids) → ⊥
        not_any differ arguments_in lacks i =
            let u = from_image (λ (x : Term). signed_term p x ∷ []) (clause_at t arguments) (clause_at t ids) i in
            let a = from_image (term_at t) arguments u.0 u.1 in
            let same = signed_apart p u.0 (term_at t b) (one_is _ _ (u.2 ∙ ap (clause_at t) e) ∙ is.same) in
            lacks (subst (λ (x : TermId). Contains arguments x) (same_numbers t differ a.0 b (All-contains (IsIn t) arguments a.0 arguments_in a.1) is.there (a.2 ∙ same)) a.1)

        -- whether it is an argument
        pub any_by : AreDifferent t.terms → AreIn t arguments → (yes : Bool) → MatchBool yes (Contains arguments b) (Contains arguments b → ⊥)
            → MatchBool yes (Contains (map (λ u. signed_term p u ∷ []) (clause_at t arguments)) (clause_at t ids)) (Contains (map (λ u. signed_term p u ∷ []) (clause_at t arguments)) (clause_at t ids) → ⊥)
        any_by differ arguments_in true has = is_any has
        any_by differ arguments_in false lacks = not_any differ arguments_in lacks

  module _ (p : Bool) (arguments ids : List TermId) (k : ℕ) (d : TermId) (in_arguments : k < length arguments) (in_ids : k < length ids) where
    -- the argument of a place
    argument_at : get_or (clause_at t arguments) k no_term ≡ term_at t (get_or arguments k d)
    argument_at = get_or-map (term_at t) arguments k d no_term in_arguments

    -- one literal more is as wanted
    pub each_more : signed_term p (get_or (clause_at t arguments) k no_term) ≡ term_at t (get_or ids k d)
        → map (signed_term p) (clause_at t (take k arguments)) ≡ clause_at t (take k ids) → map (signed_term p) (clause_at t (take (k + 1) arguments)) ≡ clause_at t (take (k + 1) ids)
    each_more e h = ap (map (signed_term p)) (map_more (term_at t) arguments k d in_arguments) ∙ map-append (signed_term p) (clause_at t (take k arguments)) (term_at t (get_or arguments k d) ∷ [])
        ∙ (λ j. h j ++ (sym (ap (signed_term p) argument_at) ∙ e) j ∷ []) ∙ sym (map_more (term_at t) ids k d in_ids)

    -- a literal that is not as wanted
    pub not_each : signed_term p (get_or (clause_at t arguments) k no_term) ≢ term_at t (get_or ids k d)
        → Contains (map (signed_term p) (clause_at t arguments) ∷ []) (clause_at t ids) → ⊥
    not_each differ i = differ (sym (get_or-map (signed_term p) (clause_at t arguments) k no_term no_term (rw length-map in_arguments))
        ∙ ap (λ (xs : Clause). get_or xs k no_term) (only _ _ i) ∙ get_or-map (term_at t) ids k d no_term in_ids)
