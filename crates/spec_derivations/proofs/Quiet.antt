-- Where propagation is quiet, all that is derived from what holds holds.
use Rattle.std.proofs.Common.{◌≡◌, ◌≢◌, ◌⊎◌, List, [], ◌∷◌, ◌++◌, Contains, inl, inr, sym, ◌∙◌, subst}
use Rattle.std.proofs.lemmas.List.Elements.{Contains-push_cases}
use Rattle.spec_proofs.specs.Resolution.{Derives, given, unit, Conflicts, false_clause, both_ways}
use Rattle.spec_derivations.specs.Quiet.{ImpliesNothing, IsQuiet, IsConsistent}

-- Literals of any kind: their complements, and that two are one or not.
module _ {L : Type 0} (negation : L → L) (decide : (l m : L) → (l ≡ m) ⊎ (l ≢ m)) (premises : List (List L)) (start held : List L) (quiet : IsQuiet negation premises held) (consistent : IsConsistent negation held) (started : (l : L) → Contains start l → Contains held l) where
  -- what is derived holds
  pub derived_holds : (l : L) → Derives negation premises start l → Contains held l
  derived_holds _ (given l i) = started l i
  derived_holds _ (unit c l c_in l_in rest) = elim (quiet c c_in) [
    | inl s ↦ elim (decide s.0 l) [
      | inl e ↦ subst (λ (x : L). Contains held x) e s.2
      | inr d ↦ absurd (consistent s.0 s.2 (derived_holds (negation s.0) (rest s.0 s.1 d)))
    ]
    | inr s ↦ elim (decide s.0 l) [
      | inl e ↦ absurd (s.6 (derived_holds (negation s.1) (rest s.1 s.3 (λ d. s.4 (e ∙ sym d)))))
      | inr d ↦ absurd (s.5 (derived_holds (negation s.0) (rest s.0 s.2 d)))
    ]
  ]

  -- and no conflict comes
  pub none_conflicts : Conflicts negation premises start → ⊥
  none_conflicts (both_ways l d e) = consistent l (derived_holds l d) (derived_holds (negation l) e)
  none_conflicts (false_clause c c_in all) = elim (quiet c c_in) [
    | inl s ↦ consistent s.0 s.2 (derived_holds (negation s.0) (all s.0 s.1))
    | inr s ↦ s.5 (derived_holds (negation s.0) (all s.0 s.2))
  ]

-- a clause more from which nothing follows
pub inert_keeps : {L : Type 0} (negation : L → L) (premises : List (List L)) (held : List L) (c : List L) → IsQuiet negation premises held → ImpliesNothing negation held c → IsQuiet negation (premises ++ c ∷ []) held
inert_keeps negation premises held c quiet s d d_in = elim (Contains-push_cases premises c d d_in) [ inl old ↦ quiet d old | inr e ↦ subst (λ x. ImpliesNothing negation held x) e s ]

-- fewer clauses
pub quiet_fewer : {L : Type 0} (negation : L → L) (more fewer : List (List L)) (held : List L) → ((c : List L) → Contains fewer c → Contains more c) → IsQuiet negation more held → IsQuiet negation fewer held
quiet_fewer negation more fewer held within quiet d d_in = quiet d (within d d_in)
