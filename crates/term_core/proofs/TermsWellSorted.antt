-- The terms of a table are well sorted, where their parameters have sorts.
use Rattle.std.proofs.Common.{◌≡◌, true, ◌&&◌, List, [], ◌∷◌, map, Contains, refl, ap, ◌∙◌}
use Rattle.std.proofs.lemmas.Bool.{false≢true}
use Rattle.spec_text.proofs.Members.{first, later}
use Rattle.spec_sorts.specs.Terms.{Sort, Truth, Number, Symbol, Head, True, False, Not, And, Or, Xor, Implies, Equal, Ite, Minus, Plus, Times, Divide, Less, AtMost, Literal, Apply, Parameter, Term, Terms, app, nil, cons, list_of, sort_of, sorts_of, head_takes, is_sorted, are_sorted}
use Rattle.spec_sorts.specs.WellSorted.{AllHeads, AllHeadsIn, IsHeadOver, IsWellSorted}
use Rattle.spec_sorts.specs.Subsets.{IsClosed}
use Rattle.spec_sorts.proofs.General.{sorts_listed}
use Rattle.term_core.specs.Tables.{takes, IsParameterAmong}

-- what a head takes in a table, it takes where its parameter is one
takes_among : (ps : List Sort) (h : Head) (ss : List Sort) → IsParameterAmong ps h → takes h ss ≡ true → head_takes ps h ss ≡ true
takes_among ps True [] p e = e
takes_among ps False [] p e = e
takes_among ps Not (Truth ∷ []) p e = e
takes_among ps And (s ∷ ss) p e = e
takes_among ps Or (s ∷ ss) p e = e
takes_among ps Xor (Truth ∷ Truth ∷ []) p e = e
takes_among ps Implies (Truth ∷ Truth ∷ []) p e = e
takes_among ps Equal (s ∷ t ∷ []) p e = e
takes_among ps Ite (Truth ∷ s ∷ t ∷ []) p e = e
takes_among ps Minus (Number ∷ []) p e = e
takes_among ps Minus (Number ∷ Number ∷ []) p e = e
takes_among ps Plus (s ∷ ss) p e = e
takes_among ps Times (s ∷ ss) p e = e
takes_among ps Divide (Number ∷ Number ∷ []) p e = e
takes_among ps Less (Number ∷ Number ∷ []) p e = e
takes_among ps AtMost (Number ∷ Number ∷ []) p e = e
takes_among ps (Literal q) [] p e = e
takes_among ps (Apply f) ss p e = e
takes_among ps (Parameter k s) [] p e = p
takes_among ps _ _ p e = absurd (false≢true e)

-- a list of terms that is closed, whose heads are over symbols and take their arguments
module _ (symbols : List Symbol) (ps : List Sort) (terms : List Term) (closed : IsClosed terms)
    (taken : (h : Head) (ts : Terms) → Contains terms (app h ts) → takes h (map sort_of (list_of ts)) ≡ true)
    (over : (h : Head) (ts : Terms) → Contains terms (app h ts) → IsHeadOver symbols h) where
  mutual
    unfolding is_sorted are_sorted AllHeads AllHeadsIn

    pub well_sorted : (t : Term) → Contains terms t → AllHeads (IsParameterAmong ps) t → IsWellSorted symbols ps t
    well_sorted (app h ts) c p =
        let k = are_well_sorted ts (λ u u_in. closed (app h ts) c u u_in) p.1 in
        let here : head_takes ps h (sorts_of ts) ≡ true = ap (head_takes ps h) (sorts_listed ts) ∙ takes_among ps h (map sort_of (list_of ts)) p.0 (taken h ts c) in
        record { sorted = (λ j. here j && k.0 j); heads = (over h ts c, k.1) }

    are_well_sorted : (ts : Terms) → ((u : Term) → Contains (list_of ts) u → Contains terms u) → AllHeadsIn (IsParameterAmong ps) ts → (are_sorted ps ts ≡ true) × AllHeadsIn (IsHeadOver symbols) ts
    are_well_sorted nil there p = (refl, tt)
    are_well_sorted (cons t ts) there p =
        let this = well_sorted t (there t (first t (list_of ts))) p.0 in
        let rest = are_well_sorted ts (λ u c. there u (later t (list_of ts) u c)) p.1 in
        ((λ j. this.sorted j && rest.0 j), (this.heads, rest.1))
