-- Values of arguments that are taken, one after the other.
use Rattle.std.proofs.Common.{◌≡◌, ℕ, ◌+◌, ◌<◌, ◌≤◌, true, true≢false, List, [], ◌∷◌, ◌++◌, length, get_or, drop, map, All, Contains, refl, sym, ap, ◌∙◌, subst, append_assoc, inl, inr, arith}
use Rattle.std.specs.Prelude.{Result, Ok, Err}
use Rattle.std.proofs.lemmas.List.{drop_more, append-nil, map-append, length_push, get_or_push, get_or_append_left}
use Rattle.std.proofs.lemmas.List.Elements.{Contains-get_or, All-append, All-cons}
use Rattle.std.proofs.lemmas.Bool.{cases_lt}
use Rattle.std.proofs.Math.ListN.{drop_of_length-le}
use Rattle.spec_numbers.specs.Bounds.{Overflow}
use Rattle.spec_text.specs.Answers.{◌>>=◌}
use Rattle.spec_text.proofs.Members.{to_image}
use Rattle.spec_sorts.specs.Terms.{Head, Parameter, Term, of, terms_of, sort_of}
use Rattle.spec_sorts.specs.Values.{Value, Interpretation}
use Rattle.spec_sorts.specs.BoundedValues.{bounded_head, bounded_value, bounded_values}
use Rattle.spec_sorts.specs.Subsets.{arguments_of}
use Rattle.term_core.specs.declared.ids.TermId.{TermId}
use Rattle.term_core.specs.Tables.{TableView, AreIn, AreDifferent, term_at, clause_at, takes}
use Rattle.term_walks.specs.declared.values.Value.{Value as CodeValue}
use Rattle.term_walks.specs.declared.valuation.KnownValue.{KnownValue}
use Rattle.term_walks.specs.Valuations.{value_meant, values_meant}
use Rattle.term_walks.specs.Orders.{number_term, In, Ascends, IsOrder, IsAmongFirst, HasArgumentsBefore}
use Rattle.term_walks.specs.KnownValues.{known_meant, AreKnownValues}
use Rattle.term_walks.proofs.Among.{in_place, at_in}
use Rattle.term_walks.proofs.Places.{falls_before, one_place}
use Rattle.term_walks.proofs.Named.{arguments_are}

-- what is made, before what comes
abbrev pub with_front : List Value → Result (List Value) Overflow → Result (List Value) Overflow
with_front made (Ok vs) = Ok (made ++ vs)
with_front made (Err o) = Err o

pub front_none : (made : List Value) (r : Result (List Value) Overflow) → made ≡ [] → with_front made r ≡ r
front_none made (Ok vs) e = ap (λ l. Ok (l ++ vs)) e
front_none made (Err o) e = refl

front_more : (made : List Value) (v : Value) (r : Result (List Value) Overflow) → with_front made (r >>= λ vs. Ok (v ∷ vs)) ≡ with_front (made ++ v ∷ []) r
unfolding ◌>>=◌
front_more made v (Ok vs) = ap Ok (sym (append_assoc made (v ∷ []) vs))
front_more made v (Err o) = refl

value_front : (i : Interpretation) (made : List Value) (u : Term) (us : List Term) (v : Value) → Ok v ≡ bounded_value i [] u
    → with_front made (bounded_values i [] (terms_of (u ∷ us))) ≡ with_front (made ++ v ∷ []) (bounded_values i [] (terms_of us))
unfolding ◌>>=◌ bounded_values
value_front i made u us v e = ap (λ a. with_front made (a >>= λ v. bounded_values i [] (terms_of us) >>= λ vs. Ok (v ∷ vs))) (sym e) ∙ front_more made v (bounded_values i [] (terms_of us))

wide_front : (i : Interpretation) (made : List Value) (u : Term) (us : List Term) (o : Overflow) → Err o ≡ bounded_value i [] u
    → with_front made (bounded_values i [] (terms_of (u ∷ us))) ≡ Err o
unfolding ◌>>=◌ bounded_values
wide_front i made u us o e = ap (λ a. with_front made (a >>= λ v. bounded_values i [] (terms_of us) >>= λ vs. Ok (v ∷ vs))) (sym e)

module _ (t : TableView) (i : Interpretation) (ids : List TermId) (k : ℕ) (d : TermId) (lt : k < length ids) where
  abbrev id : TermId
  id = get_or ids k d

  -- what is left begins with the next
  next : (made : List Value) → with_front made (bounded_values i [] (terms_of (clause_at t (drop k ids)))) ≡ with_front made (bounded_values i [] (terms_of (term_at t id ∷ clause_at t (drop (k + 1) ids))))
  next made =
      ap (λ l. with_front made (bounded_values i [] (terms_of (clause_at t l)))) (drop_more ids k d lt)

  pub take_more : (made new : List CodeValue) (v : CodeValue) → Ok (value_meant t.sorts v) ≡ bounded_value i [] (term_at t id) → new ≡ made ++ v ∷ []
      → with_front (values_meant t.sorts made) (bounded_values i [] (terms_of (clause_at t (drop k ids)))) ≡ with_front (values_meant t.sorts new) (bounded_values i [] (terms_of (clause_at t (drop (k + 1) ids))))
  take_more made new v e pushed =
      next (values_meant t.sorts made)
      ∙ value_front i (values_meant t.sorts made) (term_at t id) (clause_at t (drop (k + 1) ids)) (value_meant t.sorts v) e
      ∙ ap (λ l. with_front l (bounded_values i [] (terms_of (clause_at t (drop (k + 1) ids))))) (sym (map-append (value_meant t.sorts) made (v ∷ [])))
      ∙ ap (λ l. with_front (values_meant t.sorts l) (bounded_values i [] (terms_of (clause_at t (drop (k + 1) ids))))) (sym pushed)

  pub take_wide : (made : List CodeValue) (o : Overflow) → Err o ≡ bounded_value i [] (term_at t id) → with_front (values_meant t.sorts made) (bounded_values i [] (terms_of (clause_at t (drop k ids)))) ≡ Err o
  take_wide made o e = next (values_meant t.sorts made) ∙ wide_front i (values_meant t.sorts made) (term_at t id) (clause_at t (drop (k + 1) ids)) o e

pub take_end : (t : TableView) (i : Interpretation) (ids : List TermId) (k : ℕ) (made : List CodeValue) → length ids ≤ k
    → with_front (values_meant t.sorts made) (bounded_values i [] (terms_of (clause_at t (drop k ids)))) ≡ Ok (values_meant t.sorts made)
unfolding bounded_values
take_end t i ids k made le = ap (λ l. with_front (values_meant t.sorts made) (bounded_values i [] (terms_of (clause_at t l)))) (drop_of_length-le ids le) ∙ ap Ok (append-nil (values_meant t.sorts made))

-- something more is known, of the next
pub known_push : (t : TableView) (i : Interpretation) (order : List ℕ) (ks new : List KnownValue) (x : KnownValue) (at : ℕ) → new ≡ ks ++ x ∷ [] → length ks ≡ at → AreKnownValues t i order ks
    → known_meant t.sorts x ≡ bounded_value i [] (number_term t (get_or order at 0)) → AreKnownValues t i order new
known_push t i order ks new x at e long are last j d lt =
    let within : j < length ks + 1 = subst (λ m. j < m) (ap length e ∙ length_push ks x) lt in
    elim (cases_lt j (length ks)) [
      | inl low ↦ ap (λ l. known_meant t.sorts (get_or l j d)) e ∙ ap (known_meant t.sorts) (get_or_append_left ks (x ∷ []) d j low) ∙ are j d low
      | inr high ↦
          let here : j ≡ length ks = omega (arith, within, high) in
          ap (λ l. known_meant t.sorts (get_or l j d)) e ∙ ap (known_meant t.sorts) (get_or_push ks x d j (sym here)) ∙ last ∙ ap (λ m. bounded_value i [] (number_term t (get_or order m 0))) (sym long ∙ sym here)
    ]

-- the arguments of the next of an order are before it
pub ready : (t : TableView) (root : ℕ) (order : List ℕ) (at : ℕ) → IsOrder t root order → at < length order → HasArgumentsBefore t order at (get_or order at 0)
ready t root order at o lt u i =
    let a = o.closed (get_or order at 0) u (at_in order at lt) i in
    let p = in_place a.0 order a.1 in
    (p.0, falls_before order o.ascends p.0 at p.1 (subst (λ n. n < get_or order at 0) (sym p.2) a.2), p.1, o.there (get_or order p.0 0) (at_in order p.0 p.1), ap (number_term t) p.2 ∙ a.3)

-- so their numbers do
pub numbers_among_first : (t : TableView) (order : List ℕ) (count k : ℕ) (h : Head) (ids : List TermId) → AreDifferent t.terms → HasArgumentsBefore t order count k → number_term t k ≡ of h (clause_at t ids) → AreIn t ids
    → All (λ (id : TermId). IsAmongFirst order count id.0) ids
numbers_among_first t order count k h ids apart are means within j d lt =
    let id = get_or ids j d in
    let here : Contains (arguments_of (number_term t k)) (term_at t id) = subst (λ l. Contains l (term_at t id)) (sym (arguments_are t k h (clause_at t ids) means)) (to_image (term_at t) ids id (Contains-get_or ids j d lt)) in
    let p = are (term_at t id) here in
    (p.0, p.1, p.2, apart (get_or order p.0 0) id.0 p.3 (within j d lt) p.4)

-- the place that is found is before so many
pub place_before : (order : List ℕ) (count n place : ℕ) → Ascends order → IsAmongFirst order count n → place < length order → get_or order place 0 ≡ n → place < count
place_before order count n place a s lt same = subst (λ m. m < count) (one_place order a s.0 place s.2 lt (s.3 ∙ sym same)) s.1

pub among_order : (order : List ℕ) (count n : ℕ) → IsAmongFirst order count n → In n order
among_order order count n s = subst (λ m. In m order) s.3 (at_in order s.0 s.2)

-- the value by the head at the arguments' values
pub by_head : (i : Interpretation) (h : Head) (ts : List Term) → takes h (map sort_of ts) ≡ true → bounded_value i [] (of h ts) ≡ (bounded_values i [] (terms_of ts) >>= λ vs. bounded_head i h vs)
unfolding bounded_value bounded_values ◌>>=◌
by_head i (Parameter k s) [] e = refl
by_head i (Parameter k s) (u ∷ us) e = absurd (true≢false (sym e))
by_head i h ts e = refl

pub value_made : (i : Interpretation) (h : Head) (ts : List Term) (u : Term) (vs : List Value) (a : Result Value Overflow) → takes h (map sort_of ts) ≡ true → u ≡ of h ts
    → Ok vs ≡ bounded_values i [] (terms_of ts) → a ≡ bounded_head i h vs → a ≡ bounded_value i [] u
unfolding ◌>>=◌
value_made i h ts u vs a fits means e is = is ∙ ap (λ r. r >>= λ vs. bounded_head i h vs) e ∙ sym (by_head i h ts fits) ∙ ap (bounded_value i []) (sym means)

pub wide_made : (i : Interpretation) (h : Head) (ts : List Term) (u : Term) (o : Overflow) → takes h (map sort_of ts) ≡ true → u ≡ of h ts
    → Err o ≡ bounded_values i [] (terms_of ts) → (let r : Result Value Overflow = Err o in r) ≡ bounded_value i [] u
unfolding ◌>>=◌
wide_made i h ts u o fits means e = ap (λ r. r >>= λ vs. bounded_head i h vs) e ∙ sym (by_head i h ts fits) ∙ ap (bounded_value i []) (sym means)

-- the term of the whole walk is among all
pub root_among_first : (t : TableView) (root : ℕ) (order : List ℕ) (count : ℕ) → IsOrder t root order → length order ≤ count → IsAmongFirst order count root
root_among_first t root order count o le = let p = in_place root order o.root_there in (p.0, omega (arith, p.1, le), p.1, p.2)

-- what holds of each, and of one more
pub all_push : {A : Type 0} (P : A → Type 0) (xs new : List A) (x : A) → new ≡ xs ++ x ∷ [] → All P xs → P x → All P new
all_push P xs new x e all h = subst (All P) (sym e) (All-append P xs (x ∷ []) all (All-cons P x [] h (λ k d lt. absurd (omega (arith, lt)))))
