-- That base clauses are over subterms.
use Rattle.std.proofs.Common.{◌≡◌, ℕ, ◌<◌, Bool, true, false, ◌&&◌, cond, List, [], ◌∷◌, length, get_or, map, Contains, inl, inr, refl, sym, subst, arith}
use Rattle.std.specs.Prelude.{slice_index_or}
use Rattle.std.specs.List.{AllByRecursion}
use Rattle.std.proofs.lemmas.Bool.{false≢true, and_parts}
use Rattle.std.proofs.lemmas.List.{length-map}
use Rattle.std.proofs.lemmas.List.Elements.{All-contains, All-from_recursion, Contains-append_left, Contains-append_cases, Contains-get_or}
use Rattle.spec_text.proofs.Members.{first, cases, none, from_flat, from_image}
use Rattle.spec_sorts.specs.Terms.{Head, Not, Xor, Implies, Equal, Ite, Sort, Truth, Term, app, nil, cons, list_of, sort_of, all_same, same_head, head_takes, no_term}
use Rattle.spec_sorts.specs.Subterms.{subterms_of}
use Rattle.spec_sorts.specs.Subsets.{AreAmong, IsClosed}
use Rattle.spec_sorts.specs.Literals.{Clause, Literal, literal_of, literals_of}
use Rattle.spec_proofs.specs.declared.ArgumentLiteral.{ArgumentLiteral}
use Rattle.spec_proofs.specs.declared.Rest.{Rest}
use Rattle.spec_proofs.specs.declared.Rest.TheVariants.{Nothing, One, Two, AnyOne, Each, Innermost}
use Rattle.spec_rules.specs.Schemes.{Scheme, schemes, signed_term, side_of, innermost, rests_of, is_formula_of, clauses_by}
use Rattle.spec_derivations.specs.Problems.{Problem, terms_of_problem, subterms_in}
use Rattle.spec_derivations.specs.Base.{clauses_of, base_clauses}

-- so many sorts as a head takes
implies_two : (g : Head) (ss : List Sort) → same_head Implies g ≡ true → head_takes [] g ss ≡ true → length ss ≡ 2
implies_two Implies (Truth ∷ Truth ∷ []) e f = refl
implies_two Implies ss e f = absurd (false≢true f)
implies_two _ ss e f = absurd (false≢true e)

equal_two : (g : Head) (ss : List Sort) → same_head Equal g ≡ true → head_takes [] g ss ≡ true → length ss ≡ 2
equal_two Equal (s ∷ t ∷ []) e f = refl
equal_two Equal ss e f = absurd (false≢true f)
equal_two _ ss e f = absurd (false≢true e)

xor_two : (g : Head) (ss : List Sort) → same_head Xor g ≡ true → head_takes [] g ss ≡ true → length ss ≡ 2
xor_two Xor (Truth ∷ Truth ∷ []) e f = refl
xor_two Xor ss e f = absurd (false≢true f)
xor_two _ ss e f = absurd (false≢true e)

ite_three : (g : Head) (ss : List Sort) → same_head Ite g ≡ true → head_takes [] g ss ≡ true → length ss ≡ 3
ite_three Ite (Truth ∷ s ∷ t ∷ []) e f = refl
ite_three Ite ss e f = absurd (false≢true f)
ite_three _ ss e f = absurd (false≢true e)

-- the places that are named are there
abbrev HasPlaces : ℕ → Rest → Type 0
HasPlaces n (One x) = x.place < n
HasPlaces n (Two x y) = (x.place < n) × (y.place < n)
HasPlaces n r = Unit {0}

-- among the arguments of each term that has the scheme's head
abbrev NamesPlaces : Scheme → Type 0
NamesPlaces s = (g : Head) (ss : List Sort) → same_head s.head g ≡ true → head_takes [] g ss ≡ true → HasPlaces (length ss) s.rest

names_places : AllByRecursion NamesPlaces schemes
names_places = (
  λ g ss e f. tt,
  (
    λ g ss e f. tt,
    (
      λ g ss e f. tt,
      (
        λ g ss e f. tt,
        (
          λ g ss e f. tt,
          (
            λ g ss e f. tt,
            (
              λ g ss e f. let n = implies_two g ss e f in (omega (arith, n), omega (arith, n)),
              (
                λ g ss e f. let n = implies_two g ss e f in omega (arith, n),
                (
                  λ g ss e f. let n = implies_two g ss e f in omega (arith, n),
                  (
                    λ g ss e f. let n = equal_two g ss e f in (omega (arith, n), omega (arith, n)),
                    (
                      λ g ss e f. let n = equal_two g ss e f in (omega (arith, n), omega (arith, n)),
                      (
                        λ g ss e f. let n = equal_two g ss e f in (omega (arith, n), omega (arith, n)),
                        (
                          λ g ss e f. let n = equal_two g ss e f in (omega (arith, n), omega (arith, n)),
                          (
                            λ g ss e f. let n = xor_two g ss e f in (omega (arith, n), omega (arith, n)),
                            (
                              λ g ss e f. let n = xor_two g ss e f in (omega (arith, n), omega (arith, n)),
                              (
                                λ g ss e f. let n = xor_two g ss e f in (omega (arith, n), omega (arith, n)),
                                (
                                  λ g ss e f. let n = xor_two g ss e f in (omega (arith, n), omega (arith, n)),
                                  (
                                    λ g ss e f. let n = ite_three g ss e f in (omega (arith, n), omega (arith, n)),
                                    (
                                      λ g ss e f. let n = ite_three g ss e f in (omega (arith, n), omega (arith, n)),
                                      (
                                        λ g ss e f. let n = ite_three g ss e f in (omega (arith, n), omega (arith, n)),
                                        (
                                          λ g ss e f. let n = ite_three g ss e f in (omega (arith, n), omega (arith, n)),
                                          (
                                            λ g ss e f. tt,
                                            tt,
                                          ),
                                        ),
                                      ),
                                    ),
                                  ),
                                ),
                              ),
                            ),
                          ),
                        ),
                      ),
                    ),
                  ),
                ),
              ),
            ),
          ),
        ),
      ),
    ),
  ),
)

-- a negation has the same atom
signed_atom : (p : Bool) (t : Term) → (literal_of (signed_term p t)).atom ≡ (literal_of t).atom
unfolding literal_of
signed_atom true t = refl
signed_atom false t = refl

module _ (us : List Term) (closed : IsClosed us) where
  -- a term without its nots is among them
  pub bare_among : (t : Term) → Contains us t → Contains us (literal_of t).atom
  unfolding literal_of
  bare_among (app Not (cons t nil)) i = bare_among t (closed (app Not (cons t nil)) i t (first t []))
  bare_among (app Not nil) i = i
  bare_among (app Not (cons t (cons u vs))) i = i
  bare_among (app h ts) i = i

  -- the term's literal is over one of them
  abbrev IsOver : Term → Type 0
  IsOver u = Contains us (literal_of u).atom

  signed_over : (p : Bool) (t : Term) → Contains us t → IsOver (signed_term p t)
  signed_over p t i = subst (λ (x : Term). Contains us x) (sym (signed_atom p t)) (bare_among t i)

  module _ (ts : List Term) (among : (t : Term) → Contains ts t → Contains us t) where
    side_over : (x : ArgumentLiteral) → x.place < length ts → IsOver (side_of ts x)
    side_over x lt = signed_over x.positive (slice_index_or ts x.place no_term) (among (get_or ts x.place no_term) (Contains-get_or ts x.place no_term lt))

    -- what the one argument negates
    innermost_over : (c : Clause) → Contains (innermost ts) c → (u : Term) → Contains c u → IsOver u
    innermost_over c i u j = go ts among i
      where
        go : (xs : List Term) → ((t : Term) → Contains xs t → Contains us t) → Contains (innermost xs) c → IsOver u
        go (app Not (cons t nil) ∷ []) all h = elim (cases (t ∷ []) [] c h) [
          | inl e ↦ elim (cases t [] u (subst (λ (d : Clause). Contains d u) (sym e) j)) [
            | inl f ↦ subst IsOver f (bare_among t (closed (app Not (cons t nil)) (all (app Not (cons t nil)) (first (app Not (cons t nil)) [])) t (first t [])))
            | inr k ↦ absurd (none u k)
          ]
          | inr k ↦ absurd (none c k)
        ]
        go _ all h = absurd (none c h)

    -- each literal after the first term
    rest_over : (r : Rest) → HasPlaces (length ts) r → (c : Clause) → Contains (rests_of r ts) c → (u : Term) → Contains c u → IsOver u
    rest_over Nothing h c i u j = elim (cases [] [] c i) [ inl e ↦ absurd (none u (subst (λ (d : Clause). Contains d u) (sym e) j)) | inr k ↦ absurd (none c k) ]
    rest_over (One x) h c i u j = elim (cases (side_of ts x ∷ []) [] c i) [
      | inl e ↦ elim (cases (side_of ts x) [] u (subst (λ (d : Clause). Contains d u) (sym e) j)) [ inl f ↦ subst IsOver f (side_over x h) | inr k ↦ absurd (none u k) ]
      | inr k ↦ absurd (none c k)
    ]
    rest_over (Two x y) h c i u j = elim (cases (side_of ts x ∷ side_of ts y ∷ []) [] c i) [
      | inl e ↦ elim (cases (side_of ts x) (side_of ts y ∷ []) u (subst (λ (d : Clause). Contains d u) (sym e) j)) [
        | inl f ↦ subst IsOver f (side_over x h.0)
        | inr k ↦ elim (cases (side_of ts y) [] u k) [ inl g ↦ subst IsOver g (side_over y h.1) | inr l ↦ absurd (none u l) ]
      ]
      | inr k ↦ absurd (none c k)
    ]
    rest_over (AnyOne p) h c i u j =
        let x = from_image (λ (t : Term). signed_term p t ∷ []) ts c i in
        elim (cases (signed_term p x.0) [] u (subst (λ (d : Clause). Contains d u) (sym x.2) j)) [ inl f ↦ subst IsOver f (signed_over p x.0 (among x.0 x.1)) | inr k ↦ absurd (none u k) ]
    rest_over (Each p) h c i u j = elim (cases (map (signed_term p) ts) [] c i) [
      | inl e ↦ let x = from_image (signed_term p) ts u (subst (λ (d : Clause). Contains d u) (sym e) j) in subst IsOver x.2 (signed_over p x.0 (among x.0 x.1))
      | inr k ↦ absurd (none c k)
    ]
    rest_over Innermost h c i u j = innermost_over c i u j

  -- each literal of a clause that a term gives
  given_over : (s : Scheme) → NamesPlaces s → (t : Term) → Contains us t → (c : Clause) → Contains (clauses_by s t) c → (u : Term) → Contains c u → IsOver u
  given_over s places (app g ts) t_in c i u j = go (is_formula_of s.head (app g ts)) refl i
    where
      go : (b : Bool) → is_formula_of s.head (app g ts) ≡ b → Contains (cond b (map (λ ls. signed_term s.positive (app g ts) ∷ ls) (rests_of s.rest (list_of ts))) []) c → IsOver u
      go false e h = absurd (none c h)
      go true e h =
          let x = from_image (λ ls. signed_term s.positive (app g ts) ∷ ls) (rests_of s.rest (list_of ts)) c h in
          let all = and_parts (same_head s.head g && head_takes [] g (map sort_of (list_of ts))) (all_same Truth (map sort_of (list_of ts))) e in
          let heads = and_parts (same_head s.head g) (head_takes [] g (map sort_of (list_of ts))) all.0 in
          let there = rw length-map at (places g (map sort_of (list_of ts)) heads.0 heads.1) in
          elim (cases (signed_term s.positive (app g ts)) x.0 u (subst (λ (d : Clause). Contains d u) (sym x.2) j)) [
            | inl f ↦ subst IsOver f (signed_over s.positive (app g ts) t_in)
            | inr k ↦ rest_over (list_of ts) (closed (app g ts) t_in) s.rest there x.0 x.1 u k
          ]

-- each literal of a base clause is over a subterm
pub base_over : ((ts : List Term) → AreAmong ts (subterms_of ts)) → ((ts : List Term) → IsClosed (subterms_of ts)) → (p : Problem) (c : Clause) (l : Literal) → Contains (base_clauses p) c → Contains (literals_of c) l → Contains (subterms_in p) l.atom
base_over there closed p c l i j =
    let terms = terms_of_problem p in
    let u = from_image literal_of c l j in
    let us = subterms_in p in
    let over : Contains us (literal_of u.0).atom = elim (Contains-append_cases (map (λ (t : Term). t ∷ []) p.asserted) _ c i) [
      | inl root ↦
          let t = from_image (λ (t : Term). t ∷ []) p.asserted c root in
          let t_in = there terms t.0 (Contains-append_left p.asserted p.assumed t.0 t.1) in
          elim (cases t.0 [] u.0 (subst (λ (d : Clause). Contains d u.0) (sym t.2) u.1)) [ inl e ↦ subst (IsOver us (closed terms)) e (bare_among us (closed terms) t.0 t_in) | inr k ↦ absurd (none u.0 k) ]
      | inr sub ↦
          let t = from_flat clauses_of us c sub in
          let s = from_flat (λ (s : Scheme). clauses_by s t.0) schemes c t.2 in
          given_over us (closed terms) s.0 (All-contains NamesPlaces schemes s.0 (All-from_recursion NamesPlaces schemes names_places) s.1) t.0 t.1 c s.2 u.0 u.1
    ] in
    subst (λ (x : Literal). Contains us x.atom) u.2 over
