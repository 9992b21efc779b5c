-- Terms that functions and linear arithmetic share, one after the other.
use Rattle.std.proofs.Common.{◌≡◌, ◌≢◌, ◌<◌, ◌+◌, ℕ, Bool, true, false, cond, List, [], ◌∷◌, ◌++◌, length, take, get_or, Contains, inl, inr, refl, sym, ap, ◌∙◌, subst, arith, append_assoc}
use Rattle.std.specs.Prelude.{flat_map, ◌⊎◌}
use Rattle.std.specs.List.{filter}
use Rattle.std.proofs.lemmas.Bool.{false≢true}
use Rattle.std.proofs.lemmas.List.{append-nil, map-append, take_more}
use Rattle.std.proofs.lemmas.List.Elements.{All-nil, All-push, All-append, All-contains, All-filter, All-contains_itself, filter_passes, filter-append, Contains-append_left, Contains-append_right, Contains-append_cases}
use Rattle.spec_text.proofs.Members.{none, first, later, cases, in_flat, from_flat}
use Rattle.spec_sorts.specs.Terms.{Sort, Number, Symbol, Head, Apply, Term, Terms, app, nil, cons, list_of, terms_of, sort_of, same_sort}
use Rattle.spec_sorts.specs.Subsets.{AreAmong}
use Rattle.spec_sorts.proofs.General.{list_of-terms_of}
use Rattle.spec_sorts.proofs.WellSorted.{same_sort_is, same_sort_itself}
use Rattle.spec_causes.specs.Shared.{IsSharedAmong, argument, value}
use Rattle.term_core.specs.declared.ids.TermId.{TermId}
use Rattle.term_core.specs.Tables.{TableView, IsIn, AreIn, term_at, clause_at}
use Rattle.solve_core.specs.Sharing.{AreSharedOf, is_declared, is_real, reals_in, value_over, shared_by, AddsSharedTerms}

-- none came
pub adds_none : (t : TableView) (ids : List TermId) → AddsSharedTerms t ids ids []
adds_none t ids = record { added = []; is = sym (append-nil ids); there = All-nil (IsIn t); are = refl }

-- one more came
pub adds_one : (t : TableView) (old now new : List TermId) (ts : List Term) (id : TermId) → IsIn t id → new ≡ now ++ id ∷ [] → AddsSharedTerms t old now ts → AddsSharedTerms t old new (ts ++ term_at t id ∷ [])
adds_one t old now new ts id here e h = record {
  added = h.added ++ id ∷ [];
  is = e ∙ ap (λ (is : List TermId). is ++ id ∷ []) h.is ∙ append_assoc old h.added (id ∷ []);
  there = All-push (IsIn t) h.added id h.there here;
  are = map-append (term_at t) h.added (id ∷ []) ∙ ap (λ (us : List Term). us ++ term_at t id ∷ []) h.are;
}

-- some came, then others
pub adds_trans : (t : TableView) (old now new : List TermId) (ts us : List Term) → AddsSharedTerms t old now ts → AddsSharedTerms t now new us → AddsSharedTerms t old new (ts ++ us)
adds_trans t old now new ts us f g = record {
  added = f.added ++ g.added;
  is = g.is ∙ ap (λ (is : List TermId). is ++ g.added) f.is ∙ append_assoc old f.added g.added;
  there = All-append (IsIn t) f.added g.added f.there g.there;
  are = map-append (term_at t) f.added g.added ∙ ap (λ (ws : List Term). ws ++ clause_at t g.added) f.are ∙ ap (λ (ws : List Term). ts ++ ws) g.are;
}

-- those of equal lists
pub adds_same : (t : TableView) (old new : List TermId) (ts us : List Term) → ts ≡ us → AddsSharedTerms t old new ts → AddsSharedTerms t old new us
adds_same t old new ts us e h = subst (AddsSharedTerms t old new) e h

-- whether a term is Real
real_is : (s : Sort) → s ≡ Number → same_sort Number s ≡ true
real_is s e = ap (same_sort Number) e ∙ same_sort_itself Number

pub is_a_real : (u : Term) → sort_of u ≡ Number → is_real u ≡ true
is_a_real u e = real_is (sort_of u) e

pub is_no_real : (u : Term) → sort_of u ≢ Number → is_real u ≡ false
is_no_real u other = by (is_real u) refl
  where
    by : (b : Bool) → is_real u ≡ b → is_real u ≡ false
    by false e = e
    by true e = absurd (other (sym (same_sort_is Number (sort_of u) e)))

-- the Real ones up to one more
pub reals_more : (t : TableView) (ids : List TermId) (k : ℕ) (d : TermId) → k < length ids → is_real (term_at t (get_or ids k d)) ≡ true
    → reals_in (clause_at t (take k ids)) ++ term_at t (get_or ids k d) ∷ [] ≡ reals_in (clause_at t (take (k + 1) ids))
reals_more t ids k d lt real =
    let id = get_or ids k d in
    let front = clause_at t (take k ids) in
    let all : clause_at t (take (k + 1) ids) ≡ front ++ term_at t id ∷ [] = ap (clause_at t) (take_more ids k d lt) ∙ map-append (term_at t) (take k ids) (id ∷ []) in
    sym (ap reals_in all ∙ filter-append is_real front (term_at t id ∷ []) ∙ ap (λ b. reals_in front ++ cond b (term_at t id ∷ []) []) real)

pub reals_same : (t : TableView) (ids : List TermId) (k : ℕ) (d : TermId) → k < length ids → is_real (term_at t (get_or ids k d)) ≡ false
    → reals_in (clause_at t (take k ids)) ≡ reals_in (clause_at t (take (k + 1) ids))
reals_same t ids k d lt real =
    let id = get_or ids k d in
    let front = clause_at t (take k ids) in
    let all : clause_at t (take (k + 1) ids) ≡ front ++ term_at t id ∷ [] = ap (clause_at t) (take_more ids k d lt) ∙ map-append (term_at t) (take k ids) (id ∷ []) in
    sym (ap reals_in all ∙ filter-append is_real front (term_at t id ∷ []) ∙ ap (λ b. reals_in front ++ cond b (term_at t id ∷ []) []) real ∙ append-nil (reals_in front))

-- what a term shares, by its head and its arguments
module _ (t : Term) (h : Head) (us : List Term) (is : t ≡ app h (terms_of us)) where
  pub shares_nothing : is_declared h ≡ false → [] ≡ shared_by t
  shares_nothing e = sym (ap shared_by is ∙ ap (λ b. cond b (reals_in (list_of (terms_of us)) ++ value_over (terms_of us) (app h (terms_of us))) []) e)

  shares : is_declared h ≡ true → shared_by t ≡ reals_in us ++ value_over (terms_of us) t
  shares e =
      ap shared_by is ∙ ap (λ b. cond b (reals_in (list_of (terms_of us)) ++ value_over (terms_of us) (app h (terms_of us))) []) e
      ∙ ap (λ ws. reals_in ws ++ value_over (terms_of us) (app h (terms_of us))) (list_of-terms_of us) ∙ ap (λ w. reals_in us ++ value_over (terms_of us) w) (sym is)

  pub shares_arguments : is_declared h ≡ true → length us ≡ 0 → reals_in us ≡ shared_by t
  shares_arguments e bare = go us bare (shares e)
    where
      go : (ws : List Term) → length ws ≡ 0 → shared_by t ≡ reals_in ws ++ value_over (terms_of ws) t → reals_in ws ≡ shared_by t
      go [] b f = sym f
      go (w ∷ ws) b f = absurd (omega (arith, b))

  pub shares_value : is_declared h ≡ true → 0 < length us → reals_in us ++ reals_in (t ∷ []) ≡ shared_by t
  shares_value e some = go us some (shares e)
    where
      go : (ws : List Term) → 0 < length ws → shared_by t ≡ reals_in ws ++ value_over (terms_of ws) t → reals_in ws ++ reals_in (t ∷ []) ≡ shared_by t
      go [] b f = absurd (omega (arith, b))
      go (w ∷ ws) b f = sym f

-- what a filter lets pass
to_filter : (p : Term → Bool) (xs : List Term) (x : Term) → p x ≡ true → Contains xs x → Contains (filter p xs) x
to_filter p [] x e i = absurd (none x i)
to_filter p (y ∷ ys) x e i = by (p y) refl (cases y ys x i) (to_filter p ys x e)
  where
    by : (b : Bool) → p y ≡ b → (y ≡ x) ⊎ Contains ys x → (Contains ys x → Contains (filter p ys) x) → Contains (cond b (y ∷ filter p ys) (filter p ys)) x
    by true f (inl is) on = subst (λ z. Contains (y ∷ filter p ys) z) is (first y (filter p ys))
    by true f (inr rest) on = later y (filter p ys) x (on rest)
    by false f (inl is) on = absurd (false≢true (sym f ∙ ap p is ∙ e))
    by false f (inr rest) on = on rest

in_reals : (us : List Term) (u : Term) → Contains us u → sort_of u ≡ Number → Contains (reals_in us) u
in_reals us u i e = to_filter is_real us u (is_a_real u e) i

from_reals : (us : List Term) (u : Term) → Contains (reals_in us) u → Contains us u × (sort_of u ≡ Number)
from_reals us u i = (
  All-contains (Contains us) (reals_in us) u (All-filter is_real (Contains us) us (All-contains_itself us)) i,
  sym (same_sort_is Number (sort_of u) (All-contains (λ (w : Term). is_real w ≡ true) (reals_in us) u (filter_passes is_real us) i)),
)

-- what a term among others shares is shared among them
module _ (ts : List Term) where
  of_declared : (s : Symbol) (us : Terms) (u : Term) → Contains ts (app (Apply s) us) → Contains (reals_in (list_of us) ++ value_over us (app (Apply s) us)) u → IsSharedAmong ts u
  of_declared s us u there i = elim (Contains-append_cases (reals_in (list_of us)) (value_over us (app (Apply s) us)) u i) [
    | inl one ↦ let r = from_reals (list_of us) u one in argument s us there u r.0 r.1
    | inr own ↦ of_value us there own
  ]
    where
      of_value : (ws : Terms) → Contains ts (app (Apply s) ws) → Contains (value_over ws (app (Apply s) ws)) u → IsSharedAmong ts u
      of_value nil c j = absurd (none u j)
      of_value (cons w ws) c j =
          let t = app (Apply s) (cons w ws) in
          let r = from_reals (t ∷ []) u j in
          elim (cases t [] u r.0) [
            | inl e ↦ subst (IsSharedAmong ts) e (value s (cons w ws) c (λ bare. some w (list_of ws) bare) (ap sort_of e ∙ r.1))
            | inr rest ↦ absurd (none u rest)
          ]
        where
          some : (x : Term) (xs : List Term) → x ∷ xs ≢ []
          some x xs e = absurd (omega (arith, ap length e))

  pub shares_shared : (t u : Term) → Contains ts t → Contains (shared_by t) u → IsSharedAmong ts u
  shares_shared (app (Apply s) us) u there i = of_declared s us u there i
  shares_shared (app h us) u there i = absurd (none u i)

  -- and all that is shared among them is shared by one of them
  pub shared_shares : (u : Term) → IsSharedAmong ts u → (t : Term) × Contains ts t × Contains (shared_by t) u
  shared_shares _ (argument s us there u i real) = (app (Apply s) us, there, Contains-append_left (reals_in (list_of us)) (value_over us (app (Apply s) us)) u (in_reals (list_of us) u i real))
  shared_shares _ (value s us there some real) = (app (Apply s) us, there, Contains-append_right (reals_in (list_of us)) (value_over us (app (Apply s) us)) (app (Apply s) us) (own us some real))
    where
      own : (ws : Terms) → list_of ws ≢ [] → sort_of (app (Apply s) us) ≡ Number → Contains (value_over ws (app (Apply s) us)) (app (Apply s) us)
      own nil some real = absurd (some refl)
      own (cons w ws) some real = in_reals (app (Apply s) us ∷ []) (app (Apply s) us) (first (app (Apply s) us) []) real

-- so the terms that came of those among them are the shared ones
pub are_shared : (t : TableView) (ids : List TermId) (ts marks : List Term) → AreAmong ts marks → AreAmong marks ts → AddsSharedTerms t [] ids (flat_map shared_by marks) → AreSharedOf t ts ids
are_shared t ids ts marks forth back h =
    let is : ids ≡ h.added = h.is in
    let terms : clause_at t ids ≡ flat_map shared_by marks = ap (clause_at t) is ∙ h.are in
    record {
      there = subst (AreIn t) (sym is) h.there;
      only = λ u i. let w = from_flat shared_by marks u (subst (λ us. Contains us u) terms i) in shares_shared ts w.0 u (back w.0 w.1) w.2;
      each = λ u i. let w = shared_shares ts u i in subst (λ us. Contains us u) (sym terms) (in_flat shared_by marks w.0 u (forth w.0 w.1) w.2);
    }
