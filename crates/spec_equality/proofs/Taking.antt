-- Whether a rule takes a step is a test that computes.
use Rattle.std.proofs.Common.{◌≡◌, ◌≢◌, ◌⊎◌, inl, inr, Bool, true, false, ◌&&◌, ◌||◌, List, [], ◌∷◌, ◌++◌, Option, Some, None, refl, sym, ap, ◌∙◌, subst}
use Rattle.std.specs.List.{list_any}
use Rattle.std.specs.Bool.{Decides}
use Rattle.std.proofs.lemmas.Bool.{false≢true}
use Rattle.std.proofs.lemmas.Bool.Decides.{Decides-like, Decides-and, Decides-or}
use Rattle.std.proofs.lemmas.List.Folds.{Any-from_list_any, list_any-from_Any}
use Rattle.std.proofs.lemmas.List.{append_assoc}
use Rattle.spec_sorts.specs.Terms.{Truth, same_sort, Equal, Ite, same_head, Term, app, nil, cons, list_of, of, negated, sort_of, same_term}
use Rattle.spec_sorts.specs.Literals.{Clause}
use Rattle.spec_sorts.proofs.SameTerms.{terms_decide, one_head, head_itself}
use Rattle.spec_sorts.proofs.WellSorted.{same_sort_is}
use Rattle.spec_equality.specs.Reasons.{equal, denied, Joins, Lead, HasReason, AreJoined, HaveJoinedArguments}
use Rattle.spec_equality.specs.EqualityRules.{EndsEqual, EndsDenied}
use Rattle.spec_equality.proofs.Sound.{denied_is}

-- the sides of an equality
abbrev pub sides : Term → Option (Term × Term)
sides (app Equal (cons t (cons u nil))) = Some (t, u)
sides t = None

sides_are : (e : Term) (p : Term × Term) → sides e ≡ Some p → e ≡ equal p.0 p.1
sides_are (app Equal (cons t (cons u nil))) p s = cc
sides_are (app Equal nil) p s = cc
sides_are (app Equal (cons t nil)) p s = cc
sides_are (app Equal (cons t (cons u (cons v vs)))) p s = cc
sides_are (app h ts) p s = cc

-- a test of the sides, where there are some
abbrev pub on_sides : (Term → Term → Bool) → Option (Term × Term) → Bool
on_sides f None = false
on_sides f (Some p) = f p.0 p.1

module _ (f : Term → Term → Bool) (P : Term → Term → Type 0) (d : (t u : Term) → Decides (f t u) (P t u)) where
  pub sides_decide : (e : Term) → Decides (on_sides f (sides e)) ((t : Term) × (u : Term) × (e ≡ equal t u) × P t u)
  sides_decide e = go (sides e) refl
    where
      go : (o : Option (Term × Term)) → sides e ≡ o → Decides (on_sides f o) ((t : Term) × (u : Term) × (e ≡ equal t u) × P t u)
      go None s = (λ h. absurd (false≢true h), λ w. let n : None ≡ Some (w.0, w.1) = sym s ∙ ap sides w.2 in cc)
      go (Some p) s = (
        λ h. (p.0, p.1, sides_are e p s, (d p.0 p.1).0 h),
        λ w.
            let n : Some p ≡ Some (w.0, w.1) = sym s ∙ ap sides w.2 in
            let q : p ≡ (w.0, w.1) = cc in
            subst (λ (x : Term × Term). f x.0 x.1 ≡ true) (sym q) ((d w.0 w.1).1 w.3),
      )

-- the literals before the last one, and that one
abbrev pub prepended : Term → Option (List Term × Term) → Option (List Term × Term)
prepended t None = Some ([], t)
prepended t (Some p) = Some (t ∷ p.0, p.1)

abbrev pub last_of : Clause → Option (List Term × Term)
last_of [] = None
last_of (t ∷ ts) = prepended t (last_of ts)

none_last : (c : Clause) → last_of c ≡ None → c ≡ []
none_last [] s = refl
none_last (t ∷ ts) s = go (last_of ts) s
  where
    go : (o : Option (List Term × Term)) → prepended t o ≡ None → t ∷ ts ≡ []
    go None s = cc
    go (Some p) s = cc

last_is : (c : Clause) (p : List Term × Term) → last_of c ≡ Some p → c ≡ p.0 ++ p.1 ∷ []
last_is [] p s = cc
last_is (t ∷ ts) p s = go (last_of ts) refl s (last_is ts)
  where
    go : (o : Option (List Term × Term)) → last_of ts ≡ o → prepended t o ≡ Some p → ((q : List Term × Term) → last_of ts ≡ Some q → ts ≡ q.0 ++ q.1 ∷ []) → t ∷ ts ≡ p.0 ++ p.1 ∷ []
    go None is s rec =
        let q : ([], t) ≡ p = cc in
        subst (λ (x : List Term × Term). t ∷ ts ≡ x.0 ++ x.1 ∷ []) q (ap (λ xs. t ∷ xs) (none_last ts is))
    go (Some r) is s rec =
        let q : (t ∷ r.0, r.1) ≡ p = cc in
        subst (λ (x : List Term × Term). t ∷ ts ≡ x.0 ++ x.1 ∷ []) q (ap (λ xs. t ∷ xs) (rec r is))

of_last : (ls : List Term) (x : Term) → last_of (ls ++ x ∷ []) ≡ Some (ls, x)
of_last [] x = refl
of_last (l ∷ ls) x = ap (prepended l) (of_last ls x)

abbrev pub on_last : (List Term → Term → Bool) → Option (List Term × Term) → Bool
on_last f None = false
on_last f (Some p) = f p.0 p.1

module _ (f : List Term → Term → Bool) (P : List Term → Term → Type 0) (d : (ls : List Term) (t : Term) → Decides (f ls t) (P ls t)) where
  last_decide : (c : Clause) → Decides (on_last f (last_of c)) ((ls : List Term) × (t : Term) × (c ≡ ls ++ t ∷ []) × P ls t)
  last_decide c = go (last_of c) refl
    where
      go : (o : Option (List Term × Term)) → last_of c ≡ o → Decides (on_last f o) ((ls : List Term) × (t : Term) × (c ≡ ls ++ t ∷ []) × P ls t)
      go None s = (λ h. absurd (false≢true h), λ w. let n : None ≡ Some (w.0, w.1) = sym s ∙ ap last_of w.2 ∙ of_last w.0 w.1 in cc)
      go (Some p) s = (
        λ h. (p.0, p.1, last_is c p s, (d p.0 p.1).0 h),
        λ w.
            let n : Some p ≡ Some (w.0, w.1) = sym s ∙ ap last_of w.2 ∙ of_last w.0 w.1 in
            let q : p ≡ (w.0, w.1) = cc in
            subst (λ (x : List Term × Term). f x.0 x.1 ≡ true) (sym q) ((d w.0 w.1).1 w.3),
      )

-- nothing is so
pub never : {P : Type 0} → (P → ⊥) → Decides false P
never not_so = (λ h. absurd (false≢true h), λ p. absurd (not_so p))

-- reasons that join two terms
abbrev pub joins : Option Term → Term → Term → Bool
joins None t u = false
joins (Some e) t u = same_term e (equal t u) || same_term e (equal u t)

some_is : (e t : Term) → Decides (same_term e t) (Some e ≡ Some t)
some_is e t = Decides-like (same_term e t) (λ s. ap Some s) (λ s. cc) (terms_decide e t)

pub joins_decide : (r : Option Term) (t u : Term) → Decides (joins r t u) (Joins r t u)
joins_decide None t u = never (λ j. elim j [ inl e ↦ cc | inr e ↦ cc ])
joins_decide (Some e) t u = Decides-or (same_term e (equal t u)) (same_term e (equal u t)) (some_is e (equal t u)) (some_is e (equal u t))

-- reasons that lead from a term to another: each has that term on one side, and the others lead on from the other side
abbrev pub leads : List (Option Term) → Term → Term → Bool
leads [] from to = same_term from to
leads (None ∷ rs) from to = false
leads (Some e ∷ rs) from to = on_sides (λ t u. (same_term t from && leads rs u to) || (same_term u from && leads rs t to)) (sides e)

module _ (e : Term) (rs : List (Option Term)) (from to : Term) where
  -- an equality with the term on one side, from whose other side the others lead on
  abbrev Next : Term → Term → Type 0
  Next t u = ((t ≡ from) × Lead rs u to) ⊎ ((u ≡ from) × Lead rs t to)

  next_decides : ((n : Term) → Decides (leads rs n to) (Lead rs n to)) → (t u : Term) → Decides ((same_term t from && leads rs u to) || (same_term u from && leads rs t to)) (Next t u)
  next_decides rest t u = Decides-or (same_term t from && leads rs u to) (same_term u from && leads rs t to)
      (Decides-and (same_term t from) (leads rs u to) (terms_decide t from) (rest u))
      (Decides-and (same_term u from) (leads rs t to) (terms_decide u from) (rest t))

  next_leads : (t : Term) × (u : Term) × (e ≡ equal t u) × Next t u → Lead (Some e ∷ rs) from to
  next_leads (t, u, is, inl (same, led)) = (u, inl (ap Some (is ∙ ap (λ x. equal x u) same)), led)
  next_leads (t, u, is, inr (same, led)) = (t, inr (ap Some (is ∙ ap (λ x. equal t x) same)), led)

  leads_next : Lead (Some e ∷ rs) from to → (t : Term) × (u : Term) × (e ≡ equal t u) × Next t u
  leads_next (next, inl is, led) = (from, next, cc, inl (refl, led))
  leads_next (next, inr is, led) = (next, from, cc, inr (refl, led))

pub leads_decide : (rs : List (Option Term)) (from to : Term) → Decides (leads rs from to) (Lead rs from to)
leads_decide [] from to = terms_decide from to
leads_decide (None ∷ rs) from to = never (λ w. elim w.1 [ inl e ↦ cc | inr e ↦ cc ])
leads_decide (Some e ∷ rs) from to = Decides-like _ (next_leads e rs from to) (leads_next e rs from to)
    (sides_decide (λ t u. (same_term t from && leads rs u to) || (same_term u from && leads rs t to)) (Next e rs from to) (next_decides e rs from to (λ n. leads_decide rs n to)) e)

-- arguments that are joined
abbrev pub has_reason : List (Option Term) → Term → Term → Bool
has_reason rs t u = list_any (λ r. joins r t u) rs

has_reason_decides : (rs : List (Option Term)) (t u : Term) → Decides (has_reason rs t u) (HasReason rs t u)
has_reason_decides rs t u = (
  λ h. let w = Any-from_list_any (λ r. joins r t u) rs h in (w.1, (w.0, w.2, w.3), (joins_decide w.1 t u).0 w.4),
  λ w. list_any-from_Any (λ r. joins r t u) rs (w.1.0, w.0, w.1.1, w.1.2, (joins_decide w.0 t u).1 w.2),
)

abbrev pub are_joined : List (Option Term) → List Term → List Term → Bool
are_joined rs [] [] = true
are_joined rs (t ∷ ts) (u ∷ us) = (same_term t u || has_reason rs t u) && are_joined rs ts us
are_joined rs _ _ = false

are_joined_decides : (rs : List (Option Term)) (ts us : List Term) → Decides (are_joined rs ts us) (AreJoined rs ts us)
are_joined_decides rs [] [] = (λ h. tt, λ h. refl)
are_joined_decides rs (t ∷ ts) (u ∷ us) = Decides-and (same_term t u || has_reason rs t u) (are_joined rs ts us)
    (Decides-or (same_term t u) (has_reason rs t u) (terms_decide t u) (has_reason_decides rs t u)) (are_joined_decides rs ts us)
are_joined_decides rs [] (u ∷ us) = never (λ h. h)
are_joined_decides rs (t ∷ ts) [] = never (λ h. h)

-- lists with something in them
abbrev pub is_some : {A : Type 0} → List A → Bool
is_some [] = false
is_some (x ∷ xs) = true

pub is_some_decides : {A : Type 0} (xs : List A) → Decides (is_some xs) (xs ≢ [])
is_some_decides [] = never (λ h. h refl)
is_some_decides (x ∷ xs) = (λ h e. cc, λ h. refl)

abbrev pub are_congruent : List (Option Term) → Term → Term → Bool
are_congruent rs (app h ts) (app g us) = same_head h g && (is_some (list_of ts) && are_joined rs (list_of ts) (list_of us))

pub are_congruent_decides : (rs : List (Option Term)) (t u : Term) → Decides (are_congruent rs t u) (HaveJoinedArguments rs t u)
are_congruent_decides rs (app h ts) (app g us) = Decides-like _ (λ w. (w.0, w.1.0, w.1.1)) (λ w. (w.0, (w.1, w.2)))
    (Decides-and (same_head h g) (is_some (list_of ts) && are_joined rs (list_of ts) (list_of us))
    (one_head h g, λ e. subst (λ x. same_head h x ≡ true) e (head_itself h))
    (Decides-and (is_some (list_of ts)) (are_joined rs (list_of ts) (list_of us)) (is_some_decides (list_of ts)) (are_joined_decides rs (list_of ts) (list_of us))))

-- a test of the literals before the last one, and of its sides, where it is an equality
abbrev pub ends_equal : (List Term → Term → Term → Bool) → Clause → Bool
ends_equal f c = on_last (λ ls x. on_sides (f ls) (sides x)) (last_of c)

module _ (f : List Term → Term → Term → Bool) (P : List Term → Term → Term → Type 0) (d : (ls : List Term) (t u : Term) → Decides (f ls t u) (P ls t u)) where
  pub ends_equal_decides : (c : Clause) → Decides (ends_equal f c) ((e : EndsEqual c) × P e.literals e.one e.other)
  ends_equal_decides c = Decides-like (ends_equal f c)
      (λ w. (record { literals = w.0; one = w.3.0; other = w.3.1; same = w.2 ∙ ap (λ x. w.0 ++ x ∷ []) w.3.2 }, w.3.3))
      (λ w. (w.0.literals, equal w.0.one w.0.other, w.0.same, (w.0.one, w.0.other, refl, w.1)))
      (last_decide (λ ls x. on_sides (f ls) (sides x)) (λ ls x. (t : Term) × (u : Term) × (x ≡ equal t u) × P ls t u) (λ ls x. sides_decide (f ls) (P ls) (d ls) x) c)

-- a test of what a literal denies
abbrev pub on_some : (Term → Bool) → Option Term → Bool
on_some f None = false
on_some f (Some t) = f t

denied_decides : (f : Term → Bool) (P : Term → Type 0) → ((t : Term) → Decides (f t) (P t)) → (l : Term) → Decides (on_some f (denied l)) ((t : Term) × (l ≡ negated t) × P t)
denied_decides f P d l = go (denied l) refl
  where
    go : (o : Option Term) → denied l ≡ o → Decides (on_some f o) ((t : Term) × (l ≡ negated t) × P t)
    go None s = (λ h. absurd (false≢true h), λ w. let n : None ≡ Some w.0 = sym s ∙ ap denied w.1 in cc)
    go (Some t) s = (
      λ h. (t, denied_is l t s, (d t).0 h),
      λ w.
          let n : Some t ≡ Some w.0 = sym s ∙ ap denied w.1 in
          let q : t ≡ w.0 = cc in
          subst (λ x. f x ≡ true) (sym q) ((d w.0).1 w.2),
    )

-- a test of the literals before the last two, of what the first of these denies, and of the other
abbrev pub ends_denied : (List Term → Term → Term → Bool) → Clause → Bool
ends_denied f c = on_last (λ ls u. on_last (λ ks l. on_some (λ t. f ks t u) (denied l)) (last_of ls)) (last_of c)

module _ (f : List Term → Term → Term → Bool) (P : List Term → Term → Term → Type 0) (d : (ls : List Term) (t u : Term) → Decides (f ls t u) (P ls t u)) where
  pub ends_denied_decides : (c : Clause) → Decides (ends_denied f c) ((e : EndsDenied c) × P e.literals e.one e.other)
  ends_denied_decides c = Decides-like (ends_denied f c) there back
      (last_decide (λ ls u. on_last (λ ks l. on_some (λ t. f ks t u) (denied l)) (last_of ls)) (λ ls u. (ks : List Term) × (l : Term) × (ls ≡ ks ++ l ∷ []) × ((t : Term) × (l ≡ negated t) × P ks t u))
      (λ ls u. last_decide (λ ks l. on_some (λ t. f ks t u) (denied l)) (λ ks l. (t : Term) × (l ≡ negated t) × P ks t u)
      (λ ks l. denied_decides (λ t. f ks t u) (λ t. P ks t u) (λ t. d ks t u) l) ls) c)
    where
      there : (ls : List Term) × (u : Term) × (c ≡ ls ++ u ∷ []) × ((ks : List Term) × (l : Term) × (ls ≡ ks ++ l ∷ []) × ((t : Term) × (l ≡ negated t) × P ks t u)) → (e : EndsDenied c) × P e.literals e.one e.other
      there (ls, u, is, (ks, l, before, (t, denies, p))) = (
        record {
          literals = ks;
          one = t;
          other = u;
          same = is ∙ ap (λ xs. xs ++ u ∷ []) (before ∙ ap (λ x. ks ++ x ∷ []) denies) ∙ append_assoc ks (negated t ∷ []) (u ∷ []);
        },
        p,
      )

      back : (e : EndsDenied c) × P e.literals e.one e.other → (ls : List Term) × (u : Term) × (c ≡ ls ++ u ∷ []) × ((ks : List Term) × (l : Term) × (ls ≡ ks ++ l ∷ []) × ((t : Term) × (l ≡ negated t) × P ks t u))
      back (e, p) = (e.literals ++ negated e.one ∷ [], e.other, e.same ∙ sym (append_assoc e.literals (negated e.one ∷ []) (e.other ∷ [])), (e.literals, negated e.one, refl, (e.one, refl, p)))

-- a test of condition and branches of a choice
abbrev pub branches : Term → Option (Term × (Term × Term))
branches (app Ite (cons c (cons s (cons t nil)))) = Some (c, (s, t))
branches t = None

branches_are : (x : Term) (p : Term × (Term × Term)) → branches x ≡ Some p → x ≡ of Ite (p.0 ∷ p.1.0 ∷ p.1.1 ∷ [])
branches_are (app Ite (cons c (cons s (cons t nil)))) p e = let q : (c, (s, t)) ≡ p = cc in subst (λ (y : Term × (Term × Term)). of Ite (c ∷ s ∷ t ∷ []) ≡ of Ite (y.0 ∷ y.1.0 ∷ y.1.1 ∷ [])) q refl
branches_are (app Ite nil) p e = cc
branches_are (app Ite (cons c nil)) p e = cc
branches_are (app Ite (cons c (cons s nil))) p e = cc
branches_are (app Ite (cons c (cons s (cons t (cons u us))))) p e = cc
branches_are (app h ts) p e = cc

abbrev pub on_branches : (Term → Term → Term → Bool) → Option (Term × (Term × Term)) → Bool
on_branches f None = false
on_branches f (Some p) = f p.0 p.1.0 p.1.1

module _ (f : Term → Term → Term → Bool) (P : Term → Term → Term → Type 0) (d : (c s t : Term) → Decides (f c s t) (P c s t)) where
  pub branches_decide : (x : Term) → Decides (on_branches f (branches x)) ((c : Term) × (s : Term) × (t : Term) × (x ≡ of Ite (c ∷ s ∷ t ∷ [])) × P c s t)
  branches_decide x = go (branches x) refl
    where
      go : (o : Option (Term × (Term × Term))) → branches x ≡ o → Decides (on_branches f o) ((c : Term) × (s : Term) × (t : Term) × (x ≡ of Ite (c ∷ s ∷ t ∷ [])) × P c s t)
      go None e = (λ h. absurd (false≢true h), λ w. let n : None ≡ Some (w.0, (w.1, w.2)) = sym e ∙ ap branches w.3 in cc)
      go (Some p) e = (
        λ h. (p.0, p.1.0, p.1.1, branches_are x p e, (d p.0 p.1.0 p.1.1).0 h),
        λ w.
            let n : Some p ≡ Some (w.0, (w.1, w.2)) = sym e ∙ ap branches w.3 in
            let q : p ≡ (w.0, (w.1, w.2)) = cc in
            subst (λ (y : Term × (Term × Term)). f y.0 y.1.0 y.1.1 ≡ true) (sym q) ((d w.0 w.1 w.2).1 w.4),
      )

-- a term of sort Bool
abbrev pub is_formula : Term → Bool
is_formula t = same_sort (sort_of t) Truth

pub formula_decides : (t : Term) → Decides (is_formula t) (sort_of t ≡ Truth)
formula_decides t = (same_sort_is (sort_of t) Truth, λ e. subst (λ s. same_sort s Truth ≡ true) (sym e) refl)
