-- What variables stand for, as their list grows, and the index of it.
use Rattle.std.proofs.Common.{◌≡◌, ℕ, zero, suc, ◌<◌, ◌⊎◌, inl, inr, Bool, true, false, List, [], ◌∷◌, ◌++◌, length, cond, Option, Some, None, nat_eq, refl, sym, ◌∙◌, ap, subst, arith}
use Rattle.std.proofs.Math.ListN.{get_or-append}
use Rattle.std.proofs.Math.Seq.{get_or-append_seam}
use Rattle.std.proofs.lemmas.Bool.{eqb-true, eq-eqb}
use Rattle.std.proofs.lemmas.Option.{none-some, same_Some}
use Rattle.term_core.specs.declared.ids.TermId.{TermId}
use Rattle.term_core.specs.Tables.{TableView, IsIn}
use Rattle.term_core.proofs.Numbers.{same_id}
use Rattle.simplex_atoms.specs.Owners.{owner_at, IsNumberOf, AreOwnedOnce, AreOwnersIn, IsInverse}

pub owner_kept : (os more : List (Option TermId)) (y : ℕ) (id : TermId) → owner_at os y ≡ Some id → owner_at (os ++ more) y ≡ Some id
owner_kept [] more y id h = absurd (none-some id h)
owner_kept (o ∷ os) more zero id h = h
owner_kept (o ∷ os) more (suc y) id h = owner_kept os more y id h

-- what means a term stood for it when it was there
pub owner_first : (os more : List (Option TermId)) (y : ℕ) → y < length os → owner_at (os ++ more) y ≡ None → owner_at os y ≡ None
owner_first os more y lt h = sym (get_or-append os more None y lt) ∙ h

pub owner_last : (os : List (Option TermId)) (o : Option TermId) → owner_at (os ++ o ∷ []) (length os) ≡ o
owner_last os o = get_or-append_seam os o [] None

pub owner_below : (os : List (Option TermId)) (y : ℕ) (id : TermId) → owner_at os y ≡ Some id → y < length os
owner_below [] y id h = absurd (none-some id h)
owner_below (o ∷ os) zero id h = omega arith
owner_below (o ∷ os) (suc y) id h = let r = owner_below os y id h in omega (arith, r)

-- what means a term was there before, or is the last one
pub owner_came : (os : List (Option TermId)) (o : Option TermId) (y : ℕ) (id : TermId) → owner_at (os ++ o ∷ []) y ≡ Some id
    → (owner_at os y ≡ Some id) ⊎ ((y ≡ length os) × (o ≡ Some id))
owner_came [] o zero id h = inr (refl, h)
owner_came [] o (suc y) id h = absurd (none-some id h)
owner_came (x ∷ os) o zero id h = inl h
owner_came (x ∷ os) o (suc y) id h = by (owner_came os o y id h)
  where
    by : (owner_at os y ≡ Some id) ⊎ ((y ≡ length os) × (o ≡ Some id)) → (owner_at os y ≡ Some id) ⊎ ((suc y ≡ length (x ∷ os)) × (o ≡ Some id))
    by (inl k) = inl k
    by (inr k) = inr (ap suc k.0, k.1)

-- terms of variables that came are of the table
pub owners_none : (t : TableView) (os : List (Option TermId)) → AreOwnersIn t os → AreOwnersIn t (os ++ None ∷ [])
owners_none t os h y id e = by (owner_came os None y id e)
  where
    by : (owner_at os y ≡ Some id) ⊎ ((y ≡ length os) × ((let o : Option TermId = None in o) ≡ Some id)) → IsIn t id
    by (inl k) = h y id k
    by (inr k) = absurd (none-some id k.1)

pub owners_term : (t : TableView) (os : List (Option TermId)) (new : TermId) → IsIn t new → AreOwnersIn t os → AreOwnersIn t (os ++ Some new ∷ [])
owners_term t os new there h y id e = by (owner_came os (Some new) y id e)
  where
    by : (owner_at os y ≡ Some id) ⊎ ((y ≡ length os) × ((let o : Option TermId = Some new in o) ≡ Some id)) → IsIn t id
    by (inl k) = h y id k
    by (inr k) = subst (IsIn t) (same_Some new id k.1) there

-- the index

pub inverse_once : (g : ℕ → Option ℕ) (os : List (Option TermId)) → IsInverse g os → AreOwnedOnce os
inverse_once g os i x y id h k = same_Some x y (sym (i.tells_all x id h) ∙ i.tells_all y id k)

pub inverse_tells : (g : ℕ → Option ℕ) (os : List (Option TermId)) (id : TermId) (o : Option ℕ) → IsInverse g os → g id.0 ≡ o → IsNumberOf os id o
inverse_tells g os id (Some y) i e = i.tells id.0 y e
inverse_tells g os id None i e = λ y h. none_number y (sym e ∙ i.tells_all y id h)
  where
    none_number : (y : ℕ) → (let o : Option ℕ = None in o) ≡ Some y → ⊥
    none_number y e = cc

pub inverse_none : (g new : ℕ → Option ℕ) (os : List (Option TermId)) → IsInverse g os → ((q : ℕ) → new q ≡ g q) → IsInverse new (os ++ None ∷ [])
inverse_none g new os i s = record {
  tells = λ q y h. owner_kept os (None ∷ []) y (record { 0 = q }) (i.tells q y (sym (s q) ∙ h));
  tells_all = λ y id h. by y id (owner_came os None y id h);
}
  where
    by : (y : ℕ) (id : TermId) → (owner_at os y ≡ Some id) ⊎ ((y ≡ length os) × ((let o : Option TermId = None in o) ≡ Some id)) → new id.0 ≡ Some y
    by y id (inl k) = s id.0 ∙ i.tells_all y id k
    by y id (inr k) = absurd (none-some id k.1)

module _ (g new : ℕ → Option ℕ) (os : List (Option TermId)) (id : TermId) (i : IsInverse g os) where
  module _ (s : (q : ℕ) → new q ≡ cond (nat_eq id.0 q) (Some (length os)) (g q)) (free : IsNumberOf os id None) where
    told : (q y : ℕ) → new q ≡ Some y → (b : Bool) → nat_eq id.0 q ≡ b → owner_at (os ++ Some id ∷ []) y ≡ Some (record { 0 = q })
    told q y h true e =
        let at : length os ≡ y = same_Some _ _ (sym (ap (λ b. cond b (Some (length os)) (g q)) e) ∙ sym (s q) ∙ h) in
        let same : id ≡ record { 0 = q } = same_id id (record { 0 = q }) (eqb-true id.0 q e) in
        ap (owner_at (os ++ Some id ∷ [])) (sym at) ∙ owner_last os (Some id) ∙ ap Some same
    told q y h false e = owner_kept os (Some id ∷ []) y (record { 0 = q }) (i.tells q y (sym (ap (λ b. cond b (Some (length os)) (g q)) e) ∙ sym (s q) ∙ h))

    all_told : (y : ℕ) (u : TermId) → (owner_at os y ≡ Some u) ⊎ ((y ≡ length os) × ((let o : Option TermId = Some id in o) ≡ Some u)) → (b : Bool) → nat_eq id.0 u.0 ≡ b → new u.0 ≡ Some y
    all_told y u (inl k) true e = absurd (free y (k ∙ ap Some (same_id u id (sym (eqb-true id.0 u.0 e)))))
    all_told y u (inl k) false e = s u.0 ∙ ap (λ b. cond b (Some (length os)) (g u.0)) e ∙ i.tells_all y u k
    all_told y u (inr k) b e =
        let same : nat_eq id.0 u.0 ≡ true = eq-eqb id.0 u.0 (ap (λ (v : TermId). v.0) (same_Some id u k.1)) in
        s u.0 ∙ ap (λ b. cond b (Some (length os)) (g u.0)) same ∙ ap Some (sym k.0)

    pub inverse_term : IsInverse new (os ++ Some id ∷ [])
    inverse_term = record {
      tells = λ q y h. told q y h (nat_eq id.0 q) refl;
      tells_all = λ y u h. all_told y u (owner_came os (Some id) y u h) (nat_eq id.0 u.0) refl;
    }
