-- Members of lists: of a list with an item before it or at its end, of images, of what the items of a list give, and of those that pass a test.
use Rattle.std.proofs.Common.{◌≡◌, ℕ, zero, suc, ◌<◌, ◌⊎◌, inl, inr, List, [], ◌∷◌, ◌++◌, length, map, get_or, Contains, refl, sym, ap, ◌∙◌, subst, arith, Bool, true, false, cond}
use Rattle.std.specs.Prelude.{flat_map, filter}
use Rattle.std.proofs.lemmas.List.{length-map, get_or-map}
use Rattle.std.proofs.lemmas.List.Elements.{Contains-append_left, Contains-append_right, Contains-append_cases, Contains-push_cases}

module _ {A : Type 0} where
  pub first : (x : A) (xs : List A) → Contains (x ∷ xs) x
  first x xs = (0, omega arith, refl)

  pub later : (x : A) (xs : List A) (y : A) → Contains xs y → Contains (x ∷ xs) y
  later x xs y c = Contains-append_right (x ∷ []) xs y c

  pub cases : (x : A) (xs : List A) (y : A) → Contains (x ∷ xs) y → (x ≡ y) ⊎ Contains xs y
  cases x xs y c = go c.0 c.1 c.2
    where
      go : (k : ℕ) → k < length (x ∷ xs) → get_or (x ∷ xs) k y ≡ y → (x ≡ y) ⊎ Contains xs y
      go zero lt e = inl e
      go (suc k) lt e = inr (k, omega (arith, lt), e)

  pub none : (y : A) → Contains [] y → ⊥
  none y c = omega (arith, c.1)

  -- a list of one item has no other
  pub only : (x y : A) → Contains (x ∷ []) y → x ≡ y
  only x y c = elim (cases x [] y c) [ inl e ↦ e | inr rest ↦ absurd (none y rest) ]

  module _ (P : A → Type 0) where
    -- what is so of the first and of the others is so of each
    pub each_of : (x : A) (xs : List A) → P x → ((y : A) → Contains xs y → P y) → (y : A) → Contains (x ∷ xs) y → P y
    each_of x xs this others y c = elim (cases x xs y c) [ inl e ↦ subst P e this | inr rest ↦ others y rest ]

    -- and what is so of each and of one more is so of each of both
    pub each_pushed : (xs : List A) (x : A) → ((y : A) → Contains xs y → P y) → P x → (y : A) → Contains (xs ++ x ∷ []) y → P y
    each_pushed xs x others this y c = elim (Contains-push_cases xs x y c) [ inl old ↦ others y old | inr e ↦ subst P e this ]

module _ {A B : Type 0} (f : A → B) where
  -- what a list has, its image has
  pub to_image : (xs : List A) (x : A) → Contains xs x → Contains (map f xs) (f x)
  to_image xs x c = (c.0, rw length-map c.1, get_or-map f xs c.0 x (f x) c.1 ∙ ap f c.2)

  -- and what the image has comes from the list
  pub from_image : (xs : List A) (y : B) → Contains (map f xs) y → (x : A) × Contains xs x × (f x ≡ y)
  from_image [] y c = absurd (none y c)
  from_image (x ∷ xs) y c = elim (cases (f x) (map f xs) y c) [
    | inl e ↦ (x, first x xs, e)
    | inr rest ↦ let r = from_image xs y rest in (r.0, later x xs r.0 r.1, r.2)
  ]

module _ {A B : Type 0} (f : A → List B) where
  -- what one item gives, the list gives
  pub in_flat : (xs : List A) (x : A) (y : B) → Contains xs x → Contains (f x) y → Contains (flat_map f xs) y
  in_flat [] x y x_in y_in = absurd (none x x_in)
  in_flat (z ∷ zs) x y x_in y_in = elim (cases z zs x x_in) [
    | inl e ↦ Contains-append_left (f z) (flat_map f zs) y (subst (λ w. Contains (f w) y) (sym e) y_in)
    | inr rest ↦ Contains-append_right (f z) (flat_map f zs) y (in_flat zs x y rest y_in)
  ]

  -- and what the list gives comes from one item
  pub from_flat : (xs : List A) (y : B) → Contains (flat_map f xs) y → (x : A) × Contains xs x × Contains (f x) y
  from_flat [] y c = absurd (none y c)
  from_flat (z ∷ zs) y c = elim (Contains-append_cases (f z) (flat_map f zs) y c) [
    | inl here ↦ (z, first z zs, here)
    | inr rest ↦ let r = from_flat zs y rest in (r.0, later z zs r.0 r.1, r.2)
  ]

-- what passes a test is among those that do
pub in_filter : {A : Type 0} (p : A → Bool) (xs : List A) (x : A) → Contains xs x → p x ≡ true → Contains (filter p xs) x
in_filter p [] x c h = absurd (none x c)
in_filter p (y ∷ ys) x c h = elim (cases y ys x c) [
  | inl e ↦ subst (λ b. Contains (cond b (y ∷ filter p ys) (filter p ys)) x) (sym (ap p e ∙ h)) (subst (Contains (y ∷ filter p ys)) e (first y (filter p ys)))
  | inr r ↦ passed (p y) (in_filter p ys x r h)
]
  where
    passed : (b : Bool) → Contains (filter p ys) x → Contains (cond b (y ∷ filter p ys) (filter p ys)) x
    passed true c = later y (filter p ys) x c
    passed false c = c
