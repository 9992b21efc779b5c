-- The strongest bounds are held, and their ranges are kept where each bound is.
use Rattle.std.proofs.Common.{◌≡◌, ℕ, ◌⊎◌, inl, inr, ◌↔◌, Bool, true, false, not, ◌&&◌, ◌||◌, ◌==◌, cond, List, [], ◌∷◌, Contains, Option, Some, None, refl, sym, ◌∙◌, ap, subst}
use Rattle.std.proofs.lemmas.Bool.{eqb-true, eq-eqb, not-true, and_parts, or_parts}
use Rattle.std.proofs.Math.Bool.{or_assoc}
use Rattle.spec_text.proofs.Members.{first, later, cases, none as no_member}
use Rattle.spec_tableaux.specs.Spaces.{Pair}
use Rattle.spec_tableaux.specs.Numbers.{Number}
use Rattle.spec_tableaux.specs.Ranges.{is_within, below, above, bound_or}
use Rattle.simplex_bounds.specs.declared.bounds.Bound.{Bound}
use Rattle.simplex_bounds.specs.declared.bounds.Side.{Side}
use Rattle.simplex_bounds.specs.declared.bounds.Side.TheVariants.{Lower, Upper}
use Rattle.simplex_bounds.specs.Deltas.{pair_of}
use Rattle.spec_tableaux.specs.Points.{deltas}
use Rattle.simplex_bounds.specs.Held.{same_side, is_of, is_tighter, stronger, strongest, strongest_after, value_in, ranges_in, RespectsBound}
use Rattle.simplex_bounds.proofs.Orders.{less_transitive, less_total}

sides : (s t : Side) → same_side s t ≡ true → t ≡ s
sides Lower Lower h = refl
sides Upper Upper h = refl
sides Lower Upper h = absurd (cc)
sides Upper Lower h = absurd (cc)

same : (s : Side) → same_side s s ≡ true
same Lower = refl
same Upper = refl

-- a bound of a side and a variable
pub is_one : (s : Side) (y : ℕ) (b : Bound) → is_of s y b ≡ true → (b.side ≡ s) × (b.variable ≡ y)
is_one s y b h = let p = and_parts (same_side s b.side) (b.variable == y) h in (sides s b.side p.0, eqb-true b.variable y p.1)

pub own : (b : Bound) → is_of b.side b.variable b ≡ true
own b = (λ i. same b.side i && eq-eqb b.variable b.variable refl i)

chosen : (o : Option Bound) (x b : Bound) → stronger o x ≡ Some b → (o ≡ Some b) ⊎ (x ≡ b)
chosen None x b e = inr (ap (bound_or b) e)
chosen (Some a) x b e = by (is_tighter x.side (pair_of x.value) (pair_of a.value)) e
  where
    by : (q : Bool) → Some (cond q x a) ≡ Some b → (Some a ≡ Some b) ⊎ (x ≡ b)
    by true e = inr (ap (bound_or b) e)
    by false e = inl e

held_after : (o : Option Bound) (s : Side) (y : ℕ) (bs : List Bound) (b : Bound) → strongest_after o s y bs ≡ Some b
    → (o ≡ Some b) ⊎ (Contains bs b × (b.side ≡ s) × (b.variable ≡ y))
held_after o s y [] b e = inl e
held_after o s y (x ∷ bs) b e = by (is_of s y x) refl (held_after (cond (is_of s y x) (stronger o x) o) s y bs b e)
  where
    this : is_of s y x ≡ true → x ≡ b → Contains (x ∷ bs) b × (b.side ≡ s) × (b.variable ≡ y)
    this h e =
        let o = is_one s y x h in
        (subst (λ z. Contains (x ∷ bs) z) e (first x bs), ap (λ (z : Bound). z.side) (sym e) ∙ o.0, ap (λ (z : Bound). z.variable) (sym e) ∙ o.1)

    by : (q : Bool) → is_of s y x ≡ q → (cond q (stronger o x) o ≡ Some b) ⊎ (Contains bs b × (b.side ≡ s) × (b.variable ≡ y))
        → (o ≡ Some b) ⊎ (Contains (x ∷ bs) b × (b.side ≡ s) × (b.variable ≡ y))
    by q h (inr r) = inr (later x bs b r.0, r.1, r.2)
    by true h (inl e) = elim (chosen o x b e) [ inl f ↦ inl f | inr f ↦ inr (this h f) ]
    by false h (inl e) = inl e

-- the strongest bound is held
pub strongest_is_held : (s : Side) (y : ℕ) (bs : List Bound) (b : Bound) → strongest s y bs ≡ Some b → Contains bs b × (b.side ≡ s) × (b.variable ≡ y)
strongest_is_held s y bs b e = elim (held_after None s y bs b e) [ inl f ↦ absurd (cc) | inr h ↦ h ]

-- what is less than z is less than y too, where y is not less than z
less_below : (x y z : Pair Number) → deltas.less x z ≡ true → deltas.less y z ≡ false → deltas.less x y ≡ true
less_below x y z h k = by (deltas.less x y) (deltas.less y x) refl refl
  where
    by : (p q : Bool) → deltas.less x y ≡ p → deltas.less y x ≡ q → p ≡ true
    by true q e f = refl
    by false true e f = absurd (let m = less_transitive y x z f h in cc)
    by false false e f = absurd (let m : deltas.less y z ≡ true = subst (λ w. deltas.less w z ≡ true) (less_total x y e f) h in cc)

less_above : (x y z : Pair Number) → deltas.less z x ≡ true → deltas.less z y ≡ false → deltas.less y x ≡ true
less_above x y z h k = by (deltas.less y x) (deltas.less x y) refl refl
  where
    by : (p q : Bool) → deltas.less y x ≡ p → deltas.less x y ≡ q → p ≡ true
    by true q e f = refl
    by false true e f = absurd (let m = less_transitive z x y h f in cc)
    by false false e f = absurd (let m : deltas.less z y ≡ true = subst (λ w. deltas.less z w ≡ true) (less_total x y f e) h in cc)

tighter_transitive : (s : Side) (a b x : Pair Number) → is_tighter s b a ≡ true → is_tighter s a x ≡ true → is_tighter s b x ≡ true
tighter_transitive Lower a b x h k = less_transitive x a b k h
tighter_transitive Upper a b x h k = less_transitive b a x h k

tighter_split : (s : Side) (a b x : Pair Number) → is_tighter s b x ≡ true → is_tighter s b a ≡ false → is_tighter s a x ≡ true
tighter_split Lower a b x h k = less_below x a b h k
tighter_split Upper a b x h k = less_above x a b h k

-- a value is beyond the bound of a side, if there is one
beyond : Side → Pair Number → Option Bound → Bool
beyond s x None = false
beyond s x (Some b) = is_tighter s (pair_of b.value) x

-- or beyond one of those of a side and a variable
beyond_any : Side → ℕ → Pair Number → List Bound → Bool
beyond_any s y x [] = false
beyond_any s y x (b ∷ bs) = (is_of s y b && is_tighter s (pair_of b.value) x) || beyond_any s y x bs

beyond_stronger : (s : Side) (x : Pair Number) (o : Option Bound) (b : Bound) → b.side ≡ s → beyond s x (stronger o b) ≡ (beyond s x o || is_tighter s (pair_of b.value) x)
unfolding beyond
beyond_stronger s x None b e = refl
beyond_stronger s x (Some a) b e =
    by (is_tighter b.side (pair_of b.value) (pair_of a.value)) (is_tighter s (pair_of a.value) x) (is_tighter s (pair_of b.value) x)
    (ap (λ s. is_tighter s (pair_of b.value) (pair_of a.value)) (sym e)) refl refl
  where
    by : (q p r : Bool) → is_tighter s (pair_of b.value) (pair_of a.value) ≡ q → is_tighter s (pair_of a.value) x ≡ p → is_tighter s (pair_of b.value) x ≡ r
        → is_tighter s (pair_of (cond q b a).value) x ≡ (p || r)
    by true true r e f g = tighter_transitive s (pair_of a.value) (pair_of b.value) x e f
    by true false r e f g = g
    by false true r e f g = f
    by false false true e f g = absurd (let m = tighter_split s (pair_of a.value) (pair_of b.value) x g e in cc)
    by false false false e f g = f

beyond_after : (s : Side) (y : ℕ) (x : Pair Number) (o : Option Bound) (bs : List Bound) → beyond s x (strongest_after o s y bs) ≡ (beyond s x o || beyond_any s y x bs)
unfolding beyond_any
beyond_after s y x o [] = or_false (beyond s x o)
  where
    or_false : (p : Bool) → p ≡ (p || false)
    or_false true = refl
    or_false false = refl
beyond_after s y x o (b ∷ bs) = by (is_of s y b) refl (beyond_after s y x (cond (is_of s y b) (stronger o b) o) bs)
  where
    by : (q : Bool) → is_of s y b ≡ q → beyond s x (strongest_after (cond (is_of s y b) (stronger o b) o) s y bs) ≡ (beyond s x (cond (is_of s y b) (stronger o b) o) || beyond_any s y x bs)
        → beyond s x (strongest_after (cond (is_of s y b) (stronger o b) o) s y bs) ≡ (beyond s x o || ((is_of s y b && is_tighter s (pair_of b.value) x) || beyond_any s y x bs))
    by true h e =
        e ∙ ap (λ q. beyond s x (cond q (stronger o b) o) || beyond_any s y x bs) h ∙ ap (λ p. p || beyond_any s y x bs) (beyond_stronger s x o b (is_one s y b h).0)
        ∙ or_assoc (beyond s x o) (is_tighter s (pair_of b.value) x) (beyond_any s y x bs) ∙ ap (λ q. beyond s x o || ((q && is_tighter s (pair_of b.value) x) || beyond_any s y x bs)) (sym h)
    by false h e =
        e ∙ ap (λ q. beyond s x (cond q (stronger o b) o) || beyond_any s y x bs) h
        ∙ ap (λ q. beyond s x o || ((q && is_tighter s (pair_of b.value) x) || beyond_any s y x bs)) (sym h)

-- beyond none of them
beyond_none : (s : Side) (y : ℕ) (x : Pair Number) (bs : List Bound) → ((b : Bound) → Contains bs b → b.side ≡ s → b.variable ≡ y → is_tighter s (pair_of b.value) x ≡ false)
    → beyond_any s y x bs ≡ false
unfolding beyond_any
beyond_none s y x [] h = refl
beyond_none s y x (b ∷ bs) h = by (is_of s y b) refl (beyond_none s y x bs (λ c m. h c (later b bs c m)))
  where
    by : (q : Bool) → is_of s y b ≡ q → beyond_any s y x bs ≡ false → ((q && is_tighter s (pair_of b.value) x) || beyond_any s y x bs) ≡ false
    by true e rest = let o = is_one s y b e in ap (λ p. p || beyond_any s y x bs) (h b (first b bs) o.0 o.1) ∙ rest
    by false e rest = rest

neither : (p q : Bool) → (p || q) ≡ false → (p ≡ false) × (q ≡ false)
neither true q h = absurd (cc)
neither false q h = (refl, h)

not_beyond : (s : Side) (y : ℕ) (x : Pair Number) (bs : List Bound) → beyond_any s y x bs ≡ false → (b : Bound) → Contains bs b → is_of s y b ≡ true → is_tighter s (pair_of b.value) x ≡ false
unfolding beyond_any
not_beyond s y x [] h b m o = absurd (no_member b m)
not_beyond s y x (c ∷ bs) h b m o = elim (cases c bs b m) [ inl e ↦ here e | inr r ↦ not_beyond s y x bs parts.1 b r o ]
  where
    parts : ((is_of s y c && is_tighter s (pair_of c.value) x) ≡ false) × (beyond_any s y x bs ≡ false)
    parts = neither (is_of s y c && is_tighter s (pair_of c.value) x) (beyond_any s y x bs) h

    here : c ≡ b → is_tighter s (pair_of b.value) x ≡ false
    here e =
        let k : is_of s y c ≡ true = ap (is_of s y) e ∙ o in
        ap (λ (z : Bound). is_tighter s (pair_of z.value) x) (sym e) ∙ ap (λ q. q && is_tighter s (pair_of c.value) x) (sym k) ∙ parts.0

below_is : (x : Pair Number) (o : Option Bound) → below deltas x (value_in o) ≡ beyond Lower x o
unfolding beyond
below_is x None = refl
below_is x (Some b) = refl

above_is : (x : Pair Number) (o : Option Bound) → above deltas x (value_in o) ≡ beyond Upper x o
unfolding beyond
above_is x None = refl
above_is x (Some b) = refl

lower_is : (bs : List Bound) (y : ℕ) (x : Pair Number) → below deltas x (ranges_in bs y).lower ≡ beyond_any Lower y x bs
unfolding beyond
lower_is bs y x = below_is x (strongest Lower y bs) ∙ beyond_after Lower y x None bs

upper_is : (bs : List Bound) (y : ℕ) (x : Pair Number) → above deltas x (ranges_in bs y).upper ≡ beyond_any Upper y x bs
unfolding beyond
upper_is bs y x = above_is x (strongest Upper y bs) ∙ beyond_after Upper y x None bs

-- values keep the range of a variable where they keep each of its bounds
pub within_by : (bs : List Bound) (v : ℕ → Pair Number) (y : ℕ) → ((b : Bound) → Contains bs b → b.variable ≡ y → RespectsBound v b) → is_within deltas (ranges_in bs) v y ≡ true
within_by bs v y h = λ i. not ((lower_is bs y (v y) ∙ off Lower) i || (upper_is bs y (v y) ∙ off Upper) i)
  where
    off : (s : Side) → beyond_any s y (v y) bs ≡ false
    off s = beyond_none s y (v y) bs (λ b m e f. (λ i. is_tighter (sym e i) (pair_of b.value) (v (sym f i))) ∙ h b m f)

-- values keep the ranges where they keep each bound, and the other way round
pub ranges_kept : (bs : List Bound) (v : ℕ → Pair Number) → ((y : ℕ) → is_within deltas (ranges_in bs) v y ≡ true) ↔ ((b : Bound) → Contains bs b → RespectsBound v b)
ranges_kept bs v = (to, from)
  where
    to : ((y : ℕ) → is_within deltas (ranges_in bs) v y ≡ true) → (b : Bound) → Contains bs b → RespectsBound v b
    to h b m = by b.side refl
      where
        parts : (below deltas (v b.variable) (ranges_in bs b.variable).lower ≡ false) × (above deltas (v b.variable) (ranges_in bs b.variable).upper ≡ false)
        parts = or_parts (below deltas (v b.variable) (ranges_in bs b.variable).lower) (above deltas (v b.variable) (ranges_in bs b.variable).upper) (not-true _ (h b.variable))

        of : (s : Side) → b.side ≡ s → is_of s b.variable b ≡ true
        of s e = ap (λ s. is_of s b.variable b) (sym e) ∙ own b

        by : (s : Side) → b.side ≡ s → is_tighter s (pair_of b.value) (v b.variable) ≡ false
        by Lower e = not_beyond Lower b.variable (v b.variable) bs (sym (lower_is bs b.variable (v b.variable)) ∙ parts.0) b m (of Lower e)
        by Upper e = not_beyond Upper b.variable (v b.variable) bs (sym (upper_is bs b.variable (v b.variable)) ∙ parts.1) b m (of Upper e)

    from : ((b : Bound) → Contains bs b → RespectsBound v b) → (y : ℕ) → is_within deltas (ranges_in bs) v y ≡ true
    from h y = within_by bs v y (λ b m e. h b m)
