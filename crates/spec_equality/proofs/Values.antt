-- Values of terms that are equal, and of those whose arguments are.
use Rattle.std.proofs.Common.{◌≡◌, Bool, true, false, not, [], refl, sym, ap, subst}
use Rattle.std.proofs.lemmas.Bool.{false≢true, and_parts}
use Rattle.std.proofs.lemmas.Bool.Decides.{Decides-eqb}
use Rattle.std.proofs.lemmas.Slice.Eq.{bytes_eq-Decides}
use Rattle.std.specs.Prelude.{nat_eq, ◌&&◌}
use Rattle.std.specs.Str.{bytes_eq}
use Rattle.spec_text.proofs.General.{bytes_itself}
use Rattle.spec_sorts.specs.Terms.{Head, Parameter, Term, Terms, app, negated}
use Rattle.spec_sorts.specs.Values.{Value, truth, number, element, same_value, is_true, Interpretation}
use Rattle.spec_sorts.specs.TermValues.{head_value, value_at, values_at}
use Rattle.spec_sorts.proofs.SameTerms.{one_fraction, fraction_itself}
use Rattle.spec_equality.specs.Reasons.{equal}

-- values that pass the test are one
pub one_value : (v w : Value) → same_value v w ≡ true → v ≡ w
one_value (truth true) (truth b) e = ap truth (sym e)
one_value (truth false) (truth true) e = absurd (false≢true e)
one_value (truth false) (truth false) e = refl
one_value (number p) (number q) e = ap number (one_fraction p q e)
one_value (element s k) (element t m) e =
    let parts = and_parts (bytes_eq s t) (nat_eq k m) e in
    λ i. element ((bytes_eq-Decides s t).0 parts.0 i) ((Decides-eqb k m).0 parts.1 i)
one_value (truth true) (number q) e = absurd (false≢true e)
one_value (truth true) (element s k) e = absurd (false≢true e)
one_value (truth false) (number q) e = absurd (false≢true e)
one_value (truth false) (element s k) e = absurd (false≢true e)
one_value (number p) (truth b) e = absurd (false≢true e)
one_value (number p) (element s k) e = absurd (false≢true e)
one_value (element s k) (truth b) e = absurd (false≢true e)
one_value (element s k) (number q) e = absurd (false≢true e)

-- and a value passes it with itself
pub value_itself : (v : Value) → same_value v v ≡ true
value_itself (truth true) = refl
value_itself (truth false) = refl
value_itself (number p) = fraction_itself p
value_itself (element s k) = λ i. bytes_itself s i && (Decides-eqb k k).1 refl i

module _ (i : Interpretation) where
  -- the term is true
  abbrev pub IsTrueTerm : Term → Type 0
  IsTrueTerm t = is_true (value_at i [] t) ≡ true

  -- the sides of an equality that is true have one value
  pub sides_same : (t u : Term) → IsTrueTerm (equal t u) → value_at i [] t ≡ value_at i [] u
  unfolding value_at values_at
  sides_same t u e = one_value (value_at i [] t) (value_at i [] u) e

  -- and an equality of terms of one value is true
  pub same_sides : (t u : Term) → value_at i [] t ≡ value_at i [] u → IsTrueTerm (equal t u)
  unfolding value_at values_at
  same_sides t u e = subst (λ v. same_value (value_at i [] t) v ≡ true) e (value_itself (value_at i [] t))

  -- a negation is true where the term is not
  pub true_or_not : (t : Term) → is_true (value_at i [] (negated t)) ≡ false → IsTrueTerm t
  unfolding value_at values_at
  true_or_not t e = go (is_true (value_at i [] t)) e
    where
      go : (b : Bool) → not (b && true) ≡ false → b ≡ true
      go true e = refl
      go false e = sym e

  -- and the term's truth is then as its value says
  pub negated_true : (t : Term) → is_true (value_at i [] t) ≡ false → IsTrueTerm (negated t)
  unfolding value_at values_at
  negated_true t e = ap (λ b. not (b && true)) e

  -- what a head gives goes by the values of its arguments alone
  pub by_values : (h : Head) (ts us : Terms) → values_at i [] ts ≡ values_at i [] us → value_at i [] (app h ts) ≡ value_at i [] (app h us)
  unfolding value_at
  by_values (Parameter k s) ts us e = refl
  by_values h ts us e = ap (head_value i h) e
