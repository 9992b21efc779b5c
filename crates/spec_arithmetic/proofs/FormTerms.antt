-- A term's form has the term's value, where the term is well sorted and of sort Real.
use Rattle.std.proofs.Common.{◌≡◌, ◌<◌, Bool, true, false, List, [], ◌∷◌, map, Option, Some, None, Ok, Err, refl, sym, ◌∙◌, ap, subst}
use Rattle.std.proofs.lemmas.Bool.{false≢true}
use Rattle.spec_text.specs.Answers.{◌>>=◌}
use Rattle.spec_text.proofs.AnswerLaws.{went}
use Rattle.spec_numbers.specs.Fractions.{Fraction, zero_fraction, one_fraction, plus, times, opposite, minus, divide, IsReduced}
use Rattle.spec_numbers.proofs.Field.{plus-zero, times-comm, zero-reduced, one-reduced}
use Rattle.spec_sorts.specs.Lists.{left}
use Rattle.spec_sorts.specs.Terms.{Symbol, Head, Minus, Plus, Times, Divide, Literal, Term, Terms, app, nil, cons, list_of}
use Rattle.spec_sorts.specs.Values.{Value, number, Interpretation, Interprets, number_in}
use Rattle.spec_sorts.specs.TermValues.{by_numbers, head_value, value_at, values_at}
use Rattle.spec_sorts.specs.Theory.{keeps_constant}
use Rattle.spec_arithmetic.specs.Signs.{is_zero}
use Rattle.spec_arithmetic.specs.Forms.{Answer, Form, constant_form, variable_form, adding, subtracting, combined, scaled, shared_out, factor_of, all_added, all_multiplied, divisor_of, divisor_by, quotient_form, form_by, at_term, form, forms, variables_value, form_value}
use Rattle.spec_arithmetic.proofs.General.{same_ok, same_some}
use Rattle.spec_arithmetic.proofs.Zero.{plus-zero_left, times-one_left}
use Rattle.spec_arithmetic.proofs.FormValues.{IsProper, adding_fair, subtracting_fair, combined_value, scaled_value, shared_value, opposite_value}
use Rattle.spec_arithmetic.proofs.Reals.{IsNumber, numbers_by, number_under, IsReal, AreReal, arguments_real, reals_parts, real_number, plus_takes, times_takes, minus_takes, divide_takes}

-- A form that has a value, where terms have these numbers.
pub record Gives (n : Term → Fraction) (v : Value) (f : Form) : Type 0 where
  pub value : v ≡ number (form_value n f)
  pub proper : IsProper n f

-- the form of a number, and of a variable
pub constant_value : (n : Term → Fraction) (q : Fraction) → IsReduced q → form_value n (constant_form q) ≡ q
unfolding form_value variables_value
constant_value n q r = plus-zero q r

variable_value : (n : Term → Fraction) (t : Term) → IsReduced (n t) → form_value n (variable_form t) ≡ n t
unfolding form_value variables_value
variable_value n t r =
    ap (plus zero_fraction) (plus-zero (times one_fraction (n t)) (subst IsReduced (sym (times-one_left (n t) r)) r) ∙ times-one_left (n t) r) ∙ plus-zero_left (n t) r

variable_gives : (w : Term → Value) (t : Term) → IsNumber (w t) → Gives (numbers_by w) (w t) (variable_form t)
variable_gives w t h =
    let is : numbers_by w t ≡ h.fraction = ap number_in h.same in
    let r : IsReduced (numbers_by w t) = subst IsReduced (sym is) h.reduced in
    record {
      value = h.same ∙ ap number (sym is ∙ sym (variable_value (numbers_by w) t r));
      proper = record { constant = zero-reduced; variables = (record { coefficient = one-reduced; number = r }, tt) };
    }

literal_gives : (n : Term → Fraction) (q : Fraction) → IsNumber (number q) → Gives n (number q) (constant_form q)
literal_gives n q h =
    let r : IsReduced q = subst IsReduced (sym (ap number_in h.same)) h.reduced in
    record { value = ap number (sym (constant_value n q r)); proper = record { constant = r; variables = tt } }

-- forms of values, in their order
abbrev pub AreValues : (Term → Fraction) → List Value → List Form → Type 0
AreValues n [] [] = Unit {0}
AreValues n (v ∷ vs) (f ∷ fs) = Gives n v f × AreValues n vs fs
AreValues n _ _ = ⊥

-- the number of a value whose form is given
number_is : (n : Term → Fraction) (v : Value) (f : Form) → Gives n v f → number_in v ≡ form_value n f
number_is n v f g = ap number_in g.value

-- forms added to the left
added_gives : (n : Term → Fraction) (d : Value) (vs : List Value) (f : Form) (fs : List Form) (r : Form) → all_added f fs ≡ Ok r → IsProper n f → AreValues n vs fs
    → Gives n (left d (by_numbers plus) (number (form_value n f) ∷ vs)) r
unfolding all_added
added_gives n d [] f [] r e p h = let s = same_ok _ _ e in record { value = ap (λ g. number (form_value n g)) s; proper = subst (IsProper n) s p }
added_gives n d (v ∷ vs) f [] r e p h = absurd h
added_gives n d [] f (g ∷ gs) r e p h = absurd h
added_gives n d (v ∷ vs) f (g ∷ gs) r e p h =
    let a = went (combined adding f g) (λ k. all_added k gs) r e in
    let c = combined_value n adding adding_fair f g a.first a.was p h.0.proper in
    let again = added_gives n d vs a.first gs r a.then c.proper h.1 in
    record {
      value = ap (λ x. left d (by_numbers plus) (number x ∷ vs)) (ap (plus (form_value n f)) (number_is n v g h.0) ∙ sym c.value) ∙ again.value;
      proper = again.proper;
    }

-- A factor and the other form have the product.
record IsSplit (n : Term → Fraction) (f g : Form) (p : Fraction × Form) : Type 0 where
  value : times p.0 (form_value n p.1) ≡ times (form_value n f) (form_value n g)
  positive : 0 < p.0.den
  proper : IsProper n p.1

factor_value : (n : Term → Fraction) (fc : Fraction) (fv : List (Term × Fraction)) (gc : Fraction) (gv : List (Term × Fraction)) (p : Fraction × Form)
    → factor_of (record { constant = fc; variables = fv }) (record { constant = gc; variables = gv }) ≡ Some p
    → IsProper n (record { constant = fc; variables = fv }) → IsProper n (record { constant = gc; variables = gv })
    → IsSplit n (record { constant = fc; variables = fv }) (record { constant = gc; variables = gv }) p
factor_value n fc [] gc gv p e pf pg =
    let g : Form = record { constant = gc; variables = gv } in
    let s : (fc, g) ≡ p = same_some _ _ e in
    subst (IsSplit n (constant_form fc) g) s (record { value = ap (λ x. times x (form_value n g)) (sym (constant_value n fc pf.constant)); positive = pf.constant.positive; proper = pg })
factor_value n fc (x ∷ fv) gc [] p e pf pg =
    let f : Form = record { constant = fc; variables = x ∷ fv } in
    let s : (gc, f) ≡ p = same_some _ _ e in
    subst (IsSplit n f (constant_form gc)) s (record {
      value = times-comm gc (form_value n f) ∙ ap (times (form_value n f)) (sym (constant_value n gc pg.constant));
      positive = pg.constant.positive;
      proper = pf;
    })
factor_value n fc (x ∷ fv) gc (y ∷ gv) p e pf pg = cc

-- A form of a product or quotient: it has the value, or is the term as a variable.
data ProductOr (n : Term → Fraction) (t : Term) (v : Value) (r : Form) : Type 0 where
  product : Gives n v r → ProductOr n t v r
  opaque_term : variable_form t ≡ r → ProductOr n t v r

-- forms multiplied to the left
multiplied_gives : (n : Term → Fraction) (d : Value) (t : Term) (vs : List Value) (f : Form) (fs : List Form) (r : Form) → all_multiplied t f fs ≡ Ok r → IsProper n f → AreValues n vs fs
    → ProductOr n t (left d (by_numbers times) (number (form_value n f) ∷ vs)) r
unfolding all_multiplied
multiplied_gives n d t [] f [] r e p h = let s = same_ok _ _ e in product (record { value = ap (λ g. number (form_value n g)) s; proper = subst (IsProper n) s p })
multiplied_gives n d t (v ∷ vs) f [] r e p h = absurd h
multiplied_gives n d t [] f (g ∷ gs) r e p h = absurd h
multiplied_gives n d t (v ∷ vs) f (g ∷ gs) r e p h = by (factor_of f g) refl e (multiplied_gives n d t vs)
  where
    by : (o : Option (Fraction × Form)) → factor_of f g ≡ o
        → (let a : Answer Form = elim o [ Some q ↦ scaled q.0 q.1 >>= λ k. all_multiplied t k gs | None ↦ Ok (variable_form t) ] in a) ≡ Ok r
        → ((f : Form) (fs : List Form) (r : Form) → all_multiplied t f fs ≡ Ok r → IsProper n f → AreValues n vs fs → ProductOr n t (left d (by_numbers times) (number (form_value n f) ∷ vs)) r)
        → ProductOr n t (left d (by_numbers times) (number (times (form_value n f) (number_in v)) ∷ vs)) r
    by (Some q) o e again =
        let a = went (scaled q.0 q.1) (λ k. all_multiplied t k gs) r e in
        let s = factor_value n f.constant f.variables g.constant g.variables q o p h.0.proper in
        let c = scaled_value n q.0 q.1 a.first a.was s.positive s.proper in
        subst (λ x. ProductOr n t (left d (by_numbers times) (number x ∷ vs)) r)
        (c.value ∙ s.value ∙ ap (times (form_value n f)) (sym (number_is n v g h.0))) (again a.first gs r a.then c.proper h.1)
    by None o e again = opaque_term (same_ok _ _ e)

-- a form divided
divisor_value : (n : Term → Fraction) (gc : Fraction) (gv : List (Term × Fraction)) (b : Bool) (d : Fraction) → divisor_by b gv gc ≡ Some d → IsProper n (record { constant = gc; variables = gv })
    → (form_value n (record { constant = gc; variables = gv }) ≡ d) × IsReduced d
divisor_value n gc [] false d e p = let s : gc ≡ d = same_some _ _ e in (constant_value n gc p.constant ∙ s, subst IsReduced s p.constant)
divisor_value n gc [] true d e p = cc
divisor_value n gc (x ∷ gv) false d e p = cc
divisor_value n gc (x ∷ gv) true d e p = cc

quotient_gives : (n : Term → Fraction) (t : Term) (v w : Value) (f g r : Form) → quotient_form t f g ≡ Ok r → Gives n v f → Gives n w g
    → ProductOr n t (by_numbers divide v w) r
unfolding quotient_form
quotient_gives n t v w f g r e hv hw = by (divisor_of g) refl e
  where
    by : (o : Option Fraction) → divisor_of g ≡ o → (let a : Answer Form = elim o [ Some d ↦ shared_out f d | None ↦ Ok (variable_form t) ] in a) ≡ Ok r → ProductOr n t (by_numbers divide v w) r
    by (Some d) o e =
        let s = divisor_value n g.constant g.variables (is_zero g.constant) d o hw.proper in
        let c = shared_value n f d r e s.1 hv.proper in
        product (record { value = ap number ((λ i. divide (number_is n v f hv i) ((number_is n w g hw ∙ s.0) i)) ∙ sym c.value); proper = c.proper })
    by None o e = opaque_term (same_ok _ _ e)

-- what a term's head gives
pub at_ok : (t : Term) (a : Answer Form) (r : Form) → at_term t a ≡ Ok r → a ≡ Ok r
at_ok t (Ok a) r e = cc
at_ok t (Err w) r e = cc

-- the value of a variable, where it is the term's
alone : (w : Term → Value) (t : Term) (v : Value) (r : Form) → w t ≡ v → IsNumber (w t) → variable_form t ≡ r → Gives (numbers_by w) v r
alone w t v r e h s =
    let g = variable_gives w t h in
    subst (Gives (numbers_by w) v) s (record { value = sym e ∙ g.value; proper = g.proper })

of_product : (w : Term → Value) (t : Term) (v : Value) (r : Form) → w t ≡ v → IsNumber (w t) → ProductOr (numbers_by w) t v r → Gives (numbers_by w) v r
of_product w t v r e h (product c) = c
of_product w t v r e h (opaque_term s) = alone w t v r e h s

plus_gives : (i : Interpretation) (w : Term → Value) (t : Term) (vs : List Value) (fs : List Form) (r : Form) → form_by t Plus fs ≡ Ok r → w t ≡ head_value i Plus vs → IsNumber (w t)
    → AreValues (numbers_by w) vs fs → Gives (numbers_by w) (head_value i Plus vs) r
plus_gives i w t [] [] r e o h k = alone w t _ r o h (same_ok _ _ e)
plus_gives i w t (v ∷ vs) [] r e o h k = absurd k
plus_gives i w t [] (f ∷ fs) r e o h k = absurd k
plus_gives i w t (v ∷ vs) (f ∷ fs) r e o h k =
    let c = added_gives (numbers_by w) (number zero_fraction) vs f fs r e k.0.proper k.1 in
    record { value = ap (λ u. left (number zero_fraction) (by_numbers plus) (u ∷ vs)) k.0.value ∙ c.value; proper = c.proper }

times_gives : (i : Interpretation) (w : Term → Value) (t : Term) (vs : List Value) (fs : List Form) (r : Form) → form_by t Times fs ≡ Ok r → w t ≡ head_value i Times vs → IsNumber (w t)
    → AreValues (numbers_by w) vs fs → Gives (numbers_by w) (head_value i Times vs) r
times_gives i w t [] [] r e o h k = alone w t _ r o h (same_ok _ _ e)
times_gives i w t (v ∷ vs) [] r e o h k = absurd k
times_gives i w t [] (f ∷ fs) r e o h k = absurd k
times_gives i w t (v ∷ vs) (f ∷ fs) r e o h k =
    let c = multiplied_gives (numbers_by w) (number one_fraction) t vs f fs r e k.0.proper k.1 in
    of_product w t _ r o h (subst (λ u. ProductOr (numbers_by w) t (left (number one_fraction) (by_numbers times) (u ∷ vs)) r) (sym k.0.value) c)

minus_gives : (i : Interpretation) (w : Term → Value) (t : Term) (vs : List Value) (fs : List Form) (r : Form) → form_by t Minus fs ≡ Ok r → w t ≡ head_value i Minus vs → IsNumber (w t)
    → AreValues (numbers_by w) vs fs → Gives (numbers_by w) (head_value i Minus vs) r
minus_gives i w t [] [] r e o h k = alone w t _ r o h (same_ok _ _ e)
minus_gives i w t (v ∷ vs) [] r e o h k = absurd k
minus_gives i w t [] (f ∷ fs) r e o h k = absurd k
minus_gives i w t (v ∷ []) (f ∷ []) r e o h k =
    let c = opposite_value (numbers_by w) f k.0.proper in
    subst (Gives (numbers_by w) (number (opposite (number_in v)))) (same_ok _ _ e)
    (record { value = ap number (ap opposite (number_is (numbers_by w) v f k.0) ∙ sym c.value); proper = c.proper })
minus_gives i w t (v ∷ []) (f ∷ g ∷ gs) r e o h k = absurd k.1
minus_gives i w t (v ∷ u ∷ vs) (f ∷ []) r e o h k = absurd k.1
minus_gives i w t (v ∷ u ∷ vs) (f ∷ g ∷ []) r e o h k =
    let c = combined_value (numbers_by w) subtracting subtracting_fair f g r e k.0.proper k.1.0.proper in
    record { value = ap number ((λ j. minus (number_is (numbers_by w) v f k.0 j) (number_is (numbers_by w) u g k.1.0 j)) ∙ sym c.value); proper = c.proper }
minus_gives i w t (v ∷ u ∷ vs) (f ∷ g ∷ x ∷ xs) r e o h k = alone w t _ r o h (same_ok _ _ e)

divide_gives : (i : Interpretation) (w : Term → Value) (t : Term) (vs : List Value) (fs : List Form) (r : Form) → form_by t Divide fs ≡ Ok r → w t ≡ head_value i Divide vs → IsNumber (w t)
    → AreValues (numbers_by w) vs fs → Gives (numbers_by w) (head_value i Divide vs) r
divide_gives i w t [] [] r e o h k = alone w t _ r o h (same_ok _ _ e)
divide_gives i w t (v ∷ vs) [] r e o h k = absurd k
divide_gives i w t [] (f ∷ fs) r e o h k = absurd k
divide_gives i w t (v ∷ []) (f ∷ []) r e o h k = alone w t _ r o h (same_ok _ _ e)
divide_gives i w t (v ∷ []) (f ∷ g ∷ gs) r e o h k = absurd k.1
divide_gives i w t (v ∷ u ∷ vs) (f ∷ []) r e o h k = absurd k.1
divide_gives i w t (v ∷ u ∷ vs) (f ∷ g ∷ []) r e o h k = of_product w t _ r o h (quotient_gives (numbers_by w) t v u f g r e k.0 k.1.0)
divide_gives i w t (v ∷ u ∷ vs) (f ∷ g ∷ x ∷ xs) r e o h k = alone w t _ r o h (same_ok _ _ e)

-- Values of terms that are numbers where the terms are of sort Real, and obey the heads of arithmetic.
pub record ObeyArithmetic (i : Interpretation) (symbols : List Symbol) (w : Term → Value) : Type 0 where
  pub numbers : (t : Term) → IsReal symbols t → IsNumber (w t)
  pub obeys : (h : Head) (ts : Terms) → keeps_constant h ≡ true → IsReal symbols (app h ts) → w (app h ts) ≡ head_value i h (map w (list_of ts))

module _ (i : Interpretation) (symbols : List Symbol) (w : Term → Value) (good : ObeyArithmetic i symbols w) where
  -- a term whose form is itself as a variable
  itself : (t : Term) (f : Form) → variable_form t ≡ f → IsReal symbols t → Gives (numbers_by w) (w t) f
  itself t f s r = alone w t _ f refl (good.numbers t r) s

  mutual
    unfolding form forms

    -- a form has the value of its term
    pub obeying_gives : (t : Term) (f : Form) → form t ≡ Ok f → IsReal symbols t → Gives (numbers_by w) (w t) f
    obeying_gives (app Plus ts) f e r =
        let t = app Plus ts in
        let a = went (forms ts) (λ fs. at_term t (form_by t Plus fs)) f e in
        let o = good.obeys Plus ts refl r in
        let s = obeying_give ts a.first a.was (arguments_real symbols Plus ts plus_takes r.term) in
        subst (λ v. Gives (numbers_by w) v f) (sym o) (plus_gives i w t (map w (list_of ts)) a.first f (at_ok _ _ _ a.then) o (good.numbers t r) s)
    obeying_gives (app Times ts) f e r =
        let t = app Times ts in
        let a = went (forms ts) (λ fs. at_term t (form_by t Times fs)) f e in
        let o = good.obeys Times ts refl r in
        let s = obeying_give ts a.first a.was (arguments_real symbols Times ts times_takes r.term) in
        subst (λ v. Gives (numbers_by w) v f) (sym o) (times_gives i w t (map w (list_of ts)) a.first f (at_ok _ _ _ a.then) o (good.numbers t r) s)
    obeying_gives (app Minus ts) f e r =
        let t = app Minus ts in
        let a = went (forms ts) (λ fs. at_term t (form_by t Minus fs)) f e in
        let o = good.obeys Minus ts refl r in
        let s = obeying_give ts a.first a.was (arguments_real symbols Minus ts minus_takes r.term) in
        subst (λ v. Gives (numbers_by w) v f) (sym o) (minus_gives i w t (map w (list_of ts)) a.first f (at_ok _ _ _ a.then) o (good.numbers t r) s)
    obeying_gives (app Divide ts) f e r =
        let t = app Divide ts in
        let a = went (forms ts) (λ fs. at_term t (form_by t Divide fs)) f e in
        let o = good.obeys Divide ts refl r in
        let s = obeying_give ts a.first a.was (arguments_real symbols Divide ts divide_takes r.term) in
        subst (λ v. Gives (numbers_by w) v f) (sym o) (divide_gives i w t (map w (list_of ts)) a.first f (at_ok _ _ _ a.then) o (good.numbers t r) s)
    obeying_gives (app (Literal q) ts) f e r =
        let o = good.obeys (Literal q) ts refl r in
        subst (λ v. Gives (numbers_by w) v f) (sym o)
        (subst (Gives (numbers_by w) (number q)) (same_ok _ _ e) (literal_gives (numbers_by w) q (subst IsNumber o (good.numbers (app (Literal q) ts) r))))
    obeying_gives (app h ts) f e r = itself (app h ts) f (same_ok _ _ e) r

    obeying_give : (ts : Terms) (fs : List Form) → forms ts ≡ Ok fs → AreReal symbols ts → AreValues (numbers_by w) (map w (list_of ts)) fs
    obeying_give nil fs e r = subst (AreValues (numbers_by w) []) (same_ok _ _ e) tt
    obeying_give (cons t ts) fs e r =
        let a = went (form t) (λ f. forms ts >>= λ fs. Ok (f ∷ fs)) fs e in
        let b = went (forms ts) (λ fs. Ok (a.first ∷ fs)) fs a.then in
        let parts = reals_parts symbols t ts r in
        subst (AreValues (numbers_by w) (w t ∷ map w (list_of ts))) (same_ok _ _ b.then) (obeying_gives t a.first a.was parts.0, obeying_give ts b.first b.was parts.1)

-- the values of terms are those of their list
values_listed : (i : Interpretation) (ts : Terms) → values_at i [] ts ≡ map (value_at i []) (list_of ts)
unfolding values_at
values_listed i nil = refl
values_listed i (cons t ts) = ap (λ vs. value_at i [] t ∷ vs) (values_listed i ts)

module _ (i : Interpretation) (symbols : List Symbol) (interprets : Interprets i symbols) where
  head_obeys : (h : Head) (ts : Terms) → keeps_constant h ≡ true → value_at i [] (app h ts) ≡ head_value i h (values_at i [] ts)
  unfolding value_at
  head_obeys Minus ts e = refl
  head_obeys Plus ts e = refl
  head_obeys Times ts e = refl
  head_obeys Divide ts e = refl
  head_obeys (Literal q) ts e = refl
  head_obeys h ts e = absurd (false≢true e)

  -- values under an interpretation obey
  values_obey : ObeyArithmetic i symbols (value_at i [])
  values_obey = record { numbers = real_number symbols i interprets; obeys = λ h ts e r. head_obeys h ts e ∙ ap (head_value i h) (values_listed i ts) }

  pub form_gives : (t : Term) (f : Form) → form t ≡ Ok f → IsReal symbols t → Gives (number_under i) (value_at i [] t) f
  form_gives = obeying_gives i symbols (value_at i []) values_obey

-- a form has the value of its term under an interpretation
pub form_term_value : (symbols : List Symbol) (i : Interpretation) (t : Term) (f : Form) → Interprets i symbols → IsReal symbols t → form t ≡ Ok f → value_at i [] t ≡ number (form_value (number_under i) f)
form_term_value symbols i t f interprets w e = (form_gives i symbols interprets t f e w).value
