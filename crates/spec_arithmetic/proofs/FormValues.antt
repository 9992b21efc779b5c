-- The value of a form after each operation on forms.
use Rattle.std.proofs.Common.{◌≡◌, ◌<◌, Bool, true, false, List, [], ◌∷◌, Ok, refl, sym, ◌∙◌, ap, subst}
use Rattle.spec_text.specs.Answers.{◌>>=◌}
use Rattle.spec_text.proofs.AnswerLaws.{went}
use Rattle.spec_numbers.specs.Fractions.{Fraction, zero_fraction, plus, times, opposite, divide, inverse, IsReduced}
use Rattle.spec_numbers.specs.Bounds.{multiplied, divided}
use Rattle.spec_numbers.proofs.Field.{plus-comm, plus-assoc, plus-swap, plus-cross, times-comm, times-assoc, times-plus, times-plus_left, opposite-plus, opposite-times, opposite-reduced, plus-reduced, times-reduced, zero-reduced, inverse-reduced}
use Rattle.spec_numbers.proofs.Bounds.{added_is, subtracted_is, multiplied_is, divided_is}
use Rattle.spec_sorts.specs.Terms.{Term, same_term}
use Rattle.spec_sorts.proofs.SameTerms.{one_term}
use Rattle.spec_arithmetic.specs.Signs.{is_zero}
use Rattle.spec_arithmetic.specs.Forms.{Answer, Form, Way, adding, subtracting, unless_zero, with_variable, joined, all_joined, combined, opposites, opposite_form, each_number, changed, scaled, shared_out, variables_value, form_value}
use Rattle.spec_arithmetic.proofs.General.{same_ok}
use Rattle.spec_arithmetic.proofs.Zero.{plus-zero_left, opposite-zero, times-of_zero, times-zero}

-- The coefficient and the number of a variable are in lowest terms.
pub record IsProperPair (n : Term → Fraction) (v : Term) (k : Fraction) : Type 0 where
  pub coefficient : IsReduced k
  pub number : IsReduced (n v)

-- and so are those of each variable
abbrev pub AreProper : (Term → Fraction) → List (Term × Fraction) → Type 0
AreProper n [] = Unit {0}
AreProper n ((v, k) ∷ rest) = IsProperPair n v k × AreProper n rest

-- All numbers of a form are in lowest terms.
pub record IsProper (n : Term → Fraction) (f : Form) : Type 0 where
  pub constant : IsReduced f.constant
  pub variables : AreProper n f.variables

-- A form with this value.
pub record HasValue (n : Term → Fraction) (f : Form) (x : Fraction) : Type 0 where
  pub value : form_value n f ≡ x
  pub proper : IsProper n f

-- the value of variables is in lowest terms
pub variables_reduced : (n : Term → Fraction) (es : List (Term × Fraction)) → AreProper n es → IsReduced (variables_value n es)
unfolding variables_value
variables_reduced n [] p = zero-reduced
variables_reduced n ((v, k) ∷ rest) p =
    plus-reduced _ _ (times-reduced k (n v) p.0.coefficient.positive p.0.number.positive).positive (variables_reduced n rest p.1).positive

pub form_value_reduced : (n : Term → Fraction) (f : Form) → IsProper n f → IsReduced (form_value n f)
unfolding form_value
form_value_reduced n f p = plus-reduced _ _ p.constant.positive (variables_reduced n f.variables p.variables).positive

-- A way of joining that adds a turned number.
pub record IsFair (way : Way) : Type 0 where
  pub both : (m k s : Fraction) → way.both m k ≡ Ok s → plus m (way.alone k) ≡ s
  pub over_plus : (x y : Fraction) → way.alone (plus x y) ≡ plus (way.alone x) (way.alone y)
  pub over_times : (x y : Fraction) → way.alone (times x y) ≡ times (way.alone x) y
  pub at_zero : way.alone zero_fraction ≡ zero_fraction
  pub reduced : (x : Fraction) → IsReduced x → IsReduced (way.alone x)

pub adding_fair : IsFair adding
adding_fair = record { both = added_is; over_plus = λ x y. refl; over_times = λ x y. refl; at_zero = refl; reduced = λ x r. r }

pub subtracting_fair : IsFair subtracting
subtracting_fair = record { both = subtracted_is; over_plus = opposite-plus; over_times = opposite-times; at_zero = opposite-zero; reduced = opposite-reduced }

-- a variable whose coefficient is 0 may go
with_variable_value : (n : Term → Fraction) (v : Term) (k : Fraction) (rest : List (Term × Fraction)) → IsReduced k → IsReduced (n v) → AreProper n rest
    → (variables_value n (with_variable v k rest) ≡ plus (times k (n v)) (variables_value n rest)) × AreProper n (with_variable v k rest)
unfolding variables_value
with_variable_value n v k rest rk rn p = by (is_zero k) refl
  where
    by : (b : Bool) → is_zero k ≡ b
        → (variables_value n (unless_zero b v k rest) ≡ plus (times k (n v)) (variables_value n rest)) × AreProper n (unless_zero b v k rest)
    by true e = (
      sym (plus-zero_left (variables_value n rest) (variables_reduced n rest p))
          ∙ ap (λ t. plus t (variables_value n rest)) (sym (times-of_zero k (n v) e rk.positive rn.positive)),
      p,
    )
    by false e = (refl, (record { coefficient = rk; number = rn }, p))

-- one variable more
joined_value : (n : Term → Fraction) (way : Way) → IsFair way → (v : Term) (k : Fraction) (es rs : List (Term × Fraction)) → joined way v k es ≡ Ok rs
    → IsReduced k → IsReduced (n v) → AreProper n es → (variables_value n rs ≡ plus (times (way.alone k) (n v)) (variables_value n es)) × AreProper n rs
unfolding joined variables_value
joined_value n way fair v k [] rs e rk rn p =
    let r = same_ok _ _ e in
    (ap (variables_value n) (sym r), subst (AreProper n) r (record { coefficient = fair.reduced k rk; number = rn }, tt))
joined_value n way fair v k ((w, m) ∷ rest) rs e rk rn p = by (same_term v w) refl e (joined_value n way fair v k rest)
  where
    by : (b : Bool) → same_term v w ≡ b
        → (let r : Answer (List (Term × Fraction)) = elim b [ true ↦ way.both m k >>= λ s. Ok (with_variable w s rest) | false ↦ joined way v k rest >>= λ r. Ok ((w, m) ∷ r) ] in r) ≡ Ok rs
        → ((rs : List (Term × Fraction)) → joined way v k rest ≡ Ok rs → IsReduced k → IsReduced (n v) → AreProper n rest → (variables_value n rs ≡ plus (times (way.alone k) (n v)) (variables_value n rest)) × AreProper n rs)
        → (variables_value n rs ≡ plus (times (way.alone k) (n v)) (plus (times m (n w)) (variables_value n rest))) × AreProper n rs
    by true same e again =
        let a = went (way.both m k) (λ s. Ok (with_variable w s rest)) rs e in
        let one : v ≡ w = one_term v w same in
        let sum : plus m (way.alone k) ≡ a.first = fair.both m k a.first a.was in
        let rs_is : with_variable w a.first rest ≡ rs = same_ok _ _ a.then in
        let s_reduced : IsReduced a.first = subst IsReduced sum (plus-reduced m (way.alone k) p.0.coefficient.positive (fair.reduced k rk).positive) in
        let h = with_variable_value n w a.first rest s_reduced p.0.number p.1 in (
          ap (variables_value n) (sym rs_is) ∙ h.0
              ∙ ap (λ s. plus (times s (n w)) (variables_value n rest)) (sym sum)
              ∙ ap (λ t. plus t (variables_value n rest)) (times-plus m (way.alone k) (n w) p.0.number.positive ∙ plus-comm _ _)
              ∙ plus-assoc (times (way.alone k) (n w)) (times m (n w)) (variables_value n rest)
              ∙ ap (λ u. plus (times (way.alone k) (n u)) (plus (times m (n w)) (variables_value n rest))) (sym one),
          subst (AreProper n) rs_is h.1,
        )
    by false same e again =
        let a = went (joined way v k rest) (λ r. Ok ((w, m) ∷ r)) rs e in
        let rs_is : (w, m) ∷ a.first ≡ rs = same_ok _ _ a.then in
        let h = again a.first a.was rk rn p.1 in (
          ap (variables_value n) (sym rs_is) ∙ ap (plus (times m (n w))) h.0 ∙ plus-swap (times m (n w)) (times (way.alone k) (n v)) (variables_value n rest),
          subst (AreProper n) rs_is (p.0, h.1),
        )

-- many variables more
all_joined_value : (n : Term → Fraction) (way : Way) → IsFair way → (es fs rs : List (Term × Fraction)) → all_joined way es fs ≡ Ok rs
    → AreProper n es → AreProper n fs → (variables_value n rs ≡ plus (way.alone (variables_value n fs)) (variables_value n es)) × AreProper n rs
unfolding all_joined variables_value
all_joined_value n way fair es [] rs e p q =
    let r = same_ok _ _ e in (
      ap (variables_value n) (sym r) ∙ sym (plus-zero_left (variables_value n es) (variables_reduced n es p)) ∙ ap (λ t. plus t (variables_value n es)) (sym fair.at_zero),
      subst (AreProper n) r p,
    )
all_joined_value n way fair es ((v, k) ∷ fs) rs e p q =
    let a = went (joined way v k es) (λ r. all_joined way r fs) rs e in
    let h = joined_value n way fair v k es a.first a.was q.0.coefficient q.0.number p in
    let again = all_joined_value n way fair a.first fs rs a.then h.1 q.1 in
    let all = variables_value n fs in (
      again.0
          ∙ ap (plus (way.alone all)) h.0
          ∙ plus-swap (way.alone all) (times (way.alone k) (n v)) (variables_value n es)
          ∙ sym (plus-assoc (times (way.alone k) (n v)) (way.alone all) (variables_value n es))
          ∙ ap (λ t. plus t (variables_value n es)) (ap (λ t. plus t (way.alone all)) (sym (fair.over_times k (n v))) ∙ sym (fair.over_plus (times k (n v)) all)),
      again.1,
    )

-- two forms joined
pub combined_value : (n : Term → Fraction) (way : Way) → IsFair way → (e f r : Form) → combined way e f ≡ Ok r → IsProper n e → IsProper n f
    → HasValue n r (plus (form_value n e) (way.alone (form_value n f)))
unfolding combined form_value
combined_value n way fair e f r h pe pf =
    let a = went (way.both e.constant f.constant) (λ c. all_joined way e.variables f.variables >>= λ vs. Ok (record { constant = c; variables = vs })) r h in
    let b = went (all_joined way e.variables f.variables) (λ vs. Ok (record { constant = a.first; variables = vs })) r a.then in
    let r_is : (let made : Form = record { constant = a.first; variables = b.first } in made) ≡ r = same_ok _ _ b.then in
    let c_is : plus e.constant (way.alone f.constant) ≡ a.first = fair.both e.constant f.constant a.first a.was in
    let vs = all_joined_value n way fair e.variables f.variables b.first b.was pe.variables pf.variables in
    let mine = variables_value n e.variables in
    let yours = variables_value n f.variables in
    record {
      value = ap (form_value n) (sym r_is) ∙ (λ i. plus (sym c_is i) ((vs.0 ∙ plus-comm (way.alone yours) mine) i))
          ∙ plus-cross e.constant (way.alone f.constant) mine (way.alone yours)
          ∙ ap (plus (plus e.constant mine)) (sym (fair.over_plus f.constant yours));
      proper = subst (IsProper n) r_is (record {
        constant = subst IsReduced c_is (plus-reduced e.constant (way.alone f.constant) pe.constant.positive (fair.reduced f.constant pf.constant).positive);
        variables = vs.1;
      });
    }

-- A change of each number that multiplies it by one factor.
pub record IsFactor (change : Fraction → Answer Fraction) (c : Fraction) : Type 0 where
  pub each : (k m : Fraction) → change k ≡ Ok m → times c k ≡ m
  pub positive : 0 < c.den

each_value : (n : Term → Fraction) (change : Fraction → Answer Fraction) (c : Fraction) → IsFactor change c → (es rs : List (Term × Fraction)) → each_number change es ≡ Ok rs
    → AreProper n es → (variables_value n rs ≡ times c (variables_value n es)) × AreProper n rs
unfolding each_number variables_value
each_value n change c fair [] rs e p =
    let r = same_ok _ _ e in
    (ap (variables_value n) (sym r) ∙ sym (times-zero c fair.positive), subst (AreProper n) r tt)
each_value n change c fair ((v, k) ∷ es) rs e p =
    let a = went (change k) (λ m. each_number change es >>= λ r. Ok (with_variable v m r)) rs e in
    let b = went (each_number change es) (λ r. Ok (with_variable v a.first r)) rs a.then in
    let rs_is : with_variable v a.first b.first ≡ rs = same_ok _ _ b.then in
    let m_is : times c k ≡ a.first = fair.each k a.first a.was in
    let again = each_value n change c fair es b.first b.was p.1 in
    let h = with_variable_value n v a.first b.first (subst IsReduced m_is (times-reduced c k fair.positive p.0.coefficient.positive)) p.0.number again.1 in (
      ap (variables_value n) (sym rs_is) ∙ h.0
          ∙ (λ i. plus ((ap (λ m. times m (n v)) (sym m_is) ∙ times-assoc c k (n v)) i) (again.0 i))
          ∙ sym (times-plus_left (times k (n v)) (variables_value n es) c fair.positive),
      subst (AreProper n) rs_is h.1,
    )

changed_value : (n : Term → Fraction) (change : Fraction → Answer Fraction) (c : Fraction) → IsFactor change c → (f r : Form) → changed change f ≡ Ok r
    → IsProper n f → HasValue n r (times c (form_value n f))
unfolding changed form_value
changed_value n change c fair f r e p =
    let a = went (change f.constant) (λ c. each_number change f.variables >>= λ vs. Ok (record { constant = c; variables = vs })) r e in
    let b = went (each_number change f.variables) (λ vs. Ok (record { constant = a.first; variables = vs })) r a.then in
    let r_is : (let made : Form = record { constant = a.first; variables = b.first } in made) ≡ r = same_ok _ _ b.then in
    let c_is : times c f.constant ≡ a.first = fair.each f.constant a.first a.was in
    let vs = each_value n change c fair f.variables b.first b.was p.variables in
    record {
      value = ap (form_value n) (sym r_is) ∙ (λ i. plus (sym c_is i) (vs.0 i)) ∙ sym (times-plus_left f.constant (variables_value n f.variables) c fair.positive);
      proper = subst (IsProper n) r_is (record { constant = subst IsReduced c_is (times-reduced c f.constant fair.positive p.constant.positive); variables = vs.1 });
    }

-- a form multiplied by a number
pub scaled_value : (n : Term → Fraction) (c : Fraction) (f r : Form) → scaled c f ≡ Ok r → 0 < c.den → IsProper n f → HasValue n r (times c (form_value n f))
scaled_value n c f r e cp p = changed_value n (λ k. multiplied c k) c (record { each = multiplied_is c; positive = cp }) f r e p

-- a form divided by a number
pub shared_value : (n : Term → Fraction) (f : Form) (d : Fraction) (r : Form) → shared_out f d ≡ Ok r → IsReduced d → IsProper n f → HasValue n r (divide (form_value n f) d)
shared_value n f d r e dr p =
    let fair : IsFactor (λ k. divided k d) (inverse d) = record { each = λ k m e. times-comm (inverse d) k ∙ divided_is k d m e; positive = (inverse-reduced d dr).positive } in
    let h = changed_value n (λ k. divided k d) (inverse d) fair f r e p in
    record { value = h.value ∙ times-comm (inverse d) (form_value n f); proper = h.proper }

-- all numbers negated
opposites_value : (n : Term → Fraction) (es : List (Term × Fraction)) → AreProper n es
    → (variables_value n (opposites es) ≡ opposite (variables_value n es)) × AreProper n (opposites es)
unfolding variables_value
opposites_value n [] p = (sym opposite-zero, tt)
opposites_value n ((v, k) ∷ es) p =
    let again = opposites_value n es p.1 in (
      (λ i. plus (sym (opposite-times k (n v)) i) (again.0 i)) ∙ sym (opposite-plus (times k (n v)) (variables_value n es)),
      (record { coefficient = opposite-reduced k p.0.coefficient; number = p.0.number }, again.1),
    )

pub opposite_value : (n : Term → Fraction) (f : Form) → IsProper n f → HasValue n (opposite_form f) (opposite (form_value n f))
unfolding form_value
opposite_value n f p =
    let h = opposites_value n f.variables p.variables in
    record {
      value = ap (plus (opposite f.constant)) h.0 ∙ sym (opposite-plus f.constant (variables_value n f.variables));
      proper = record { constant = opposite-reduced f.constant p.constant; variables = h.1 };
    }
