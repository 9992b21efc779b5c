-- The difference of two terms has the opposite value with its sides exchanged.
use Rattle.std.proofs.Common.{◌≡◌, ◌<◌, List, Ok, ℤ, neg_ℤ, refl, sym, ◌∙◌, ap, subst, arith}
use Rattle.std.proofs.lemmas.Int.{ints}
use Rattle.spec_text.specs.Answers.{◌>>=◌}
use Rattle.spec_text.proofs.AnswerLaws.{went}
use Rattle.spec_numbers.specs.Fractions.{Fraction, gcd, zero_fraction, plus, opposite, IsReduced}
use Rattle.spec_numbers.specs.Bounds.{is_small, fits, sum_fits, subtracted}
use Rattle.spec_numbers.proofs.Field.{plus-comm, plus-cross, plus-reduced, opposite-plus, zero-reduced}
use Rattle.spec_sorts.specs.Terms.{Term}
use Rattle.spec_arithmetic.specs.Forms.{Form, Fault, subtracting, all_joined, combined, at_term, form, difference, variables_value, form_value}
use Rattle.spec_arithmetic.proofs.General.{same_ok}
use Rattle.spec_arithmetic.proofs.Zero.{plus-zero_left}
use Rattle.spec_arithmetic.proofs.FormValues.{subtracting_fair, AreProper, IsProper, combined_value, variables_reduced}
use Rattle.spec_arithmetic.proofs.FormTerms.{at_ok}
use Rattle.spec_simplex.proofs.LowestForms.{AreLowest, AreNumbers, proper_of, subtracting_even, all_joined_lowest, IsCombined, combined_parts, combined_positive, form_safe}

-- variables as a form without a constant
abbrev only : List (Term × Fraction) → Form
only vs = record { constant = zero_fraction; variables = vs }

only_value : (n : Term → Fraction) (vs : List (Term × Fraction)) → AreProper n vs → form_value n (only vs) ≡ variables_value n vs
unfolding form_value
only_value n vs p = plus-zero_left (variables_value n vs) (variables_reduced n vs p)

zero_minus_zero : subtracted zero_fraction zero_fraction ≡ Ok zero_fraction
unfolding subtracted sum_fits fits is_small plus opposite gcd
zero_minus_zero = refl

-- variables subtracted
subtracted_variables : (n : Term → Fraction) (es fs rs : List (Term × Fraction)) → all_joined subtracting es fs ≡ Ok rs → AreProper n es → AreProper n fs → AreProper n rs
    → variables_value n rs ≡ plus (variables_value n es) (opposite (variables_value n fs))
unfolding combined ◌>>=◌
subtracted_variables n es fs rs e p q r =
    let is : combined subtracting (only es) (only fs) ≡ Ok (only rs) =
    (λ i. zero_minus_zero i >>= λ c. all_joined subtracting es fs >>= λ vs. Ok (record { constant = c; variables = vs }))
    ∙ (λ i. e i >>= λ vs. Ok (only vs)) in
    let c = combined_value n subtracting subtracting_fair (only es) (only fs) (only rs) is
    (record { constant = zero-reduced; variables = p }) (record { constant = zero-reduced; variables = q }) in
    sym (only_value n rs r) ∙ c.value ∙ (λ i. plus (only_value n es p i) (opposite (only_value n fs q i)))

opposite_twice : (x : Fraction) → opposite (opposite x) ≡ x
unfolding opposite
opposite_twice x = λ i. record { num = twice x.num i; den = x.den }
  where
    twice : (z : ℤ) → neg_ℤ (neg_ℤ z) ≡ z
    twice z = omega (arith, ints)

-- x - y is minus y - x
pub turned : (x y : Fraction) → plus y (opposite x) ≡ opposite (plus x (opposite y))
turned x y = plus-comm y (opposite x) ∙ ap (plus (opposite x)) (sym (opposite_twice y)) ∙ sym (opposite-plus x (opposite y))

-- The forms of two terms, and their difference.
pub record IsDifference (s t : Term) (f : Form) : Type 0 where
  pub left : Form
  pub right : Form
  pub left_is : form s ≡ Ok left
  pub right_is : form t ≡ Ok right
  pub combined : combined subtracting left right ≡ Ok f

pub difference_parts : (atom s t : Term) (f : Form) → difference atom s t ≡ Ok f → IsDifference s t f
unfolding difference
difference_parts atom s t f e =
    let a = went (form s) (λ f. form t >>= λ g. at_term atom (combined subtracting f g)) f e in
    let b = went (form t) (λ g. at_term atom (combined subtracting a.first g)) f a.then in
    record { left = a.first; right = b.first; left_is = a.was; right_is = b.was; combined = at_ok _ _ _ b.then }

-- The parts of a difference whose constant is a number.
record AreSides (s t : Term) (f : Form) (d : IsDifference s t f) : Type 0 where
  combined : IsCombined subtracting d.left d.right f
  left_positive : 0 < d.left.constant.den
  right_positive : 0 < d.right.constant.den
  left : AreLowest d.left.variables
  right : AreLowest d.right.variables

sides_of : (s t : Term) (f : Form) (d : IsDifference s t f) → 0 < f.constant.den → AreSides s t f d
sides_of s t f d h =
    let c = combined_parts subtracting subtracting_fair d.left d.right f d.combined in
    let p = combined_positive subtracting subtracting_even d.left d.right f c h in
    record {
      combined = c;
      left_positive = p.0;
      right_positive = p.1;
      left = (form_safe s d.left d.left_is).lowest p.0;
      right = (form_safe t d.right d.right_is).lowest p.1;
    }

-- A form with numbers in lowest terms.
pub record IsLowest (f : Form) : Type 0 where
  pub constant : IsReduced f.constant
  pub variables : AreLowest f.variables

pub lowest_proper : (n : Term → Fraction) → AreNumbers n → (f : Form) → IsLowest f → IsProper n f
lowest_proper n h f l = record { constant = l.constant; variables = proper_of n h f.variables l.variables }

combined_lowest : (e f r : Form) → IsCombined subtracting e f r → 0 < e.constant.den → 0 < f.constant.den → AreLowest e.variables → AreLowest f.variables → IsLowest r
unfolding opposite
combined_lowest e f r c pe pf le lf = record {
  constant = subst IsReduced c.constant (plus-reduced e.constant (opposite f.constant) pe pf);
  variables = all_joined_lowest subtracting subtracting_fair e.variables f.variables r.variables c.variables le lf;
}

pub difference_lowest : (atom s t : Term) (f : Form) → difference atom s t ≡ Ok f → 0 < f.constant.den → IsLowest f
difference_lowest atom s t f e h =
    let d = difference_parts atom s t f e in
    let a = sides_of s t f d h in
    combined_lowest d.left d.right f a.combined a.left_positive a.right_positive a.left a.right

-- the value of a difference, as that of its constant and its variables
combined_is : (n : Term → Fraction) → AreNumbers n → (e f r : Form) → IsCombined subtracting e f r → AreLowest e.variables → AreLowest f.variables → AreLowest r.variables
    → form_value n r ≡ plus (form_value n e) (opposite (form_value n f))
unfolding form_value
combined_is n h e f r c le lf lr =
    let ve = variables_value n e.variables in
    let vf = variables_value n f.variables in
    (λ i. plus (sym c.constant i)
    (subtracted_variables n e.variables f.variables r.variables c.variables (proper_of n h _ le) (proper_of n h _ lf) (proper_of n h _ lr) i))
    ∙ plus-cross e.constant (opposite f.constant) ve (opposite vf)
    ∙ ap (plus (plus e.constant ve)) (sym (opposite-plus f.constant vf))

-- with its sides exchanged
pub difference_reversed : (n : Term → Fraction) → AreNumbers n → (atom s t : Term) (f r : Form) → difference atom s t ≡ Ok f → difference atom t s ≡ Ok r → 0 < f.constant.den
    → IsLowest r × (form_value n r ≡ opposite (form_value n f))
difference_reversed n h atom s t f r e g p =
    let d = difference_parts atom s t f e in
    let a = sides_of s t f d p in
    let b = difference_parts atom t s r g in
    let c : combined subtracting d.right d.left ≡ Ok r =
    subst (λ x. combined subtracting x d.left ≡ Ok r) (same_ok {E = Fault} _ _ (sym b.left_is ∙ d.right_is))
    (subst (λ x. combined subtracting b.left x ≡ Ok r) (same_ok {E = Fault} _ _ (sym b.right_is ∙ d.left_is)) b.combined) in
    let parts = combined_parts subtracting subtracting_fair d.right d.left r c in
    let l = combined_lowest d.right d.left r parts a.right_positive a.left_positive a.right a.left in
    let k = difference_lowest atom s t f e p in (
      l,
      combined_is n h d.right d.left r parts a.right a.left l.variables
          ∙ turned (form_value n d.left) (form_value n d.right)
          ∙ ap opposite (sym (combined_is n h d.left d.right f a.combined a.left a.right k.variables)),
    )
