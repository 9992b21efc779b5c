-- The variables of a linear term's form are terms whose heads are none of arithmetic, so they have their own numbers.
use Rattle.std.proofs.Common.{◌≡◌, ℕ, suc, ◌≤◌, ◌+◌, Bool, true, false, not, ◌&&◌, ◌||◌, cond, length, List, [], ◌∷◌, Option, Some, None, Ok, refl, sym, ◌∙◌, ap, subst, arith, Contains}
use Rattle.std.specs.Prelude.{nat_le}
use Rattle.std.proofs.lemmas.Bool.{true≢false, false≢true, and_parts}
use Rattle.std.proofs.lemmas.Bool.Decides.{nat_tests}
use Rattle.spec_text.specs.Answers.{◌>>=◌}
use Rattle.spec_text.proofs.AnswerLaws.{went}
use Rattle.spec_numbers.specs.Fractions.{Fraction, zero_fraction, plus, times, inverse, minus, divide, IsReduced}
use Rattle.spec_numbers.specs.Bounds.{divided}
use Rattle.spec_numbers.proofs.Field.{times-assoc, times-comm, times-one, times-inverse, times-reduced, inverse-reduced, zero-reduced}
use Rattle.spec_numbers.proofs.Bounds.{divided_is}
use Rattle.spec_text.specs.declared.Fault.{Fault}
use Rattle.spec_text.specs.declared.Fault.TheVariants.{NotLinear, ZeroDivisor}
use Rattle.spec_text.proofs.Members.{none, each_of}
use Rattle.spec_sorts.specs.Terms.{Sort, Number, Symbol, Plus, Times, Minus, Divide, Literal, Term, Terms, app, nil, cons, list_of, head_takes, sorts_of, same_term}
use Rattle.spec_sorts.specs.Values.{number_in}
use Rattle.spec_sorts.specs.Theory.{keeps_constant, is_constant, are_constant, is_divisor, is_zero_divisor, count_of, product_fault, quotient_fault}
use Rattle.spec_sorts.specs.Subsets.{arguments_of}
use Rattle.spec_arithmetic.specs.Signs.{is_zero}
use Rattle.spec_arithmetic.specs.Forms.{Answer, Form, Way, adding, subtracting, variable_form, unless_zero, with_variable, joined, all_joined, combined, opposites, opposite_form, each_number, changed, scaled, shared_out, factor_of, all_added, all_multiplied, divisor_of, divisor_by, quotient_form, form_by, at_term, form, forms, difference, variables_value, form_value}
use Rattle.spec_arithmetic.specs.Numbers.{number_at, IsLinear, AreLinear, IsLinearOver}
use Rattle.spec_arithmetic.proofs.General.{same_ok}
use Rattle.spec_arithmetic.proofs.Zero.{times-of_zero, opposite-not_zero}
use Rattle.spec_arithmetic.proofs.FormValues.{subtracting_fair, combined_value, form_value_reduced}
use Rattle.spec_arithmetic.proofs.Reals.{IsReal, AreReal, arguments_real, reals_parts, plus_takes, times_takes, minus_takes, divide_takes}
use Rattle.spec_arithmetic.proofs.FormTerms.{at_ok}
use Rattle.spec_arithmetic.proofs.FormNumbers.{takes, form_number}

-- a term whose head is none of arithmetic
abbrev pub IsOwn : Term → Type 0
IsOwn (app h ts) = keeps_constant h ≡ false

-- each variable is such a term
abbrev AreOwn : List (Term × Fraction) → Type 0
AreOwn [] = Unit {0}
AreOwn ((v, k) ∷ rest) = IsOwn v × AreOwn rest

-- one variable more
with_own : (v : Term) (b : Bool) (k : Fraction) (rest : List (Term × Fraction)) → IsOwn v → AreOwn rest → AreOwn (unless_zero b v k rest)
with_own v true k rest o p = p
with_own v false k rest o p = (o, p)

joined_own : (way : Way) (v : Term) (k : Fraction) (es rs : List (Term × Fraction)) → joined way v k es ≡ Ok rs → IsOwn v → AreOwn es → AreOwn rs
unfolding joined
joined_own way v k [] rs e o p = subst AreOwn (same_ok _ _ e) (o, tt)
joined_own way v k ((w, m) ∷ rest) rs e o p = by (same_term v w) e (joined_own way v k rest)
  where
    by : (b : Bool)
        → (let r : Answer (List (Term × Fraction)) = elim b [ true ↦ way.both m k >>= λ s. Ok (with_variable w s rest) | false ↦ joined way v k rest >>= λ r. Ok ((w, m) ∷ r) ] in r) ≡ Ok rs
        → ((rs : List (Term × Fraction)) → joined way v k rest ≡ Ok rs → IsOwn v → AreOwn rest → AreOwn rs)
        → AreOwn rs
    by true e again =
        let a = went (way.both m k) (λ s. Ok (with_variable w s rest)) rs e in
        subst AreOwn (same_ok _ _ a.then) (with_own w (is_zero a.first) a.first rest p.0 p.1)
    by false e again =
        let a = went (joined way v k rest) (λ r. Ok ((w, m) ∷ r)) rs e in
        subst AreOwn (same_ok _ _ a.then) (p.0, again a.first a.was o p.1)

-- many variables more
all_joined_own : (way : Way) (es fs rs : List (Term × Fraction)) → all_joined way es fs ≡ Ok rs → AreOwn es → AreOwn fs → AreOwn rs
unfolding all_joined
all_joined_own way es [] rs e p q = subst AreOwn (same_ok _ _ e) p
all_joined_own way es ((v, k) ∷ fs) rs e p q =
    let a = went (joined way v k es) (λ r. all_joined way r fs) rs e in
    all_joined_own way a.first fs rs a.then (joined_own way v k es a.first a.was q.0 p) q.1

-- each coefficient changed
each_own : (change : Fraction → Answer Fraction) (es rs : List (Term × Fraction)) → each_number change es ≡ Ok rs → AreOwn es → AreOwn rs
unfolding each_number
each_own change [] rs e p = subst AreOwn (same_ok _ _ e) tt
each_own change ((v, k) ∷ es) rs e p =
    let a = went (change k) (λ m. each_number change es >>= λ r. Ok (with_variable v m r)) rs e in
    let b = went (each_number change es) (λ r. Ok (with_variable v a.first r)) rs a.then in
    subst AreOwn (same_ok _ _ b.then) (with_own v (is_zero a.first) a.first b.first p.0 (each_own change es b.first b.was p.1))

opposites_own : (es : List (Term × Fraction)) → AreOwn es → AreOwn (opposites es)
opposites_own [] p = tt
opposites_own ((v, k) ∷ es) p = (p.0, opposites_own es p.1)

-- A form whose variables are such terms, and which has none where the test holds.
record IsOwnForm (constant : Bool) (f : Form) : Type 0 where
  own : AreOwn f.variables
  bare : constant ≡ true → f.variables ≡ []

-- forms joined
no_joined : (way : Way) (es fs rs : List (Term × Fraction)) → all_joined way es fs ≡ Ok rs → es ≡ [] → fs ≡ [] → rs ≡ []
unfolding all_joined
no_joined way es [] rs e p q = sym (same_ok _ _ e) ∙ p
no_joined way es (x ∷ fs) rs e p q = cc

combined_own : (way : Way) (c : Bool) (e f r : Form) → combined way e f ≡ Ok r → IsOwnForm c e → IsOwnForm c f → IsOwnForm c r
unfolding combined
combined_own way c e f r h p q =
    let a = went (way.both e.constant f.constant) (λ k. all_joined way e.variables f.variables >>= λ vs. Ok (record { constant = k; variables = vs })) r h in
    let b = went (all_joined way e.variables f.variables) (λ vs. Ok (record { constant = a.first; variables = vs })) r a.then in
    subst (IsOwnForm c) (same_ok _ _ b.then) (record {
      own = all_joined_own way e.variables f.variables b.first b.was p.own q.own;
      bare = λ s. no_joined way e.variables f.variables b.first b.was (p.bare s) (q.bare s);
    })

-- each coefficient changed, and the constant
no_each : (change : Fraction → Answer Fraction) (es rs : List (Term × Fraction)) → each_number change es ≡ Ok rs → es ≡ [] → rs ≡ []
unfolding each_number
no_each change [] rs e p = sym (same_ok _ _ e)
no_each change (x ∷ es) rs e p = cc

-- A form with each number changed.
record IsChanged (change : Fraction → Answer Fraction) (f r : Form) : Type 0 where
  constant : change f.constant ≡ Ok r.constant
  variables : each_number change f.variables ≡ Ok r.variables

changed_parts : (change : Fraction → Answer Fraction) (f r : Form) → changed change f ≡ Ok r → IsChanged change f r
unfolding changed
changed_parts change f r e =
    let a = went (change f.constant) (λ k. each_number change f.variables >>= λ vs. Ok (record { constant = k; variables = vs })) r e in
    let b = went (each_number change f.variables) (λ vs. Ok (record { constant = a.first; variables = vs })) r a.then in
    subst (IsChanged change f) (same_ok _ _ b.then) (record { constant = a.was; variables = b.was })

changed_own : (change : Fraction → Answer Fraction) (c : Bool) (f r : Form) → changed change f ≡ Ok r → IsOwnForm c f → IsOwnForm c r
changed_own change c f r e p =
    let h = changed_parts change f r e in
    record { own = each_own change f.variables r.variables h.variables p.own; bare = λ s. no_each change f.variables r.variables h.variables (p.bare s) }

opposite_own : (c : Bool) (f : Form) → IsOwnForm c f → IsOwnForm c (opposite_form f)
opposite_own c f p = record { own = opposites_own f.variables p.own; bare = λ s. ap opposites (p.bare s) }

-- what a weaker test asks
weaker : (b c : Bool) (f : Form) → (c ≡ true → b ≡ true) → IsOwnForm b f → IsOwnForm c f
weaker b c f w p = record { own = p.own; bare = λ s. p.bare (w s) }

-- A number other than 0.
record IsDivisor (f : Form) : Type 0 where
  bare : f.variables ≡ []
  other : is_zero f.constant ≡ false

-- The form of a linear term: it has no variables where the term is a constant, and is a number other than 0 where this is a divisor.
record IsFit (t : Term) (f : Form) : Type 0 where
  own : IsOwnForm (is_constant t) f
  divides : is_divisor t ≡ true → is_zero_divisor t ≡ false → IsDivisor f

-- the forms of linear terms
abbrev AreFit : Terms → List Form → Type 0
AreFit nil [] = Unit {0}
AreFit (cons t ts) (f ∷ fs) = IsFit t f × AreFit ts fs
AreFit _ _ = ⊥

-- forms of which none has variables where the test holds
abbrev AreOwnForms : Bool → List Form → Type 0
AreOwnForms c [] = Unit {0}
AreOwnForms c (f ∷ fs) = IsOwnForm c f × AreOwnForms c fs

all_weaker : (b c : Bool) (fs : List Form) → (c ≡ true → b ≡ true) → AreOwnForms b fs → AreOwnForms c fs
all_weaker b c [] w p = tt
all_weaker b c (f ∷ fs) w p = (weaker b c f w p.0, all_weaker b c fs w p.1)

all_own : (ts : Terms) (fs : List Form) → AreFit ts fs → AreOwnForms (are_constant ts) fs
unfolding are_constant
all_own nil [] a = tt
all_own nil (f ∷ fs) a = absurd a
all_own (cons t ts) [] a = absurd a
all_own (cons t ts) (f ∷ fs) a = (
  weaker (is_constant t) (is_constant t && are_constant ts) f (λ s. (and_parts _ _ s).0) a.0.own,
  all_weaker (are_constant ts) (is_constant t && are_constant ts) fs (λ s. (and_parts _ _ s).1) (all_own ts fs a.1),
)

added_own : (c : Bool) (f : Form) (fs : List Form) (r : Form) → all_added f fs ≡ Ok r → IsOwnForm c f → AreOwnForms c fs → IsOwnForm c r
unfolding all_added
added_own c f [] r e p ps = subst (IsOwnForm c) (same_ok _ _ e) p
added_own c f (g ∷ gs) r e p ps =
    let a = went (combined adding f g) (λ h. all_added h gs) r e in
    added_own c a.first gs r a.then (combined_own adding c f g a.first a.was p ps.0) ps.1

-- of two forms one has no variables: they have a factor
factor_own : (b c : Bool) (fc : Fraction) (fv : List (Term × Fraction)) (gc : Fraction) (gv : List (Term × Fraction)) → b || c ≡ true
    → IsOwnForm b (record { constant = fc; variables = fv }) → IsOwnForm c (record { constant = gc; variables = gv })
    → (p : Fraction × Form) × (factor_of (record { constant = fc; variables = fv }) (record { constant = gc; variables = gv }) ≡ Some p) × IsOwnForm (b && c) p.1
factor_own b c fc [] gc gv e p q = ((fc, record { constant = gc; variables = gv }), refl, weaker c (b && c) _ (λ s. (and_parts b c s).1) q)
factor_own b c fc (x ∷ fv) gc [] e p q = ((gc, record { constant = fc; variables = x ∷ fv }), refl, weaker b (b && c) _ (λ s. (and_parts b c s).0) p)
factor_own true c fc (x ∷ fv) gc (y ∷ gv) e p q = absurd (some x fv (p.bare refl))
  where
    some : (x : Term × Fraction) (xs : List (Term × Fraction)) → x ∷ xs ≡ [] → ⊥
    some x xs e = cc
factor_own false c fc (x ∷ fv) gc (y ∷ gv) e p q = absurd (some y gv (q.bare e))
  where
    some : (x : Term × Fraction) (xs : List (Term × Fraction)) → x ∷ xs ≡ [] → ⊥
    some x xs e = cc

-- how many of these are no constants
abbrev others : List Term → ℕ
others ts = count_of (λ t. not (is_constant t)) ts

-- one factor at most is no constant, the product of those before among them
abbrev HasRoom : Bool → ℕ → Type 0
HasRoom b n = cond b 0 1 + n ≤ 1

one_constant : (b c : Bool) (n : ℕ) → HasRoom b (cond (not c) (suc n) n) → b || c ≡ true
one_constant true c n h = refl
one_constant false true n h = refl
one_constant false false n h = absurd (omega (arith, h))

more_room : (b c : Bool) (n : ℕ) → HasRoom b (cond (not c) (suc n) n) → HasRoom (b && c) n
more_room true true n h = h
more_room true false n h = omega (arith, h)
more_room false true n h = h
more_room false false n h = omega (arith, h)

multiplied_own : (t : Term) (b : Bool) (ts : Terms) (f : Form) (fs : List Form) (r : Form) → all_multiplied t f fs ≡ Ok r → AreFit ts fs → IsOwnForm b f → HasRoom b (others (list_of ts)) → IsOwnForm (b && are_constant ts) r
unfolding all_multiplied are_constant
multiplied_own t b nil f [] r e a p room = weaker b (b && true) r (λ s. (and_parts b true s).0) (subst (IsOwnForm b) (same_ok _ _ e) p)
multiplied_own t b nil f (g ∷ gs) r e a p room = absurd a
multiplied_own t b (cons u us) f [] r e a p room = absurd a
multiplied_own t b (cons u us) f (g ∷ gs) r e a p room =
    let c = is_constant u in
    let q = factor_own b c f.constant f.variables g.constant g.variables (one_constant b c (others (list_of us)) room) p a.0.own in
    let e : (scaled q.0.0 q.0.1 >>= λ k. all_multiplied t k gs) ≡ Ok r =
    subst (λ o. (let x : Answer Form = elim o [ Some p ↦ scaled p.0 p.1 >>= λ k. all_multiplied t k gs | None ↦ Ok (variable_form t) ] in x) ≡ Ok r) q.1 e in
    let s = went (scaled q.0.0 q.0.1) (λ k. all_multiplied t k gs) r e in
    let again = multiplied_own t (b && c) us s.first gs r s.then a.1 (changed_own _ (b && c) q.0.1 s.first s.was q.2) (more_room b c (others (list_of us)) room) in
    weaker ((b && c) && are_constant us) (b && (c && are_constant us)) r (regroup b c (are_constant us)) again
  where
    regroup : (b c d : Bool) → b && (c && d) ≡ true → (b && c) && d ≡ true
    regroup true c d e = e
    regroup false c d e = e

-- a quotient of numbers other than 0, and an opposite, is none
divide_other : (x y : Fraction) → IsReduced x → IsReduced y → is_zero x ≡ false → is_zero y ≡ false → is_zero (divide x y) ≡ false
unfolding is_zero
divide_other x y rx ry ex ey = by (is_zero (divide x y)) refl
  where
    back : times (divide x y) y ≡ x
    back = times-assoc x (inverse y) y
        ∙ ap (times x) (times-comm (inverse y) y ∙ times-inverse y ry (λ s. false≢true (sym ey ∙ ap is_zero s)))
        ∙ times-one x rx

    by : (b : Bool) → is_zero (divide x y) ≡ b → b ≡ false
    by true e =
        let zero : times (divide x y) y ≡ zero_fraction = times-of_zero (divide x y) y e (times-reduced x (inverse y) rx.positive (inverse-reduced y ry).positive).positive ry.positive in
        absurd (false≢true (sym ex ∙ ap is_zero (sym back ∙ zero)))
    by false e = refl

-- a form divided by a number other than 0
quotient_changed : (t : Term) (f g r : Form) → quotient_form t f g ≡ Ok r → IsDivisor g → changed (λ k. divided k g.constant) f ≡ Ok r
unfolding quotient_form
quotient_changed t f g r e d =
    let is : divisor_of g ≡ Some g.constant = λ i. divisor_by (d.other i) (d.bare i) g.constant in
    subst (λ o. (let x : Answer Form = elim o [ Some d ↦ shared_out f d | None ↦ Ok (variable_form t) ] in x) ≡ Ok r) is e

-- what the factors of a linear product, and the divisor of a linear quotient are
product_taken : (ts : List Term) → product_fault ts ≡ None → others ts ≤ 1
product_taken ts e = by (nat_le (others ts) 1) refl e
  where
    by : (b : Bool) → nat_le (others ts) 1 ≡ b → (let o : Option Fault = cond b None (Some NotLinear) in o) ≡ None → others ts ≤ 1
    by true h e = grind (arith, nat_tests, h)
    by false h e = cc

quotient_taken : (t u : Term) → quotient_fault (t ∷ u ∷ []) ≡ None → (is_divisor u ≡ true) × (is_zero_divisor u ≡ false)
quotient_taken t u e = by (is_divisor u) (is_zero_divisor u) e
  where
    by : (b c : Bool) → (let o : Option Fault = cond (not (b && true)) (Some NotLinear) (cond (not (not c && true)) (Some ZeroDivisor) None) in o) ≡ None → (b ≡ true) × (c ≡ false)
    by true false e = (refl, refl)
    by true true e = cc
    by false c e = cc

-- how many arguments a quotient and a difference have
divide_counts : (ss : List Sort) → head_takes [] Divide ss ≡ true → length ss ≡ 2
divide_counts (Number ∷ Number ∷ []) e = refl
divide_counts _ e = absurd (false≢true e)

minus_counts : (ss : List Sort) → head_takes [] Minus ss ≡ true → length ss ≤ 2
minus_counts (Number ∷ []) e = omega arith
minus_counts (Number ∷ Number ∷ []) e = omega arith
minus_counts _ e = absurd (false≢true e)

module _ (symbols : List Symbol) where
  plus_fits : (ts : Terms) (fs : List Form) (f : Form) → form_by (app Plus ts) Plus fs ≡ Ok f → AreFit ts fs → IsReal symbols (app Plus ts) → IsFit (app Plus ts) f
  unfolding is_constant is_divisor
  plus_fits nil fs f e a r = absurd (false≢true (takes symbols Plus nil r.term))
  plus_fits (cons t ts) [] f e a r = absurd a
  plus_fits (cons t ts) (g ∷ gs) f e a r =
      let each = all_own (cons t ts) (g ∷ gs) a in
      record { own = added_own (are_constant (cons t ts)) g gs f e each.0 each.1; divides = λ d z. absurd (false≢true d) }

  times_fits : (ts : Terms) (fs : List Form) (f : Form) → form_by (app Times ts) Times fs ≡ Ok f → AreFit ts fs → IsReal symbols (app Times ts) → product_fault (list_of ts) ≡ None → IsFit (app Times ts) f
  unfolding is_constant is_divisor are_constant
  times_fits nil fs f e a r l = absurd (false≢true (takes symbols Times nil r.term))
  times_fits (cons t ts) [] f e a r l = absurd a
  times_fits (cons t ts) (g ∷ gs) f e a r l =
      let room : HasRoom true (cond (not (is_constant t)) (suc (others (list_of ts))) (others (list_of ts))) = omega (arith, product_taken (t ∷ list_of ts) l) in
      record {
        own = multiplied_own (app Times (cons t ts)) (is_constant t) ts g gs f e a.1 a.0.own (more_room true (is_constant t) (others (list_of ts)) room);
        divides = λ d z. absurd (false≢true d);
      }

  minus_fits : (ts : Terms) (fs : List Form) (f : Form) → form_by (app Minus ts) Minus fs ≡ Ok f → AreFit ts fs → IsReal symbols (app Minus ts) → IsFit (app Minus ts) f
  unfolding is_constant is_divisor are_constant is_zero_divisor
  minus_fits nil fs f e a r = absurd (false≢true (takes symbols Minus nil r.term))
  minus_fits (cons t ts) [] f e a r = absurd a
  minus_fits (cons t nil) (g ∷ []) f e a r = subst (IsFit (app Minus (cons t nil))) (same_ok _ _ e) (record {
    own = weaker (is_constant t) (is_constant t && true) (opposite_form g) (λ s. (and_parts (is_constant t) true s).0) (opposite_own (is_constant t) g a.0.own);
    divides = λ d z. let h = a.0.divides d z in record { bare = ap opposites h.bare; other = opposite-not_zero g.constant h.other };
  })
  minus_fits (cons t nil) (g ∷ h ∷ hs) f e a r = absurd a.1
  minus_fits (cons t (cons u us)) (g ∷ []) f e a r = absurd a.1
  minus_fits (cons t (cons u nil)) (g ∷ h ∷ []) f e a r =
      let each = all_own (cons t (cons u nil)) (g ∷ h ∷ []) a in
      record { own = combined_own subtracting (are_constant (cons t (cons u nil))) g h f e each.0 each.1.0; divides = λ d z. absurd (false≢true d) }
  minus_fits (cons t (cons u nil)) (g ∷ h ∷ k ∷ ks) f e a r = absurd a.1.1
  minus_fits (cons t (cons u (cons v vs))) (g ∷ h ∷ hs) f e a r = absurd (omega (arith, minus_counts (sorts_of (cons t (cons u (cons v vs)))) (takes symbols Minus (cons t (cons u (cons v vs))) r.term)))

  -- constants of forms are in lowest terms
  abbrev AreReducedForms : List Form → Type 0
  AreReducedForms [] = Unit {0}
  AreReducedForms (f ∷ fs) = IsReduced f.constant × AreReducedForms fs

  divide_fits : (ts : Terms) (fs : List Form) (f : Form) → form_by (app Divide ts) Divide fs ≡ Ok f → AreFit ts fs → AreReducedForms fs → IsReal symbols (app Divide ts) → quotient_fault (list_of ts) ≡ None → IsFit (app Divide ts) f
  unfolding is_constant is_divisor are_constant is_zero_divisor
  divide_fits nil fs f e a n r l = absurd (false≢true (takes symbols Divide nil r.term))
  divide_fits (cons t nil) fs f e a n r l = absurd (omega (arith, divide_counts (sorts_of (cons t nil)) (takes symbols Divide (cons t nil) r.term)))
  divide_fits (cons t (cons u nil)) [] f e a n r l = absurd a
  divide_fits (cons t (cons u nil)) (g ∷ []) f e a n r l = absurd a.1
  divide_fits (cons t (cons u nil)) (g ∷ h ∷ []) f e a n r l =
      let taken = quotient_taken t u l in
      let divisor = a.1.0.divides taken.0 taken.1 in
      let change = quotient_changed (app Divide (cons t (cons u nil))) g h f e divisor in
      record {
        own = weaker (is_constant t) (is_constant t && (is_constant u && true)) f (λ s. (and_parts (is_constant t) (is_constant u && true) s).0)
            (changed_own (λ k. divided k h.constant) (is_constant t) g f change a.0.own);
        divides = λ d z.
            let first = a.0.divides (and_parts (is_divisor t) (is_divisor u) d).0 z in
            let parts = changed_parts (λ k. divided k h.constant) g f change in
            record {
              bare = no_each (λ k. divided k h.constant) g.variables f.variables parts.variables first.bare;
              other = subst (λ q. is_zero q ≡ false) (divided_is g.constant h.constant f.constant parts.constant) (divide_other g.constant h.constant n.0 n.1.0 first.other divisor.other);
            };
      }
  divide_fits (cons t (cons u nil)) (g ∷ h ∷ k ∷ ks) f e a n r l = absurd a.1.1
  divide_fits (cons t (cons u (cons v vs))) fs f e a n r l = absurd (omega (arith, divide_counts (sorts_of (cons t (cons u (cons v vs)))) (takes symbols Divide (cons t (cons u (cons v vs))) r.term)))

  reduced_form : (t : Term) (f : Form) → form t ≡ Ok f → IsReal symbols t → IsReduced f.constant
  reduced_form t f e r = (form_number symbols (λ u. zero_fraction) (λ u. zero-reduced) t f e r).proper.constant

  reduced_forms : (ts : Terms) (fs : List Form) → forms ts ≡ Ok fs → AreReal symbols ts → AreReducedForms fs
  unfolding forms
  reduced_forms nil fs e r = subst AreReducedForms (same_ok _ _ e) tt
  reduced_forms (cons t ts) fs e r =
      let a = went (form t) (λ f. forms ts >>= λ fs. Ok (f ∷ fs)) fs e in
      let b = went (forms ts) (λ fs. Ok (a.first ∷ fs)) fs a.then in
      let parts = reals_parts symbols t ts r in
      subst AreReducedForms (same_ok _ _ b.then) (reduced_form t a.first a.was parts.0, reduced_forms ts b.first b.was parts.1)

  -- a term whose form is itself as a variable
  itself_fits : (t : Term) (f : Form) → variable_form t ≡ f → IsOwn t → is_constant t ≡ false → is_divisor t ≡ false → IsFit t f
  itself_fits t f e o c d = subst (IsFit t) e (record {
    own = record { own = (o, tt); bare = λ s. absurd (false≢true (sym c ∙ s)) };
    divides = λ s z. absurd (false≢true (sym d ∙ s));
  })

  mutual
    unfolding form forms is_constant are_constant is_divisor is_zero_divisor IsLinear AreLinear is_zero

    -- the form of a linear term
    form_fits : (t : Term) (f : Form) → form t ≡ Ok f → IsReal symbols t → IsLinear t → IsFit t f
    form_fits (app Plus ts) f e r l =
        let a = went (forms ts) (λ fs. at_term (app Plus ts) (form_by (app Plus ts) Plus fs)) f e in
        plus_fits ts a.first f (at_ok _ _ _ a.then) (forms_fit ts a.first a.was (arguments_real symbols Plus ts plus_takes r.term) l.1) r
    form_fits (app Times ts) f e r l =
        let a = went (forms ts) (λ fs. at_term (app Times ts) (form_by (app Times ts) Times fs)) f e in
        times_fits ts a.first f (at_ok _ _ _ a.then) (forms_fit ts a.first a.was (arguments_real symbols Times ts times_takes r.term) l.1) r l.0
    form_fits (app Minus ts) f e r l =
        let a = went (forms ts) (λ fs. at_term (app Minus ts) (form_by (app Minus ts) Minus fs)) f e in
        minus_fits ts a.first f (at_ok _ _ _ a.then) (forms_fit ts a.first a.was (arguments_real symbols Minus ts minus_takes r.term) l.1) r
    form_fits (app Divide ts) f e r l =
        let a = went (forms ts) (λ fs. at_term (app Divide ts) (form_by (app Divide ts) Divide fs)) f e in
        let real = arguments_real symbols Divide ts divide_takes r.term in
        divide_fits ts a.first f (at_ok _ _ _ a.then) (forms_fit ts a.first a.was real l.1) (reduced_forms ts a.first a.was real) r l.0
    form_fits (app (Literal q) ts) f e r l = subst (IsFit (app (Literal q) ts)) (same_ok _ _ e) (record {
      own = record { own = tt; bare = λ s. refl };
      divides = λ d z. record { bare = refl; other = z };
    })
    form_fits (app h ts) f e r l = itself_fits (app h ts) f (same_ok _ _ e) refl refl refl

    forms_fit : (ts : Terms) (fs : List Form) → forms ts ≡ Ok fs → AreReal symbols ts → AreLinear ts → AreFit ts fs
    forms_fit nil fs e r l = subst (AreFit nil) (same_ok _ _ e) tt
    forms_fit (cons t ts) fs e r l =
        let a = went (form t) (λ f. forms ts >>= λ fs. Ok (f ∷ fs)) fs e in
        let b = went (forms ts) (λ fs. Ok (a.first ∷ fs)) fs a.then in
        let parts = reals_parts symbols t ts r in
        subst (AreFit (cons t ts)) (same_ok _ _ b.then) (form_fits t a.first a.was parts.0 l.0, forms_fit ts b.first b.was parts.1 l.1)

-- such a term has its own number
pub own_number : (n : Term → Fraction) (t : Term) → IsOwn t → number_at n t ≡ n t
unfolding number_at
own_number n (app Minus ts) o = absurd (true≢false o)
own_number n (app Plus ts) o = absurd (true≢false o)
own_number n (app Times ts) o = absurd (true≢false o)
own_number n (app Divide ts) o = absurd (true≢false o)
own_number n (app (Literal q) ts) o = absurd (true≢false o)
own_number n (app h ts) o = refl

own_values : (n : Term → Fraction) (vs : List (Term × Fraction)) → AreOwn vs → variables_value (number_at n) vs ≡ variables_value n vs
unfolding variables_value
own_values n [] o = refl
own_values n ((v, k) ∷ vs) o = λ i. plus (times k (own_number n v o.0 i)) (own_values n vs o.1 i)

-- the form of a linear term has the value that it has where its variables have their own numbers
linear_value : (symbols : List Symbol) (n : Term → Fraction) (t : Term) (f : Form) → form t ≡ Ok f → IsReal symbols t → IsLinear t → form_value (number_at n) f ≡ form_value n f
unfolding form_value
linear_value symbols n t f e r l = ap (plus f.constant) (own_values n f.variables (form_fits symbols t f e r l).own.own)

-- so it has the number of its form, and the form of a difference has the difference of both numbers as its value
module _ (symbols : List Symbol) (n : Term → Fraction) (reduced : (u : Term) → IsReduced (n u)) where
  real : (t : Term) → IsLinearOver symbols t → IsReal symbols t
  real t l = record { term = l.term; sort = l.sort }

  pub linear_number : (t : Term) (f : Form) → form t ≡ Ok f → IsLinearOver symbols t → number_at n t ≡ form_value n f
  linear_number t f e l = ap number_in (form_number symbols n reduced t f e (real t l)).value ∙ linear_value symbols n t f e (real t l) l.linear

  pub difference_number : (atom s t : Term) (f : Form) → difference atom s t ≡ Ok f → IsLinearOver symbols s → IsLinearOver symbols t
      → (form_value n f ≡ minus (number_at n s) (number_at n t)) × IsReduced (form_value n f)
  unfolding difference form_value
  difference_number atom s t f e ls lt =
      let a = went (form s) (λ f. form t >>= λ g. at_term atom (combined subtracting f g)) f e in
      let b = went (form t) (λ g. at_term atom (combined subtracting a.first g)) f a.then in
      let joins : combined subtracting a.first b.first ≡ Ok f = at_ok _ _ _ b.then in
      let left = form_number symbols n reduced s a.first a.was (real s ls) in
      let right = form_number symbols n reduced t b.first b.was (real t lt) in
      let all = combined_value (number_at n) subtracting subtracting_fair a.first b.first f joins left.proper right.proper in
      let own : IsOwnForm false f = combined_own subtracting false a.first b.first f joins
      (weaker (is_constant s) false a.first (λ e. absurd (false≢true e)) (form_fits symbols s a.first a.was (real s ls) ls.linear).own)
      (weaker (is_constant t) false b.first (λ e. absurd (false≢true e)) (form_fits symbols t b.first b.was (real t lt) lt.linear).own) in
      let same : form_value (number_at n) f ≡ form_value n f = ap (plus f.constant) (own_values n f.variables own.own) in (
        sym same ∙ all.value ∙ (λ i. minus (number_in (sym left.value i)) (number_in (sym right.value i))),
        subst IsReduced same (form_value_reduced (number_at n) f all.proper),
      )

-- the arguments of a linear term are linear
members_linear : (ts : Terms) → AreLinear ts → (u : Term) → Contains (list_of ts) u → IsLinear u
unfolding AreLinear
members_linear nil l u u_in = absurd (none u u_in)
members_linear (cons t ts) l u u_in = each_of IsLinear t (list_of ts) l.0 (members_linear ts l.1) u u_in

pub argument_linear : (t : Term) → IsLinear t → (u : Term) → Contains (arguments_of t) u → IsLinear u
unfolding IsLinear
argument_linear (app h ts) l = members_linear ts l.1
