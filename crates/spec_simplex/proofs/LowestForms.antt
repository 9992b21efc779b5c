-- The form of a term has coefficients in lowest terms, unless its constant has the denominator 0, as those of literals that are no numbers may.
use Rattle.std.proofs.Common.{◌≡◌, ℕ, zero, suc, ◌*◌, ◌/◌, ◌<◌, Bool, true, false, List, [], ◌∷◌, Option, Some, None, Ok, refl, sym, subst, arith}
use Rattle.std.proofs.Math.Nat.{zero-div}
use Rattle.spec_text.specs.Answers.{◌>>=◌}
use Rattle.spec_text.proofs.AnswerLaws.{went}
use Rattle.spec_numbers.specs.Fractions.{Fraction, plus, times, opposite, inverse, IsReduced}
use Rattle.spec_numbers.specs.Bounds.{multiplied, divided}
use Rattle.spec_numbers.proofs.Field.{plus-reduced, times-reduced, opposite-reduced, one-reduced}
use Rattle.spec_numbers.proofs.Bounds.{multiplied_is, divided_is}
use Rattle.spec_sorts.specs.Terms.{Plus, Times, Minus, Divide, Literal, Term, Terms, app, nil, cons, same_term}
use Rattle.spec_arithmetic.specs.Signs.{is_zero}
use Rattle.spec_arithmetic.specs.Forms.{Answer, Form, Way, adding, subtracting, variable_form, unless_zero, with_variable, joined, all_joined, combined, opposites, opposite_form, each_number, changed, scaled, shared_out, factor_of, all_added, all_multiplied, divisor_of, quotient_form, form_by, at_term, form, forms}
use Rattle.spec_arithmetic.proofs.General.{same_ok, same_some}
use Rattle.spec_arithmetic.proofs.FormValues.{IsFair, adding_fair, subtracting_fair, AreProper}
use Rattle.spec_arithmetic.proofs.FormTerms.{at_ok}

-- all coefficients are in lowest terms
abbrev pub AreLowest : List (Term × Fraction) → Type 0
AreLowest [] = Unit {0}
AreLowest ((v, k) ∷ rest) = IsReduced k × AreLowest rest

-- all numbers of terms are in lowest terms
abbrev pub AreNumbers : (Term → Fraction) → Type 0
AreNumbers n = (t : Term) → IsReduced (n t)

pub proper_of : (n : Term → Fraction) → AreNumbers n → (vs : List (Term × Fraction)) → AreLowest vs → AreProper n vs
proper_of n h [] l = tt
proper_of n h ((v, k) ∷ rest) l = (record { coefficient = l.0; number = h v }, proper_of n h rest l.1)

-- A form whose coefficients are in lowest terms where its constant is a number.
pub record IsSafe (f : Form) : Type 0 where
  pub lowest : 0 < f.constant.den → AreLowest f.variables

-- denominators above 0 come of such
divided_positive : (d g : ℕ) → 0 < d / g → 0 < d
divided_positive zero g h = absurd (none (subst (λ q. 0 < q) (zero-div g) h))
  where
    none : 0 < 0 → ⊥
    none h = omega arith
divided_positive (suc d) g h = omega arith

factors_positive : (a b : ℕ) → 0 < a * b → (0 < a) × (0 < b)
factors_positive zero b h = absurd (none h)
  where
    none : 0 < 0 * b → ⊥
    none h = omega arith
factors_positive (suc a) zero h = absurd (omega arith)
factors_positive (suc a) (suc b) h = (omega arith, omega arith)

pub plus_positive : (x y : Fraction) → 0 < (plus x y).den → (0 < x.den) × (0 < y.den)
unfolding plus
plus_positive x y h = factors_positive x.den y.den (divided_positive (x.den * y.den) _ h)

pub times_positive : (x y : Fraction) → 0 < (times x y).den → (0 < x.den) × (0 < y.den)
unfolding times
times_positive x y h = factors_positive x.den y.den (divided_positive (x.den * y.den) _ h)

-- A fair way that keeps denominators.
pub record IsEven (way : Way) : Type 0 where
  pub fair : IsFair way
  pub positive : (k : Fraction) → 0 < (way.alone k).den → 0 < k.den

pub adding_even : IsEven adding
adding_even = record { fair = adding_fair; positive = λ k h. h }

pub subtracting_even : IsEven subtracting
unfolding opposite
subtracting_even = record { fair = subtracting_fair; positive = λ k h. h }

-- one variable more
with_lowest : (v : Term) (b : Bool) (k : Fraction) (rest : List (Term × Fraction)) → IsReduced k → AreLowest rest → AreLowest (unless_zero b v k rest)
with_lowest v true k rest r l = l
with_lowest v false k rest r l = (r, l)

joined_lowest : (way : Way) → IsFair way → (v : Term) (k : Fraction) (es rs : List (Term × Fraction)) → joined way v k es ≡ Ok rs → IsReduced k → AreLowest es → AreLowest rs
unfolding joined
joined_lowest way fair v k [] rs e r l = subst AreLowest (same_ok _ _ e) (fair.reduced k r, tt)
joined_lowest way fair v k ((w, m) ∷ rest) rs e r l = by (same_term v w) e (joined_lowest way fair v k rest)
  where
    by : (b : Bool)
        → (let r : Answer (List (Term × Fraction)) = elim b [ true ↦ way.both m k >>= λ s. Ok (with_variable w s rest) | false ↦ joined way v k rest >>= λ r. Ok ((w, m) ∷ r) ] in r) ≡ Ok rs
        → ((rs : List (Term × Fraction)) → joined way v k rest ≡ Ok rs → IsReduced k → AreLowest rest → AreLowest rs)
        → AreLowest rs
    by true e again =
        let a = went (way.both m k) (λ s. Ok (with_variable w s rest)) rs e in
        let s = subst IsReduced (fair.both m k a.first a.was) (plus-reduced m (way.alone k) l.0.positive (fair.reduced k r).positive) in
        subst AreLowest (same_ok _ _ a.then) (with_lowest w (is_zero a.first) a.first rest s l.1)
    by false e again =
        let a = went (joined way v k rest) (λ r. Ok ((w, m) ∷ r)) rs e in
        subst AreLowest (same_ok _ _ a.then) (l.0, again a.first a.was r l.1)

-- many variables more
pub all_joined_lowest : (way : Way) → IsFair way → (es fs rs : List (Term × Fraction)) → all_joined way es fs ≡ Ok rs → AreLowest es → AreLowest fs → AreLowest rs
unfolding all_joined
all_joined_lowest way fair es [] rs e p q = subst AreLowest (same_ok _ _ e) p
all_joined_lowest way fair es ((v, k) ∷ fs) rs e p q =
    let a = went (joined way v k es) (λ r. all_joined way r fs) rs e in
    all_joined_lowest way fair a.first fs rs a.then (joined_lowest way fair v k es a.first a.was q.0 p) q.1

-- Forms joined: the constants are added, and the variables are joined.
pub record IsCombined (way : Way) (e f r : Form) : Type 0 where
  pub constant : plus e.constant (way.alone f.constant) ≡ r.constant
  pub variables : all_joined way e.variables f.variables ≡ Ok r.variables

pub combined_parts : (way : Way) → IsFair way → (e f r : Form) → combined way e f ≡ Ok r → IsCombined way e f r
unfolding combined
combined_parts way fair e f r h =
    let a = went (way.both e.constant f.constant) (λ c. all_joined way e.variables f.variables >>= λ vs. Ok (record { constant = c; variables = vs })) r h in
    let b = went (all_joined way e.variables f.variables) (λ vs. Ok (record { constant = a.first; variables = vs })) r a.then in
    subst (IsCombined way e f) (same_ok _ _ b.then) (record { constant = fair.both e.constant f.constant a.first a.was; variables = b.was })

-- the constants of forms that are joined are numbers where that of the result is
pub combined_positive : (way : Way) → IsEven way → (e f r : Form) → IsCombined way e f r → 0 < r.constant.den → (0 < e.constant.den) × (0 < f.constant.den)
combined_positive way even e f r c h =
    let parts = plus_positive e.constant (way.alone f.constant) (subst (λ (q : Fraction). 0 < q.den) (sym c.constant) h) in
    (parts.0, even.positive f.constant parts.1)

pub combined_safe : (way : Way) → IsEven way → (e f r : Form) → combined way e f ≡ Ok r → IsSafe e → IsSafe f → IsSafe r
combined_safe way even e f r h se sf =
    let c = combined_parts way even.fair e f r h in
    record {
      lowest = λ p.
          let parts = combined_positive way even e f r c p in
          all_joined_lowest way even.fair e.variables f.variables r.variables c.variables (se.lowest parts.0) (sf.lowest parts.1);
    }

-- each number changed
each_lowest : (change : Fraction → Answer Fraction) → ((k m : Fraction) → IsReduced k → change k ≡ Ok m → IsReduced m)
    → (es rs : List (Term × Fraction)) → each_number change es ≡ Ok rs → AreLowest es → AreLowest rs
unfolding each_number
each_lowest change keeps [] rs e l = subst AreLowest (same_ok _ _ e) tt
each_lowest change keeps ((v, k) ∷ es) rs e l =
    let a = went (change k) (λ m. each_number change es >>= λ r. Ok (with_variable v m r)) rs e in
    let b = went (each_number change es) (λ r. Ok (with_variable v a.first r)) rs a.then in
    subst AreLowest (same_ok _ _ b.then)
    (with_lowest v (is_zero a.first) a.first b.first (keeps k a.first l.0 a.was) (each_lowest change keeps es b.first b.was l.1))

-- a change whose result tells that its factor and its number are numbers
record IsChange (change : Fraction → Answer Fraction) (c : Fraction) : Type 0 where
  positive : (k m : Fraction) → change k ≡ Ok m → 0 < m.den → (0 < k.den) × (0 < c.den)
  keeps : 0 < c.den → (k m : Fraction) → IsReduced k → change k ≡ Ok m → IsReduced m

changed_safe : (change : Fraction → Answer Fraction) (c : Fraction) → IsChange change c → (f r : Form) → changed change f ≡ Ok r → IsSafe f → IsSafe r
unfolding changed
changed_safe change c is f r e s =
    let a = went (change f.constant) (λ c. each_number change f.variables >>= λ vs. Ok (record { constant = c; variables = vs })) r e in
    let b = went (each_number change f.variables) (λ vs. Ok (record { constant = a.first; variables = vs })) r a.then in
    subst IsSafe (same_ok _ _ b.then) (record {
      lowest = λ p.
          let parts = is.positive f.constant a.first a.was p in
          each_lowest change (is.keeps parts.1) f.variables b.first b.was (s.lowest parts.0);
    })

scaled_safe : (c : Fraction) (f r : Form) → scaled c f ≡ Ok r → IsSafe f → IsSafe r
scaled_safe c f r e s = changed_safe (λ k. multiplied c k) c (record { positive = positive; keeps = keeps }) f r e s
  where
    positive : (k m : Fraction) → multiplied c k ≡ Ok m → 0 < m.den → (0 < k.den) × (0 < c.den)
    positive k m e p = let h = times_positive c k (subst (λ (q : Fraction). 0 < q.den) (sym (multiplied_is c k m e)) p) in (h.1, h.0)

    keeps : 0 < c.den → (k m : Fraction) → IsReduced k → multiplied c k ≡ Ok m → IsReduced m
    keeps p k m r e = subst IsReduced (multiplied_is c k m e) (times-reduced c k p r.positive)

shared_safe : (f : Form) (d : Fraction) (r : Form) → shared_out f d ≡ Ok r → IsSafe f → IsSafe r
shared_safe f d r e s = changed_safe (λ k. divided k d) (inverse d) (record { positive = positive; keeps = keeps }) f r e s
  where
    positive : (k m : Fraction) → divided k d ≡ Ok m → 0 < m.den → (0 < k.den) × (0 < (inverse d).den)
    positive k m e p = times_positive k (inverse d) (subst (λ (q : Fraction). 0 < q.den) (sym (divided_is k d m e)) p)

    keeps : 0 < (inverse d).den → (k m : Fraction) → IsReduced k → divided k d ≡ Ok m → IsReduced m
    keeps p k m r e = subst IsReduced (divided_is k d m e) (times-reduced k (inverse d) r.positive p)

opposites_lowest : (es : List (Term × Fraction)) → AreLowest es → AreLowest (opposites es)
opposites_lowest [] l = tt
opposites_lowest ((v, k) ∷ es) l = (opposite-reduced k l.0, opposites_lowest es l.1)

opposite_safe : (f : Form) → IsSafe f → IsSafe (opposite_form f)
unfolding opposite
opposite_safe f s = record { lowest = λ p. opposites_lowest f.variables (s.lowest p) }

variable_safe : (t : Term) → IsSafe (variable_form t)
variable_safe t = record { lowest = λ p. (one-reduced, tt) }

-- all of these forms
abbrev AreSafe : List Form → Type 0
AreSafe [] = Unit {0}
AreSafe (f ∷ fs) = IsSafe f × AreSafe fs

added_safe : (f : Form) (fs : List Form) (r : Form) → all_added f fs ≡ Ok r → IsSafe f → AreSafe fs → IsSafe r
unfolding all_added
added_safe f [] r e s ss = subst IsSafe (same_ok _ _ e) s
added_safe f (g ∷ gs) r e s ss =
    let a = went (combined adding f g) (λ h. all_added h gs) r e in
    added_safe a.first gs r a.then (combined_safe adding adding_even f g a.first a.was s ss.0) ss.1

factor_safe : (fc : Fraction) (fv : List (Term × Fraction)) (gc : Fraction) (gv : List (Term × Fraction)) (p : Fraction × Form)
    → factor_of (record { constant = fc; variables = fv }) (record { constant = gc; variables = gv }) ≡ Some p
    → IsSafe (record { constant = fc; variables = fv }) → IsSafe (record { constant = gc; variables = gv }) → IsSafe p.1
factor_safe fc [] gc gv p e sf sg = subst (λ (q : Fraction × Form). IsSafe q.1) (same_some _ _ e) sg
factor_safe fc (x ∷ fv) gc [] p e sf sg = subst (λ (q : Fraction × Form). IsSafe q.1) (same_some _ _ e) sf
factor_safe fc (x ∷ fv) gc (y ∷ gv) p e sf sg = cc

multiplied_safe : (t : Term) (f : Form) (fs : List Form) (r : Form) → all_multiplied t f fs ≡ Ok r → IsSafe f → AreSafe fs → IsSafe r
unfolding all_multiplied
multiplied_safe t f [] r e s ss = subst IsSafe (same_ok _ _ e) s
multiplied_safe t f (g ∷ gs) r e s ss = by (factor_of f g) refl e (λ h. multiplied_safe t h gs)
  where
    by : (o : Option (Fraction × Form)) → factor_of f g ≡ o
        → (let a : Answer Form = elim o [ Some q ↦ scaled q.0 q.1 >>= λ k. all_multiplied t k gs | None ↦ Ok (variable_form t) ] in a) ≡ Ok r
        → ((h : Form) (r : Form) → all_multiplied t h gs ≡ Ok r → IsSafe h → AreSafe gs → IsSafe r) → IsSafe r
    by (Some q) o e again =
        let a = went (scaled q.0 q.1) (λ k. all_multiplied t k gs) r e in
        again a.first r a.then (scaled_safe q.0 q.1 a.first a.was (factor_safe f.constant f.variables g.constant g.variables q o s ss.0)) ss.1
    by None o e again = subst IsSafe (same_ok _ _ e) (variable_safe t)

quotient_safe : (t : Term) (f g r : Form) → quotient_form t f g ≡ Ok r → IsSafe f → IsSafe r
unfolding quotient_form
quotient_safe t f g r e s = by (divisor_of g) e
  where
    by : (o : Option Fraction) → (let a : Answer Form = elim o [ Some d ↦ shared_out f d | None ↦ Ok (variable_form t) ] in a) ≡ Ok r → IsSafe r
    by (Some d) e = shared_safe f d r e s
    by None e = subst IsSafe (same_ok _ _ e) (variable_safe t)

-- what a head gives
plus_safe : (t : Term) (fs : List Form) (r : Form) → form_by t Plus fs ≡ Ok r → AreSafe fs → IsSafe r
plus_safe t [] r e s = subst IsSafe (same_ok _ _ e) (variable_safe t)
plus_safe t (f ∷ fs) r e s = added_safe f fs r e s.0 s.1

times_safe : (t : Term) (fs : List Form) (r : Form) → form_by t Times fs ≡ Ok r → AreSafe fs → IsSafe r
times_safe t [] r e s = subst IsSafe (same_ok _ _ e) (variable_safe t)
times_safe t (f ∷ fs) r e s = multiplied_safe t f fs r e s.0 s.1

minus_safe : (t : Term) (fs : List Form) (r : Form) → form_by t Minus fs ≡ Ok r → AreSafe fs → IsSafe r
minus_safe t [] r e s = subst IsSafe (same_ok _ _ e) (variable_safe t)
minus_safe t (f ∷ []) r e s = subst IsSafe (same_ok _ _ e) (opposite_safe f s.0)
minus_safe t (f ∷ g ∷ []) r e s = combined_safe subtracting subtracting_even f g r e s.0 s.1.0
minus_safe t (f ∷ g ∷ x ∷ xs) r e s = subst IsSafe (same_ok _ _ e) (variable_safe t)

divide_safe : (t : Term) (fs : List Form) (r : Form) → form_by t Divide fs ≡ Ok r → AreSafe fs → IsSafe r
divide_safe t [] r e s = subst IsSafe (same_ok _ _ e) (variable_safe t)
divide_safe t (f ∷ []) r e s = subst IsSafe (same_ok _ _ e) (variable_safe t)
divide_safe t (f ∷ g ∷ []) r e s = quotient_safe t f g r e s.0
divide_safe t (f ∷ g ∷ x ∷ xs) r e s = subst IsSafe (same_ok _ _ e) (variable_safe t)

mutual
  unfolding form forms

  -- the form of a term
  pub form_safe : (t : Term) (f : Form) → form t ≡ Ok f → IsSafe f
  form_safe (app Plus ts) f e =
      let a = went (forms ts) (λ fs. at_term (app Plus ts) (form_by (app Plus ts) Plus fs)) f e in
      plus_safe (app Plus ts) a.first f (at_ok _ _ _ a.then) (forms_safe ts a.first a.was)
  form_safe (app Times ts) f e =
      let a = went (forms ts) (λ fs. at_term (app Times ts) (form_by (app Times ts) Times fs)) f e in
      times_safe (app Times ts) a.first f (at_ok _ _ _ a.then) (forms_safe ts a.first a.was)
  form_safe (app Minus ts) f e =
      let a = went (forms ts) (λ fs. at_term (app Minus ts) (form_by (app Minus ts) Minus fs)) f e in
      minus_safe (app Minus ts) a.first f (at_ok _ _ _ a.then) (forms_safe ts a.first a.was)
  form_safe (app Divide ts) f e =
      let a = went (forms ts) (λ fs. at_term (app Divide ts) (form_by (app Divide ts) Divide fs)) f e in
      divide_safe (app Divide ts) a.first f (at_ok _ _ _ a.then) (forms_safe ts a.first a.was)
  form_safe (app (Literal q) ts) f e = subst IsSafe (same_ok _ _ e) (record { lowest = λ p. tt })
  form_safe (app h ts) f e = subst IsSafe (same_ok _ _ e) (variable_safe (app h ts))

  forms_safe : (ts : Terms) (fs : List Form) → forms ts ≡ Ok fs → AreSafe fs
  forms_safe nil fs e = subst AreSafe (same_ok _ _ e) tt
  forms_safe (cons t ts) fs e =
      let a = went (form t) (λ f. forms ts >>= λ fs. Ok (f ∷ fs)) fs e in
      let b = went (forms ts) (λ fs. Ok (a.first ∷ fs)) fs a.then in
      subst AreSafe (same_ok _ _ b.then) (form_safe t a.first a.was, forms_safe ts b.first b.was)
