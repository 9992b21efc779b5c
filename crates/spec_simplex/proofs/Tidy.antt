-- A sum of forms has each variable once, with a coefficient that is not 0; so it is one number for all numbers of terms only where it has no variables.
use Rattle.std.proofs.Common.{◌≡◌, ◌<◌, Bool, true, false, ◌||◌, cond, List, [], ◌∷◌, Ok, refl, sym, ◌∙◌, ap, subst, true≢false}
use Rattle.std.proofs.lemmas.Bool.{or_parts}
use Rattle.spec_text.specs.Answers.{◌>>=◌}
use Rattle.spec_text.proofs.AnswerLaws.{went}
use Rattle.spec_numbers.specs.Fractions.{Fraction, zero_fraction, one_fraction, plus, times, opposite, IsReduced}
use Rattle.spec_numbers.proofs.Field.{plus-comm, plus-assoc, plus-zero, plus-opposite, times-one, zero-reduced, one-reduced}
use Rattle.spec_sorts.specs.Terms.{Term, same_term}
use Rattle.spec_sorts.proofs.SameTerms.{one_term, term_itself}
use Rattle.spec_arithmetic.specs.Signs.{is_zero}
use Rattle.spec_arithmetic.specs.Forms.{Answer, Form, adding, unless_zero, with_variable, joined, all_joined, combined, each_number, changed, variables_value}
use Rattle.spec_arithmetic.proofs.General.{same_ok}
use Rattle.spec_arithmetic.proofs.Zero.{plus-zero_left, times-zero}
use Rattle.spec_simplex.proofs.LowestForms.{AreLowest, AreNumbers}

-- a variable is one of these
abbrev pub has : Term → List (Term × Fraction) → Bool
has u [] = false
has u ((v, k) ∷ rest) = same_term u v || has u rest

-- each variable occurs once, and no coefficient is 0
abbrev pub AreTidy : List (Term × Fraction) → Type 0
AreTidy [] = Unit {0}
AreTidy ((v, k) ∷ rest) = (is_zero k ≡ false) × (has v rest ≡ false) × AreTidy rest

-- no coefficient is 0
abbrev pub AreNonzero : List (Term × Fraction) → Type 0
AreNonzero [] = Unit {0}
AreNonzero ((v, k) ∷ rest) = (is_zero k ≡ false) × AreNonzero rest

-- terms differ both ways
other_way : (v w : Term) → same_term v w ≡ false → same_term w v ≡ false
other_way v w e = by (same_term w v) refl
  where
    by : (b : Bool) → same_term w v ≡ b → b ≡ false
    by false h = refl
    by true h = sym (term_itself v) ∙ ap (same_term v) (sym (one_term w v h)) ∙ e

-- Variables after one more: they are tidy, and have no other ones.
record IsJoined (v : Term) (es rs : List (Term × Fraction)) : Type 0 where
  tidy : AreTidy rs
  others : (u : Term) → same_term u v ≡ false → has u es ≡ false → has u rs ≡ false

joined_tidy : (v : Term) (k : Fraction) (es rs : List (Term × Fraction)) → joined adding v k es ≡ Ok rs → is_zero k ≡ false → AreTidy es → IsJoined v es rs
unfolding joined
joined_tidy v k [] rs e z t = subst (IsJoined v []) (same_ok _ _ e) (record { tidy = (z, refl, tt); others = λ u h g. ap (λ b. b || false) h })
joined_tidy v k ((w, m) ∷ rest) rs e z t = by (same_term v w) refl e (joined_tidy v k rest)
  where
    dropped : (s : Fraction) (b : Bool) → is_zero s ≡ b → IsJoined v ((w, m) ∷ rest) (unless_zero b w s rest)
    dropped s true h = record { tidy = t.2; others = λ u a g. (or_parts (same_term u w) (has u rest) g).1 }
    dropped s false h = record { tidy = (h, t.1, t.2); others = λ u a g. g }

    by : (b : Bool) → same_term v w ≡ b
        → (let r : Answer (List (Term × Fraction)) = elim b [ true ↦ adding.both m k >>= λ s. Ok (with_variable w s rest) | false ↦ joined adding v k rest >>= λ r. Ok ((w, m) ∷ r) ] in r) ≡ Ok rs
        → ((rs : List (Term × Fraction)) → joined adding v k rest ≡ Ok rs → is_zero k ≡ false → AreTidy rest → IsJoined v rest rs)
        → IsJoined v ((w, m) ∷ rest) rs
    by true same e again =
        let a = went (adding.both m k) (λ s. Ok (with_variable w s rest)) rs e in
        subst (IsJoined v ((w, m) ∷ rest)) (same_ok _ _ a.then) (dropped a.first (is_zero a.first) refl)
    by false same e again =
        let a = went (joined adding v k rest) (λ r. Ok ((w, m) ∷ r)) rs e in
        let j = again a.first a.was z t.2 in
        subst (IsJoined v ((w, m) ∷ rest)) (same_ok _ _ a.then) (record {
          tidy = (t.0, j.others w (other_way v w same) t.1, j.tidy);
          others = λ u h g.
              let parts = or_parts (same_term u w) (has u rest) g in
              λ i. parts.0 i || j.others u h parts.1 i;
        })

all_joined_tidy : (es fs rs : List (Term × Fraction)) → all_joined adding es fs ≡ Ok rs → AreTidy es → AreNonzero fs → AreTidy rs
unfolding all_joined
all_joined_tidy es [] rs e t z = subst AreTidy (same_ok _ _ e) t
all_joined_tidy es ((v, k) ∷ fs) rs e t z =
    let a = went (joined adding v k es) (λ r. all_joined adding r fs) rs e in
    all_joined_tidy a.first fs rs a.then (joined_tidy v k es a.first a.was z.0 t).tidy z.1

pub combined_tidy : (e f r : Form) → combined adding e f ≡ Ok r → AreTidy e.variables → AreNonzero f.variables → AreTidy r.variables
unfolding combined
combined_tidy e f r h t z =
    let a = went (adding.both e.constant f.constant) (λ c. all_joined adding e.variables f.variables >>= λ vs. Ok (record { constant = c; variables = vs })) r h in
    let b = went (all_joined adding e.variables f.variables) (λ vs. Ok (record { constant = a.first; variables = vs })) r a.then in
    subst (λ (f : Form). AreTidy f.variables) (same_ok _ _ b.then) (all_joined_tidy e.variables f.variables b.first b.was t z)

-- a change drops coefficients that become 0
each_nonzero : (change : Fraction → Answer Fraction) (es rs : List (Term × Fraction)) → each_number change es ≡ Ok rs → AreNonzero rs
unfolding each_number
each_nonzero change [] rs e = subst AreNonzero (same_ok _ _ e) tt
each_nonzero change ((v, k) ∷ es) rs e =
    let a = went (change k) (λ m. each_number change es >>= λ r. Ok (with_variable v m r)) rs e in
    let b = went (each_number change es) (λ r. Ok (with_variable v a.first r)) rs a.then in
    subst AreNonzero (same_ok _ _ b.then) (by a.first b.first (is_zero a.first) refl (each_nonzero change es b.first b.was))
  where
    by : (m : Fraction) (rest : List (Term × Fraction)) (b : Bool) → is_zero m ≡ b → AreNonzero rest → AreNonzero (unless_zero b v m rest)
    by m rest true h z = z
    by m rest false h z = (h, z)

pub changed_nonzero : (change : Fraction → Answer Fraction) (f r : Form) → changed change f ≡ Ok r → AreNonzero r.variables
unfolding changed
changed_nonzero change f r e =
    let a = went (change f.constant) (λ c. each_number change f.variables >>= λ vs. Ok (record { constant = c; variables = vs })) r e in
    let b = went (each_number change f.variables) (λ vs. Ok (record { constant = a.first; variables = vs })) r a.then in
    subst (λ (f : Form). AreNonzero f.variables) (same_ok _ _ b.then) (each_nonzero change f.variables b.first b.was)

-- each term is 0
abbrev pub zeros : Term → Fraction
zeros t = zero_fraction

-- one term is 1, and all others are 0
abbrev pub one_at : Term → Term → Fraction
one_at t u = cond (same_term t u) one_fraction zero_fraction

pub zeros_reduced : AreNumbers zeros
zeros_reduced t = zero-reduced

pub one_at_reduced : (t : Term) → AreNumbers (one_at t)
one_at_reduced t u = by (same_term t u)
  where
    by : (b : Bool) → IsReduced (cond b one_fraction zero_fraction)
    by true = one-reduced
    by false = zero-reduced

-- one more variable that is 0
zero_before : (k x y : Fraction) → 0 < k.den → x ≡ zero_fraction → y ≡ zero_fraction → plus (times k x) y ≡ zero_fraction
zero_before k x y p e f = (λ i. plus (times k (e i)) (f i)) ∙ ap (λ z. plus z zero_fraction) (times-zero k p) ∙ plus-zero zero_fraction zero-reduced

pub zeros_value : (vs : List (Term × Fraction)) → AreLowest vs → variables_value zeros vs ≡ zero_fraction
unfolding variables_value
zeros_value [] l = refl
zeros_value ((v, k) ∷ rest) l = zero_before k zero_fraction _ l.0.positive refl (zeros_value rest l.1)

absent_value : (t : Term) (vs : List (Term × Fraction)) → AreLowest vs → has t vs ≡ false → variables_value (one_at t) vs ≡ zero_fraction
unfolding variables_value
absent_value t [] l h = refl
absent_value t ((v, k) ∷ rest) l h =
    let parts = or_parts (same_term t v) (has t rest) h in
    zero_before k (one_at t v) _ l.0.positive (ap (λ b. cond b one_fraction zero_fraction) parts.0) (absent_value t rest l.1 parts.1)

-- what is added to one number with one sum is one
pub cancelled : (c x y : Fraction) → IsReduced c → IsReduced x → IsReduced y → plus c x ≡ plus c y → x ≡ y
cancelled c x y rc rx ry e = sym (back x rx) ∙ ap (plus (opposite c)) e ∙ back y ry
  where
    back : (z : Fraction) → IsReduced z → plus (opposite c) (plus c z) ≡ z
    back z r = sym (plus-assoc (opposite c) c z) ∙ ap (λ w. plus w z) (plus-comm (opposite c) c ∙ plus-opposite c rc) ∙ plus-zero_left z r

first_is_zero : (c : Fraction) (t : Term) (k : Fraction) (rest : List (Term × Fraction)) (total : Fraction) → IsReduced c → IsReduced k → AreLowest rest → has t rest ≡ false
    → plus c (variables_value zeros ((t, k) ∷ rest)) ≡ total → plus c (variables_value (one_at t) ((t, k) ∷ rest)) ≡ total → k ≡ zero_fraction
unfolding variables_value
first_is_zero c t k rest total rc rk l h e f =
    let none : plus (times k zero_fraction) (variables_value zeros rest) ≡ zero_fraction = zero_before k zero_fraction _ rk.positive refl (zeros_value rest l) in
    let one : plus (times k (one_at t t)) (variables_value (one_at t) rest) ≡ k =
    (λ i. plus (times k (cond (term_itself t i) one_fraction zero_fraction)) (absent_value t rest l h i))
    ∙ ap (λ z. plus z zero_fraction) (times-one k rk) ∙ plus-zero k rk in
    sym (cancelled c zero_fraction k rc zero-reduced rk (ap (plus c) (sym none) ∙ e ∙ sym f ∙ ap (plus c) one))

-- tidy variables whose value is one number for all numbers of terms are none
pub no_variables : (c : Fraction) (vs : List (Term × Fraction)) (total : Fraction) → IsReduced c → AreLowest vs → AreTidy vs
    → ((n : Term → Fraction) → AreNumbers n → plus c (variables_value n vs) ≡ total) → vs ≡ []
unfolding is_zero
no_variables c [] total rc l t same = refl
no_variables c ((v, k) ∷ rest) total rc l t same =
    let k_is : k ≡ zero_fraction = first_is_zero c v k rest total rc l.0 l.1 t.1 (same zeros zeros_reduced) (same (one_at v) (one_at_reduced v)) in
    absurd (true≢false (sym (ap is_zero k_is) ∙ t.0))
