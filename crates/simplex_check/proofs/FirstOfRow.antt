-- The first entry of a tidy list that passes a test is the least variable that does.
use Rattle.std.proofs.Common.{◌≡◌, ℕ, suc, ◌<◌, Bool, true, false, List, [], ◌∷◌, refl, ◌∙◌, ap, arith, cond, ◌==◌, subst}
use Rattle.std.proofs.lemmas.Bool.Decides.{nat_tests}
use Rattle.spec_tableaux.specs.Fields.{Field}
use Rattle.spec_tableaux.specs.Rows.{Entry, coefficient_of}
use Rattle.spec_tableaux.specs.SolvedForms.{IsTidy}
use Rattle.spec_tableaux.specs.LeastVariable.{IsLeast}

-- the entries that are gone do not pass
pub record Passed {A : Type 0} (f : Field A) (test : ℕ → A → Bool) (whole rest : List (Entry A)) : Type 0 where
  pub at : ℕ
  pub tidy : IsTidy f at rest
  pub gone : (y : ℕ) → test y (coefficient_of f y rest) ≡ false → test y (coefficient_of f y whole) ≡ false
  pub same : (y : ℕ) → f.is_zero (coefficient_of f y rest) ≡ false → coefficient_of f y whole ≡ coefficient_of f y rest

-- below the first variable there is no entry
none_below : {A : Type 0} (f : Field A) (at y : ℕ) (es : List (Entry A)) → y < at → IsTidy f at es → coefficient_of f y es ≡ f.zero
none_below f at y [] h t = refl
none_below f at y (e ∷ es) h t = ap (λ q. cond q e.coefficient (coefficient_of f y es)) (let k : y < e.variable = omega (arith, t.0) in let w : (e.variable == y) ≡ false = grind (arith, nat_tests) in w) ∙ none_below f (suc e.variable) y es (omega (arith, t.0)) t.2

first_is : {A : Type 0} (f : Field A) (e : Entry A) (es : List (Entry A)) → coefficient_of f e.variable (e ∷ es) ≡ e.coefficient
first_is f e es = ap (λ q. cond q e.coefficient (coefficient_of f e.variable es)) (let w : (e.variable == e.variable) ≡ true = grind (arith, nat_tests) in w)

pub passed_none : {A : Type 0} (f : Field A) (test : ℕ → A → Bool) (whole : List (Entry A)) → IsTidy f 0 whole → Passed f test whole whole
passed_none f test whole t = record { at = 0; tidy = t; gone = λ y h. h; same = λ y z. refl }

pub passed_more : {A : Type 0} (f : Field A) (test : ℕ → A → Bool) (whole rest more : List (Entry A)) (e : Entry A) → f.is_zero f.zero ≡ true → Passed f test whole rest → rest ≡ e ∷ more → test e.variable e.coefficient ≡ false → Passed f test whole more
passed_more f test whole rest more e n p g h = record {
  at = suc e.variable;
  tidy = t.2;
  gone = λ y k. p.gone y (left y k (e.variable == y) refl);
  same = λ y z. right y z (e.variable == y) refl;
}
  where
    t : IsTidy f p.at (e ∷ more)
    t = subst (IsTidy f p.at) g p.tidy

    now : (y : ℕ) (q : Bool) → (e.variable == y) ≡ q → coefficient_of f y rest ≡ cond q e.coefficient (coefficient_of f y more)
    now y q j = ap (coefficient_of f y) g ∙ ap (λ q. cond q e.coefficient (coefficient_of f y more)) j

    left : (y : ℕ) → test y (coefficient_of f y more) ≡ false → (q : Bool) → (e.variable == y) ≡ q → test y (coefficient_of f y rest) ≡ false
    left y k true j = ap (test y) (now y true j) ∙ subst (λ x. test x e.coefficient ≡ false) (let w : e.variable ≡ y = grind (arith, nat_tests) in w) h
    left y k false j = ap (test y) (now y false j) ∙ k

    right : (y : ℕ) → f.is_zero (coefficient_of f y more) ≡ false → (q : Bool) → (e.variable == y) ≡ q → coefficient_of f y whole ≡ coefficient_of f y more
    right y z true j = absurd (let none : coefficient_of f y more ≡ f.zero = none_below f (suc e.variable) y more (let w : e.variable ≡ y = grind (arith, nat_tests) in omega arith) t.2 in let w : f.is_zero (coefficient_of f y more) ≡ true = ap f.is_zero none ∙ n in cc)
    right y z false j = p.same y (ap f.is_zero (now y false j) ∙ z) ∙ now y false j

pub passed_found : {A : Type 0} (f : Field A) (test : ℕ → A → Bool) (whole rest more : List (Entry A)) (e : Entry A) → ((y : ℕ) → test y f.zero ≡ false) → Passed f test whole rest → rest ≡ e ∷ more → test e.variable e.coefficient ≡ true
    → IsLeast (λ y. test y (coefficient_of f y whole)) e.variable
passed_found f test whole rest more e n p g h = record {
  holds = ap (test e.variable) (p.same e.variable (ap f.is_zero here ∙ t.1) ∙ here) ∙ h;
  least = λ y l. p.gone y (ap (test y) (ap (coefficient_of f y) g ∙ none_below f e.variable y (e ∷ more) l (omega arith, t.1, t.2)) ∙ n y);
}
  where
    t : IsTidy f p.at (e ∷ more)
    t = subst (IsTidy f p.at) g p.tidy

    here : coefficient_of f e.variable rest ≡ e.coefficient
    here = ap (coefficient_of f e.variable) g ∙ first_is f e more

pub passed_all : {A : Type 0} (f : Field A) (test : ℕ → A → Bool) (whole rest : List (Entry A)) → ((y : ℕ) → test y f.zero ≡ false) → Passed f test whole rest → rest ≡ [] → (y : ℕ) → test y (coefficient_of f y whole) ≡ false
passed_all f test whole rest n p g y = p.gone y (ap (λ z. test y (coefficient_of f y z)) g ∙ n y)
