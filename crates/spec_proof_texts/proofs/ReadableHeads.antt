-- Terms that can be read back whole: heads before them, what the heads of theories are read as, and arguments for parameters.
use Rattle.std.proofs.Common.{◌≡◌, Bool, true, false, ◌&&◌, List, [], ◌∷◌, ◌++◌, map, cond, Option, Some, None, refl, sym, subst}
use Rattle.std.specs.Prelude.{not}
use Rattle.std.specs.List.{AllByRecursion}
use Rattle.std.specs.Str.{bytes_eq}
use Rattle.std.proofs.lemmas.Bool.{false≢true, and_parts}
use Rattle.spec_text.specs.declared.Fault.{Fault}
use Rattle.spec_text.specs.declared.Fault.TheVariants.{NotLinear, ZeroDivisor}
use Rattle.spec_text.specs.Bytes.{Name}
use Rattle.spec_sorts.specs.Lists.{left, right, neighbours, all_pairs}
use Rattle.spec_sorts.specs.Terms.{Head, True, False, Not, And, Or, Xor, Implies, Equal, Ite, Minus, Plus, Times, Divide, Less, AtMost, Term, of, terms_of, no_term, pair}
use Rattle.spec_sorts.specs.Theory.{look_up, alike, Rule, at_least, unequal, turned, each_pair, differences, is_divisor, is_zero_divisor, each_passes, divisors_fault, quotient_fault, theory}
use Rattle.spec_sorts.proofs.General.{list_of-terms_of}
use Rattle.spec_arithmetic.specs.Numbers.{IsLinearHead, IsLinear, AreLinear}
use Rattle.spec_proof_texts.specs.Printable.{HasText}
use Rattle.spec_proof_texts.specs.Readable.{HasDecimals, HaveDecimals, IsReadableWhole}

-- each of terms
abbrev pub Each : List Term → Type 0
Each ts = AllByRecursion IsReadableWhole ts

each_listed : (ts : List Term) → Each ts → AreLinear (terms_of ts) × HaveDecimals (terms_of ts)
unfolding AreLinear HaveDecimals
each_listed [] a = (tt, tt)
each_listed (t ∷ ts) a = let k = each_listed ts a.1 in ((a.0.0, k.0), (a.0.1, k.1))

-- a head before such terms
pub before : (h : Head) (ts : List Term) → IsLinearHead h ts → HasText h → Each ts → IsReadableWhole (of h ts)
unfolding IsLinear HasDecimals
before h ts linear text a = let k = each_listed ts a in ((subst (IsLinearHead h) (sym (list_of-terms_of ts)) linear, k.0), (text, k.1))

-- no term, where there should be some
pub no_term_readable : IsReadableWhole no_term
no_term_readable = before False [] tt tt tt

-- two such terms are joined to one
abbrev Joins : (Term → Term → Term) → Type 0
Joins f = (t u : Term) → IsReadableWhole t → IsReadableWhole u → IsReadableWhole (f t u)

left_readable : (f : Term → Term → Term) → Joins f → (ts : List Term) → Each ts → IsReadableWhole (left no_term f ts)
left_readable f j [] a = no_term_readable
left_readable f j (t ∷ []) a = a.0
left_readable f j (t ∷ u ∷ us) a = left_readable f j (f t u ∷ us) (j t u a.0 a.1.0, a.1.1)

right_readable : (f : Term → Term → Term) → Joins f → (ts : List Term) → Each ts → IsReadableWhole (right no_term f ts)
right_readable f j [] a = no_term_readable
right_readable f j (t ∷ []) a = a.0
right_readable f j (t ∷ u ∷ us) a = j t (right no_term f (u ∷ us)) a.0 (right_readable f j (u ∷ us) a.1)

-- both are such terms
abbrev Both : Term × Term → Type 0
Both q = IsReadableWhole q.0 × IsReadableWhole q.1

neighbours_readable : (ts : List Term) → Each ts → AllByRecursion Both (neighbours ts)
neighbours_readable [] a = tt
neighbours_readable (t ∷ []) a = tt
neighbours_readable (t ∷ u ∷ us) a = ((a.0, a.1.0), neighbours_readable (u ∷ us) a.1)

all_pairs_readable : (ts : List Term) → Each ts → AllByRecursion Both (all_pairs ts)
all_pairs_readable [] a = tt
all_pairs_readable (t ∷ ts) a = go ts a.1 (all_pairs_readable ts a.1)
  where
    go : (us : List Term) → Each us → AllByRecursion Both (all_pairs ts) → AllByRecursion Both (map {B = Term × Term} (λ u. (t, u)) us ++ all_pairs ts)
    go [] b c = c
    go (u ∷ us) b c = ((a.0, b.0), go us b.1 c)

each_pair_readable : (f : Term → Term → Term) → Joins f → (qs : List (Term × Term)) → AllByRecursion Both qs → IsReadableWhole (each_pair f qs)
each_pair_readable f j [] b = before And [] tt tt tt
each_pair_readable f j (q ∷ []) b = j q.0 q.1 b.0.0 b.0.1
each_pair_readable f j (q ∷ r ∷ rs) b = before And (map (λ p. f p.0 p.1) (q ∷ r ∷ rs)) tt tt (all (q ∷ r ∷ rs) b)
  where
    all : (qs : List (Term × Term)) → AllByRecursion Both qs → Each (map (λ p. f p.0 p.1) qs)
    all [] b = tt
    all (q ∷ qs) b = (j q.0 q.1 b.0.0 b.0.1, all qs b.1)

-- divisors that are taken are divisors other than 0
pub record IsDivisor (d : Term) : Type 0 where
  pub divisor : is_divisor d ≡ true
  pub some : is_zero_divisor d ≡ false

pub not_fault : (f : Fault) → Some f ≡ None → ⊥
not_fault f e = cc

pub divisors_taken : (ds : List Term) → divisors_fault ds ≡ None → AllByRecursion IsDivisor ds
divisors_taken ds e = go (each_passes is_divisor ds) (each_passes (λ d. not (is_zero_divisor d)) ds) refl refl e
  where
    all : (ds : List Term) → each_passes is_divisor ds ≡ true → each_passes (λ d. not (is_zero_divisor d)) ds ≡ true → AllByRecursion IsDivisor ds
    all [] a b = tt
    all (d ∷ ds) a b =
        let p = and_parts _ _ a in
        let q = and_parts _ _ b in
        (record { divisor = p.0; some = opposite (is_zero_divisor d) q.0 }, all ds p.1 q.1)
      where
        opposite : (b : Bool) → not b ≡ true → b ≡ false
        opposite true e = absurd (false≢true e)
        opposite false e = refl

    go : (a b : Bool) → each_passes is_divisor ds ≡ a → each_passes (λ d. not (is_zero_divisor d)) ds ≡ b → cond (not a) (Some NotLinear) (cond (not b) (Some ZeroDivisor) None) ≡ None → AllByRecursion IsDivisor ds
    go true true x y e = all ds x y
    go true false x y e = absurd (not_fault ZeroDivisor e)
    go false b x y e = absurd (not_fault NotLinear e)

pub divisors_free : (ds : List Term) → AllByRecursion IsDivisor ds → divisors_fault ds ≡ None
divisors_free ds a = λ i. cond (not ((all ds a).0 i)) (Some NotLinear) (cond (not ((all ds a).1 i)) (Some ZeroDivisor) None)
  where
    all : (ds : List Term) → AllByRecursion IsDivisor ds → (each_passes is_divisor ds ≡ true) × (each_passes (λ d. not (is_zero_divisor d)) ds ≡ true)
    all [] a = (refl, refl)
    all (d ∷ ds) a = let k = all ds a.1 in ((λ i. a.0.divisor i && k.0 i), (λ i. not (a.0.some i) && k.1 i))

-- quotients to the left
quotient_readable : (ts : List Term) → quotient_fault ts ≡ None → Each ts → IsReadableWhole (left no_term (pair Divide) ts)
quotient_readable [] e a = no_term_readable
quotient_readable (t ∷ ds) e a = go t ds (divisors_taken ds e) a.0 a.1
  where
    go : (t : Term) (ds : List Term) → AllByRecursion IsDivisor ds → IsReadableWhole t → Each ds → IsReadableWhole (left no_term (pair Divide) (t ∷ ds))
    go t [] d a b = a
    go t (u ∷ us) d a b = go (pair Divide t u) us d.1 (before Divide (t ∷ u ∷ []) (divisors_free (u ∷ []) (d.0, tt)) tt (a, (b.0, tt))) b.1

-- what a rule reads is such a term, where its arguments are and none is refused
abbrev pub Keeps : Rule → Type 0
Keeps r = (ts : List Term) → r.fault ts ≡ None → Each ts → IsReadableWhole (r.reads ts)

joined : (h : Head) → ((ts : List Term) → IsLinearHead h ts) → HasText h → Joins (pair h)
joined h linear text t u a b = before h (t ∷ u ∷ []) (linear (t ∷ u ∷ [])) text (a, (b, tt))

unequal_joins : Joins unequal
unequal_joins t u a b = before Not (pair Equal t u ∷ []) tt tt (before Equal (t ∷ u ∷ []) tt tt (a, (b, tt)), tt)

differences_readable : (ts : List Term) → Each ts → IsReadableWhole (differences ts)
differences_readable [] a = no_term_readable
differences_readable (t ∷ []) a = before Minus (t ∷ []) tt tt a
differences_readable (t ∷ u ∷ us) a = left_readable (pair Minus) (joined Minus (λ ts. tt) tt) (t ∷ u ∷ us) a

-- a head that refuses no arguments
plain : (h : Head) → ((ts : List Term) → IsLinearHead h ts) → HasText h → Keeps (at_least 0 alike (of h))
plain h linear text ts e a = before h ts (linear ts) text a

-- each rule does
theory_keeps : AllByRecursion (λ (e : Name × Rule). Keeps e.1) theory
theory_keeps = (plain True (λ ts. tt) tt, (plain False (λ ts. tt) tt, (plain Not (λ ts. tt) tt, (plain And (λ ts. tt) tt, (plain Or (λ ts. tt) tt, (xor_keeps, (implies_keep, (chain_keeps Equal (λ ts. tt) tt, (distinct_keeps, (plain Ite (λ ts. tt) tt, ((λ ts e a. differences_readable ts a), (plain Plus (λ ts. tt) tt, ((λ ts e a. before Times ts e tt a), (quotient_readable, (chain_keeps Less (λ ts. tt) tt, (chain_keeps AtMost (λ ts. tt) tt, (turned_keeps Less (λ ts. tt) tt, (turned_keeps AtMost (λ ts. tt) tt, tt))))))))))))))))))
  where
    xor_keeps : Keeps (at_least 2 alike (λ ts. left no_term (pair Xor) ts))
    xor_keeps ts e a = left_readable (pair Xor) (joined Xor (λ ts. tt) tt) ts a

    implies_keep : Keeps (at_least 2 alike (λ ts. right no_term (pair Implies) ts))
    implies_keep ts e a = right_readable (pair Implies) (joined Implies (λ ts. tt) tt) ts a

    distinct_keeps : Keeps (at_least 2 alike (λ ts. each_pair unequal (all_pairs ts)))
    distinct_keeps ts e a = each_pair_readable unequal unequal_joins (all_pairs ts) (all_pairs_readable ts a)

    chain_keeps : (h : Head) → ((ts : List Term) → IsLinearHead h ts) → HasText h → Keeps (at_least 2 alike (λ ts. each_pair (pair h) (neighbours ts)))
    chain_keeps h linear text ts e a = each_pair_readable (pair h) (joined h linear text) (neighbours ts) (neighbours_readable ts a)

    turned_keeps : (h : Head) → ((ts : List Term) → IsLinearHead h ts) → HasText h → Keeps (at_least 2 alike (λ ts. each_pair (turned h) (neighbours ts)))
    turned_keeps h linear text ts e a = each_pair_readable (turned h) (λ t u x y. joined h linear text u t y x) (neighbours ts) (neighbours_readable ts a)

-- the rule of a name, if there is one
pub rule_keeps : (n : Name) (r : Rule) → look_up theory n ≡ Some r → Keeps r
rule_keeps n r e = subst RuleKeeps e (at theory theory_keeps)
  where
    RuleKeeps : Option Rule → Type 0
    RuleKeeps (Some r) = Keeps r
    RuleKeeps None = Unit {0}

    at : (rs : List (Name × Rule)) → AllByRecursion (λ (e : Name × Rule). Keeps e.1) rs → RuleKeeps (look_up rs n)
    at [] h = tt
    at (x ∷ xs) h = go (bytes_eq x.0 n) (at xs h.1)
      where
        go : (c : Bool) → RuleKeeps (look_up xs n) → RuleKeeps (cond c (Some x.1) (look_up xs n))
        go true k = h.0
        go false k = k
