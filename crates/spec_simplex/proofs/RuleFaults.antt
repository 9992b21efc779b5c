-- The rule `la_generic` is too wide by the overflow of one of its operations, or of an argument.
use Rattle.std.proofs.Common.{◌≡◌, Bool, true, false, List, [], ◌∷◌, map, Option, Some, None, Contains, subst}
use Rattle.std.specs.Prelude.{Result, Ok, Err, IfErr}
use Rattle.spec_text.specs.Answers.{◌>>=◌}
use Rattle.spec_text.proofs.Members.{first, later, from_image}
use Rattle.spec_numbers.specs.Fractions.{Fraction, zero_fraction}
use Rattle.spec_numbers.specs.Bounds.{Overflow}
use Rattle.spec_sorts.specs.Terms.{Term}
use Rattle.spec_arithmetic.specs.Forms.{Answer, Form, Fault, constant_form, adding, combined, scaled, difference}
use Rattle.spec_arithmetic.specs.Contradictions.{Negation, negation_of, Coefficient, given, too_wide, malformed, paired, paired_with, numbered, Part, without_term, parts_of, weight_by, summed, sum_of, is_strict, cannot_hold, Failure, shape, no_contradiction, wide, as_failure, taken_if, judged_last, judged_first, judged_parts, judged_pairs, la_generic}
use Rattle.spec_simplex.specs.Overflows.{IsOverflow}
use Rattle.spec_simplex.proofs.Failing.{failing_in_turn, of_fault}
use Rattle.spec_simplex.proofs.FormFaults.{IsFault, Fails, sum_fails, scaled_fails, difference_fails}

-- where the failure is by an overflow, this is one
abbrev IsWide : Failure → Type 0
IsWide shape = Unit {0}
IsWide no_contradiction = Unit {0}
IsWide (wide w) = IsOverflow w

-- where an argument is an overflow, this is one
abbrev IsRight : Coefficient → Type 0
IsRight (given c) = Unit {0}
IsRight (too_wide w) = IsOverflow w
IsRight malformed = Unit {0}

-- so are those of pairs
abbrev AreRight : List (Negation × Coefficient) → Type 0
AreRight [] = Unit {0}
AreRight ((n, c) ∷ rest) = IsRight c × AreRight rest

-- and where there are pairs
abbrev AreRightIf : Option (List (Negation × Coefficient)) → Type 0
AreRightIf None = Unit {0}
AreRightIf (Some ps) = AreRight ps

paired_with_right : (n : Option Negation) (c : Coefficient) (ps : Option (List (Negation × Coefficient))) → IsRight c → AreRightIf ps → AreRightIf (paired_with n c ps)
paired_with_right (Some n) (given c) (Some ps) h k = (tt, k)
paired_with_right (Some n) (too_wide w) (Some ps) h k = (h, k)
paired_with_right n c ps h k = tt

paired_right : (ts : List Term) (cs : List Coefficient) → ((c : Coefficient) → Contains cs c → IsRight c) → AreRightIf (paired ts cs)
unfolding paired
paired_right [] [] h = tt
paired_right (t ∷ ts) (c ∷ cs) h = paired_with_right (negation_of true t) c (paired ts cs) (h c (first c cs)) (paired_right ts cs (λ d k. h d (later c cs d k)))
paired_right ts cs h = tt

numbered_fails : (ps : List (Negation × Coefficient)) → AreRight ps → Fails (numbered ps)
unfolding numbered
numbered_fails [] h = tt
numbered_fails ((n, given c) ∷ rest) h = failing_in_turn IsOverflow (numbered rest) (λ r. Ok ((n, c) ∷ r)) (numbered_fails rest h.1) (λ r. tt)
numbered_fails ((n, too_wide w) ∷ rest) h = h.0
numbered_fails ((n, malformed) ∷ rest) h = numbered_fails rest h.1

without_term_fails : {A : Type 0} (a : Result A Fault) → IfErr a IsFault → Fails (without_term a)
without_term_fails (Ok a) h = tt
without_term_fails (Err e) h = h

parts_fail : (ns : List (Negation × Fraction)) → Fails (parts_of ns)
unfolding parts_of
parts_fail [] = tt
parts_fail ((n, c) ∷ rest) =
    failing_in_turn IsOverflow (without_term (difference n.atom n.left n.right)) _
    (without_term_fails (difference n.atom n.left n.right) (difference_fails n.atom n.left n.right))
    (λ f. failing_in_turn IsOverflow (parts_of rest) _ (parts_fail rest) (λ r. tt))

summed_fails : (turned : Bool) (f : Form) (ps : List Part) → Fails (summed turned f ps)
unfolding summed
summed_fails turned f [] = tt
summed_fails turned f (p ∷ ps) =
    failing_in_turn IsOverflow (scaled (weight_by turned p.relation p.weight) p.form) _ (scaled_fails (weight_by turned p.relation p.weight) p.form)
    (λ g. failing_in_turn IsOverflow (combined adding f g) _ (sum_fails f g) (λ h. summed_fails turned h ps))

sum_of_fails : (turned : Bool) (ps : List Part) → Fails (sum_of turned ps)
sum_of_fails turned ps = summed_fails turned (constant_form zero_fraction) ps

as_failure_fails : {A : Type 0} (a : Answer A) → Fails a → IfErr (as_failure a) IsWide
as_failure_fails (Ok a) h = tt
as_failure_fails (Err w) h = h

taken_fails : (b : Bool) → IfErr (taken_if b) IsWide
taken_fails true = tt
taken_fails false = tt

judged_first_fails : (ps : List Part) (f : Form) → IfErr (judged_first ps f) IsWide
judged_first_fails ps f = by (cannot_hold (is_strict ps) f)
  where
    by : (b : Bool) → IfErr (let r : Result (Unit {0}) Failure = elim b [ true ↦ Ok tt | false ↦ as_failure (sum_of true ps) >>= λ g. judged_last ps g ] in r) IsWide
    by true = tt
    by false =
        failing_in_turn IsWide (as_failure (sum_of true ps)) (λ g. judged_last ps g) (as_failure_fails (sum_of true ps) (sum_of_fails true ps))
        (λ g. taken_fails (cannot_hold (is_strict ps) g))

judged_parts_fails : (ps : List Part) → IfErr (judged_parts ps) IsWide
judged_parts_fails ps =
    failing_in_turn IsWide (as_failure (sum_of false ps)) (λ f. judged_first ps f) (as_failure_fails (sum_of false ps) (sum_of_fails false ps)) (judged_first_fails ps)

judged_pairs_fails : (ps : Option (List (Negation × Coefficient))) → AreRightIf ps → IfErr (judged_pairs ps) IsWide
judged_pairs_fails None h = tt
judged_pairs_fails (Some ps) h =
    failing_in_turn IsWide (as_failure (numbered ps)) _ (as_failure_fails (numbered ps) (numbered_fails ps h))
    (λ ns. failing_in_turn IsWide (as_failure (parts_of ns)) (λ qs. judged_parts qs) (as_failure_fails (parts_of ns) (parts_fail ns)) judged_parts_fails)

-- the rule by arguments that are right
rule_fails : (clause : List Term) (cs : List Coefficient) → ((c : Coefficient) → Contains cs c → IsRight c) → IfErr (la_generic clause cs) IsWide
unfolding la_generic
rule_fails clause cs h = judged_pairs_fails (paired clause cs) (paired_right clause cs h)

pub rule_too_wide : (clause : List Term) (cs : List Coefficient) (o : Overflow) → ((w : Overflow) → Contains cs (too_wide w) → IsOverflow w) → la_generic clause cs ≡ Err (wide o) → IsOverflow o
rule_too_wide clause cs o h e = of_fault IsWide (la_generic clause cs) (wide o) (rule_fails clause cs right) e
  where
    right : (c : Coefficient) → Contains cs c → IsRight c
    right (given c) k = tt
    right (too_wide w) k = h w k
    right malformed k = tt

-- numbers are right
pub numbers_too_wide : (clause : List Term) (weights : List Fraction) (o : Overflow) → la_generic clause (map given weights) ≡ Err (wide o) → IsOverflow o
numbers_too_wide clause weights o e = of_fault IsWide (la_generic clause (map given weights)) (wide o) (rule_fails clause (map given weights) right) e
  where
    right : (c : Coefficient) → Contains (map given weights) c → IsRight c
    right c k = let x = from_image given weights c k in subst IsRight x.2 tt
