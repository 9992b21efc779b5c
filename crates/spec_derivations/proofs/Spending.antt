-- That the eight disjunctions spend a budget of one.
use Rattle.std.proofs.Common.{◌≡◌, ◌≢◌, ℕ, ◌<◌, true, List, [], ◌∷◌, ◌++◌, length, take, All, Contains, refl, sym, subst, arith}
use Rattle.std.specs.List.{AllByRecursion}
use Rattle.std.proofs.lemmas.List.{append-nil, append_assoc, length-take-le}
use Rattle.std.proofs.lemmas.List.Elements.{All-contains, All-from_recursion}
use Rattle.spec_text.proofs.Members.{none}
use Rattle.spec_sorts.specs.Terms.{Truth, Term, same_term, sort_of}
use Rattle.spec_sorts.specs.Subterms.{has_term, with_subterms, with_all_subterms}
use Rattle.spec_sorts.specs.Literals.{Literal, complement, literal_of, literals_of}
use Rattle.spec_sorts.proofs.Members.{has_term-Decides}
use Rattle.spec_proofs.specs.Resolution.{Derives, given, unit, Conflicts, false_clause}
use Rattle.spec_derivations.specs.Derivations.{Inference, assumption, by_rule, Derivation, premises_of, no_inference, inference_at, FollowsFrom, IsDerivation, DependsOn, itself, by_premise, AssumesAmong}
use Rattle.spec_derivations.specs.Spent.{IsAtomOf, subterm, IsLearnedFrom, IsOverAtoms, IsConflictBudgetSpent}
use Rattle.spec_rules.specs.Examples.{p, q, r}
use Rattle.spec_derivations.specs.Problems.{known_subterms}
use Rattle.spec_derivations.specs.Examples.{asserting, eight, not_both, not_both_derived}
use Rattle.spec_derivations.proofs.Derivations.{follows_at}
use Rattle.spec_derivations.proofs.Eight.{not_both_is_new}
use Rattle.spec_derivations.proofs.FirstChain.{not_both_learned}

-- each follows from those before it, by recursion
abbrev Follow : Derivation → Derivation → Type 0
Follow earlier [] = Unit {0}
Follow earlier (x ∷ xs) = FollowsFrom earlier x × Follow (earlier ++ x ∷ []) xs

-- by the splits of the list
followed : (earlier xs before : Derivation) (x : Inference) (after : Derivation) → Follow earlier xs → xs ≡ before ++ x ∷ after → FollowsFrom (earlier ++ before) x
followed earlier [] [] x after f e = cc
followed earlier [] (z ∷ before) x after f e = cc
followed earlier (y ∷ ys) [] x after f e =
    let same : y ≡ x = cc in
    subst (λ ds. FollowsFrom ds x) (sym (append-nil earlier)) (subst (FollowsFrom earlier) same f.0)
followed earlier (y ∷ ys) (z ∷ before) x after f e =
    let same : y ≡ z = cc in
    let rest : ys ≡ before ++ x ∷ after = cc in
    subst (λ w. FollowsFrom (earlier ++ w ∷ before) x) same (subst (λ ds. FollowsFrom ds x) (append_assoc earlier (y ∷ []) before) (followed (earlier ++ y ∷ []) ys before x after f.1 rest))

-- the premises of what follows are among those before it
pub premises_before : (earlier : Derivation) (x : Inference) (k : ℕ) → FollowsFrom earlier x → Contains (premises_of x) k → k < length earlier
premises_before earlier (assumption t) k f k_in = absurd (none k k_in)
premises_before earlier (by_rule rule ps arguments clause) k f k_in = All-contains (λ n. n < length earlier) ps k f.0 k_in

-- what one of its premises is, a clause depends on
pub depends_onward : (d : Derivation) (n m k : ℕ) → DependsOn d n m → Contains (premises_of (inference_at d m)) k → DependsOn d n k
depends_onward d n m k (itself _) p = by_premise n k k p (itself k)
depends_onward d n m k (by_premise _ j _ first rest) p = by_premise n j k first (depends_onward d j m k rest p)

-- what a clause of a derivation depends on is one of it
pub depends_there : (d : Derivation) → IsDerivation d → (n m : ℕ) → n < length d → DependsOn d n m → m < length d
depends_there d right _ _ lt (itself n) = lt
depends_there d right _ _ lt (by_premise n k m k_in depends) =
    let less = premises_before (take n d) (inference_at d n) k (follows_at d right n lt) k_in in
    depends_there d right k m (omega (arith, less, length-take-le n d (omega arith), lt)) depends

-- the literals of the constants
abbrev is : Term → Literal
is t = record { atom = t; positive = true }

-- what the two resolve to
abbrev with_r : List Literal
with_r = complement (is p) ∷ complement (is q) ∷ is r ∷ []

abbrev without_r : List Literal
without_r = complement (is p) ∷ complement (is q) ∷ complement (is r) ∷ []

abbrev both : List Literal
both = is p ∷ is q ∷ []

abbrev Given : Literal → Type 0
Given l = Derives complement (with_r ∷ without_r ∷ []) both l

given_p : Given (is p)
given_p = given (is p) (0, omega arith, refl)

given_q : Given (is q)
given_q = given (is q) (1, omega arith, refl)

given_r : Given (is r)
given_r = unit with_r (is r) (0, omega arith, refl) (2, omega arith, refl) (λ m m_in. All-contains (λ n. n ≢ is r → Given (complement n)) with_r m (All-from_recursion (λ n. n ≢ is r → Given (complement n)) with_r (λ d. given_p, (λ d. given_q, (λ d. absurd (d refl), tt)))) m_in)

conflict : Conflicts complement (with_r ∷ without_r ∷ []) both
conflict = false_clause without_r (1, omega arith, refl) (λ m m_in. All-contains (λ n. Given (complement n)) without_r m (All-from_recursion (λ n. Given (complement n)) without_r (given_p, (given_q, (given_r, tt)))) m_in)

-- the premises of its steps are before them
opened : All (λ n. n < 2) (0 ∷ [])
opened = All-from_recursion (λ n. n < 2) (0 ∷ []) (omega arith, tt)

other_opened : All (λ n. n < 3) (1 ∷ [])
other_opened = All-from_recursion (λ n. n < 3) (1 ∷ []) (omega arith, tt)

resolved : All (λ n. n < 4) (2 ∷ 3 ∷ [])
resolved = All-from_recursion (λ n. n < 4) (2 ∷ 3 ∷ []) (omega arith, (omega arith, tt))

follow : Follow [] not_both_derived
unfolding literal_of
follow = (tt, (tt, ((opened, λ t t_in. t_in), ((other_opened, λ t t_in. t_in), ((resolved, conflict), tt)))))

right : IsDerivation not_both_derived
right before x after e = followed [] not_both_derived before x after follow e

assumed : AllByRecursion (AssumesAmong eight) not_both_derived
assumed = ((6, omega arith, refl), ((7, omega arith, refl), (tt, (tt, (tt, tt)))))

learned_from : IsLearnedFrom (asserting eight) not_both_derived (literals_of not_both)
learned_from = record {
  number = 4;
  derived = record {
    there = omega arith;
    assumptions = λ m depends. All-from_recursion (AssumesAmong eight) not_both_derived assumed m no_inference (depends_there not_both_derived right 4 m (omega arith) depends);
  };
  same = refl;
}

-- the constants are atoms
p_there : has_term (known_subterms (asserting eight)) p ≡ true
unfolding same_term with_subterms with_all_subterms
p_there = refl

q_there : has_term (known_subterms (asserting eight)) q ≡ true
unfolding same_term with_subterms with_all_subterms
q_there = refl

pub p_sort : sort_of p ≡ Truth
unfolding sort_of
p_sort = refl

q_sort : sort_of q ≡ Truth
unfolding sort_of
q_sort = refl

p_is_atom : IsAtomOf (asserting eight) p
p_is_atom = subterm p ((has_term-Decides (known_subterms (asserting eight)) p).0 p_there) p_sort (λ e. cc) (λ e. cc)

q_is_atom : IsAtomOf (asserting eight) q
q_is_atom = subterm q ((has_term-Decides (known_subterms (asserting eight)) q).0 q_there) q_sort (λ e. cc) (λ e. cc)

are_atoms : All (λ (l : Literal). IsAtomOf (asserting eight) l.atom) (literals_of not_both)
unfolding literal_of
are_atoms = All-from_recursion (λ (l : Literal). IsAtomOf (asserting eight) l.atom) (literals_of not_both) (p_is_atom, (q_is_atom, tt))

pub spent : IsConflictBudgetSpent (asserting eight) not_both_derived 1 1 [] (literals_of not_both ∷ [])
spent = record {
  full = refl;
  carries = refl;
  learns = record {
    right = right;
    derived = All-from_recursion (IsLearnedFrom (asserting eight) not_both_derived) (literals_of not_both ∷ []) (learned_from, tt);
    atoms = All-from_recursion (IsOverAtoms (asserting eight)) (literals_of not_both ∷ []) (are_atoms, tt);
    new = (not_both_is_new, tt);
    exact = (not_both_learned not_both_derived, tt);
  };
}
