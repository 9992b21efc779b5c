-- The proof of a contradiction, by what it has to be.
use Rattle.std.proofs.Common.{◌≡◌, ◌<◌, ℕ, zero, suc, Bool, true, false, List, [], ◌∷◌, Some, Contains, get_or, refl, sym, ap, subst, inl, inr, arith}
use Rattle.std.specs.Prelude.{◌⊎◌, ◌&&◌, ◌+◌, nat_eq, take}
use Rattle.std.specs.List.{slice_get}
use Rattle.std.proofs.lemmas.List.Elements.{All-contains, All-cons, All-nil}
use Rattle.spec_text.specs.Trees as trees
use Rattle.spec_text.proofs.Members.{first, later, none, only}
use Rattle.spec_sorts.specs.Terms.{Truth, Term, negated, sort_of, same_term}
use Rattle.spec_sorts.specs.Subsets.{arguments_of}
use Rattle.spec_rules.specs.Examples.{p}
use Rattle.spec_proofs.specs.declared.Rule.TheVariants as rules
use Rattle.spec_commands.specs.Stack.{terms_asserted}
use Rattle.spec_commands.specs.Checks.{asked}
use Rattle.spec_checking.specs.Examples.{the_check, known}
use Rattle.spec_checking.specs.OnLiterals.{proofs_on_literals}
use Rattle.spec_checking.proofs.Verdicts.{units_resolve}
use Rattle.spec_derivations.specs.Derivations.{«assumption», by_rule, Derivation, conclusion_at, premises_of, inference_at, FollowsFrom, IsDerivation, DependsOn, itself, by_premise, AssumesAmong, IsDerivedFrom}
use Rattle.spec_proof_texts.specs.Lines.{proof_text}
use Rattle.spec_proof_texts.specs.Plans.{Plan, lines_of, counted, counted_inferences, is_compound, times_in_clauses, times_in_terms, height_of, greatest_height, how_many, height_over, IsPrinted, in_clause, as_argument, IsSupport, IsPlan}
use Rattle.spec_proof_texts.specs.Printable.{IsPrintable, ArePrintable, ConcludesOver, HasGiven, AllConcludeOver}
use Rattle.spec_proof_texts.specs.Examples.{refutation}
use Rattle.spec_proof_texts.proofs.Refutation.{found}
use Rattle.spec_sessions.specs.Refutations.{IsProofOf}

-- the terms, and the clauses of the proof
abbrev terms : List Term
terms = p ∷ negated p ∷ []

abbrev derivation : Derivation
derivation = «assumption» p ∷ «assumption» (negated p) ∷ by_rule rules.Resolution (0 ∷ 1 ∷ []) trees.none [] ∷ []

abbrev all : List Bool
all = true ∷ true ∷ true ∷ []

abbrev plan : Plan
plan = record { terms = counted 1 (false ∷ false ∷ []); inferences = counted_inferences 1 1 all derivation }

-- its lines are those of the example
lines_are : lines_of terms derivation plan ≡ refutation
unfolding same_term sort_of
lines_are = refl

apart : (i j : ℕ) (t : Term) → slice_get terms i ≡ Some t → slice_get terms j ≡ Some t → i ≡ j
apart zero zero t e h = refl
apart zero (suc zero) t e h = cc
apart zero (suc (suc j)) t e h = cc
apart (suc zero) zero t e h = cc
apart (suc zero) (suc zero) t e h = refl
apart (suc zero) (suc (suc j)) t e h = cc
apart (suc (suc i)) j t e h = cc

before : (k : ℕ) (t u : Term) → slice_get terms k ≡ Some t → Contains (arguments_of t) u → (j : ℕ) × (j < k) × (slice_get terms j ≡ Some u)
before zero t u e h = let is : p ≡ t = cc in absurd (none u (subst (λ x. Contains (arguments_of x) u) (sym is) h))
before (suc zero) t u e h =
    let is : negated p ≡ t = cc in
    let one : p ≡ u = only p u (subst (λ x. Contains (arguments_of x) u) (sym is) h) in
    (0, omega arith, ap Some one)
before (suc (suc k)) t u e h = cc

-- a term of the proof
abbrev IsTerm : Term → Type 0
IsTerm t = (p ≡ t) ⊎ (negated p ≡ t)

-- the empty clause depends on all three
depends_low : (n m : ℕ) → n < 3 → DependsOn derivation n m → m < 3
depends_low n m l (itself k) = l
depends_low n m l (by_premise a b k h r) = depends_low b k (premise a b l h) r
  where
    few : (b : ℕ) → Contains (0 ∷ 1 ∷ []) b → b < 3
    few b c = All-contains (λ x. x < 3) (0 ∷ 1 ∷ []) b (All-cons (λ x. x < 3) 0 (1 ∷ []) (omega arith) (All-cons (λ x. x < 3) 1 [] (omega arith) (All-nil (λ x. x < 3)))) c

    premise : (a b : ℕ) → a < 3 → Contains (premises_of (inference_at derivation a)) b → b < 3
    premise zero b l h = absurd (none b h)
    premise (suc zero) b l h = absurd (none b h)
    premise (suc (suc zero)) b l h = few b h
    premise (suc (suc (suc a))) b l h = absurd (omega (arith, l))

support : (m : ℕ) → m < 3 → DependsOn derivation 2 m
support zero l = by_premise 2 0 0 (0, omega arith, refl) (itself 0)
support (suc zero) l = by_premise 2 1 1 (1, omega arith, refl) (itself 1)
support (suc (suc zero)) l = itself 2
support (suc (suc (suc m))) l = absurd (omega (arith, l))

-- what is printed is one of the terms
clause_term : (m : ℕ) (t : Term) → m < 3 → Contains (conclusion_at derivation m) t → IsTerm t
clause_term zero t l h = inl (only p t h)
clause_term (suc zero) t l h = inr (only (negated p) t h)
clause_term (suc (suc zero)) t l h = absurd (none t h)
clause_term (suc (suc (suc m))) t l h = absurd (omega (arith, l))

argument_term : (t u : Term) → IsTerm t → Contains (arguments_of t) u → IsTerm u
argument_term t u (inl e) h = absurd (none u (subst (λ x. Contains (arguments_of x) u) (sym e) h))
argument_term t u (inr e) h = inl (only p u (subst (λ x. Contains (arguments_of x) u) (sym e) h))

printed_term : (t : Term) → IsPrinted derivation 2 t → IsTerm t
printed_term t (in_clause m u support h) = clause_term m u (depends_low 2 m (omega arith) support) h
printed_term t (as_argument u v of h) = argument_term u v (printed_term u of) h

p_printable : IsPrintable known.scope p
unfolding sort_of
p_printable = record { takes = record { known = found; takes = refl; linear = refl }; sort = tt }

not_p_printable : IsPrintable known.scope (negated p)
unfolding sort_of
not_p_printable = record { takes = record { known = tt; takes = refl; linear = refl }; sort = tt }

each_printable : (t : Term) → IsTerm t → IsPrintable known.scope t
each_printable t (inl e) = subst (IsPrintable known.scope) e p_printable
each_printable t (inr e) = subst (IsPrintable known.scope) e not_p_printable

printable : ArePrintable known.scope terms derivation 2
printable = record { apart = apart; before = before; each = λ t h. each_printable t (printed_term t h) }

-- they have the sort Bool
term_sort : (t : Term) → IsTerm t → sort_of t ≡ Truth
unfolding sort_of
term_sort t (inl e) = ap sort_of (sym e)
term_sort t (inr e) = ap sort_of (sym e)

-- and are among the terms
term_there : (t : Term) → IsTerm t → (j : ℕ) × (slice_get terms j ≡ Some t)
term_there t (inl e) = (0, ap Some e)
term_there t (inr e) = (1, ap Some e)

over : AllConcludeOver terms derivation
over zero x e = let is : «assumption» p ≡ x = cc in subst (λ y. ConcludesOver terms y × HasGiven y) is (λ u h. let t = inl (only p u h) in (term_there u t, term_sort u t), tt)
over (suc zero) x e = let is : «assumption» (negated p) ≡ x = cc in subst (λ y. ConcludesOver terms y × HasGiven y) is (λ u h. let t = inr (only (negated p) u h) in (term_there u t, term_sort u t), tt)
over (suc (suc zero)) x e = let is : by_rule rules.Resolution (0 ∷ 1 ∷ []) trees.none [] ≡ x = cc in subst (λ y. ConcludesOver terms y × HasGiven y) is (λ u h. absurd (none u h), tt)
over (suc (suc (suc k))) x e = cc

follows : FollowsFrom («assumption» p ∷ «assumption» (negated p) ∷ []) (by_rule rules.Resolution (0 ∷ 1 ∷ []) trees.none [])
follows = (All-cons (λ n. n < 2) 0 (1 ∷ []) (omega arith) (All-cons (λ n. n < 2) 1 [] (omega arith) (All-nil (λ n. n < 2))), units_resolve)

is_derivation : IsDerivation derivation
is_derivation [] x after e = let is : «assumption» p ≡ x = cc in subst (FollowsFrom []) is tt
is_derivation (a ∷ []) x after e = let is : «assumption» (negated p) ≡ x = cc in subst (FollowsFrom (a ∷ [])) is tt
is_derivation (a ∷ b ∷ []) x after e =
    let one : «assumption» p ≡ a = cc in
    let two : «assumption» (negated p) ≡ b = cc in
    let is : by_rule rules.Resolution (0 ∷ 1 ∷ []) trees.none [] ≡ x = cc in
    subst (FollowsFrom (a ∷ b ∷ [])) is (subst (λ y. FollowsFrom (a ∷ y ∷ []) (by_rule rules.Resolution (0 ∷ 1 ∷ []) trees.none [])) two (subst (λ y. FollowsFrom (y ∷ «assumption» (negated p) ∷ []) (by_rule rules.Resolution (0 ∷ 1 ∷ []) trees.none [])) one follows))
is_derivation (a ∷ b ∷ c ∷ []) x after e = cc
is_derivation (a ∷ b ∷ c ∷ d ∷ ds) x after e = cc

marked : (m : ℕ) → m < 3 → get_or all m false ≡ true
marked zero l = refl
marked (suc zero) l = refl
marked (suc (suc zero)) l = refl
marked (suc (suc (suc m))) l = absurd (omega (arith, l))

marks_low : (m : ℕ) → get_or all m false ≡ true → m < 3
marks_low zero e = omega arith
marks_low (suc zero) e = omega arith
marks_low (suc (suc zero)) e = omega arith
marks_low (suc (suc (suc m))) e = cc

is_support : IsSupport derivation 2 all
is_support = record { up_to = refl; each = λ m r. marked m (depends_low 2 m (omega arith) r); only = λ m e. support m (marks_low m e) }

-- both terms are printed
each_printed : (k : ℕ) (t : Term) → slice_get terms k ≡ Some t → get_or (true ∷ true ∷ []) k false ≡ true
each_printed zero t e = refl
each_printed (suc zero) t e = refl
each_printed (suc (suc k)) t e = cc

only_printed : (k : ℕ) (t : Term) → slice_get terms k ≡ Some t → get_or (true ∷ true ∷ []) k false ≡ true → IsPrinted derivation 2 t
only_printed zero t e m = let is : p ≡ t = cc in in_clause 0 t (support 0 (omega arith)) (subst (λ x. Contains (p ∷ []) x) is (first p []))
only_printed (suc zero) t e m = let is : negated p ≡ t = cc in in_clause 1 t (support 1 (omega arith)) (subst (λ x. Contains (negated p ∷ []) x) is (first (negated p) []))
only_printed (suc (suc k)) t e m = cc

-- the negation is used once
each_single : (k : ℕ) (t : Term) → slice_get terms k ≡ Some t → get_or (false ∷ true ∷ []) k false ≡ get_or (true ∷ true ∷ []) k false && (is_compound t && nat_eq (times_in_clauses all derivation t + times_in_terms (true ∷ true ∷ []) terms t) 1)
unfolding same_term
each_single zero t e = let is : p ≡ t = cc in subst (λ x. false ≡ true && (is_compound x && nat_eq (times_in_clauses all derivation x + times_in_terms (true ∷ true ∷ []) terms x) 1)) is refl
each_single (suc zero) t e = let is : negated p ≡ t = cc in subst (λ x. true ≡ true && (is_compound x && nat_eq (times_in_clauses all derivation x + times_in_terms (true ∷ true ∷ []) terms x) 1)) is refl
each_single (suc (suc k)) t e = cc

-- and in place
each_height : (k : ℕ) (t : Term) → slice_get terms k ≡ Some t → get_or (0 ∷ 1 ∷ []) k 0 ≡ height_over (get_or (false ∷ true ∷ []) k false) (greatest_height (height_of terms (0 ∷ 1 ∷ [])) (arguments_of t)) (how_many (take k (0 ∷ 1 ∷ [])))
unfolding same_term
each_height zero t e = refl
each_height (suc zero) t e = let is : negated p ≡ t = cc in subst (λ x. 1 ≡ height_over true (greatest_height (height_of terms (0 ∷ 1 ∷ [])) (arguments_of x)) 0) is refl
each_height (suc (suc k)) t e = cc

planned : IsPlan terms derivation 2 plan
planned = record {
  support = all;
  is_support = is_support;
  inferences = refl;
  printed = true ∷ true ∷ [];
  are_printed = record { as_many = refl; each = λ k t e printed. each_printed k t e; only = only_printed };
  single = false ∷ true ∷ [];
  are_single = record { as_many = refl; each = each_single };
  heights = 0 ∷ 1 ∷ [];
  are_heights = record { as_many = refl; each = each_height };
  definitions = refl;
}

-- it assumes what is asserted
among : (m : ℕ) → m < 3 → AssumesAmong terms (inference_at derivation m)
among zero l = first p (negated p ∷ [])
among (suc zero) l = later p (negated p ∷ []) (negated p) (first (negated p) [])
among (suc (suc zero)) l = tt
among (suc (suc (suc m))) l = absurd (omega (arith, l))

-- which is both
are_asserted : terms ≡ terms_asserted (asked the_check)
unfolding proofs_on_literals
are_asserted = refl

derived : IsDerivedFrom (terms_asserted (asked the_check)) derivation 2
derived = subst (λ ts. IsDerivedFrom ts derivation 2) are_asserted (record { there = omega arith; assumptions = λ m r. among m (depends_low 2 m (omega arith) r) })

pub shown : IsProofOf the_check (proof_text refutation)
shown = record {
  terms = terms;
  derivation = derivation;
  over = over;
  right = is_derivation;
  number = 2;
  derived = derived;
  empty = refl;
  printable = printable;
  plan = plan;
  planned = planned;
  written = ap proof_text (sym lines_are);
}
