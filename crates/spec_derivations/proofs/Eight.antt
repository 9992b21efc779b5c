-- Tests that compute whether propagation is quiet, and the first clause that is learned of the eight.
use Rattle.std.proofs.Common.{◌≡◌, ◌≢◌, ℕ, ◌<◌, ◌&&◌, ◌||◌, ◌⊎◌, Bool, true, false, not, List, [], ◌∷◌, ◌++◌, map, get_or, Contains, inl, inr, refl, sym, ◌∙◌, subst, zero, suc, arith}
use Rattle.std.specs.List.{list_any, AllByRecursion}
use Rattle.std.proofs.lemmas.Bool.{false≢true, and_parts, not-true}
use Rattle.std.proofs.lemmas.List.Folds.{Any-from_list_any, list_any_at}
use Rattle.std.proofs.lemmas.List.Elements.{All-contains, All-from_recursion}
use Rattle.spec_text.proofs.Members.{first, later}
use Rattle.spec_sorts.specs.Terms.{True, False, Term, of, negated, same_term, sort_of, second_sort}
use Rattle.spec_sorts.specs.Literals.{Literal, complement, literals_of, literal_of}
use Rattle.spec_sorts.specs.Subterms.{with_subterms, with_all_subterms}
use Rattle.spec_derivations.specs.Base.{truth_facts}
use Rattle.spec_derivations.specs.Orders.{first_clauses}
use Rattle.spec_derivations.specs.Quiet.{ImpliesNothing, IsQuiet, IsConsistent}
use Rattle.spec_derivations.specs.Learned.{same_literal, IsNew}
use Rattle.spec_rules.specs.Examples.{p, q}
use Rattle.spec_derivations.specs.Examples.{asserting, eight, not_both}
use Rattle.spec_derivations.proofs.Learned.{literals_decide, quiet_is_new}

-- a test for a literal in a list
abbrev pub has : List Literal → Literal → Bool
has held m = list_any (λ h. same_literal h m) held

pub has_there : (held : List Literal) (m : Literal) → has held m ≡ true → Contains held m
has_there held m e = let x = Any-from_list_any (λ h. same_literal h m) held e in subst (λ (l : Literal). Contains held l) ((literals_decide x.1 m).0 x.4) (x.0, x.2, x.3)

pub there_has : (held : List Literal) (m : Literal) → Contains held m → has held m ≡ true
there_has held m h = list_any_at (λ h. same_literal h m) held h.0 m h.1 ((literals_decide _ m).1 h.2)

abbrev open_at : List Literal → Literal → Bool
open_at held m = not (has held (complement m))

abbrev two_open : List Literal → List Literal → Bool
two_open held [] = false
two_open held (m ∷ ms) = (open_at held m && list_any (λ n. open_at held n && not (same_literal m n)) ms) || two_open held ms

abbrev inert : List Literal → List Literal → Bool
inert held clause = list_any (has held) clause || two_open held clause

pub either : (p q : Bool) → p || q ≡ true → (p ≡ true) ⊎ (q ≡ true)
either true q e = inl refl
either false q e = inr e

open_is : (held : List Literal) (m : Literal) → open_at held m ≡ true → Contains held (complement m) → ⊥
open_is held m e h = false≢true (sym (not-true (has held (complement m)) e) ∙ there_has held (complement m) h)

abbrev HasTwoOpen : List Literal → List Literal → Type 0
HasTwoOpen held clause = (m : Literal) × (n : Literal) × Contains clause m × Contains clause n × (m ≢ n) × (Contains held (complement m) → ⊥) × (Contains held (complement n) → ⊥)

two_are : (held clause : List Literal) → two_open held clause ≡ true → HasTwoOpen held clause
two_are held [] e = absurd (false≢true e)
two_are held (m ∷ ms) e = elim (either _ _ e) [
  | inl here ↦
      let p = and_parts _ _ here in
      let x = Any-from_list_any (λ n. open_at held n && not (same_literal m n)) ms p.1 in
      let q = and_parts (open_at held x.1) (not (same_literal m x.1)) x.4 in
      (m, x.1, first m ms, later m ms x.1 (x.0, x.2, x.3), (λ s. false≢true (sym (not-true (same_literal m x.1) q.1) ∙ (literals_decide m x.1).1 s)), open_is held m p.0, open_is held x.1 q.0)
  | inr rest ↦ let r = two_are held ms rest in (r.0, r.1, later m ms r.0 r.2, later m ms r.1 r.3, r.4, r.5, r.6)
]

inert_is : (held clause : List Literal) → inert held clause ≡ true → ImpliesNothing complement held clause
inert_is held clause e = elim (either _ _ e) [
  | inl h ↦ let x = Any-from_list_any (has held) clause h in inl (x.1, (x.0, x.2, x.3), has_there held x.1 x.4)
  | inr h ↦ inr (two_are held clause h)
]

-- a test of each clause
abbrev pub quiet : List Literal → List (List Literal) → Bool
quiet held [] = true
quiet held (x ∷ xs) = inert held x && quiet held xs

quiet_all : (held : List Literal) (xs : List (List Literal)) → quiet held xs ≡ true → AllByRecursion (ImpliesNothing complement held) xs
quiet_all held [] e = tt
quiet_all held (x ∷ xs) e = let p = and_parts (inert held x) (quiet held xs) e in (inert_is held x p.0, quiet_all held xs p.1)

pub quiet_is : (held : List Literal) (xs : List (List Literal)) → quiet held xs ≡ true → IsQuiet complement xs held
quiet_is held xs e x x_in = All-contains (ImpliesNothing complement held) xs x (All-from_recursion (ImpliesNothing complement held) xs (quiet_all held xs e)) x_in

-- and of each literal, that its complement is not there
abbrev pub consistent : List Literal → List Literal → Bool
consistent held [] = true
consistent held (m ∷ ms) = open_at held m && consistent held ms

consistent_all : (held ms : List Literal) → consistent held ms ≡ true → AllByRecursion (λ m. Contains held (complement m) → ⊥) ms
consistent_all held [] e = tt
consistent_all held (m ∷ ms) e = let p = and_parts (open_at held m) (consistent held ms) e in (open_is held m p.0, consistent_all held ms p.1)

pub consistent_is : (held : List Literal) → consistent held held ≡ true → IsConsistent complement held
consistent_is held e m m_in = All-contains (λ m. Contains held (complement m) → ⊥) held m (All-from_recursion (λ m. Contains held (complement m) → ⊥) held (consistent_all held held e)) m_in

-- what holds of the truth values
abbrev pub truths_held : List Term
truths_held = of True [] ∷ negated (of False []) ∷ truth_facts

-- what holds once p is decided
abbrev held : List Literal
held = map literal_of (p ∷ truths_held ++ eight)

abbrev learned : List Literal
learned = literals_of not_both

is_quiet : quiet held (map literals_of (first_clauses (asserting eight))) ≡ true
unfolding same_term sort_of second_sort with_subterms with_all_subterms literal_of
is_quiet = refl

is_consistent : consistent held held ≡ true
unfolding same_term literal_of
is_consistent = refl

-- the complement of the other literal holds
others_fail : (m : Literal) (k : ℕ) → k < 2 → get_or learned k m ≡ m → m ≢ complement (literal_of q) → Contains held (complement m)
unfolding same_term literal_of
others_fail m zero lt e d = subst (λ (x : Literal). Contains held (complement x)) e (has_there held (literal_of p) refl)
others_fail m (suc zero) lt e d = absurd (d (sym e))
others_fail m (suc (suc k)) lt e d = absurd (omega arith)

pub not_both_is_new : IsNew (map literals_of (first_clauses (asserting eight))) learned
unfolding same_term literal_of
not_both_is_new = (complement (literal_of q), quiet_is_new (map literals_of (first_clauses (asserting eight))) held learned (complement (literal_of q)) (quiet_is held (map literals_of (first_clauses (asserting eight))) is_quiet) (consistent_is held is_consistent) (has_there learned (complement (literal_of q)) refl) (λ h. false≢true (there_has held (complement (literal_of q)) h)) (λ m h d. others_fail m h.0 h.1 h.2 d))
