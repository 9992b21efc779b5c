-- The copy of the first clause is new.
use Rattle.std.proofs.Common.{◌≡◌, ◌≢◌, ℕ, ◌<◌, true, List, ◌∷◌, ◌++◌, [], map, get_or, Contains, refl, sym, subst, zero, suc, arith}
use Rattle.std.proofs.lemmas.Bool.{false≢true}
use Rattle.spec_sorts.specs.Terms.{same_term, sort_of, second_sort, negated}
use Rattle.spec_sorts.specs.Literals.{Literal, complement, literal_of, literals_of}
use Rattle.spec_sorts.specs.Subterms.{with_subterms, with_all_subterms}
use Rattle.spec_rules.specs.Examples.{p, q}
use Rattle.spec_derivations.specs.Learned.{IsNew}
use Rattle.spec_derivations.specs.Base.{base_clauses}
use Rattle.spec_derivations.specs.Orders.{at_first, first_clauses}
use Rattle.spec_derivations.specs.Problems.{Problem}
use Rattle.spec_derivations.specs.Examples.{asserting, eight}
use Rattle.spec_derivations.specs.Copies.{idle, idle_or_not, given, copy}
use Rattle.spec_derivations.proofs.Learned.{quiet_is_new}
use Rattle.spec_derivations.proofs.SearchTerms.{base_in_search}
use Rattle.spec_derivations.proofs.OrderedTerms.{searched_clauses}
use Rattle.spec_derivations.proofs.Grown.{more_images}
use Rattle.spec_derivations.proofs.Fewer.{new_fewer}
use Rattle.spec_derivations.proofs.Eight.{truths_held, has_there, there_has, quiet, quiet_is, consistent, consistent_is}

abbrev terms : Problem
terms = asserting (eight ++ idle_or_not ∷ [])

abbrev firsts : List (List Literal)
firsts = map literals_of (first_clauses terms)

-- what holds once p is decided, and that the constant is false
abbrev held : List Literal
held = map literal_of (p ∷ negated idle ∷ truths_held ++ eight ++ idle_or_not ∷ [])

is_quiet : quiet held firsts ≡ true
unfolding same_term sort_of second_sort with_subterms with_all_subterms literal_of
is_quiet = refl

is_consistent : consistent held held ≡ true
unfolding same_term literal_of
is_consistent = refl

-- the complements of the other literals hold
others_fail : (m : Literal) (k : ℕ) → k < 3 → get_or copy k m ≡ m → m ≢ complement (literal_of q) → Contains held (complement m)
unfolding same_term literal_of
others_fail m zero lt e d = subst (λ (x : Literal). Contains held (complement x)) e (has_there held (literal_of p) refl)
others_fail m (suc zero) lt e d = absurd (d (sym e))
others_fail m (suc (suc zero)) lt e d = subst (λ (x : Literal). Contains held (complement x)) e (has_there held (literal_of (negated idle)) refl)
others_fail m (suc (suc (suc k))) lt e d = absurd (omega (arith, lt))

pub new_at_first : IsNew firsts copy
unfolding same_term literal_of
new_at_first = (
  complement (literal_of q),
  quiet_is_new firsts held copy (complement (literal_of q)) (quiet_is held firsts is_quiet) (consistent_is held is_consistent) (has_there copy (complement (literal_of q)) refl) (λ h. false≢true (there_has held (complement (literal_of q)) h))
      (λ m h d. others_fail m h.0 h.1 h.2 d),
)

-- so it is over the base clauses alone
pub copy_is_new : IsNew given copy
copy_is_new = new_fewer firsts given copy (more_images literals_of (base_clauses terms) (first_clauses terms) (λ c i. searched_clauses (at_first terms) c (base_in_search (at_first terms) c i))) new_at_first
