-- That what a search shows of terms which are all asserted, it shows of the check that assumes some of them: the one has all clauses that the other begins with, and maybe more.
use Rattle.std.proofs.Common.{◌≡◌, ◌⊎◌, ℕ, List, [], ◌++◌, map, All, Contains, inl, inr, sym, ap, ◌∙◌, subst}
use Rattle.std.specs.List.{filter}
use Rattle.std.proofs.lemmas.List.{append-nil}
use Rattle.std.proofs.lemmas.List.Elements.{All-weaker, Contains-append_left}
use Rattle.spec_numbers.specs.Bounds.{Overflow}
use Rattle.spec_sorts.specs.Terms.{Term}
use Rattle.spec_sorts.specs.Subterms.{subterms_of}
use Rattle.spec_sorts.specs.Subsets.{AreAmong}
use Rattle.spec_sorts.specs.Literals.{Literal, complement, literals_of}
use Rattle.spec_commands.specs.Stack.{assertions_of, terms_asserted}
use Rattle.spec_commands.specs.Checks.{Check, asked}
use Rattle.spec_proofs.specs.Resolution.{IsWithin}
use Rattle.spec_derivations.specs.Problems.{Problem, terms_of_problem, subterms_in, known_terms, problem_of}
use Rattle.spec_derivations.specs.Examples.{speaking}
use Rattle.spec_derivations.specs.Derivations.{Derivation}
use Rattle.spec_derivations.specs.Orders.{whole_terms, at_first, first_clauses}
use Rattle.spec_derivations.proofs.Asked.{terms_of_check}
use Rattle.spec_derivations.specs.Inputs.{IsInput}
use Rattle.spec_derivations.specs.Spent.{CanLearnMore}
use Rattle.spec_derivations.proofs.Asserting.{learned as learned_of}
use Rattle.spec_derivations.proofs.Deriving.{stays_derived}
use Rattle.spec_derivations.proofs.Exact.{chain_more}
use Rattle.spec_derivations.proofs.Fewer.{new_fewer}
use Rattle.spec_derivations.proofs.Grown.{more_joined, more_images, clauses, over, inputs_more}
use Rattle.spec_causes.specs.Reached.{IsReached, IsStoppedAt}
use Rattle.spec_causes.specs.Counts.{AreFewRuns}
use Rattle.spec_causes.specs.Causes.{OverflowsForm, OverflowsAt}
use Rattle.spec_causes.specs.Checks.{IsOverflowAmong, IsOverflowed, forming, growing, ordering, reckoning}
use Rattle.spec_interfaces.specs.Interfaces.{is_of_numbers, numbers_alone, StandsApart}
use Rattle.spec_sessions.specs.Evidence.{Limits, Kept, IsSpentOn, IsKeptOf}

-- two problems of the same terms, of which the second asserts no more
module _ (p q : Problem) (terms : terms_of_problem p ≡ terms_of_problem q) (interface : p.interface ≡ q.interface) (fewer : IsWithin q.asserted p.asserted) where
  known : known_terms p ≡ known_terms q
  known = λ i. interface i ++ terms i

  subterms : subterms_in p ≡ subterms_in q
  subterms = ap subterms_of terms

  -- the search speaks of the same terms
  pub whole_same : whole_terms p ≡ whole_terms q
  whole_same = ap (λ (ts : List Term). whole_terms (record { asserted = []; assumed = ts; interface = [] })) known

  -- also where equalities of numbers alone are known
  apart_known : AreAmong (known_terms (numbers_alone p)) (known_terms (numbers_alone q))
  apart_known t = subst (λ (ts : List Term). Contains ts t) (λ i. filter is_of_numbers (interface i) ++ terms i)

  -- so what stands apart from the others does so
  apart_too : (c : List Literal) → StandsApart p c → StandsApart q c
  apart_too = over (numbers_alone p) (numbers_alone q) apart_known

  all_apart_too : (cs : List (List Literal)) → All (StandsApart p) cs → All (StandsApart q) cs
  all_apart_too = All-weaker (StandsApart p) (StandsApart q) apart_too

  terms_among : AreAmong (terms_of_problem p) (terms_of_problem q)
  terms_among t = subst (λ (ts : List Term). Contains ts t) terms

  known_among : AreAmong (known_terms p) (known_terms q)
  known_among t = subst (λ (ts : List Term). Contains ts t) known

  -- the second begins with no more clauses
  firsts : IsWithin (map literals_of (first_clauses q)) (map literals_of (first_clauses p))
  firsts = more_images literals_of (first_clauses q) (first_clauses p)
      (clauses (at_first q) (at_first p) (λ t. subst (λ (ts : List Term). Contains ts t) (sym terms)) fewer)

  -- so what could be learned next of the first problem could be of the second, and stands apart
  conflict_too : (d : Derivation) (cs : List (List Literal)) (x : CanLearnMore p d [] cs) → StandsApart p x.clause → (y : CanLearnMore q d [] cs) × StandsApart q y.clause
  conflict_too d cs x apart =
      let new = more_joined (map literals_of (first_clauses q)) cs (map literals_of (first_clauses p)) cs firsts (λ u i. i) in (
        record {
          clause = x.clause;
          more = x.more;
          right = x.right;
          derived = stays_derived p q (d ++ x.more) x.clause terms_among x.derived;
          atoms = over p q known_among x.clause x.atoms;
          new = new_fewer (map literals_of (first_clauses p) ++ cs) (map literals_of (first_clauses q) ++ cs) x.clause new x.new;
          exact = (
            x.exact.0,
            chain_more complement (λ c. IsInput p d c ⊎ Contains cs c) (λ c. IsInput q d c ⊎ Contains cs c) (λ c g. elim g [
              | inl i ↦ inl (inputs_more p q known_among terms_among d c i)
              | inr i ↦ inr i
            ]) x.exact.0 x.clause x.exact.1,
          );
        },
        apart_too x.clause apart,
      )

  -- a budget that is spent on the first problem is so on the second
  pub spent_too : (limit carried : ℕ) (d : Derivation) (learned : List (List Literal)) → IsSpentOn p limit carried d learned → IsSpentOn q limit carried d learned
  spent_too limit carried d learned h =
      let conflict = conflict_too d learned h.conflict h.conflict_apart in record {
        spent = record { full = h.spent.full; carries = h.spent.carries; learns = learned_of q p terms interface fewer d [] learned h.spent.learns };
        conflict = conflict.0;
        apart = all_apart_too learned h.apart;
        conflict_apart = conflict.1;
      }

  -- what a search keeps of the first is right of the second
  pub kept_too : (limits : Limits) (k : Kept) → IsKeptOf limits p k → IsKeptOf limits q k
  kept_too limits k h = record {
    learned = h.learned;
    learns = learned_of q p terms interface fewer k.derivation [] k.learned h.learns;
    apart = all_apart_too k.learned h.apart;
  }

  -- and so is an operation that leaves the bound
  pub overflowed_too : (l : ℕ) (es : List (ℕ × ℕ)) (o : Overflow) → IsOverflowed p l es o → IsOverflowed q l es o
  overflowed_too l es o (forming unlearned none f) = forming unlearned none (subst (λ ts. OverflowsForm ts o) subterms f)
  overflowed_too l es o (growing s runs at few f) =
      growing s runs (subst (λ ts. IsReached ts runs es s) whole_same at) (subst (λ ts. AreFewRuns ts l runs) whole_same few) (subst (λ ts. IsOverflowAmong ts o) whole_same f)
  overflowed_too l es o (ordering unlearned none f) = ordering unlearned none (subst (λ ts. IsOverflowAmong ts o) whole_same f)
  overflowed_too l es o (reckoning s runs at few may_overflow) =
      reckoning s runs (subst (λ ts. IsStoppedAt ts runs es s) whole_same at) (subst (λ ts. AreFewRuns ts l runs) whole_same few) (subst (λ ts. OverflowsAt ts s o) whole_same may_overflow)

-- all that a check asks about, asserted, with interface equalities
abbrev pub all_asserted : Check → List Term → Problem
all_asserted c interface = speaking (terms_asserted (asked c)) interface

module _ (c : Check) (interface : List Term) where
  -- the check's terms are all of them
  pub same_terms : terms_of_problem (all_asserted c interface) ≡ terms_of_problem (problem_of c interface)
  same_terms = append-nil (terms_asserted (asked c)) ∙ terms_of_check c interface

  -- and those that it asserts are among them
  pub asserts_no_more : IsWithin (problem_of c interface).asserted (all_asserted c interface).asserted
  asserts_no_more t i = subst (λ ts. Contains ts t) (sym (terms_of_check c interface)) (Contains-append_left (terms_asserted (assertions_of c.stack)) (terms_asserted c.assumptions) t i)
