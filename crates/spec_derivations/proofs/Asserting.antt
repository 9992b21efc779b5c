-- A problem that asserts what another one assumes.
use Rattle.std.proofs.Common.{◌≡◌, List, ◌++◌, map, Contains, ◌⊎◌, inl, inr, sym, subst}
use Rattle.std.proofs.lemmas.List.Elements.{All-weaker}
use Rattle.spec_sorts.specs.Terms.{Term}
use Rattle.spec_sorts.specs.Subsets.{AreAmong}
use Rattle.spec_sorts.specs.Literals.{Literal, complement, literals_of}
use Rattle.spec_proofs.specs.Resolution.{IsWithin}
use Rattle.spec_derivations.specs.Problems.{Problem, terms_of_problem, known_terms}
use Rattle.spec_derivations.specs.Derivations.{Derivation}
use Rattle.spec_derivations.specs.Orders.{at_first, first_clauses}
use Rattle.spec_derivations.specs.Inputs.{IsInput}
use Rattle.spec_derivations.specs.Spent.{IsOverAtoms, IsLearnedFrom, at_start, AreLearned, CanLearnMore}
use Rattle.spec_derivations.proofs.Exact.{chain_more, resolvents_more}
use Rattle.spec_derivations.proofs.Grown.{more_joined, more_images, clauses, over, inputs_more}
use Rattle.spec_derivations.proofs.Fewer.{new_fewer, all_new_fewer}
use Rattle.spec_derivations.proofs.Deriving.{stays_derived}

module _ (p q : Problem) (terms : terms_of_problem q ≡ terms_of_problem p) (interface : q.interface ≡ p.interface) (asserted : AreAmong p.asserted q.asserted) where
  known : AreAmong (known_terms q) (known_terms p)
  known t i = subst (λ (ts : List Term). Contains ts t) (λ j. interface j ++ terms j) i

  among : AreAmong (terms_of_problem q) (terms_of_problem p)
  among t i = subst (λ (ts : List Term). Contains ts t) terms i

  firsts : IsWithin (map literals_of (first_clauses p)) (map literals_of (first_clauses q))
  firsts = more_images literals_of (first_clauses p) (first_clauses q)
      (clauses (at_first p) (at_first q) (λ t i. subst (λ (ts : List Term). Contains ts t) (sym terms) i) asserted)

  inputs : (d : Derivation) (c : List Literal) → IsInput q d c → IsInput p d c
  inputs = inputs_more q p known among

  starts : (earlier : List (List Literal)) → IsWithin (at_start p earlier) (at_start q earlier)
  starts earlier = more_joined earlier (map literals_of (first_clauses p)) earlier (map literals_of (first_clauses q)) (λ x i. i) firsts

  pub learned : (d : Derivation) (earlier cs : List (List Literal)) → AreLearned q d earlier cs → AreLearned p d earlier cs
  learned d earlier cs h = record {
    right = h.right;
    derived = All-weaker (IsLearnedFrom q d) (IsLearnedFrom p d) (λ c l. stays_derived q p d c among l) (earlier ++ cs) h.derived;
    atoms = All-weaker (IsOverAtoms q) (IsOverAtoms p) (over q p known) (earlier ++ cs) h.atoms;
    new = all_new_fewer (at_start q earlier) (at_start p earlier) cs (starts earlier) h.new;
    exact = resolvents_more complement (IsInput q d) (IsInput p d) (inputs d) (earlier ++ cs) h.exact;
  }

  pub conflict : (d : Derivation) (earlier cs : List (List Literal)) → CanLearnMore q d earlier cs → CanLearnMore p d earlier cs
  conflict d earlier cs h = record {
    clause = h.clause;
    more = h.more;
    right = h.right;
    derived = stays_derived q p (d ++ h.more) h.clause among h.derived;
    atoms = over q p known h.clause h.atoms;
    new = new_fewer (at_start q earlier ++ cs) (at_start p earlier ++ cs) h.clause
        (more_joined (at_start p earlier) cs (at_start q earlier) cs (starts earlier) (λ x i. i)) h.new;
    exact = (
      h.exact.0,
      chain_more complement (λ c. IsInput q d c ⊎ Contains (earlier ++ cs) c) (λ c. IsInput p d c ⊎ Contains (earlier ++ cs) c) (λ c g. elim g [
        | inl i ↦ inl (inputs d c i)
        | inr i ↦ inr i
      ]) h.exact.0 h.clause h.exact.1,
    );
  }
