-- By what each learned clause is new over.
use Rattle.std.proofs.Common.{◌≢◌, List, [], ◌++◌, map, Contains, inl, inr, subst}
use Rattle.std.proofs.lemmas.List.Elements.{All-contains, Contains-append_left, Contains-append_right, Contains-append_cases}
use Rattle.spec_text.proofs.Members.{to_image}
use Rattle.spec_sorts.specs.Terms.{Term, True, False, of}
use Rattle.spec_sorts.specs.Literals.{Literal, literals_of}
use Rattle.spec_derivations.specs.Problems.{Problem}
use Rattle.spec_derivations.specs.Orders.{first_clauses}
use Rattle.spec_derivations.specs.Derivations.{Derivation}
use Rattle.spec_derivations.specs.Learned.{IsNew, AreNew}
use Rattle.spec_derivations.specs.Spent.{IsAtomOf, subterm, with_first, with_second, forth, back, IsOverAtoms, at_start, AreLearned}
use Rattle.spec_derivations.proofs.Saying.{no_tautology, not_empty, new_over, new_after}
use Rattle.spec_derivations.proofs.Learned.{contains_none}
use Rattle.spec_derivations.proofs.laws.learned_clauses_say_something.Goals as goal

is_new : (p : Problem) (d : Derivation) (earlier learned : List (List Literal)) → AreLearned p d earlier learned → (clause : List Literal) → Contains learned clause → (before : List (List Literal)) × IsNew (at_start p earlier ++ before) clause
is_new p d earlier learned h clause there = new_over (at_start p earlier) learned clause h.new there

pub returns-clause-no_tautology : goal.returns-clause-no_tautology
returns-clause-no_tautology c p d earlier learned h clause l there l_in other_in =
    let n = is_new p d earlier learned h clause there in
    no_tautology (at_start p earlier ++ n.0) clause l n.1 l_in other_in

-- an atom is no truth value
no_truth : (p : Problem) (t : Term) → IsAtomOf p t → (t ≢ of True []) × (t ≢ of False [])
no_truth p _ (subterm t there sort not_true not_false) = (not_true, not_false)
no_truth p _ (with_first c s t there other) = (λ e. cc, λ e. cc)
no_truth p _ (with_second c s t there other) = (λ e. cc, λ e. cc)
no_truth p _ (forth s t h number) = (λ e. cc, λ e. cc)
no_truth p _ (back s t h number) = (λ e. cc, λ e. cc)

pub returns-clause-no_truth_value : goal.returns-clause-no_truth_value
returns-clause-no_truth_value c p d earlier learned h clause l there l_in =
    let atoms = All-contains (IsOverAtoms p) (earlier ++ learned) clause h.atoms (Contains-append_right earlier learned clause there) in
    no_truth p l.atom (All-contains (λ (m : Literal). IsAtomOf p m.atom) clause l atoms l_in)

pub returns-clause-not_empty : goal.returns-clause-not_empty
returns-clause-not_empty c p d earlier learned h clause there =
    let n = is_new p d earlier learned h clause there in
    not_empty (at_start p earlier ++ n.0) clause n.1

pub returns-clause-no_first_clause : goal.returns-clause-no_first_clause
returns-clause-no_first_clause c p d earlier learned h clause b there b_in within =
    let n = is_new p d earlier learned h clause there in
    let b_first = Contains-append_right earlier (map literals_of (first_clauses p)) (literals_of b) (to_image literals_of (first_clauses p) b b_in) in
    let b_there = Contains-append_left (at_start p earlier) n.0 (literals_of b) b_first in
    contains_none (at_start p earlier ++ n.0) clause (literals_of b) b_there within n.1

pub returns-clause-no_earlier_clause : goal.returns-clause-no_earlier_clause
returns-clause-no_earlier_clause c p d earlier learned h before after clause e split e_in within =
    let n = new_after (at_start p earlier) before after clause (subst (AreNew (at_start p earlier)) split h.new) in
    let there : Contains (at_start p earlier ++ before) e = elim (Contains-append_cases earlier before e e_in) [
      | inl i ↦ Contains-append_left (at_start p earlier) before e (Contains-append_left earlier (map literals_of (first_clauses p)) e i)
      | inr i ↦ Contains-append_right (at_start p earlier) before e i
    ] in
    contains_none (at_start p earlier ++ before) clause e there within n
