-- What a log says is over the table's terms.
use Rattle.std.proofs.Common.{◌≡◌, ℕ, ◌<◌, List, [], length, map, Some, get_or, Contains, sym, ◌∙◌, ap, subst}
use Rattle.std.specs.List.{slice_get}
use Rattle.std.proofs.lemmas.List.{length-map, get_or-map}
use Rattle.std.proofs.lemmas.List.Elements.{All-get_or, All-weaker}
use Rattle.std.proofs.lemmas.Option.{slice_get_within, get_or_from_slice_get}
use Rattle.spec_sorts.specs.Terms.{Truth, Term, sort_of}
use Rattle.spec_sorts.specs.WellSorted.{IsWellSorted}
use Rattle.spec_derivations.specs.Derivations.{Inference, conclusion, conclusion_at, no_inference}
use Rattle.spec_numbers.specs.Fractions.{Fraction}
use Rattle.spec_models.specs.Values.{trees_of, fraction_tree}
use Rattle.term_core.specs.declared.ids.TermId.{TermId}
use Rattle.term_core.specs.Tables.{TableView, term_at, clause_at, IsIn, AreIn}
use Rattle.term_core.proofs.TermsClosed.{term_there}
use Rattle.proof_log.specs.Logs.{Logged, assumed, stepped, named, no_logged, inference_of, derivation_in, IsFormulaIn, AreFormulasIn, IsLogOf}
use Rattle.proof_log.proofs.Logged.{conclusion_of}
use Rattle.spec_proof_texts.specs.Meaning.{AreSpelled}
use Rattle.spec_proof_texts.specs.Printable.{HasGiven, AllConcludeOver}
use Rattle.alethe_writer.proofs.Listing.{number_in}

-- the formulas of an entry
formulas_there : (t : TableView) (log : List Logged) (k : ℕ) → k < length log → IsLogOf t log → AreFormulasIn t (named (get_or log k no_logged))
formulas_there t log k lt h = All-get_or (λ l. AreFormulasIn t (named l)) log k no_logged lt h.formulas

-- are of the table
pub entry_there : (t : TableView) (log : List Logged) (k : ℕ) → k < length log → IsLogOf t log → AreIn t (named (get_or log k no_logged))
entry_there t log k lt h = All-weaker (IsFormulaIn t) (IsIn t) (λ id f. f.0) (named (get_or log k no_logged)) (formulas_there t log k lt h)

-- a literal of a clause of numbers is the term of one of them
record IsOne (t : TableView) (ids : List TermId) (u : Term) : Type 0 where
  id : TermId
  there : IsFormulaIn t id
  is : term_at t id ≡ u

in_clause : (t : TableView) (ids : List TermId) (u : Term) → AreFormulasIn t ids → Contains (clause_at t ids) u → IsOne t ids u
in_clause t ids u formulas c =
    let d : TermId = record { 0 = 0 } in
    let within : c.0 < length ids = subst (λ n. c.0 < n) (length-map ids (term_at t)) c.1 in
    record { id = get_or ids c.0 d; there = formulas c.0 d within; is = sym (get_or-map (term_at t) ids c.0 d u within) ∙ c.2 }

given_of : ((qs : List Fraction) → AreSpelled (trees_of (map fraction_tree qs))) → (t : TableView) (l : Logged) → HasGiven (inference_of t l)
given_of given t (assumed id) = tt
given_of given t (stepped r ps qs c) = given qs

-- the clauses of a log are of the table's terms
pub all_over : ((qs : List Fraction) → AreSpelled (trees_of (map fraction_tree qs))) → (t : TableView) (log : List Logged) → IsLogOf t log → AllConcludeOver t.terms (derivation_in t log)
all_over given t log h k x e = (literals, subst HasGiven is (given_of given t l))
  where
    l : Logged
    l = get_or log k no_logged

    within : k < length log
    within = subst (λ n. k < n) (length-map log (inference_of t)) (slice_get_within (derivation_in t log) k x e)

    is : inference_of t l ≡ x
    is = sym (get_or-map (inference_of t) log k no_logged x within) ∙ get_or_from_slice_get (derivation_in t log) k x x e

    literals : (u : Term) → Contains (conclusion x) u → ((j : ℕ) × (slice_get t.terms j ≡ Some u)) × (sort_of u ≡ Truth)
    literals u c =
        let here : Contains (clause_at t (named l)) u = subst (λ (us : List Term). Contains us u) (conclusion_of t l) (subst (λ (y : Inference). Contains (conclusion y) u) (sym is) c) in
        let one = in_clause t (named l) u (formulas_there t log k within h) here in
        (number_in t.terms u (subst (Contains t.terms) one.is (term_there t one.id one.there.0)), subst (λ y. sort_of y ≡ Truth) one.is one.there.1.sort)

-- and well sorted
pub clauses_sorted : (t : TableView) (log : List Logged) → IsLogOf t log → (m : ℕ) (u : Term) → m < length log → Contains (conclusion_at (derivation_in t log) m) u → IsWellSorted t.symbols [] u
clauses_sorted t log h m u lt c =
    let l = get_or log m no_logged in
    let same : conclusion_at (derivation_in t log) m ≡ clause_at t (named l) = ap conclusion (get_or-map (inference_of t) log m no_logged no_inference lt) ∙ conclusion_of t l in
    let one = in_clause t (named l) u (formulas_there t log m lt h) (subst (λ (us : List Term). Contains us u) same c) in
    subst (IsWellSorted t.symbols []) one.is one.there.1.term
