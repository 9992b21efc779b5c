-- A text of a sort, as a row of one.
use Rattle.std.proofs.Common.{◌≡◌, Bool, true, false, ◌&&◌, List, [], ◌∷◌, map, refl, ap, sym, ◌∙◌}
use Rattle.std.specs.Prelude.{Ok, Err}
use Rattle.spec_text.specs.declared.Fault.TheVariants.{WrongSort}
use Rattle.spec_text.specs.Faults.{Located}
use Rattle.spec_text.specs.Answers.{Answer, ◌>>=◌, require, refused}
use Rattle.spec_text.specs.Trees.{Tree, Trees, none, more, offset_of}
use Rattle.spec_text.proofs.AnswerLaws.{answer}
use Rattle.spec_sorts.specs.Terms.{Sort, sort_of, same_sort, all_same}
use Rattle.spec_sorts.specs.Signatures.{Signature}
use Rattle.spec_reading.specs.Names.{Setting}
use Rattle.spec_reading.specs.Reading.{Bound, Reading, Readings, reading, readings, reading_of_sort}
use Rattle.term_core.specs.declared.ids.TermId.{TermId}
use Rattle.term_core.specs.Tables.{TableView, clause_at}
use Rattle.term_reader.specs.declared.faults.ReadError.{ReadError}
use Rattle.term_reader.specs.declared.faults.ReadError.TheVariants.{Fault, Memory}
use Rattle.term_reader.specs.Names.{located_of}
use Rattle.sort_check.specs.Reads.{HasFault}
use Rattle.sort_check.specs.Walks.{first_term}
use Rattle.sort_check.proofs.Rows.{one_text, one_done}

module _ (w : Setting) (s : Signature) (b : Bound) (t : Tree) where
  -- a row's reading as that of its first text
  abbrev pub first_reading : Readings → Reading
  first_reading r = record { made = r.made; term = first_term r.terms }

  pub one_fault : (e : Located) → readings w s b (more t none) ≡ Err e → reading w s b t ≡ Err e
  unfolding ◌>>=◌
  one_fault e h = go (reading w s b t) (sym (one_text w s b t) ∙ h)
    where
      go : (a : Answer Reading) → (let z : Answer Readings = (a >>= λ r. Ok (record { made = r.made; terms = r.term ∷ [] })) in z) ≡ Err e → a ≡ Err e
      go (Err x) h = cc
      go (Ok r) h = cc

  pub one_read : (r : Readings) → readings w s b (more t none) ≡ Ok r → reading w s b t ≡ Ok (first_reading r)
  unfolding ◌>>=◌
  one_read r h = go (reading w s b t) (sym (one_text w s b t) ∙ h)
    where
      go : (a : Answer Reading) → (let z : Answer Readings = (a >>= λ r. Ok (record { made = r.made; terms = r.term ∷ [] })) in z) ≡ Ok r → a ≡ Ok (first_reading r)
      go (Err x) h = cc
      go (Ok x) h = ap (λ (y : Readings). Ok (first_reading y)) (answer (Ok _) r h)

  pub sort_stops : (sort : Sort) (ts : Trees) (stop : ReadError) → ts ≡ more t none → HasFault (readings w s b ts) stop → HasFault (reading_of_sort w s b sort t) stop
  unfolding ◌>>=◌
  sort_stops sort ts (Fault f) is h = ap (λ a. a >>= λ r. require (same_sort sort (sort_of r.term)) (offset_of t) WrongSort >>= λ fits. Ok r) (one_fault (located_of f) (ap (readings w s b) (sym is) ∙ h))
  sort_stops sort ts Memory is h = tt

  -- the sort of the one term
  sort_tested : (u : TableView) (ids : List TermId) (sort : Sort) (ts : Trees) (r : Readings) → ts ≡ more t none → readings w s b ts ≡ Ok r → clause_at u ids ≡ r.terms → all_same sort (map sort_of (clause_at u ids)) ≡ same_sort sort (sort_of (first_term r.terms))
  sort_tested u ids sort ts r is e terms = ap (λ us. all_same sort (map sort_of us)) (terms ∙ one_done w s b t ts r is e) ∙ and_true (same_sort sort (sort_of (first_term r.terms)))
    where
      and_true : (c : Bool) → (c && true) ≡ c
      and_true true = refl
      and_true false = refl

  pub other_sort : (u : TableView) (ids : List TermId) (sort : Sort) (ts : Trees) (r : Readings) → ts ≡ more t none → readings w s b ts ≡ Ok r → clause_at u ids ≡ r.terms → all_same sort (map sort_of (clause_at u ids)) ≡ false
      → reading_of_sort w s b sort t ≡ refused (offset_of t) WrongSort
  unfolding ◌>>=◌ require
  other_sort u ids sort ts r is e terms wrong =
      ap (λ a. a >>= λ x. require (same_sort sort (sort_of x.term)) (offset_of t) WrongSort >>= λ fits. Ok x) (one_read r (ap (readings w s b) (sym is) ∙ e))
      ∙ ap (λ c. require c (offset_of t) WrongSort >>= λ fits. Ok (first_reading r)) (sym (sort_tested u ids sort ts r is e terms) ∙ wrong)

  pub that_sort : (u : TableView) (ids : List TermId) (sort : Sort) (ts : Trees) (r : Readings) → ts ≡ more t none → readings w s b ts ≡ Ok r → clause_at u ids ≡ r.terms → all_same sort (map sort_of (clause_at u ids)) ≡ true
      → reading_of_sort w s b sort t ≡ Ok (first_reading r)
  unfolding ◌>>=◌ require
  that_sort u ids sort ts r is e terms right =
      ap (λ a. a >>= λ x. require (same_sort sort (sort_of x.term)) (offset_of t) WrongSort >>= λ fits. Ok x) (one_read r (ap (readings w s b) (sym is) ∙ e))
      ∙ ap (λ c. require c (offset_of t) WrongSort >>= λ fits. Ok (first_reading r)) (sym (sort_tested u ids sort ts r is e terms) ∙ right)
