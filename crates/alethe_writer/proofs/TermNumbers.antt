-- The number of a term of a table is that of its place.
use Rattle.std.proofs.Common.{◌≡◌, ℕ, ◌<◌, Bool, false, not, ◌&&◌, ◌==◌, List, [], ◌∷◌, length, Option, None, get_or, refl, arith}
use Rattle.std.specs.Prelude.{nat_eq}
use Rattle.std.proofs.lemmas.Bool.Decides.{nat_tests}
use Rattle.std.proofs.lemmas.Option.{slice_get-get_or, slice_get_within, get_or_from_slice_get}
use Rattle.spec_sorts.specs.Terms.{of, no_term}
use Rattle.spec_proof_texts.specs.Plans.{number_of, is_compound, definition_marks}
use Rattle.spec_proof_texts.proofs.Numbers.{number_at_place, definition_mark_at}
use Rattle.term_core.specs.declared.ids.TermId.{TermId}
use Rattle.term_core.specs.Tables.{TableView, term_at, IsIn, AreDifferent, Shape, shape_term, clause_at, head_meant}

pub number_there : (t : TableView) (numbers : List (Option ℕ)) (id : TermId) → AreDifferent t.terms → IsIn t id → number_of t.terms numbers (term_at t id) ≡ get_or numbers id.0 None
number_there t numbers id apart there = number_at_place t.terms numbers id.0 (term_at t id) (slice_get-get_or t.terms id.0 no_term there) (λ i h. apart i id.0 (slice_get_within t.terms i (term_at t id) h) there (get_or_from_slice_get t.terms i (term_at t id) no_term h))

-- a term has arguments where its node has
pub compound_shape : (t : TableView) (s : Shape) → not (length s.arguments == 0) ≡ is_compound (shape_term t s)
compound_shape t s = go s.arguments
  where
    go : (ids : List TermId) → not (length ids == 0) ≡ is_compound (of (head_meant t s.head) (clause_at t ids))
    go [] = refl
    go (id ∷ ids) = grind (arith, nat_tests)

-- whether a term is marked, has arguments, and is not in place
pub definition_there : (t : TableView) (marks : List Bool) (heights : List ℕ) (k : ℕ) → length marks ≡ length t.terms → length heights ≡ length t.terms → k < length marks → get_or (definition_marks t.terms marks heights) k false ≡ get_or marks k false && (is_compound (get_or t.terms k no_term) && nat_eq (get_or heights k 0) 0)
definition_there t marks heights k as_many as_high lt = let within : k < length t.terms = omega (arith, as_many, lt) in definition_mark_at t.terms marks heights k (get_or t.terms k no_term) as_many as_high (slice_get-get_or t.terms k no_term within)
