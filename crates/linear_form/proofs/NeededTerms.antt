-- The arguments of which a term's form is made, by their numbers.
use Rattle.std.proofs.Common.{◌≡◌, ℕ, zero, suc, ◌<◌, Bool, true, false, if◌then◌else◌, List, [], ◌∷◌, map, length, get_or, All, refl, sym, ◌∙◌, ap, subst, arith, true≢false}
use Rattle.std.proofs.lemmas.List.{get_or-map, length-map}
use Rattle.spec_sorts.specs.Terms.{Term, no_term, of, same_term}
use Rattle.spec_sorts.proofs.SameTerms.{terms_decide}
use Rattle.spec_sorts.proofs.General.{list_of-terms_of}
use Rattle.term_core.specs.declared.ids.TermId.{TermId}
use Rattle.term_core.specs.declared.nodes.Head.{Head}
use Rattle.term_core.specs.declared.nodes.Head.TheVariants as heads
use Rattle.term_core.specs.declared.nodes.Node.{Node}
use Rattle.term_core.specs.Tables.{TableView, term_at, clause_at, AreIn, AreDifferent, head_meant, node_term}
use Rattle.term_walks.specs.Orders.{number_term, numbers_of}
use Rattle.linear_form.specs.Walks.{needed_terms, needed_by, place_in, needed_at}

-- a term is at its place
place_there : (u : Term) (us : List Term) (a : ℕ) → a < length us → get_or us a no_term ≡ u → (place_in u us < length us) × (get_or us (place_in u us) no_term ≡ u)
place_there u [] a lt e = absurd (omega (arith, lt))
place_there u (v ∷ us) a lt e = by a (same_term u v) lt e refl (λ b lt e. place_there u us b lt e)
  where
    by : (a : ℕ) (b : Bool) → a < length (v ∷ us) → get_or (v ∷ us) a no_term ≡ u → same_term u v ≡ b
        → ((c : ℕ) → c < length us → get_or us c no_term ≡ u → (place_in u us < length us) × (get_or us (place_in u us) no_term ≡ u))
        → ((if b then 0 else suc (place_in u us)) < length (v ∷ us)) × (get_or (v ∷ us) (if b then 0 else suc (place_in u us)) no_term ≡ u)
    by a true lt e s rest = (omega arith, sym ((terms_decide u v).0 s))
    by zero false lt e s rest = absurd (true≢false (sym ((terms_decide u v).1 (sym e)) ∙ s))
    by (suc c) false lt e s rest = let more = rest c (omega (arith, lt)) e in (omega (arith, more.0), more.1)

place_at : (t : TableView) (a : TermId) → AreDifferent t.terms → a.0 < length t.terms → place_in (term_at t a) t.terms ≡ a.0
place_at t a d lt = let p = place_there (term_at t a) t.terms a.0 lt refl in d (place_in (term_at t a) t.terms) a.0 p.0 lt p.1

places_of : (t : TableView) (ids : List TermId) → AreDifferent t.terms → AreIn t ids → map (λ u. place_in u t.terms) (clause_at t ids) ≡ numbers_of ids
places_of t [] d h = refl
places_of t (a ∷ ids) d h = λ i. place_at t a d (h 0 a (omega arith)) i ∷ places_of t ids d (λ j e lt. h (suc j) e (omega (arith, lt))) i

-- of an arithmetic head
listed : (t : TableView) (ids : List TermId) (us : List Term) → us ≡ clause_at t ids → AreDifferent t.terms → AreIn t ids → map (λ u. place_in u t.terms) us ≡ numbers_of ids
listed t ids us e d h = ap (map (λ u. place_in u t.terms)) e ∙ places_of t ids d h

by_word : (t : TableView) (h : Head) (ids : List TermId) → AreDifferent t.terms → AreIn t ids → map (λ u. place_in u t.terms) (needed_terms (of (head_meant t h) (clause_at t ids))) ≡ numbers_of (needed_by h ids)
by_word t heads.Plus ids d i = listed t ids _ (list_of-terms_of (clause_at t ids)) d i
by_word t heads.Times ids d i = listed t ids _ (list_of-terms_of (clause_at t ids)) d i
by_word t heads.Minus ids d i = listed t ids _ (list_of-terms_of (clause_at t ids)) d i
by_word t heads.Divide ids d i = listed t ids _ (list_of-terms_of (clause_at t ids)) d i
by_word t heads.True ids d i = refl
by_word t heads.False ids d i = refl
by_word t heads.Not ids d i = refl
by_word t heads.And ids d i = refl
by_word t heads.Or ids d i = refl
by_word t heads.Xor ids d i = refl
by_word t heads.Implies ids d i = refl
by_word t heads.Equal ids d i = refl
by_word t heads.Ite ids d i = refl
by_word t heads.Less ids d i = refl
by_word t heads.AtMost ids d i = refl
by_word t (heads.Literal q) ids d i = refl
by_word t (heads.Apply s) ids d i = refl
by_word t (heads.Parameter k s) ids d i = refl

pub needed_numbers : (t : TableView) (k : ℕ) (n : Node) → number_term t k ≡ node_term t n → AreDifferent t.terms → AreIn t n.arguments.items → needed_at t k ≡ numbers_of (needed_by n.head n.arguments.items)
needed_numbers t k n e d h = ap (λ u. map (λ v. place_in v t.terms) (needed_terms u)) e ∙ by_word t n.head n.arguments.items d h

numbers_all : (k : ℕ) (ids : List TermId) → All (λ (a : TermId). a.0 < k) ids → All (λ a. a < k) (numbers_of ids)
numbers_all k ids h j d lt =
    let z : TermId = record { 0 = 0 } in
    let within : j < length ids = omega (arith, lt, length-map ids (λ (a : TermId). a.0)) in
    subst (λ n. n < k) (sym (get_or-map (λ (a : TermId). a.0) ids j z d within)) (h j z within)

none : (k : ℕ) → All (λ a. a < k) []
none k j d lt = absurd (omega (arith, lt))

pub needed_before : (k : ℕ) (h : Head) (ids : List TermId) → All (λ (a : TermId). a.0 < k) ids → All (λ a. a < k) (numbers_of (needed_by h ids))
needed_before k heads.Plus ids i = numbers_all k ids i
needed_before k heads.Times ids i = numbers_all k ids i
needed_before k heads.Minus ids i = numbers_all k ids i
needed_before k heads.Divide ids i = numbers_all k ids i
needed_before k heads.True ids i = none k
needed_before k heads.False ids i = none k
needed_before k heads.Not ids i = none k
needed_before k heads.And ids i = none k
needed_before k heads.Or ids i = none k
needed_before k heads.Xor ids i = none k
needed_before k heads.Implies ids i = none k
needed_before k heads.Equal ids i = none k
needed_before k heads.Ite ids i = none k
needed_before k heads.Less ids i = none k
needed_before k heads.AtMost ids i = none k
needed_before k (heads.Literal q) ids i = none k
needed_before k (heads.Apply s) ids i = none k
needed_before k (heads.Parameter m s) ids i = none k
