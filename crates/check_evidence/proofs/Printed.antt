-- That each term which is printed for an answer can be read back: it is of a clause that the search began with, of a lemma, or of a clause that was learned.
use Rattle.std.proofs.Common.{ℕ, List, [], ◌∷◌, ◌++◌, length, All, Contains, inl, inr, sym, subst}
use Rattle.std.proofs.lemmas.Bool.{cases_lt}
use Rattle.std.proofs.lemmas.List.{get_or_past}
use Rattle.std.proofs.lemmas.List.Elements.{All-contains, Contains-get_or, Contains-append_left, Contains-append_right, Contains-append_cases, Contains-push_cases}
use Rattle.spec_text.proofs.Members.{first, none, only, to_image}
use Rattle.spec_sorts.specs.Terms.{True, Not, Term, app, nil, cons, of}
use Rattle.spec_sorts.specs.Literals.{Clause, Literal, literal_of, literals_of}
use Rattle.spec_derivations.specs.Problems.{Problem, known_terms}
use Rattle.spec_derivations.specs.Derivations.{Inference, «assumption», by_rule, Derivation, conclusion, inference_at, conclusion_at, no_inference}
use Rattle.spec_derivations.specs.Orders.{whole_terms, whole_clauses}
use Rattle.spec_derivations.specs.Lemmas.{IsMadeOf, given, is_true, IsLemma}
use Rattle.spec_derivations.specs.Spent.{IsAtomOf, IsOverAtoms}
use Rattle.spec_proof_texts.specs.Plans.{IsPrinted, in_clause, as_argument}
use Rattle.spec_arithmetic.specs.Numbers.{IsLinear}
use Rattle.spec_proof_texts.specs.Readable.{HasDecimals, IsReadableWhole}
use Rattle.spec_proof_texts.proofs.Search.{argument_readable}
use Rattle.search_loop.specs.Rounds.{AreSteps, nothing, stating, lemmas, learning, HasSteps}

-- a term can be read where what it negates can
bare_readable : (t : Term) → IsReadableWhole (literal_of t).atom → IsReadableWhole t
unfolding literal_of IsLinear HasDecimals
bare_readable (app Not (cons t nil)) e = let r = bare_readable t e in ((tt, (r.0, tt)), (tt, (r.1, tt)))
bare_readable (app Not nil) e = e
bare_readable (app Not (cons t (cons u vs))) e = e
bare_readable (app h ts) e = e

-- and those of a clause where the atoms of its literals can
clause_readable : (c : Clause) → ((l : Literal) → Contains (literals_of c) l → IsReadableWhole l.atom) → (u : Term) → Contains c u → IsReadableWhole u
clause_readable c h u i = bare_readable u (h (literal_of u) (to_image literal_of c u i))

-- each clause that a search begins with is over terms that it speaks of
abbrev pub AreOverSearchTerms : Type 0
AreOverSearchTerms = (p : Problem) (c : Clause) (l : Literal) → Contains (whole_clauses p) c → Contains (literals_of c) l → Contains (whole_terms p) l.atom

-- what lemmas and learned clauses are over can be read
abbrev pub AreMadeReadable : Type 0
AreMadeReadable = (p : Problem) → All IsReadableWhole (known_terms p) → (t : Term) → IsMadeOf (whole_terms p) t → IsReadableWhole t

abbrev pub AreAtomsReadable : Type 0
AreAtomsReadable = (p : Problem) → All IsReadableWhole (known_terms p) → (t : Term) → IsAtomOf p t → IsReadableWhole t

module _ (made : AreMadeReadable) (atoms_in : AreAtomsReadable) (p : Problem) (whole : All IsReadableWhole (known_terms p)) where
  made_readable : (t : Term) → IsMadeOf (whole_terms p) t → IsReadableWhole t
  made_readable = made p whole

  -- the terms of lemmas
  lemma_readable : (d : Derivation) (n : ℕ) (x : Inference) → IsLemma (whole_terms p) d n x → (u : Term) → Contains (conclusion x) u → IsReadableWhole u
  lemma_readable d n («assumption» t) h u i = absurd h
  lemma_readable d n (by_rule r premises arguments c) h u i = made_readable u (All-contains (IsMadeOf (whole_terms p)) c u h.1 i)

  -- each literal of these clauses is over a term that can be read
  abbrev AreReadableLists : List (List Literal) → Type 0
  AreReadableLists cs = (c : List Literal) → Contains cs c → (l : Literal) → Contains c l → IsReadableWhole l.atom

  -- clauses with which a search begins, lemmas, and what was learned where its literals are over such terms, are of terms that can be read
  module _ (over : AreOverSearchTerms) where
    whole_readable : (c : Clause) → Contains (whole_clauses p) c → (l : Literal) → Contains (literals_of c) l → IsReadableWhole l.atom
    whole_readable c i l j = made_readable l.atom (given l.atom (over p c l i j))

    -- of one inference
    abbrev IsOfReadable : Inference → Type 0
    IsOfReadable x = (u : Term) → Contains (conclusion x) u → IsReadableWhole u

    steps_readable : (xs : Derivation) (cs : List (List Literal)) → AreSteps p xs cs → AreReadableLists cs → (x : Inference) → Contains xs x → IsOfReadable x
    steps_readable _ _ nothing learned y i = absurd (none y i)
    steps_readable _ _ (stating xs x cs steps whole_one) learned y i = elim (Contains-append_cases xs (x ∷ []) y i) [
      | inl old ↦ steps_readable xs cs steps learned y old
      | inr new ↦ subst IsOfReadable (only x y new) (clause_readable (conclusion x) (whole_readable (conclusion x) whole_one))
    ]
    steps_readable _ _ (lemmas xs ys cs steps each) learned y i = elim (Contains-append_cases xs ys y i) [
      | inl old ↦ steps_readable xs cs steps learned y old
      | inr new ↦ lemma_readable (xs ++ ys) (length xs) y (All-contains (IsLemma (whole_terms p) (xs ++ ys) (length xs)) ys y each new)
    ]
    steps_readable _ _ (learning xs x cs steps resolved no_weaker) learned y i = elim (Contains-append_cases xs (x ∷ []) y i) [
      | inl old ↦ steps_readable xs cs steps (λ c k. learned c (Contains-append_left cs (literals_of (conclusion x) ∷ []) c k)) y old
      | inr new ↦ subst IsOfReadable (only x y new) (clause_readable (conclusion x)
          (learned (literals_of (conclusion x)) (Contains-append_right cs (literals_of (conclusion x) ∷ []) (literals_of (conclusion x)) (first (literals_of (conclusion x)) []))))
    ]

  module _ (over : AreOverSearchTerms) (d : Derivation) (learned : List (List Literal)) (atoms : All (IsOverAtoms p) learned) (h : HasSteps p d (learned ++ [] ∷ [])) where
    learned_readable : AreReadableLists (learned ++ [] ∷ [])
    learned_readable c i l j = elim (Contains-push_cases learned [] c i) [
      | inl k ↦ atoms_in p whole l.atom (All-contains (λ (m : Literal). IsAtomOf p m.atom) c l (All-contains (IsOverAtoms p) learned c atoms k) j)
      | inr e ↦ absurd (none l (subst (λ (ls : List Literal). Contains ls l) (sym e) j))
    ]

    -- each inference states a clause with which the search began or went on, a lemma, a clause that was learned, or the empty one
    inference_readable : (x : Inference) → Contains d x → (u : Term) → Contains (conclusion x) u → IsReadableWhole u
    inference_readable = steps_readable over d (learned ++ [] ∷ []) h.steps learned_readable

    stated_readable : (m : ℕ) (u : Term) → Contains (conclusion_at d m) u → IsReadableWhole u
    stated_readable m u i = elim (cases_lt m (length d)) [
      | inl lt ↦ inference_readable (inference_at d m) (Contains-get_or d m no_inference lt) u i
      | inr past ↦ subst IsReadableWhole (only (of True []) u (subst (λ (x : Inference). Contains (conclusion x) u) (get_or_past d m no_inference past) i)) (made_readable (of True []) is_true)
    ]

    -- so each term that is printed can be read
    pub printed_readable : (n : ℕ) (u : Term) → IsPrinted d n u → IsReadableWhole u
    printed_readable n _ (in_clause m u depends i) = stated_readable m u i
    printed_readable n _ (as_argument t u q i) = argument_readable t (printed_readable n t q) u i
