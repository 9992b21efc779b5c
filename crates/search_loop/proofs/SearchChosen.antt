-- How the atoms among terms come together.
use Rattle.std.proofs.Common.{◌≡◌, ℕ, ◌+◌, ◌<◌, List, [], ◌∷◌, ◌++◌, length, get_or, take, Contains, inl, inr, sym, subst}
use Rattle.std.proofs.lemmas.List.{take_more}
use Rattle.std.proofs.lemmas.List.Elements.{All-nil, All-push, Contains-push, Contains-push_cases, Contains-append_left}
use Rattle.spec_text.proofs.Members.{none}
use Rattle.term_core.specs.declared.ids.TermId.{TermId}
use Rattle.term_core.specs.Tables.{TableView}
use Rattle.term_clauses.specs.SpokenTerms.{no_id}
use Rattle.proof_log.specs.Theories.{IsAtomIn}
use Rattle.search_loop.specs.Search.{AreAtomsAmong}

-- of no terms
pub chosen_none : (t : TableView) → AreAtomsAmong t [] []
chosen_none t = record { each = λ id i a. absurd (none id i); among = λ id i. absurd (none id i); only = All-nil (IsAtomIn t) }

module _ (t : TableView) (terms atoms : List TermId) (k : ℕ) (lt : k < length terms) (h : AreAtomsAmong t (take k terms) atoms) where
  abbrev id : TermId
  id = get_or terms k no_id

  longer : take (k + 1) terms ≡ take k terms ++ id ∷ []
  longer = take_more terms k no_id lt

  -- one of the terms up to the next is one before it, or the next
  first_or_last : (P : TermId → Type 0) → ((x : TermId) → Contains (take k terms) x → P x) → P id → (x : TermId) → Contains (take (k + 1) terms) x → P x
  first_or_last P early last x i = elim (Contains-push_cases (take k terms) id x (subst (λ (xs : List TermId). Contains xs x) longer i)) [
    | inl was ↦ early x was
    | inr is ↦ subst P is last
  ]

  still : (x : TermId) → Contains (take k terms) x → Contains (take (k + 1) terms) x
  still x i = subst (λ (xs : List TermId). Contains xs x) (sym longer) (Contains-append_left (take k terms) (id ∷ []) x i)

  -- the next one is an atom
  pub chosen_more : IsAtomIn t id → AreAtomsAmong t (take (k + 1) terms) (atoms ++ id ∷ [])
  chosen_more a = record {
    each = first_or_last (λ (x : TermId). IsAtomIn t x → Contains (atoms ++ id ∷ []) x) (λ x i b. Contains-append_left atoms (id ∷ []) x (h.each x i b)) (λ b. Contains-push atoms id);
    among = λ x i. elim (Contains-push_cases atoms id x i) [
      | inl was ↦ still x (h.among x was)
      | inr is ↦ subst (λ (y : TermId). Contains (take (k + 1) terms) y) is (subst (λ (xs : List TermId). Contains xs id) (sym longer) (Contains-push (take k terms) id))
    ];
    only = All-push (IsAtomIn t) atoms id h.only a;
  }

  -- or not
  pub chosen_skip : (IsAtomIn t id → ⊥) → AreAtomsAmong t (take (k + 1) terms) atoms
  chosen_skip other = record {
    each = first_or_last (λ (x : TermId). IsAtomIn t x → Contains atoms x) h.each (λ b. absurd (other b));
    among = λ x i. still x (h.among x i);
    only = h.only;
  }
