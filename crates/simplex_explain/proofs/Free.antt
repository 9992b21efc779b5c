-- Tables of terms without parameters, and their atoms.
use Rattle.std.proofs.Common.{◌≡◌, ℕ, Bool, true, List, [], map, get_or, Contains, All, sym, ap, ◌∙◌}
use Rattle.std.proofs.lemmas.List.Elements.{Contains-get_or}
use Rattle.spec_text.proofs.Members.{to_image}
use Rattle.spec_sorts.specs.Terms.{Sort, Truth, Term, no_term, sort_of}
use Rattle.spec_sorts.specs.Literals.{literal_of}
use Rattle.spec_sorts.specs.WellSorted.{AllHeads, IsWellSorted}
use Rattle.term_core.specs.declared.ids.TermId.{TermId}
use Rattle.term_core.specs.declared.ids.Lit.{Lit}
use Rattle.term_core.specs.Tables.{TableView, term_at, literal_at, IsIn, IsParameterAmong}
use Rattle.proof_log.specs.Theories.{IsAtomIn}
use Rattle.simplex_explain.specs.declared.weighted.Weighted.{Weighted}
use Rattle.simplex_explain.specs.Reasons.{AreAtomReasons}

module _ (t : TableView) where
  -- a term of sort Bool that is its own literal is an atom
  pub atom_there : All (AllHeads (IsParameterAmong [])) t.terms → ((ps : List Sort) (u : Term) → Contains t.terms u → AllHeads (IsParameterAmong ps) u → IsWellSorted t.symbols ps u)
      → (id : TermId) → IsIn t id → sort_of (term_at t id) ≡ Truth → (l : Lit) → literal_at t l ≡ literal_of (term_at t id) → l.term.0 ≡ id.0 → l.positive ≡ true → IsAtomIn t id
  atom_there free sorted id here truth l means number positive =
      let make : ℕ → Bool → Lit = λ n p. record { term = record { 0 = n }; positive = p } in
      let same : l ≡ make id.0 true = λ i. make (number i) (positive i) in
      ((here, record { term = sorted [] (term_at t id) (Contains-get_or t.terms id.0 no_term here) (free id.0 no_term here); sort = truth }), sym means ∙ ap (literal_at t) same)

  -- the literals of atoms are reasons by these
  pub atoms_reasons : (rs : List Weighted) → All (λ (r : Weighted). IsAtomIn t r.literal.term) rs → AreAtomReasons (map (λ (r : Weighted). term_at t r.literal.term) rs) t rs
  atoms_reasons rs atoms k d lt =
      let r = get_or rs k d in
      (atoms k d lt, to_image (λ (r : Weighted). term_at t r.literal.term) rs r (Contains-get_or rs k d lt))
