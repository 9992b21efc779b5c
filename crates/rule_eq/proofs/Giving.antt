-- The reason of a place, by its number.
use Rattle.std.proofs.Common.{◌≡◌, ℕ, ◌<◌, List, [], map, length, get_or, Option, None, sym, ap, ◌∙◌, subst, arith}
use Rattle.std.proofs.lemmas.List.{get_or-map, length-map}
use Rattle.spec_sorts.specs.Terms.{Term, no_term}
use Rattle.spec_equality.specs.Reasons.{denied, alone}
use Rattle.term_core.specs.declared.ids.TermId.{TermId}
use Rattle.term_core.specs.Tables.{TableView, term_at, clause_at}
use Rattle.rule_eq.specs.Reasoning.{GivesTerm}

module _ (t : TableView) (k : ℕ) (result : Option TermId) where
  -- what the literal of a place denies
  pub literal_gives : (ids : List TermId) (d : TermId) → k < length (map denied (clause_at t ids)) → GivesTerm t (denied (term_at t (get_or ids k d))) result → GivesTerm t (get_or (map denied (clause_at t ids)) k None) result
  literal_gives ids d lt h =
      let within : k < length ids = omega (arith, lt, length-map (clause_at t ids) denied, length-map ids (term_at t)) in
      let within_terms : k < length (clause_at t ids) = omega (arith, lt, length-map (clause_at t ids) denied) in
      let at = get_or-map denied (clause_at t ids) k no_term None within_terms ∙ ap denied (get_or-map (term_at t) ids k d no_term within) in
      subst (λ (r : Option Term). GivesTerm t r result) (sym at) h

  -- what the premise of a place states
  pub premise_gives : (clauses : List (List TermId)) (slice item : List TermId) → slice ≡ item → item ≡ get_or clauses k item → k < length (map alone (map (clause_at t) clauses)) → GivesTerm t (alone (clause_at t slice)) result → GivesTerm t (get_or (map alone (map (clause_at t) clauses)) k None) result
  premise_gives clauses slice item is here lt h =
      let within : k < length clauses = omega (arith, lt, length-map (map (clause_at t) clauses) alone, length-map clauses (clause_at t)) in
      let within_terms : k < length (map (clause_at t) clauses) = omega (arith, lt, length-map (map (clause_at t) clauses) alone) in
      let at = get_or-map alone (map (clause_at t) clauses) k [] None within_terms ∙ ap alone (get_or-map (clause_at t) clauses k item [] within) in
      subst (λ (r : Option Term). GivesTerm t r result) (sym (at ∙ ap (λ (xs : List TermId). alone (clause_at t xs)) (sym here ∙ sym is))) h
