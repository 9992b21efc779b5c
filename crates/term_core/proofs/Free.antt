-- Tables of terms without parameters.
use Rattle.std.proofs.Common.{◌≡◌, ◌⊎◌, inl, inr, ℕ, suc, List, [], ◌∷◌, ◌++◌, All, sym, subst, arith, refl}
use Rattle.std.proofs.lemmas.List.Elements.{All-push}
use Rattle.spec_sorts.specs.Terms.{no_term, terms_of}
use Rattle.spec_sorts.specs.WellSorted.{AllHeads, AllHeadsIn}
use Rattle.term_core.specs.declared.ids.TermId.{TermId}
use Rattle.term_core.specs.declared.nodes.Head.{Head as NodeHead}
use Rattle.term_core.specs.declared.nodes.Head.TheVariants as heads
use Rattle.term_core.specs.declared.nodes.Node.{Node}
use Rattle.term_core.specs.Tables.{TableView, AreIn, clause_at, head_meant, IsParameterAmong, IsPlaced, node_term}

module _ (t : TableView) where
  free_head : (h : NodeHead) → ((n : ℕ) (s : _) → h ≡ heads.Parameter n s → ⊥) → IsParameterAmong [] (head_meant t h)
  free_head (heads.Parameter n s) other = absurd (other n s refl)
  free_head _ other = tt

  free_terms : All (AllHeads (IsParameterAmong [])) t.terms → (ids : List TermId) → AreIn t ids → AllHeadsIn (IsParameterAmong []) (terms_of (clause_at t ids))
  unfolding AllHeadsIn
  free_terms free [] there = tt
  free_terms free (id ∷ ids) there = (free id.0 no_term (there 0 id (omega arith)), free_terms free ids (λ k d lt. there (suc k) d (omega (arith, lt))))

  -- a term that is put has no parameter where its head is none
  pub free_node : (n : Node) → All (AllHeads (IsParameterAmong [])) t.terms → IsPlaced t n → ((k : ℕ) (s : _) → n.head ≡ heads.Parameter k s → ⊥) → AllHeads (IsParameterAmong []) (node_term t n)
  unfolding AllHeads
  free_node n free placed other = (free_head n.head other, free_terms free n.arguments.items placed.arguments)

  -- nor have the others
  pub free_put : (new : TableView) (n : Node) → All (AllHeads (IsParameterAmong [])) t.terms → AllHeads (IsParameterAmong []) (node_term t n) → (new ≡ t) ⊎ (new.terms ≡ t.terms ++ node_term t n ∷ [])
      → All (AllHeads (IsParameterAmong [])) new.terms
  free_put new n free here (inl e) = subst (λ (u : TableView). All (AllHeads (IsParameterAmong [])) u.terms) (sym e) free
  free_put new n free here (inr e) = subst (All (AllHeads (IsParameterAmong []))) (sym e) (All-push (AllHeads (IsParameterAmong [])) t.terms (node_term t n) free here)
