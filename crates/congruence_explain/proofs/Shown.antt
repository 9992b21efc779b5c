-- What steps show, and that it stays so.
use Rattle.std.proofs.Common.{◌≡◌, ◌≢◌, ℕ, ◌<◌, ◌⊎◌, inl, inr, List, [], ◌∷◌, ◌++◌, map, get_or, sym, ap, ◌∙◌, subst}
use Rattle.std.specs.Prelude.{All, Contains}
use Rattle.std.proofs.lemmas.List.{map-append}
use Rattle.std.proofs.lemmas.List.Elements.{All-contains, Contains-append_left, Contains-push, Contains-push_cases}
use Rattle.spec_text.proofs.Members.{none, to_image, from_image}
use Rattle.spec_sorts.specs.Literals.{Literal, complement}
use Rattle.spec_proofs.specs.Resolution.{Derives as Propagates, given, unit, IsWithin}
use Rattle.term_core.specs.Tables.{TableView}
use Rattle.congruence_explain.specs.declared.claims.SignedClaim.{SignedClaim}
use Rattle.congruence_explain.specs.Claims.{claim_as_literal}
use Rattle.congruence_explain.specs.Steps.{all_denied, ExplanationSetting, Notes, edge_literal, ShowsLiteral, ShowsDenied, NotesGrow, AddsEdges}

-- unit propagation gives no less from more
pub derives_more : (steps more : List (List Literal)) (a b : List Literal) → IsWithin steps more → IsWithin a b → (l : Literal) → Propagates complement steps a l → Propagates complement more b l
derives_more steps more a b sw aw _ (given l h) = given l (aw l h)
derives_more steps more a b sw aw _ (unit c l there has others) = unit c l (sw c there) has (λ m i d. derives_more steps more a b sw aw (complement m) (others m i d))

-- a literal of a clause whose others are false
pub by_clause : (steps : List (List Literal)) (a : List Literal) (c : List Literal) (l : Literal) → Contains steps c → Contains c l
    → ((m : Literal) → Contains c m → (m ≡ l) ⊎ Propagates complement steps a (complement m)) → Propagates complement steps a l
by_clause steps a c l there has each = unit c l there has (λ m i d. other m (each m i) d)
  where
    other : (m : Literal) → (m ≡ l) ⊎ Propagates complement steps a (complement m) → m ≢ l → Propagates complement steps a (complement m)
    other m (inl e) d = absurd (d e)
    other m (inr p) d = p

-- all that a list has is in it with more
pub within_more : {X : Type 0} (xs ys more : List X) → ys ≡ xs ++ more → IsWithin xs ys
within_more xs ys more is x i = subst (λ zs. Contains zs x) (sym is) (Contains-append_left xs more x i)

-- what denies is more
pub denied_more : (t : TableView) (xs ys : List SignedClaim) → IsWithin xs ys → IsWithin (all_denied t xs) (all_denied t ys)
denied_more t xs ys more l i =
    let (m, m_in, m_is) = from_image complement (map (claim_as_literal t) xs) l i in
    let (x, x_in, x_is) = from_image (claim_as_literal t) xs m m_in in
    subst (Contains (all_denied t ys)) (ap complement x_is ∙ m_is) (to_image complement (map (claim_as_literal t) ys) (claim_as_literal t x) (to_image (claim_as_literal t) ys x (more x x_in)))

-- nothing more
pub grows_none : (k : ℕ) (n : Notes) → NotesGrow k n n
grows_none k n = record { kept = λ j h. h; older = λ j h. inl h; steps = λ x i. i; stated = λ x i. i }

pub grows_both : (k : ℕ) (a b c : Notes) → NotesGrow k a b → NotesGrow k b c → NotesGrow k a c
grows_both k a b c f g = record {
  kept = λ j h. g.kept j (f.kept j h);
  older = λ j h. elim (g.older j h) [ inl i ↦ f.older j i | inr lt ↦ inr lt ];
  steps = λ x i. g.steps x (f.steps x i);
  stated = λ x i. g.stated x (f.stated x i);
}

-- more steps, and more that is needed
pub grows_needed : (k : ℕ) (needed after : List ℕ) (ks : List ℕ) (steps steps_after more : List (List Literal)) (stated : List SignedClaim) → AddsEdges needed ks after → All (λ i. i < k) ks → steps_after ≡ steps ++ more
    → NotesGrow k (record { needed = needed; steps = steps; stated = stated }) (record { needed = after; steps = steps_after; stated = stated })
grows_needed k needed after ks steps steps_after more stated adds low is = record {
  kept = adds.kept;
  older = λ j h. elim (adds.no_others j h) [ inl i ↦ inl i | inr i ↦ inr (All-contains (λ i. i < k) ks j low i) ];
  steps = within_more steps steps_after more is;
  stated = λ x i. i;
}

-- more steps
pub grows_steps : (k : ℕ) (needed : List ℕ) (steps after more : List (List Literal)) (stated : List SignedClaim) → after ≡ steps ++ more
    → NotesGrow k (record { needed = needed; steps = steps; stated = stated }) (record { needed = needed; steps = after; stated = stated })
grows_steps k needed steps after more stated is = record { kept = λ j h. h; older = λ j h. inl h; steps = within_more steps after more is; stated = λ x i. i }

-- with the same literals more
pub grows_stated : (k : ℕ) (a b : Notes) (stated : List SignedClaim) → NotesGrow k a b → NotesGrow k (record { needed = a.needed; steps = a.steps; stated = stated }) (record { needed = b.needed; steps = b.steps; stated = stated })
grows_stated k a b stated g = record { kept = g.kept; older = g.older; steps = g.steps; stated = λ x i. i }

module _ (s : ExplanationSetting) where
  -- what is shown stays so
  pub shows_more : (k : ℕ) (old new : Notes) → NotesGrow k old new → (g : Literal) → ShowsLiteral s old g → ShowsLiteral s new g
  shows_more k old new grows g h = λ steps assumed sw aw ih. h steps assumed (λ x i. sw x (grows.steps x i)) (λ x i. aw x (denied_more s.table old.stated new.stated grows.stated x i)) (λ i need. ih i (grows.kept i need))

  pub shows_stated : (needed : List ℕ) (steps : List (List Literal)) (stated : List SignedClaim) (g : Literal) → ShowsLiteral s (record { needed = needed; steps = steps; stated = [] }) g
      → ShowsLiteral s (record { needed = needed; steps = steps; stated = stated }) g
  shows_stated needed steps stated g h = λ more assumed sw aw ih. h more assumed sw (λ x i. absurd (none x i)) ih

  pub shows_each : (k : ℕ) (old new : Notes) → NotesGrow k old new → (clause : List SignedClaim) → ShowsDenied s old clause → ShowsDenied s new clause
  shows_each k old new grows clause h = λ i d lt. shows_more k old new grows (complement (claim_as_literal s.table (get_or clause i d))) (h i d lt)

  -- the last literal of a clause of which what the others deny is shown
  pub shows_last : (n : Notes) (clause : List SignedClaim) (goal : SignedClaim) → Contains n.steps (map (claim_as_literal s.table) (clause ++ goal ∷ [])) → ShowsDenied s n clause → ShowsLiteral s n (claim_as_literal s.table goal)
  shows_last n clause goal there each = λ steps assumed sw aw ih.
      by_clause steps assumed (map (claim_as_literal s.table) clause ++ claim_as_literal s.table goal ∷ []) (claim_as_literal s.table goal)
      (sw _ (subst (Contains n.steps) (map-append (claim_as_literal s.table) clause (goal ∷ [])) there))
      (Contains-push (map (claim_as_literal s.table) clause) (claim_as_literal s.table goal))
      (λ m i. go steps assumed sw aw ih m (Contains-push_cases (map (claim_as_literal s.table) clause) (claim_as_literal s.table goal) m i))
    where
      go : (steps : List (List Literal)) (assumed : List Literal) → IsWithin n.steps steps → IsWithin (all_denied s.table n.stated) assumed
          → ((i : ℕ) → Contains n.needed i → Propagates complement steps assumed (edge_literal s i))
          → (m : Literal) → Contains (map (claim_as_literal s.table) clause) m ⊎ (claim_as_literal s.table goal ≡ m) → (m ≡ claim_as_literal s.table goal) ⊎ Propagates complement steps assumed (complement m)
      go steps assumed sw aw ih m (inr e) = inl (sym e)
      go steps assumed sw aw ih m (inl i) =
          let (x, x_in, x_is) = from_image (claim_as_literal s.table) clause m i in
          inr (subst (λ l. Propagates complement steps assumed (complement l)) x_is
          (All-contains (λ y. ShowsLiteral s n (complement (claim_as_literal s.table y))) clause x each x_in steps assumed sw aw ih))
