-- What numbers mean while the table grows.
use Rattle.std.proofs.Common.{◌≡◌, ℕ, ◌<◌, List, [], ◌∷◌, ◌++◌, length, map, take, drop, get_or, refl, ap, sym, ◌∙◌, arith}
use Rattle.std.proofs.lemmas.List.{map-append, take-map, take_at, drop-map, drop_at, length-map, length-append, get_or-map}
use Rattle.std.proofs.Math.Seq.{get_or-append_seam}
use Rattle.std.proofs.lemmas.List.Elements.{All-head, All-tail, All-push, All-take, All-drop}
use Rattle.spec_text.specs.Bytes.{Name}
use Rattle.spec_sorts.specs.Terms.{Term, no_term}
use Rattle.term_core.specs.declared.ids.TermId.{TermId}
use Rattle.term_core.specs.Tables.{TableView, term_at, IsIn, AreIn}
use Rattle.term_core.proofs.TermsExtend.{term_at-kept, AreIn-kept, clause_at-kept}
use Rattle.term_reader.specs.NameStacks.{newest}
use Rattle.term_reader.specs.Building.{KeepsTable}
use Rattle.sort_check.specs.Bindings.{BindingsView, named_term, bound_at, paired, waiting_at}
use Rattle.sort_check.specs.Walks.{AllMean}

module _ (old new : TableView) (keeps : KeepsTable old new) where
  pub mean_kept : (ids : List TermId) (ts : List Term) → AllMean old ids ts → AllMean new ids ts
  mean_kept ids ts h = (AreIn-kept old new keeps.extends ids h.0, clause_at-kept old new keeps.extends ids h.0 ∙ h.1)

  pub in_kept : (ids : List TermId) → AreIn old ids → AreIn new ids
  in_kept ids h = AreIn-kept old new keeps.extends ids h

  newest_kept : (ns : List Name) (ids : List TermId) → AreIn old ids → map (named_term new) (newest ns ids) ≡ map (named_term old) (newest ns ids)
  newest_kept [] ids h = refl
  newest_kept (n ∷ ns) [] h = refl
  newest_kept (n ∷ ns) (id ∷ ids) h =
      let one : term_at new id ≡ term_at old id = term_at-kept old new keeps.extends id (All-head (λ i. IsIn old i) id ids h) in
      let rest = newest_kept ns ids (All-tail (λ i. IsIn old i) id ids h) in
      map-append (named_term new) (newest ns ids) ((n, id) ∷ []) ∙ (λ i. rest i ++ (n, one i) ∷ []) ∙ sym (map-append (named_term old) (newest ns ids) ((n, id) ∷ []))

  pub bound_kept : (v : BindingsView) → AreIn old v.terms → bound_at new v ≡ bound_at old v
  bound_kept v h = newest_kept v.names v.terms h

  paired_kept : (ns : List Name) (ids : List TermId) → AreIn old ids → map (named_term new) (paired ns ids) ≡ map (named_term old) (paired ns ids)
  paired_kept [] ids h = refl
  paired_kept (n ∷ ns) [] h = refl
  paired_kept (n ∷ ns) (id ∷ ids) h =
      let one : term_at new id ≡ term_at old id = term_at-kept old new keeps.extends id (All-head (λ i. IsIn old i) id ids h) in
      let rest = paired_kept ns ids (All-tail (λ i. IsIn old i) id ids h) in
      λ i. (n, one i) ∷ rest i

  pub waiting_kept : (v : BindingsView) → AreIn old v.terms → waiting_at new v ≡ waiting_at old v
  waiting_kept v h = paired_kept v.names v.terms h

module _ (t : TableView) where
  pub in_push : (ids : List TermId) (id : TermId) → AreIn t ids → IsIn t id → AreIn t (ids ++ id ∷ [])
  in_push ids id h one = All-push (λ i. IsIn t i) ids id h one

  pub mean_push : (ids : List TermId) (id : TermId) (ts : List Term) (u : Term) → AllMean t ids ts → IsIn t id → term_at t id ≡ u → AllMean t (ids ++ id ∷ []) (ts ++ u ∷ [])
  mean_push ids id ts u h one is = (in_push ids id h.0 one, map-append (term_at t) ids (id ∷ []) ∙ (λ i. h.1 i ++ is i ∷ []))

  -- as many numbers as terms
  pub mean_long : (ids : List TermId) (ts : List Term) → AllMean t ids ts → length ids ≡ length ts
  mean_long ids ts h = sym (length-map ids (term_at t)) ∙ ap length h.1

  -- the first of them
  pub mean_front : (ids : List TermId) (front back : List Term) (n : ℕ) → n ≡ length front → AllMean t ids (front ++ back) → AllMean t (take n ids) front
  mean_front ids front back n e h =
      (All-take (λ i. IsIn t i) n ids h.0, sym (take-map (term_at t) n ids) ∙ ap (take n) h.1 ∙ take_at front back n (sym e))

  -- the one after them
  pub mean_at : (ids : List TermId) (front : List Term) (u : Term) (n : ℕ) (d : TermId) → n ≡ length front → AllMean t ids (front ++ u ∷ []) → (n < length ids) × (IsIn t (get_or ids n d) × (term_at t (get_or ids n d) ≡ u))
  mean_at ids front u n d e h =
      let lt : n < length ids = omega (arith, e, mean_long ids (front ++ u ∷ []) h, length-append front (u ∷ [])) in
      (lt, (h.0 n d lt, sym (get_or-map (term_at t) ids n d no_term lt) ∙ ap (λ ts. get_or ts n no_term) h.1 ∙ ap (λ k. get_or (front ++ u ∷ []) k no_term) e ∙ get_or-append_seam front u [] no_term))

  -- those after them
  pub mean_back : (ids : List TermId) (front back : List Term) (n : ℕ) → n ≡ length front → AllMean t ids (front ++ back) → AllMean t (drop n ids) back
  mean_back ids front back n e h =
      (All-drop (λ i. IsIn t i) n ids h.0, sym (drop-map (term_at t) n ids) ∙ ap (drop n) h.1 ∙ drop_at front back n (sym e))
