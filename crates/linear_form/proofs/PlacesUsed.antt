-- Places of the terms that are used, one after the other.
use Rattle.std.proofs.Common.{◌≡◌, ℕ, ◌+◌, ◌<◌, ◌≤◌, List, [], ◌∷◌, ◌++◌, length, get_or, take, drop, All, sym, ◌∙◌, ap, subst, append_assoc, arith}
use Rattle.std.specs.List.{flat_map}
use Rattle.std.proofs.lemmas.List.{take_more, drop_more, drop_all, map-append, append-nil, get_or-map, length-map}
use Rattle.std.proofs.lemmas.List.Elements.{All-append, All-cons}
use Rattle.std.proofs.lemmas.List.Concat.{flat_map-cons}
use Rattle.term_core.specs.declared.ids.TermId.{TermId}
use Rattle.term_walks.specs.Orders.{numbers_of}
use Rattle.linear_form.specs.Walks.{numbers_at}

pub places_more : (order old us new ids : List ℕ) (at p d : ℕ) → new ≡ us ++ p ∷ [] → get_or order p 0 ≡ get_or ids at d → at < length ids → numbers_at order us ≡ numbers_at order old ++ take at ids → numbers_at order new ≡ numbers_at order old ++ take (at + 1) ids
places_more order old us new ids at p d e same lt h =
    ap (numbers_at order) e ∙ map-append (λ j. get_or order j 0) us (p ∷ []) ∙ (λ i. h i ++ same i ∷ []) ∙ append_assoc (numbers_at order old) (take at ids) (get_or ids at d ∷ [])
    ∙ ap (λ l. numbers_at order old ++ l) (sym (take_more ids at d lt))

pub all_more : (P : ℕ → Type 0) (us new : List ℕ) (p : ℕ) → new ≡ us ++ p ∷ [] → P p → All P us → All P new
all_more P us new p e h all = subst (All P) (sym e) (All-append P us (p ∷ []) all (All-cons P p [] h (λ k d lt. absurd (omega (arith, lt)))))

pub uses_more : (needed : ℕ → List ℕ) (order us new more : List ℕ) (at : ℕ) → at < length order → more ≡ needed (get_or order at 0) → numbers_at order new ≡ numbers_at order us ++ more → numbers_at order us ++ flat_map needed (drop at order) ≡ flat_map needed order → numbers_at order new ++ flat_map needed (drop (at + 1) order) ≡ flat_map needed order
uses_more needed order us new more at lt is e h =
    ap (λ l. l ++ flat_map needed (drop (at + 1) order)) e ∙ append_assoc (numbers_at order us) more (flat_map needed (drop (at + 1) order))
    ∙ ap (λ l. numbers_at order us ++ (l ++ flat_map needed (drop (at + 1) order))) is
    ∙ ap (λ l. numbers_at order us ++ l) (sym (flat_map-cons needed (get_or order at 0) (drop (at + 1) order)))
    ∙ ap (λ l. numbers_at order us ++ flat_map needed l) (sym (drop_more order at 0 lt)) ∙ h

pub uses_end : (needed : ℕ → List ℕ) (order us new : List ℕ) (at p root : ℕ) → length order ≤ at → new ≡ us ++ p ∷ [] → get_or order p 0 ≡ root → numbers_at order us ++ flat_map needed (drop at order) ≡ flat_map needed order → numbers_at order new ≡ flat_map needed order ++ root ∷ []
uses_end needed order us new at p root le e is h =
    ap (numbers_at order) e ∙ map-append (λ j. get_or order j 0) us (p ∷ [])
    ∙ (λ i. (sym (append-nil (numbers_at order us)) ∙ ap (λ l. numbers_at order us ++ flat_map needed l) (sym (drop_all at order le)) ∙ h) i ++ is i ∷ [])

pub all_at : (P : ℕ → Type 0) (ids : List TermId) (k : ℕ) (d : TermId) → k < length ids → All P (numbers_of ids) → P (get_or ids k d).0
all_at P ids k d lt h = subst P (get_or-map (λ (a : TermId). a.0) ids k d 0 lt) (h k 0 (subst (λ n. k < n) (sym (length-map ids (λ (a : TermId). a.0))) lt))

pub number_at : (ids : List TermId) (k : ℕ) (d : TermId) → k < length ids → (get_or ids k d).0 ≡ get_or (numbers_of ids) k 0
number_at ids k d lt = sym (get_or-map (λ (a : TermId). a.0) ids k d 0 lt)
