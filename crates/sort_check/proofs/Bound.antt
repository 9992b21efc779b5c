-- What bound names stand for.
use Rattle.std.proofs.Common.{◌≡◌, Bool, true, false, cond, List, [], ◌∷◌, length, map, Option, Some, None, refl, sym, ap, ◌∙◌, subst}
use Rattle.std.proofs.lemmas.List.Elements.{All-head, All-tail}
use Rattle.std.specs.Str.{bytes_eq}
use Rattle.spec_text.specs.Bytes.{Name}
use Rattle.spec_text.specs.Trees.{Tree}
use Rattle.std.proofs.lemmas.List.{nil_from_length}
use Rattle.spec_reading.specs.Names.{mentions}
use Rattle.spec_reading.specs.Reading.{bound_names}
use Rattle.spec_reading.proofs.WellSorted.{none_mentioned}
use Rattle.spec_sorts.specs.Theory.{look_up}
use Rattle.term_core.specs.declared.ids.TermId.{TermId}
use Rattle.term_core.specs.Tables.{TableView, term_at, IsIn, AreIn}
use Rattle.term_reader.specs.NameStacks.{newest}
use Rattle.term_reader.proofs.NameStacks.{look_before, look_after}
use Rattle.sort_check.specs.Bindings.{BindingsView, named_term, bound_at}

module _ (t : TableView) where
  -- what is found among names with numbers is found among names with terms
  look_found : (xs : List (Name × TermId)) (n : Name) (id : TermId) → look_up xs n ≡ Some id → look_up (map (named_term t) xs) n ≡ Some (term_at t id)
  look_found [] n id e = cc
  look_found (x ∷ xs) n id e = go (bytes_eq x.0 n) e (look_found xs n id)
    where
      go : (b : Bool) → cond b (Some x.1) (look_up xs n) ≡ Some id → (look_up xs n ≡ Some id → look_up (map (named_term t) xs) n ≡ Some (term_at t id)) → cond b (Some (term_at t x.1)) (look_up (map (named_term t) xs) n) ≡ Some (term_at t id)
      go true e rec = let same : x.1 ≡ id = cc in ap (λ i. Some (term_at t i)) same
      go false e rec = rec e

  look_none : (xs : List (Name × TermId)) (n : Name) → look_up xs n ≡ None → look_up (map (named_term t) xs) n ≡ None
  look_none [] n e = refl
  look_none (x ∷ xs) n e = go (bytes_eq x.0 n) e (look_none xs n)
    where
      go : (b : Bool) → cond b (Some x.1) (look_up xs n) ≡ None → (look_up xs n ≡ None → look_up (map (named_term t) xs) n ≡ None) → cond b (Some (term_at t x.1)) (look_up (map (named_term t) xs) n) ≡ None
      go true e rec = cc
      go false e rec = rec e

  pub bound_found : (v : BindingsView) (n : Name) (id : TermId) → look_up (newest v.names v.terms) n ≡ Some id → look_up (bound_at t v) n ≡ Some (term_at t id)
  bound_found v n id e = look_found (newest v.names v.terms) n id e

  pub bound_none : (v : BindingsView) (n : Name) → look_up (newest v.names v.terms) n ≡ None → look_up (bound_at t v) n ≡ None
  bound_none v n e = look_none (newest v.names v.terms) n e

  -- what is found is there
  found_in : (ns : List Name) (ids : List TermId) (n : Name) (id : TermId) → AreIn t ids → look_up (newest ns ids) n ≡ Some id → IsIn t id
  found_in [] ids n id h e = cc
  found_in (m ∷ ns) [] n id h e = cc
  found_in (m ∷ ns) (i ∷ ids) n id h e = go (look_up (newest ns ids) n) refl (found_in ns ids n)
    where
      one : (b : Bool) → cond b (Some i) None ≡ Some id → IsIn t id
      one true q = let same : i ≡ id = cc in subst (IsIn t) same (All-head (λ j. IsIn t j) i ids h)
      one false q = cc

      go : (o : Option TermId) → look_up (newest ns ids) n ≡ o → ((j : TermId) → AreIn t ids → look_up (newest ns ids) n ≡ Some j → IsIn t j) → IsIn t id
      go (Some j) q rec =
          let found : Some j ≡ Some id = sym (look_before (newest ns ids) ((m, i) ∷ []) n j q) ∙ e in
          let same : j ≡ id = cc in
          subst (IsIn t) same (rec j (All-tail (λ k. IsIn t k) i ids h) q)
      go None q rec = one (bytes_eq m n) (sym (look_after (newest ns ids) ((m, i) ∷ []) n q) ∙ e)

  pub bound_in : (v : BindingsView) (n : Name) (id : TermId) → AreIn t v.terms → look_up (newest v.names v.terms) n ≡ Some id → IsIn t id
  bound_in v n id h e = found_in v.names v.terms n id h e

-- where no name is bound, none is free in a text
pub unbound_free : (t : TableView) (v : BindingsView) (x : Tree) → length v.names ≡ 0 → mentions (bound_names (bound_at t v)) x ≡ false
unbound_free t v x e = ap (λ ns. mentions (bound_names (map (named_term t) (newest ns v.terms))) x) (nil_from_length v.names e) ∙ none_mentioned x
