-- Numbers that come into a set, one after the other.
use Rattle.std.proofs.Common.{◌≡◌, ℕ, ◌+◌, ◌<◌, Bool, true, false, inl, inr, if◌then◌else◌, List, [], ◌∷◌, ◌++◌, length, take, get_or, Contains, refl, sym, ap, ◌∙◌, subst, append_assoc, true≢false, arith}
use Rattle.std.specs.List.{list_any}
use Rattle.std.proofs.lemmas.List.{append-nil, take_more}
use Rattle.std.proofs.lemmas.List.Elements.{Contains-append_left, Contains-push, Contains-push_cases, Contains-get_or}
use Rattle.std.proofs.lemmas.Map.Made.{is_member-Decides}
use Rattle.indexmap.specs.IndexSet.{insert_key}
use Rattle.term_core.specs.declared.ids.TermId.{TermId}
use Rattle.term_core.specs.contracts.ids.TermIdPartialEq.TheImpl.{ghosts}
use Rattle.term_walks.specs.Counting.{no_number, AddsOnce}
use Rattle.term_core.proofs.NamesApart.{AreApart-push}
use Rattle.term_core.proofs.NodesSame.{ids_decide}

none : (id : TermId) → Contains [] id → ⊥
none id c = omega (arith, c.1)

pub adds_none : (old : List TermId) → AddsOnce old [] old
adds_none old = record {
  more = [];
  kept = sym (append-nil old);
  there = λ id c. absurd (none id c);
  no_others = λ id c. inl c;
  once = λ h. h;
}

-- a number comes into the set, or was in it
adds_one : (old new : List TermId) (id : TermId) → new ≡ insert_key ghosts.eq old id → AddsOnce old (id ∷ []) new
adds_one old new id keys = go (list_any (ghosts.eq id) old) refl
  where
    to_one : (xs : List TermId) → Contains xs id → (other : TermId) → Contains (id ∷ []) other → Contains xs other
    to_one xs here other c = elim (Contains-push_cases [] id other c) [ inl o ↦ absurd (none other o) | inr e ↦ subst (Contains xs) e here ]

    go : (b : Bool) → list_any (ghosts.eq id) old ≡ b → AddsOnce old (id ∷ []) new
    go true e = subst (AddsOnce old (id ∷ [])) (sym (keys ∙ ap (λ c. if c then old else old ++ id ∷ []) e)) (record {
      more = [];
      kept = sym (append-nil old);
      there = to_one old ((is_member-Decides ids_decide old id).0 e);
      no_others = λ other c. inl c;
      once = λ h. h;
    })
    go false e = subst (AddsOnce old (id ∷ [])) (sym (keys ∙ ap (λ c. if c then old else old ++ id ∷ []) e)) (record {
      more = id ∷ [];
      kept = refl;
      there = to_one (old ++ id ∷ []) (Contains-push old id);
      no_others = λ other c. elim (Contains-push_cases old id other c) [ inl o ↦ inl o | inr is ↦ inr (subst (Contains (id ∷ [])) is (Contains-push [] id)) ];
      once = λ h. AreApart-push no_number old id h
          (λ k lt is. true≢false (sym ((is_member-Decides ids_decide old id).1 (subst (Contains old) is (Contains-get_or old k no_number lt))) ∙ e));
    })

-- numbers came, and then one
adds_then : (old mid new front : List TermId) (id : TermId) → AddsOnce old front mid → AddsOnce mid (id ∷ []) new → AddsOnce old (front ++ id ∷ []) new
adds_then old mid new front id a b = record {
  more = a.more ++ b.more;
  kept = b.kept ∙ ap (λ l. l ++ b.more) a.kept ∙ append_assoc old a.more b.more;
  there = λ other c. elim (Contains-push_cases front id other c) [
    | inl o ↦ subst (λ l. Contains l other) (sym b.kept) (Contains-append_left mid b.more other (a.there other o))
    | inr is ↦ b.there other (subst (Contains (id ∷ [])) is (Contains-push [] id))
  ];
  no_others = λ other c. elim (b.no_others other c) [
    | inl o ↦ elim (a.no_others other o) [ inl p ↦ inl p | inr q ↦ inr (Contains-append_left front (id ∷ []) other q) ]
    | inr o ↦ inr (elim (Contains-push_cases [] id other o) [ inl p ↦ absurd (none other p) | inr is ↦ subst (Contains (front ++ id ∷ [])) is (Contains-push front id) ])
  ];
  once = λ h. b.once (a.once h);
}

pub adds_more : (old mid new ids : List TermId) (i : ℕ) (d : TermId) → i < length ids → AddsOnce old (take i ids) mid → new ≡ insert_key ghosts.eq mid (get_or ids i d) → AddsOnce old (take (i + 1) ids) new
adds_more old mid new ids i d lt a keys = subst (λ l. AddsOnce old l new) (sym (take_more ids i d lt)) (adds_then old mid new (take i ids) (get_or ids i d) a (adds_one mid new (get_or ids i d) keys))
