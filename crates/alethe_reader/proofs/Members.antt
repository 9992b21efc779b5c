-- Sets of terms by their numbers.
use Rattle.std.proofs.Common.{◌≡◌, ℕ, ◌+◌, ◌<◌, Bool, true, false, List, [], ◌∷◌, ◌++◌, length, get_or, take, Contains, inl, inr, refl, sym, ap, ◌∙◌, subst, if◌then◌else◌, append-nil, rules}
use Rattle.std.specs.Prelude.{MatchBool}
use Rattle.std.specs.List.{list_any}
use Rattle.std.proofs.lemmas.Bool.{false≢true}
use Rattle.std.proofs.lemmas.List.{take_more, get_or_default, append_assoc}
use Rattle.std.proofs.lemmas.List.Folds.{list_any_at}
use Rattle.std.proofs.lemmas.List.Elements.{Contains-push, Contains-push_cases, Contains-append_left, Contains-append_right, Contains-append_cases}
use Rattle.indexmap.specs.IndexSet.{insert_key}
use Rattle.indexmap.proofs.CallerLemmas.{Contains-list_any}
use Rattle.spec_text.proofs.Members.{to_image, from_image}
use Rattle.spec_sorts.specs.Terms.{Term}
use Rattle.spec_proofs.specs.Resolution.{IsWithin}
use Rattle.term_core.specs.declared.ids.TermId.{TermId}
use Rattle.term_core.specs.contracts.ids.TermIdPartialEq.TheImpl.{ghosts}
use Rattle.term_core.specs.Tables.{TableView, IsIn, AreIn, AreDifferent, term_at, clause_at}
use Rattle.alethe_reader.specs.Parts.{HaveSameMembers}

equal_is : (a b : TermId) → ghosts.eq a b ≡ true → a ≡ b
equal_is a b h = search rules

is_equal : (a b : TermId) → a ≡ b → ghosts.eq a b ≡ true
is_equal a b h = search rules

push_both : (xs keys : List TermId) (id : TermId) → HaveSameMembers xs keys → HaveSameMembers (xs ++ id ∷ []) (keys ++ id ∷ [])
push_both xs keys id h m = (
  λ i. elim (Contains-push_cases xs id m i) [ inl old ↦ Contains-append_left keys (id ∷ []) m ((h m).0 old) | inr e ↦ subst (λ (x : TermId). Contains (keys ++ id ∷ []) x) e (Contains-push keys id) ],
  λ i. elim (Contains-push_cases keys id m i) [ inl old ↦ Contains-append_left xs (id ∷ []) m ((h m).1 old) | inr e ↦ subst (λ (x : TermId). Contains (xs ++ id ∷ []) x) e (Contains-push xs id) ],
)

push_one : (xs keys : List TermId) (id : TermId) → Contains keys id → HaveSameMembers xs keys → HaveSameMembers (xs ++ id ∷ []) keys
push_one xs keys id here h m = (
  λ i. elim (Contains-push_cases xs id m i) [ inl old ↦ (h m).0 old | inr e ↦ subst (λ (x : TermId). Contains keys x) e here ],
  λ i. Contains-append_left xs (id ∷ []) m ((h m).1 i),
)

-- a term more in the list and in the set
added_by : (xs keys new : List TermId) (id : TermId) → HaveSameMembers xs keys → new ≡ insert_key ghosts.eq keys id → HaveSameMembers (xs ++ id ∷ []) new
added_by xs keys new id h e = go (list_any (ghosts.eq id) keys) refl
  where
    go : (b : Bool) → list_any (ghosts.eq id) keys ≡ b → HaveSameMembers (xs ++ id ∷ []) new
    go true t = subst (λ ks. HaveSameMembers (xs ++ id ∷ []) ks) (sym (e ∙ ap (λ c. if c then keys else keys ++ id ∷ []) t)) (push_one xs keys id (Contains-list_any ghosts.eq equal_is keys id t) h)
    go false t = subst (λ ks. HaveSameMembers (xs ++ id ∷ []) ks) (sym (e ∙ ap (λ c. if c then keys else keys ++ id ∷ []) t)) (push_both xs keys id h)

-- the next term of a list, in a set of what there was and of those before it
pub taken_by : (before xs keys new : List TermId) (k : ℕ) (d : TermId) → k < length xs → HaveSameMembers (before ++ take k xs) keys → new ≡ insert_key ghosts.eq keys (get_or xs k d) → HaveSameMembers (before ++ take (k + 1) xs) new
taken_by before xs keys new k d lt h e =
    let one : before ++ take (k + 1) xs ≡ (before ++ take k xs) ++ get_or xs k d ∷ [] = ap (λ ys. before ++ ys) (take_more xs k d lt) ∙ sym (append_assoc before (take k xs) (get_or xs k d ∷ [])) in
    subst (λ ys. HaveSameMembers ys new) (sym one) (added_by (before ++ take k xs) keys new (get_or xs k d) h e)

-- none of the terms yet
pub none_taken : (before : List TermId) → HaveSameMembers (before ++ []) before
none_taken before = subst (λ ys. HaveSameMembers ys before) (sym (append-nil before)) (λ id. (λ c. c, λ c. c))

-- terms that were added to a set of terms
pub joined_by : (xs ys keys new : List TermId) → HaveSameMembers xs keys → HaveSameMembers (keys ++ ys) new → HaveSameMembers (xs ++ ys) new
joined_by xs ys keys new first both id = (
  λ c. (both id).0 (elim (Contains-append_cases xs ys id c) [ inl here ↦ Contains-append_left keys ys id ((first id).0 here) | inr there ↦ Contains-append_right keys ys id there ]),
  λ c. elim (Contains-append_cases keys ys id ((both id).1 c)) [ inl here ↦ Contains-append_left xs ys id ((first id).1 here) | inr there ↦ Contains-append_right xs ys id there ],
)

module _ (t : TableView) where
  -- what the one has is in the other, by the terms too
  terms_within : (xs ys : List TermId) → ((id : TermId) → Contains xs id → Contains ys id) → IsWithin (clause_at t xs) (clause_at t ys)
  terms_within xs ys h u c = let x = from_image (term_at t) xs u c in subst (λ v. Contains (clause_at t ys) v) x.2 (to_image (term_at t) ys x.0 (h x.0 x.1))

  -- lists with the same members have the same terms
  pub terms_there : (xs keys : List TermId) (us : List Term) → HaveSameMembers xs keys → clause_at t xs ≡ us → IsWithin (clause_at t keys) us
  terms_there xs keys us h e = subst (λ vs. IsWithin (clause_at t keys) vs) e (terms_within keys xs (λ id c. (h id).1 c))

  pub terms_back : (xs keys : List TermId) (us : List Term) → HaveSameMembers xs keys → clause_at t xs ≡ us → IsWithin us (clause_at t keys)
  terms_back xs keys us h e = subst (λ vs. IsWithin vs (clause_at t keys)) e (terms_within xs keys (λ id c. (h id).0 c))

  -- and are in the table together
  pub ids_there : (xs keys : List TermId) → HaveSameMembers xs keys → AreIn t xs → AreIn t keys
  ids_there xs keys h all k d lt =
      let id = get_or keys k d in
      let c = (h id).1 (k, lt, sym (get_or_default keys k d id lt)) in
      subst (λ (x : TermId). IsIn t x) c.2 (all c.0 id c.1)

  -- a look into the set tells whether the check asks about a term
  pub asked_by : (keys : List TermId) (us : List Term) (id : TermId) (b : Bool) → AreDifferent t.terms → IsIn t id → AreIn t keys
      → IsWithin (clause_at t keys) us → IsWithin us (clause_at t keys) → b ≡ list_any (ghosts.eq id) keys → MatchBool b (Contains us (term_at t id)) (Contains us (term_at t id) → ⊥)
  asked_by keys us id true apart here all there back e = there (term_at t id) (to_image (term_at t) keys id (Contains-list_any ghosts.eq equal_is keys id (sym e)))
  asked_by keys us id false apart here all there back e = λ c.
      let x = from_image (term_at t) keys (term_at t id) (back (term_at t id) c) in
      let in_table : IsIn t x.0 = subst (λ (y : TermId). IsIn t y) x.1.2 (all x.1.0 x.0 x.1.1) in
      let same : x.0 ≡ id = ap numbered (apart x.0.0 id.0 in_table here x.2) in
      false≢true (e ∙ list_any_at (ghosts.eq id) keys x.1.0 x.0 x.1.1 (is_equal id _ (sym (x.1.2 ∙ same))))
    where
      numbered : ℕ → TermId
      numbered n = record { 0 = n }
