-- How many different terms the numbers mean that were seen.
use Rattle.std.proofs.Common.{◌≡◌, ◌<◌, inl, inr, List, [], length, get_or, Contains, sym, ap, ◌∙◌, subst, arith}
use Rattle.std.proofs.lemmas.List.{length-map, get_or-map}
use Rattle.std.proofs.lemmas.List.Elements.{All-contains, Contains-get_or}
use Rattle.std.proofs.lemmas.Bool.Decides.{same_from_decides, Decides-like}
use Rattle.std.proofs.lemmas.Map.Made.{is_member-Decides, IsDistinct-from_AllPairs, length-from_keys}
use Rattle.spec_text.proofs.Members.{to_image, from_image}
use Rattle.spec_sorts.specs.Terms.{Term}
use Rattle.spec_sorts.specs.Subsets.{AreOnce}
use Rattle.spec_sorts.proofs.SameTerms.{terms_decide, terms_equivalence}
use Rattle.term_core.specs.declared.ids.TermId.{TermId}
use Rattle.term_core.specs.Tables.{TableView, term_at, IsIn, AreIn, clause_at, AreDifferent}
use Rattle.term_walks.specs.Counting.{no_number, AddsOnce}
use Rattle.sort_check.specs.TooMany.{different}

-- each number that was seen is one of these
seen_before : (ids keys : List TermId) → AddsOnce [] ids keys → (id : TermId) → Contains keys id → Contains ids id
seen_before ids keys a id c = elim (a.no_others id c) [ inl o ↦ absurd (omega (arith, o.1)) | inr i ↦ i ]

keys_there : (t : TableView) (ids keys : List TermId) → AreIn t ids → AddsOnce [] ids keys → AreIn t keys
keys_there t ids keys there a k d lt = All-contains (λ x. IsIn t x) ids (get_or keys k d) there (seen_before ids keys a (get_or keys k d) (Contains-get_or keys k d lt))

keys_once : (t : TableView) (ids keys : List TermId) → AreDifferent t.terms → AreIn t ids → AddsOnce [] ids keys → AreOnce (clause_at t keys)
keys_once t ids keys apart within a i j d lt in_j e =
    let there : AreIn t keys = keys_there t ids keys within a in
    let long : length (clause_at t keys) ≡ length keys = length-map keys (term_at t) in
    let lj : j < length keys = omega (arith, in_j, long) in
    let li : i < length keys = omega (arith, lt, lj) in
    let same : term_at t (get_or keys i no_number) ≡ term_at t (get_or keys j no_number) = sym (get_or-map (term_at t) keys i no_number d li) ∙ e ∙ get_or-map (term_at t) keys j no_number d lj in
    let number : get_or keys i no_number ≡ get_or keys j no_number =
    ap (λ n. record { 0 = n }) (apart (get_or keys i no_number).0 (get_or keys j no_number).0 (there i no_number li) (there j no_number lj) same) in
    omega (arith, lt, a.once (λ x y lx ly q. absurd (omega (arith, lx))) i j li lj number)

-- the numbers that were seen are as many as the different terms
pub seen_are_different : (t : TableView) (ids keys : List TermId) → AreDifferent t.terms → AreIn t ids → AddsOnce [] ids keys → length keys ≡ different (clause_at t ids)
seen_are_different t ids keys apart within a =
    sym (length-map keys (term_at t))
    ∙ length-from_keys terms_equivalence (clause_at t keys) (clause_at t ids) (IsDistinct-from_AllPairs terms_decide (clause_at t keys) (keys_once t ids keys apart within a))
    (λ q. same_from_decides _ _ (is_member-Decides terms_decide (clause_at t keys) q) (Decides-like _ (into q) (back q) (is_member-Decides terms_decide (clause_at t ids) q)))
  where
    into : (q : Term) → Contains (clause_at t ids) q → Contains (clause_at t keys) q
    into q c = let h = from_image (term_at t) ids q c in subst (Contains (clause_at t keys)) h.2 (to_image (term_at t) keys h.0 (a.there h.0 h.1))

    back : (q : Term) → Contains (clause_at t keys) q → Contains (clause_at t ids) q
    back q c = let h = from_image (term_at t) keys q c in subst (Contains (clause_at t ids)) h.2 (to_image (term_at t) ids h.0 (seen_before ids keys a h.0 h.1))
