-- Numbers that are counted are those of subterms.
use Rattle.std.proofs.Common.{◌≡◌, ℕ, ◌+◌, ◌<◌, ◌≤◌, inl, inr, true, false, List, [], length, get_or, Contains, nat_le, sym, ap, ◌∙◌, subst, arith}
use Rattle.std.proofs.lemmas.List.{length-map, get_or-map, get_or_append_left, get_or_default}
use Rattle.std.proofs.lemmas.List.Elements.{All-contains, Contains-append_left, Contains-get_or}
use Rattle.std.proofs.lemmas.Bool.{cases_lt}
use Rattle.std.proofs.lemmas.Bool.Decides.{nat_tests}
use Rattle.spec_text.proofs.Members.{to_image, from_image}
use Rattle.spec_sorts.specs.Terms.{Term}
use Rattle.spec_sorts.specs.Subterms.{subterms_of}
use Rattle.spec_sorts.specs.Subsets.{arguments_of, AreAmong, IsClosed, AreOnce}
use Rattle.term_core.specs.declared.ids.TermId.{TermId}
use Rattle.term_core.specs.Tables.{TableView, term_at, IsIn, AreIn, clause_at, Shape, shape_term, ShapeFits, AreDifferent}
use Rattle.term_walks.specs.Counting.{no_number, AreNumbersOnce, AddsOnce}
use Rattle.term_core.proofs.TermsClosed.{argument_of, argument_in, term_there}

-- The numbers seen: of the terms and some of their subterms, with the arguments of the first of them.
pub record Counted (t : TableView) (ids seen : List TermId) (done : ℕ) : Type 0 where
  pub there : AreIn t seen
  pub starts : (id : TermId) → Contains ids id → Contains seen id
  pub once : AreNumbersOnce seen
  pub subterms : (id : TermId) → Contains seen id → Contains (subterms_of (clause_at t ids)) (term_at t id)
  pub closed : (k : ℕ) → k < done → k < length seen → AreAmong (arguments_of (term_at t (get_or seen k no_number))) (clause_at t seen)

all_there : (t : TableView) (ids : List TermId) → ((id : TermId) → Contains ids id → IsIn t id) → AreIn t ids
all_there t ids h k d lt = h (get_or ids k d) (Contains-get_or ids k d lt)

-- terms of a number of the list
image : (t : TableView) (seen : List TermId) (id : TermId) → Contains seen id → Contains (clause_at t seen) (term_at t id)
image t seen id c = to_image (term_at t) seen id c

-- the terms of a table's numbers are among its terms
pub clause_there : (t : TableView) (ids : List TermId) → AreIn t ids → AreAmong (clause_at t ids) t.terms
clause_there t ids within u i =
    let h = from_image (term_at t) ids u i in
    subst (Contains t.terms) h.2 (term_there t h.0 (All-contains (λ id. IsIn t id) ids h.0 within h.1))

module _ (t : TableView) (ids : List TermId) (start : AreAmong (clause_at t ids) (subterms_of (clause_at t ids))) (closed : IsClosed (subterms_of (clause_at t ids))) where
  pub counted_start : (seen : List TermId) → AreIn t ids → AddsOnce [] ids seen → Counted t ids seen 0
  counted_start seen within a =
      let from : (id : TermId) → Contains seen id → Contains ids id = λ id c. elim (a.no_others id c) [ inl o ↦ absurd (omega (arith, o.1)) | inr i ↦ i ] in
      record {
        there = all_there t seen (λ id c. All-contains (λ x. IsIn t x) ids id within (from id c));
        starts = a.there;
        once = a.once (λ i j lt lt2 e. absurd (omega (arith, lt)));
        subterms = λ id c. start (term_at t id) (image t ids id (from id c));
        closed = λ k lt. absurd (omega (arith, lt));
      }

  pub counted_more : (seen new : List TermId) (done : ℕ) (d : TermId) (s : Shape) → Counted t ids seen done → done < length seen → term_at t (get_or seen done d) ≡ shape_term t s → ShapeFits t s
      → AddsOnce seen s.arguments new → Counted t ids new (done + 1)
  counted_more seen new done d s c lt means fits a =
      let kept : (id : TermId) → Contains seen id → Contains new id = λ id i. subst (λ l. Contains l id) (sym a.kept) (Contains-append_left seen a.more id i) in
      let same : (k : ℕ) → k < length seen → get_or new k no_number ≡ get_or seen k no_number = λ k lk. ap (λ l. get_or l k no_number) a.kept ∙ get_or_append_left seen a.more no_number k lk in
      let here : Contains seen (get_or seen done d) = Contains-get_or seen done d lt in
      record {
        there = all_there t new (λ id i. elim (a.no_others id i) [ inl o ↦ All-contains (λ x. IsIn t x) seen id c.there o | inr o ↦ All-contains (λ x. IsIn t x) s.arguments id fits.arguments o ]);
        starts = λ id i. kept id (c.starts id i);
        once = a.once c.once;
        subterms = λ id i. elim (a.no_others id i) [
          | inl o ↦ c.subterms id o
          | inr o ↦ closed (term_at t (get_or seen done d)) (c.subterms (get_or seen done d) here) (term_at t id) (subst (λ u. Contains (arguments_of u) (term_at t id)) (sym means) (argument_in t s id o))
        ];
        closed = λ k lk ln u i. elim (cases_lt k done) [
          | inl low ↦
              let before : k < length seen = omega (arith, low, lt) in
              let h = from_image (term_at t) seen u (c.closed k low before u (subst (λ id. Contains (arguments_of (term_at t id)) u) (same k before) i)) in
              subst (Contains (clause_at t new)) h.2 (image t new h.0 (kept h.0 h.1))
          | inr high ↦
              let at : k ≡ done = omega (arith, lk, high) in
              let is : get_or new k no_number ≡ get_or seen done d = ap (λ m. get_or new m no_number) at ∙ same done lt ∙ get_or_default seen done no_number d lt in
              let h = argument_of t s u (subst (λ x. Contains (arguments_of x) u) (ap (term_at t) is ∙ means) i) in
              subst (Contains (clause_at t new)) h.2 (image t new h.0 (a.there h.0 h.1))
        ];
      }

module _ (t : TableView) (ids seen : List TermId) (done : ℕ) (c : Counted t ids seen done) where
  all_seen : AreAmong (clause_at t ids) (clause_at t seen)
  all_seen u i =
      let h = from_image (term_at t) ids u i in
      subst (Contains (clause_at t seen)) h.2 (image t seen h.0 (c.starts h.0 h.1))

  no_others : AreAmong (clause_at t seen) (subterms_of (clause_at t ids))
  no_others u i =
      let h = from_image (term_at t) seen u i in
      subst (Contains (subterms_of (clause_at t ids))) h.2 (c.subterms h.0 h.1)

  seen_closed : length seen ≤ done → IsClosed (clause_at t seen)
  seen_closed all u i v a =
      let h = from_image (term_at t) seen u i in
      let k = h.1.0 in
      let is : term_at t (get_or seen k no_number) ≡ u = ap (term_at t) (get_or_default seen k no_number h.0 h.1.1 ∙ h.1.2) ∙ h.2 in
      c.closed k (omega (arith, h.1.1, all)) h.1.1 v (subst (λ x. Contains (arguments_of x) v) (sym is) a)

  seen_once : AreDifferent t.terms → AreOnce (clause_at t seen)
  seen_once apart i j d lt in_j e =
      let long : length (clause_at t seen) ≡ length seen = length-map seen (term_at t) in
      let lj : j < length seen = omega (arith, in_j, long) in
      let li : i < length seen = omega (arith, lt, lj) in
      let same : term_at t (get_or seen i no_number) ≡ term_at t (get_or seen j no_number) = sym (get_or-map (term_at t) seen i no_number d li) ∙ e ∙ get_or-map (term_at t) seen j no_number d lj in
      let number : get_or seen i no_number ≡ get_or seen j no_number =
      ap (λ n. record { 0 = n }) (apart (get_or seen i no_number).0 (get_or seen j no_number).0 (c.there i no_number li) (c.there j no_number lj) same) in
      omega (arith, lt, c.once i j li lj number)

  module _ (no_fewer : (ts us : List Term) → AreOnce us → AreAmong us (subterms_of ts) → length us ≤ length (subterms_of ts)) (apart : AreDifferent t.terms) where
    -- no more are seen than there are
    seen_fit : length seen ≤ length (subterms_of (clause_at t ids))
    seen_fit = subst (λ n. n ≤ length (subterms_of (clause_at t ids))) (length-map seen (term_at t)) (no_fewer (clause_at t ids) (clause_at t seen) (seen_once apart) no_others)

    -- more numbers than there is room for
    pub too_many : (room : ℕ) → room < length seen → false ≡ nat_le (length (subterms_of (clause_at t ids))) room
    too_many room lt = above (length (subterms_of (clause_at t ids))) (omega (arith, lt, seen_fit))
      where
        above : (n : ℕ) → room < n → false ≡ nat_le n room
        above n h = sym (grind (arith, nat_tests, h))

    -- all subterms are seen
    pub all_counted : (no_more : (ts us : List Term) → AreAmong ts us → IsClosed us → length (subterms_of ts) ≤ length us) (room : ℕ) → length seen ≤ done
        → nat_le (length seen) room ≡ nat_le (length (subterms_of (clause_at t ids))) room
    all_counted no_more room all =
        let fewer : length (subterms_of (clause_at t ids)) ≤ length seen = subst (λ n. length (subterms_of (clause_at t ids)) ≤ n) (length-map seen (term_at t)) (no_more (clause_at t ids) (clause_at t seen) all_seen (seen_closed all)) in
        let same : length seen ≡ length (subterms_of (clause_at t ids)) = omega (arith, fewer, seen_fit) in
        ap (λ n. nat_le n room) same

pub room_for_all : (t : TableView) (ids : List TermId) (room : ℕ) → (no_more : (ts us : List Term) → AreAmong ts us → IsClosed us → length (subterms_of ts) ≤ length us) → AreIn t ids → IsClosed t.terms → length t.terms ≤ room
    → true ≡ nat_le (length (subterms_of (clause_at t ids))) room
room_for_all t ids room no_more within closed le = below (length (subterms_of (clause_at t ids))) (let fewer = no_more (clause_at t ids) t.terms (clause_there t ids within) closed in omega (arith, fewer, le))
  where
    below : (n : ℕ) → n ≤ room → true ≡ nat_le n room
    below n h = sym (grind (arith, nat_tests, h))
