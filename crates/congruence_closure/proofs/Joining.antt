-- What parts keep where two classes are joined.
use Rattle.std.proofs.Common.{◌≡◌, ◌≢◌, ℕ, zero, suc, ◌<◌, ◌==◌, nat_le, true, List, [], ◌∷◌, ◌++◌, ◌↔◌, length, get_or, if◌then◌else◌, inl, inr, ◌⊎◌, refl, sym, ap, ◌∙◌, subst, arith, Option, Some, None}
use Rattle.std.specs.Prelude.{All, Contains}
use Rattle.std.proofs.lemmas.Bool.{cases_eq}
use Rattle.std.proofs.lemmas.Bool.Decides.{nat_tests}
use Rattle.std.proofs.lemmas.List.{get_or-map}
use Rattle.std.proofs.lemmas.List.Elements.{All-cons, Contains-append_left, Contains-append_right}
use Rattle.term_core.specs.declared.ids.TermId.{TermId}
use Rattle.term_core.specs.declared.ids.Lit.{Lit}
use Rattle.term_core.specs.Tables.{Shape}
use Rattle.class_table.specs.Classes.{class_at, members_count, renumbered, joined, AreSame}
use Rattle.class_table.proofs.Joined.{length-joined, joined_same}
use Rattle.explain_forest.specs.declared.types.Edge.{Edge}
use Rattle.explain_forest.specs.declared.types.Label.{Label}
use Rattle.explain_forest.specs.Forest.{Linked, IsBetween}
use Rattle.explain_forest.proofs.Linking.{linked-after}
use Rattle.congruence_relation.specs.Relation.{Facts}
use Rattle.congruence_relation.specs.Edges.{IsEdgeReason}
use Rattle.congruence_closure.specs.Listed.{nth, held_at}
use Rattle.congruence_closure.specs.Keys.{key_of, key_at, holder_at}
use Rattle.congruence_closure.specs.State.{PartsState, IsLive, AreJoint, IsPending, HasKey, IsApart, PartsFit}
use Rattle.congruence_closure.specs.Changes.{ClassAtMost, AreClassUsers, IsWhy, label}
use Rattle.congruence_closure.proofs.Denials.{held_there}
use Rattle.congruence_closure.proofs.Terms.{classes_of, key_same, class_each, term_low, arguments_low, sides_low, states_low}

-- the parts with the classes of two terms joined by an edge, and more to look at
abbrev pub with_edge : PartsState → TermId → TermId → Label → List ℕ → PartsState
with_edge s a b label pending = record {
  facts = s.facts;
  numbers = joined a b s.numbers;
  edges = record { a = a; b = b; label = label } ∷ s.edges;
  keys = s.keys;
  left = record { looked = s.left.looked; given = s.left.given; pending = pending };
}

-- the class of the first term is the one that is renumbered, where it has no more members
joined_is : (numbers : List ℕ) (a b : TermId) → ClassAtMost numbers a b → joined a b numbers ≡ renumbered (class_at numbers a) (class_at numbers b) numbers
joined_is numbers a b le = ap (λ c. if c then renumbered (class_at numbers a) (class_at numbers b) numbers else renumbered (class_at numbers b) (class_at numbers a) numbers) told
  where
    told : nat_le (members_count numbers (class_at numbers a)) (members_count numbers (class_at numbers b)) ≡ true
    told = grind (arith, nat_tests)

-- either no term of a list has a class, or one has
find_class : (numbers : List ℕ) (from : ℕ) (xs : List TermId) → ((a : TermId) → Contains xs a → class_at numbers a ≢ from) ⊎ ((a : TermId) × Contains xs a × (class_at numbers a ≡ from))
find_class numbers from [] = inl (λ a c e. omega (arith, c.1))
find_class numbers from (x ∷ xs) = go (cases_eq (class_at numbers x) from) (find_class numbers from xs)
  where
    go : (class_at numbers x ≡ from) ⊎ (class_at numbers x ≢ from) → ((a : TermId) → Contains xs a → class_at numbers a ≢ from) ⊎ ((a : TermId) × Contains xs a × (class_at numbers a ≡ from))
        → ((a : TermId) → Contains (x ∷ xs) a → class_at numbers a ≢ from) ⊎ ((a : TermId) × Contains (x ∷ xs) a × (class_at numbers a ≡ from))
    go (inl e) r = inr (x, (0, omega arith, refl), e)
    go (inr n) (inr (a, c, e)) = inr (a, (suc c.0, omega (arith, c.1), c.2), e)
    go (inr n) (inl none) = inl (λ a c. at a c.0 c.1 c.2)
      where
        at : (a : TermId) (k : ℕ) → k < length (x ∷ xs) → get_or (x ∷ xs) k a ≡ a → class_at numbers a ≢ from
        at a zero low is = subst (λ (t : TermId). class_at numbers t ≢ from) is n
        at a (suc k) low is = none a (k, omega (arith, low), is)

module _ (s : PartsState) (a b : TermId) (h : PartsFit s) (a_low : a.0 < length s.numbers) (b_low : b.0 < length s.numbers) (apart : AreSame s.numbers a b → ⊥) (smaller : ClassAtMost s.numbers a b) where
  size : length (joined a b s.numbers) ≡ length s.numbers
  size = length-joined s.numbers a b

  -- the class of a term after it
  at : (t : TermId) → t.0 < length s.numbers → class_at (joined a b s.numbers) t ≡ (if class_at s.numbers t == class_at s.numbers a then class_at s.numbers b else class_at s.numbers t)
  at t lt = ap (λ ns. class_at ns t) (joined_is s.numbers a b smaller) ∙ get_or-map (λ c. if c == class_at s.numbers a then class_at s.numbers b else c) s.numbers t.0 0 0 lt

  at_from : (t : TermId) → t.0 < length s.numbers → class_at s.numbers t ≡ class_at s.numbers a → class_at (joined a b s.numbers) t ≡ class_at s.numbers b
  at_from t lt e = at t lt ∙ grind (arith, nat_tests)

  at_other : (t : TermId) → t.0 < length s.numbers → class_at s.numbers t ≢ class_at s.numbers a → class_at (joined a b s.numbers) t ≡ class_at s.numbers t
  at_other t lt n = at t lt ∙ grind (arith, nat_tests)

  same_more : (t u : TermId) → t.0 < length s.numbers → u.0 < length s.numbers → AreSame s.numbers t u → AreSame (joined a b s.numbers) t u
  same_more t u lt lu e = at t lt ∙ ap (λ c. if c == class_at s.numbers a then class_at s.numbers b else c) e ∙ sym (at u lu)

  -- a class that is there after it was there, and is not the first one
  live_before : (t : TermId) → IsLive (joined a b s.numbers) t → IsLive s.numbers t × (t.0 ≢ class_at s.numbers a)
  live_before t (lt, is) = go (cases_eq (class_at s.numbers t) (class_at s.numbers a))
    where
      low : t.0 < length s.numbers
      low = omega (arith, lt, size)

      into_live : class_at s.numbers (record { 0 = class_at s.numbers b }) ≡ class_at s.numbers b
      into_live = (h.joint.live b b_low).1

      go : (class_at s.numbers t ≡ class_at s.numbers a) ⊎ (class_at s.numbers t ≢ class_at s.numbers a) → IsLive s.numbers t × (t.0 ≢ class_at s.numbers a)
      go (inl e) =
          let number : t.0 ≡ class_at s.numbers b = sym is ∙ at_from t low e in
          absurd (apart (sym e ∙ ap (λ k. class_at s.numbers (record { 0 = k })) number ∙ into_live))
      go (inr n) =
          let same : class_at s.numbers t ≡ t.0 = sym (at_other t low n) ∙ is in
          ((low, same), λ e. n (same ∙ e))

  live_after : (t : TermId) → t.0 < length s.numbers → IsLive (joined a b s.numbers) (record { 0 = class_at (joined a b s.numbers) t })
  live_after t lt = go (cases_eq (class_at s.numbers t) (class_at s.numbers a))
    where
      go : (class_at s.numbers t ≡ class_at s.numbers a) ⊎ (class_at s.numbers t ≢ class_at s.numbers a) → IsLive (joined a b s.numbers) (record { 0 = class_at (joined a b s.numbers) t })
      go (inl e) =
          let into = h.joint.live b b_low in
          subst (λ c. IsLive (joined a b s.numbers) (record { 0 = c })) (sym (at_from t lt e))
          (omega (arith, into.0, size), at_other (record { 0 = class_at s.numbers b }) into.0 (λ e. apart (sym (sym into.1 ∙ e))) ∙ into.1)
      go (inr n) =
          let old = h.joint.live t lt in
          subst (λ c. IsLive (joined a b s.numbers) (record { 0 = c })) (sym (at_other t lt n))
          (omega (arith, old.0, size), at_other (record { 0 = class_at s.numbers t }) old.0 (λ e. n (sym old.1 ∙ e)) ∙ old.1)

  -- classes and edges say the same still
  joint_after : (label : Label) → AreJoint (joined a b s.numbers) (record { a = a; b = b; label = label } ∷ s.edges)
  joint_after label = record {
    live = λ t lt. live_after t (omega (arith, lt, size));
    ends = All-cons (λ (e : Edge). (e.a.0 < length (joined a b s.numbers)) × (e.b.0 < length (joined a b s.numbers))) (record { a = a; b = b; label = label }) s.edges
        (omega (arith, a_low, size), omega (arith, b_low, size))
        (λ k d lt. (omega (arith, (h.joint.ends k d lt).0, size), omega (arith, (h.joint.ends k d lt).1, size)));
    agree = λ t u lt lu. agree t u (omega (arith, lt, size)) (omega (arith, lu, size));
  }
    where
      agree : (t u : TermId) → t.0 < length s.numbers → u.0 < length s.numbers → Linked (record { a = a; b = b; label = label } ∷ s.edges) t.0 u.0 ↔ AreSame (joined a b s.numbers) t u
      agree t u lt lu = (λ p. j.1 (there (l.0 p)), λ p. l.1 (back (j.0 p)))
        where
          l : Linked (record { a = a; b = b; label = label } ∷ s.edges) t.0 u.0 ↔ (Linked s.edges t.0 u.0 ⊎ IsBetween s.edges (record { a = a; b = b; label = label }) t.0 u.0)
          l = linked-after (record { a = a; b = b; label = label }) s.edges t.0 u.0

          j : AreSame (joined a b s.numbers) t u ↔ (AreSame s.numbers t u ⊎ (AreSame s.numbers t a × AreSame s.numbers u b) ⊎ (AreSame s.numbers t b × AreSame s.numbers u a))
          j = joined_same s.numbers a b t u lt lu

          there : Linked s.edges t.0 u.0 ⊎ IsBetween s.edges (record { a = a; b = b; label = label }) t.0 u.0 → AreSame s.numbers t u ⊎ (AreSame s.numbers t a × AreSame s.numbers u b) ⊎ (AreSame s.numbers t b × AreSame s.numbers u a)
          there (inl p) = inl ((h.joint.agree t u lt lu).0 p)
          there (inr (inl p)) = inr (inl ((h.joint.agree t a lt a_low).0 p.0, sym ((h.joint.agree b u b_low lu).0 p.1)))
          there (inr (inr p)) = inr (inr ((h.joint.agree t b lt b_low).0 p.0, sym ((h.joint.agree a u a_low lu).0 p.1)))

          back : AreSame s.numbers t u ⊎ (AreSame s.numbers t a × AreSame s.numbers u b) ⊎ (AreSame s.numbers t b × AreSame s.numbers u a) → Linked s.edges t.0 u.0 ⊎ IsBetween s.edges (record { a = a; b = b; label = label }) t.0 u.0
          back (inl p) = inl ((h.joint.agree t u lt lu).1 p)
          back (inr (inl p)) = inr (inl ((h.joint.agree t a lt a_low).1 p.0, (h.joint.agree b u b_low lu).1 (sym p.1)))
          back (inr (inr p)) = inr (inr ((h.joint.agree t b lt b_low).1 p.0, (h.joint.agree a u a_low lu).1 (sym p.1)))

  -- a term whose arguments are in other classes has the key that it had
  key_kept : (i : ℕ) → i < length s.facts.listed → ((t : TermId) → Contains (nth s.facts.listed i).shape.arguments t → class_at s.numbers t ≢ class_at s.numbers a)
      → key_of (joined a b s.numbers) (nth s.facts.listed i).shape ≡ key_of s.numbers (nth s.facts.listed i).shape
  key_kept i lt none = key_same s.numbers (joined a b s.numbers) (nth s.facts.listed i).shape
      (λ t c. at_other t (subst (λ (u : TermId). u.0 < length s.numbers) c.2 (arguments_low s h i lt c.0 t c.1)) (none t c))

  present_after : (k : ℕ) → k < length s.keys.shapes → All (IsLive (joined a b s.numbers)) (key_at s.keys k).arguments
      → key_at s.keys k ≡ key_of (joined a b s.numbers) (nth s.facts.listed (holder_at s.keys k)).shape
  present_after k lt live =
      let both : All (λ (t : TermId). IsLive s.numbers t × (t.0 ≢ class_at s.numbers a)) (key_at s.keys k).arguments = λ j d low. live_before (get_or (key_at s.keys k).arguments j d) (live j d low) in
      let is = h.keys.present k lt (λ j d low. (both j d low).0) in
      let others : All (λ (t : TermId). t.0 ≢ class_at s.numbers a) (classes_of s.numbers (nth s.facts.listed (holder_at s.keys k)).shape.arguments)
      = subst (λ (x : Shape). All (λ (t : TermId). t.0 ≢ class_at s.numbers a) x.arguments) is (λ j d low. (both j d low).1) in
      is ∙ sym (key_kept (holder_at s.keys k) (h.keys.holders k lt)
      (λ t c. class_each (λ (u : TermId). u.0 ≢ class_at s.numbers a) s.numbers (nth s.facts.listed (holder_at s.keys k)).shape.arguments others t c))

  module _ (label : Label) (pending more : List ℕ) (is : pending ≡ s.left.pending ++ more) (users : AreClassUsers s.facts.listed s.numbers a more)
      (reason : IsEdgeReason s.facts s.edges (record { a = a; b = b; label = label }) label) where
    abbrev next : PartsState
    next = with_edge s a b label pending

    still : (i : ℕ) → IsPending s.left i → IsPending (record { looked = s.left.looked; given = s.left.given; pending = pending }) i
    still i (inl past) = inl past
    still i (inr c) = inr (subst (λ xs. Contains xs i) (sym is) (Contains-append_left s.left.pending more i c))

    ready_after : (i : ℕ) → i < length s.facts.listed → (nth s.facts.listed i).takes_part ≡ true → IsPending s.left i ⊎ (HasKey s i × IsApart s i)
        → IsPending (record { looked = s.left.looked; given = s.left.given; pending = pending }) i ⊎ (HasKey (with_edge s a b label pending) i × IsApart (with_edge s a b label pending) i)
    ready_after i lt part (inl p) = inl (still i p)
    ready_after i lt part (inr (k, sides)) = go (find_class s.numbers (class_at s.numbers a) (nth s.facts.listed i).shape.arguments)
      where
        go : ((t : TermId) → Contains (nth s.facts.listed i).shape.arguments t → class_at s.numbers t ≢ class_at s.numbers a)
            ⊎ ((t : TermId) × Contains (nth s.facts.listed i).shape.arguments t × (class_at s.numbers t ≡ class_at s.numbers a))
            → IsPending (record { looked = s.left.looked; given = s.left.given; pending = pending }) i ⊎ (HasKey (with_edge s a b label pending) i × IsApart (with_edge s a b label pending) i)
        go (inr (t, c, e)) =
            let low : t.0 < length s.numbers = subst (λ (u : TermId). u.0 < length s.numbers) c.2 (arguments_low s h i lt c.0 t c.1) in
            inl (inr (subst (λ xs. Contains xs i) (sym is) (Contains-append_right s.left.pending more i (users i t lt part c low e))))
        go (inl none) = inr (
          record {
            at = k.at;
            there = k.there;
            is = k.is ∙ sym (key_kept i lt none);
            same = same_more (nth s.facts.listed (holder_at s.keys k.at)).term (nth s.facts.listed i).term (term_low s h (holder_at s.keys k.at) (h.keys.holders k.at k.there)) (term_low s h i lt) k.same;
          },
          λ j c d low is_denied shape same.
              let in_range = sides_low s h i c d lt shape in
              let first = subst (λ (x : Shape). Contains x.arguments c) (sym shape) (0, omega arith, refl) in
              let second = subst (λ (x : Shape). Contains x.arguments d) (sym shape) (1, omega arith, refl) in
              sides j c d low is_denied shape (sym (at_other c in_range.0 (none c first)) ∙ same ∙ at_other d in_range.1 (none d second)),
        )

    pub kept_joined : PartsFit (with_edge s a b label pending)
    kept_joined = record {
      order = h.order;
      there = record { true_in = omega (arith, h.there.true_in, size); false_in = omega (arith, h.there.false_in, size); terms = λ k d lt. omega (arith, h.there.terms k d lt, size) };
      joint = joint_after label;
      reasons = (reason, h.reasons);
      keys = record {
        keys = h.keys.keys;
        holders = h.keys.holders;
        parts = h.keys.parts;
        low = λ k lt j d low. omega (arith, h.keys.low k lt j d low, size);
        present = present_after;
      };
      looked = h.looked;
      given = h.given;
      ready = λ i lt part. ready_after i lt part (h.ready i lt part);
      stated = λ j c d lt states.
          let low = states_low s h (held_at s.facts.held j) c d (held_there s.facts.held j (omega (arith, lt, h.given))) states in
          same_more c d low.0 low.1 (h.stated j c d lt states);
    }

-- why two terms are equal is a reason for an edge with that label
pub why_reason : (f : Facts) (es : List Edge) (why : Option Lit) (a b : TermId) → IsWhy f es why a b → IsEdgeReason f es (record { a = a; b = b; label = label why a b }) (label why a b)
why_reason f es (Some l) a b w = w
why_reason f es None a b w = (refl, refl, w)

-- and the other way round
pub why_turned : (f : Facts) (es : List Edge) (why : Option Lit) (a b : TermId) → IsWhy f es why a b → IsWhy f es why b a
why_turned f es (Some l) a b (there, inl s) = (there, inr s)
why_turned f es (Some l) a b (there, inr s) = (there, inl s)
why_turned f es None a b m = record {
  one = m.other;
  other = m.one;
  one_there = m.other_there;
  other_there = m.one_there;
  one_part = m.other_part;
  other_part = m.one_part;
  one_is = m.other_is;
  other_is = m.one_is;
  heads = sym m.heads;
  arguments = sym m.arguments;
}
