-- What parts keep where a key is put, and where something is done.
use Rattle.std.proofs.Common.{◌≡◌, ℕ, zero, suc, ◌+◌, ◌<◌, ◌≤◌, true, List, ◌∷◌, ◌++◌, length, get_or, inl, inr, ◌⊎◌, refl, sym, ap, ◌∙◌, subst, arith}
use Rattle.std.specs.Prelude.{All, Contains}
use Rattle.std.proofs.lemmas.Bool.{cases_eq}
use Rattle.std.proofs.lemmas.List.{length_push}
use Rattle.std.proofs.lemmas.List.Elements.{Contains-append_left}
use Rattle.term_core.specs.declared.ids.TermId.{TermId}
use Rattle.term_core.specs.Tables.{Shape}
use Rattle.class_table.specs.Classes.{class_at, AreSame}
use Rattle.congruence_relation.specs.Relation.{StatesEqual}
use Rattle.congruence_closure.specs.Listed.{nth, held_at}
use Rattle.congruence_closure.specs.Keys.{Keys, key_of, key_at, holder_at, with_key, IsAbsent, IsHeld}
use Rattle.congruence_closure.specs.State.{PartsState, Left, IsLive, IsPending, HasKey, IsApart, PartsFit}
use Rattle.congruence_closure.specs.Changes.{IsGiven}
use Rattle.congruence_closure.proofs.Denials.{places}
use Rattle.congruence_closure.proofs.Keys.{keys_more, key_before, key_last, holder_before, holder_last}
use Rattle.congruence_closure.proofs.Terms.{each_class, arguments_low}

-- the parts with other keys
abbrev pub with_keys : PartsState → Keys → PartsState
with_keys s keys = record { facts = s.facts; numbers = s.numbers; edges = s.edges; keys = keys; left = s.left }

-- the parts with something else left to do
abbrev pub with_left : PartsState → Left → PartsState
with_left s left = record { facts = s.facts; numbers = s.numbers; edges = s.edges; keys = s.keys; left = left }

-- the arguments of a key are numbers of classes
pub key_low : (s : PartsState) → PartsFit s → (i : ℕ) → i < length s.facts.listed → All (IsLive s.numbers) (key_of s.numbers (nth s.facts.listed i).shape).arguments
key_low s h i lt = each_class (IsLive s.numbers) s.numbers (nth s.facts.listed i).shape.arguments
    (λ a c. h.joint.live a (subst (λ (t : TermId). t.0 < length s.numbers) c.2 (arguments_low s h i lt c.0 a c.1)))

-- a key that was absent is put, with its term
module _ (s : PartsState) (i : ℕ) (h : PartsFit s) (there : i < length s.facts.listed) (absent : IsAbsent s.keys (key_of s.numbers (nth s.facts.listed i).shape)) (taken : (nth s.facts.listed i).takes_part ≡ true) where
  pub kept_key : PartsFit (with_keys s (with_key s.keys (key_of s.numbers (nth s.facts.listed i).shape) i))
  kept_key = record {
    order = h.order;
    there = h.there;
    joint = h.joint;
    reasons = h.reasons;
    keys = record {
      keys = keys_more s.keys (key_of s.numbers (nth s.facts.listed i).shape) i h.keys.keys absent;
      holders = λ k lt. holder k (places s.keys.shapes (key_of s.numbers (nth s.facts.listed i).shape) k lt);
      parts = λ k lt. part k (places s.keys.shapes (key_of s.numbers (nth s.facts.listed i).shape) k lt);
      low = λ k lt. low k (places s.keys.shapes (key_of s.numbers (nth s.facts.listed i).shape) k lt);
      present = λ k lt live. present k (places s.keys.shapes (key_of s.numbers (nth s.facts.listed i).shape) k lt) live;
    };
    looked = h.looked;
    given = h.given;
    ready = λ j lt p. go j (h.ready j lt p);
    stated = h.stated;
  }
    where
      key : Shape
      key = key_of s.numbers (nth s.facts.listed i).shape

      holder : (k : ℕ) → (k < length s.keys.shapes) ⊎ (k ≡ length s.keys.shapes) → holder_at (with_key s.keys (key_of s.numbers (nth s.facts.listed i).shape) i) k < length s.facts.listed
      holder k (inl a) = subst (λ n. n < length s.facts.listed) (sym (holder_before s.keys (key_of s.numbers (nth s.facts.listed i).shape) i k h.keys.keys a)) (h.keys.holders k a)
      holder k (inr a) = subst (λ n. n < length s.facts.listed) (sym (holder_last s.keys (key_of s.numbers (nth s.facts.listed i).shape) i k h.keys.keys a)) there

      part : (k : ℕ) → (k < length s.keys.shapes) ⊎ (k ≡ length s.keys.shapes) → (nth s.facts.listed (holder_at (with_key s.keys (key_of s.numbers (nth s.facts.listed i).shape) i) k)).takes_part ≡ true
      part k (inl a) = subst (λ n. (nth s.facts.listed n).takes_part ≡ true) (sym (holder_before s.keys (key_of s.numbers (nth s.facts.listed i).shape) i k h.keys.keys a)) (h.keys.parts k a)
      part k (inr a) = subst (λ n. (nth s.facts.listed n).takes_part ≡ true) (sym (holder_last s.keys (key_of s.numbers (nth s.facts.listed i).shape) i k h.keys.keys a)) taken

      low : (k : ℕ) → (k < length s.keys.shapes) ⊎ (k ≡ length s.keys.shapes) → All (λ (a : TermId). a.0 < length s.numbers) (key_at (with_key s.keys (key_of s.numbers (nth s.facts.listed i).shape) i) k).arguments
      low k (inl a) = subst (λ (x : Shape). All (λ (a : TermId). a.0 < length s.numbers) x.arguments) (sym (key_before s.keys (key_of s.numbers (nth s.facts.listed i).shape) i k a)) (h.keys.low k a)
      low k (inr a) = subst (λ (x : Shape). All (λ (a : TermId). a.0 < length s.numbers) x.arguments) (sym (key_last s.keys (key_of s.numbers (nth s.facts.listed i).shape) i k a)) (λ j d b. (key_low s h i there j d b).0)

      present : (k : ℕ) → (k < length s.keys.shapes) ⊎ (k ≡ length s.keys.shapes) → All (IsLive s.numbers) (key_at (with_key s.keys (key_of s.numbers (nth s.facts.listed i).shape) i) k).arguments
          → key_at (with_key s.keys (key_of s.numbers (nth s.facts.listed i).shape) i) k
          ≡ key_of s.numbers (nth s.facts.listed (holder_at (with_key s.keys (key_of s.numbers (nth s.facts.listed i).shape) i) k)).shape
      present k (inl a) live = key_before s.keys (key_of s.numbers (nth s.facts.listed i).shape) i k a
          ∙ h.keys.present k a (subst (λ (x : Shape). All (IsLive s.numbers) x.arguments) (key_before s.keys (key_of s.numbers (nth s.facts.listed i).shape) i k a) live)
          ∙ ap (λ n. key_of s.numbers (nth s.facts.listed n).shape) (sym (holder_before s.keys (key_of s.numbers (nth s.facts.listed i).shape) i k h.keys.keys a))
      present k (inr a) live = key_last s.keys (key_of s.numbers (nth s.facts.listed i).shape) i k a
          ∙ ap (λ n. key_of s.numbers (nth s.facts.listed n).shape) (sym (holder_last s.keys (key_of s.numbers (nth s.facts.listed i).shape) i k h.keys.keys a))

      go : (j : ℕ) → IsPending s.left j ⊎ (HasKey s j × IsApart s j)
          → IsPending s.left j ⊎ (HasKey (with_keys s (with_key s.keys (key_of s.numbers (nth s.facts.listed i).shape) i)) j × IsApart (with_keys s (with_key s.keys (key_of s.numbers (nth s.facts.listed i).shape) i)) j)
      go j (inl p) = inl p
      go j (inr (k, apart)) = inr (
        record {
          at = k.at;
          there = omega (arith, k.there, length_push s.keys.shapes (key_of s.numbers (nth s.facts.listed i).shape));
          is = key_before s.keys (key_of s.numbers (nth s.facts.listed i).shape) i k.at k.there ∙ k.is;
          same = ap (λ n. class_at s.numbers (nth s.facts.listed n).term) (holder_before s.keys (key_of s.numbers (nth s.facts.listed i).shape) i k.at h.keys.keys k.there) ∙ k.same;
        },
        apart,
      )

  -- so the term has its key
  pub has_new_key : HasKey (with_keys s (with_key s.keys (key_of s.numbers (nth s.facts.listed i).shape) i)) i
  has_new_key = record {
    at = length s.keys.shapes;
    there = omega (arith, length_push s.keys.shapes (key_of s.numbers (nth s.facts.listed i).shape));
    is = key_last s.keys (key_of s.numbers (nth s.facts.listed i).shape) i (length s.keys.shapes) refl;
    same = ap (λ n. class_at s.numbers (nth s.facts.listed n).term) (holder_last s.keys (key_of s.numbers (nth s.facts.listed i).shape) i (length s.keys.shapes) h.keys.keys refl);
  }

-- a holder of the same key is listed, and has this key
pub holder_listed : (s : PartsState) → PartsFit s → (i holder : ℕ) → IsHeld s.keys (key_of s.numbers (nth s.facts.listed i).shape) holder → holder < length s.facts.listed
holder_listed s h i holder (k, lt, key, is) = subst (λ n. n < length s.facts.listed) is (h.keys.holders k lt)

-- which takes part
pub holder_part : (s : PartsState) → PartsFit s → (i holder : ℕ) → IsHeld s.keys (key_of s.numbers (nth s.facts.listed i).shape) holder → (nth s.facts.listed holder).takes_part ≡ true
holder_part s h i holder (k, lt, key, is) = subst (λ n. (nth s.facts.listed n).takes_part ≡ true) is (h.keys.parts k lt)

pub holder_key : (s : PartsState) → PartsFit s → (i holder : ℕ) → i < length s.facts.listed → IsHeld s.keys (key_of s.numbers (nth s.facts.listed i).shape) holder
    → key_of s.numbers (nth s.facts.listed i).shape ≡ key_of s.numbers (nth s.facts.listed holder).shape
holder_key s h i holder there (k, lt, key, is) =
    sym key ∙ h.keys.present k lt (subst (λ (x : Shape). All (IsLive s.numbers) x.arguments) (sym key) (key_low s h i there)) ∙ ap (λ n. key_of s.numbers (nth s.facts.listed n).shape) is

-- one that is in the same class has the key for both
pub has_held_key : (s : PartsState) (i holder : ℕ) → IsHeld s.keys (key_of s.numbers (nth s.facts.listed i).shape) holder → AreSame s.numbers (nth s.facts.listed i).term (nth s.facts.listed holder).term → HasKey s i
has_held_key s i holder (k, lt, key, is) same = record { at = k; there = lt; is = key; same = ap (λ n. class_at s.numbers (nth s.facts.listed n).term) is ∙ sym same }

-- ---- something is done

-- more is to be looked at
pub kept_more : (s : PartsState) (pending more : List ℕ) → PartsFit s → pending ≡ s.left.pending ++ more → PartsFit (with_left s (record { looked = s.left.looked; given = s.left.given; pending = pending }))
kept_more s pending more h is = record {
  order = h.order;
  there = h.there;
  joint = h.joint;
  reasons = h.reasons;
  keys = record { keys = h.keys.keys; holders = h.keys.holders; parts = h.keys.parts; low = h.keys.low; present = h.keys.present };
  looked = h.looked;
  given = h.given;
  ready = λ i lt part. go i (h.ready i lt part);
  stated = h.stated;
}
  where
    go : (i : ℕ) → IsPending s.left i ⊎ (HasKey s i × IsApart s i) → IsPending (record { looked = s.left.looked; given = s.left.given; pending = pending }) i
        ⊎ (HasKey (with_left s (record { looked = s.left.looked; given = s.left.given; pending = pending })) i × IsApart (with_left s (record { looked = s.left.looked; given = s.left.given; pending = pending })) i)
    go i (inl (inl past)) = inl (inl past)
    go i (inl (inr c)) = inl (inr (subst (λ xs. Contains xs i) (sym is) (Contains-append_left s.left.pending more i c)))
    go i (inr (k, apart)) = inr (record { at = k.at; there = k.there; is = k.is; same = k.same }, apart)

-- what is no more to be looked at is ready
pub kept_done : (s : PartsState) (looked : ℕ) (pending : List ℕ) → PartsFit s → looked ≤ length s.facts.listed
    → ((i : ℕ) → i < length s.facts.listed → (nth s.facts.listed i).takes_part ≡ true → IsPending s.left i → IsPending (record { looked = looked; given = s.left.given; pending = pending }) i ⊎ (HasKey s i × IsApart s i))
    → PartsFit (with_left s (record { looked = looked; given = s.left.given; pending = pending }))
kept_done s looked pending h low next = record {
  order = h.order;
  there = h.there;
  joint = h.joint;
  reasons = h.reasons;
  keys = record { keys = h.keys.keys; holders = h.keys.holders; parts = h.keys.parts; low = h.keys.low; present = h.keys.present };
  looked = low;
  given = h.given;
  ready = λ i lt part. go i lt part (h.ready i lt part);
  stated = h.stated;
}
  where
    over : (i : ℕ) → HasKey s i × IsApart s i → HasKey (with_left s (record { looked = looked; given = s.left.given; pending = pending })) i × IsApart (with_left s (record { looked = looked; given = s.left.given; pending = pending })) i
    over i (k, apart) = (record { at = k.at; there = k.there; is = k.is; same = k.same }, apart)

    go : (i : ℕ) → i < length s.facts.listed → (nth s.facts.listed i).takes_part ≡ true → IsPending s.left i ⊎ (HasKey s i × IsApart s i) → IsPending (record { looked = looked; given = s.left.given; pending = pending }) i
        ⊎ (HasKey (with_left s (record { looked = looked; given = s.left.given; pending = pending })) i × IsApart (with_left s (record { looked = looked; given = s.left.given; pending = pending })) i)
    go i lt part (inr r) = inr (over i r)
    go i lt part (inl p) = after (next i lt part p)
      where
        after : IsPending (record { looked = looked; given = s.left.given; pending = pending }) i ⊎ (HasKey s i × IsApart s i) → IsPending (record { looked = looked; given = s.left.given; pending = pending }) i
            ⊎ (HasKey (with_left s (record { looked = looked; given = s.left.given; pending = pending })) i × IsApart (with_left s (record { looked = looked; given = s.left.given; pending = pending })) i)
        after (inl q) = inl q
        after (inr r) = inr (over i r)

-- the next listed term was looked at
pub kept_looked : (s : PartsState) → PartsFit s → s.left.looked < length s.facts.listed → ((nth s.facts.listed s.left.looked).takes_part ≡ true → HasKey s s.left.looked × IsApart s s.left.looked)
    → PartsFit (with_left s (record { looked = s.left.looked + 1; given = s.left.given; pending = s.left.pending }))
kept_looked s h lt ready = kept_done s (s.left.looked + 1) s.left.pending h (omega (arith, lt)) next
  where
    next : (i : ℕ) → i < length s.facts.listed → (nth s.facts.listed i).takes_part ≡ true → IsPending s.left i → IsPending (record { looked = s.left.looked + 1; given = s.left.given; pending = s.left.pending }) i ⊎ (HasKey s i × IsApart s i)
    next i low part (inr c) = inl (inr c)
    next i low part (inl past) = elim (cases_eq i s.left.looked) [
      | inl same ↦ inr (subst (λ n. HasKey s n × IsApart s n) (sym same) (ready (subst (λ n. (nth s.facts.listed n).takes_part ≡ true) same part)))
      | inr other ↦ inl (inl (omega (arith, past, other)))
    ]

-- the first of those to look at again was looked at, or is no more listed
pub kept_next : (s : PartsState) (first : ℕ) (pending : List ℕ) → PartsFit s → s.left.pending ≡ first ∷ pending → (first < length s.facts.listed → (nth s.facts.listed first).takes_part ≡ true → HasKey s first × IsApart s first)
    → PartsFit (with_left s (record { looked = s.left.looked; given = s.left.given; pending = pending }))
kept_next s first pending h is ready = kept_done s s.left.looked pending h h.looked next
  where
    next : (i : ℕ) → i < length s.facts.listed → (nth s.facts.listed i).takes_part ≡ true → IsPending s.left i → IsPending (record { looked = s.left.looked; given = s.left.given; pending = pending }) i ⊎ (HasKey s i × IsApart s i)
    next i low part (inl past) = inl (inl past)
    next i low part (inr c) = go (subst (λ xs. Contains xs i) is c)
      where
        at : (k : ℕ) → k < length (first ∷ pending) → get_or (first ∷ pending) k i ≡ i → IsPending (record { looked = s.left.looked; given = s.left.given; pending = pending }) i ⊎ (HasKey s i × IsApart s i)
        at zero lt e = inr (subst (λ n. HasKey s n × IsApart s n) e (ready (subst (λ n. n < length s.facts.listed) (sym e) low) (subst (λ n. (nth s.facts.listed n).takes_part ≡ true) (sym e) part)))
        at (suc k) lt e = inl (inr (k, omega (arith, lt), e))

        go : Contains (first ∷ pending) i → IsPending (record { looked = s.left.looked; given = s.left.given; pending = pending }) i ⊎ (HasKey s i × IsApart s i)
        go (k, lt, e) = at k lt e

-- the next literal was given
pub kept_given : (s : PartsState) → PartsFit s → s.left.given < length s.facts.held → IsGiven s (held_at s.facts.held s.left.given)
    → PartsFit (with_left s (record { looked = s.left.looked; given = s.left.given + 1; pending = s.left.pending }))
kept_given s h lt g = record {
  order = h.order;
  there = h.there;
  joint = h.joint;
  reasons = h.reasons;
  keys = record { keys = h.keys.keys; holders = h.keys.holders; parts = h.keys.parts; low = h.keys.low; present = h.keys.present };
  looked = h.looked;
  given = omega (arith, lt);
  ready = λ i low part. go i low part (h.ready i low part);
  stated = λ j a b below states. elim (cases_eq j s.left.given) [
    | inl same ↦ g.stated a b (subst (λ k. StatesEqual s.facts (held_at s.facts.held k) a b) same states)
    | inr other ↦ h.stated j a b (omega (arith, below, other)) states
  ];
}
  where
    go : (i : ℕ) → i < length s.facts.listed → (nth s.facts.listed i).takes_part ≡ true → IsPending s.left i ⊎ (HasKey s i × IsApart s i) → IsPending (record { looked = s.left.looked; given = s.left.given + 1; pending = s.left.pending }) i
        ⊎ (HasKey (with_left s (record { looked = s.left.looked; given = s.left.given + 1; pending = s.left.pending })) i × IsApart (with_left s (record { looked = s.left.looked; given = s.left.given + 1; pending = s.left.pending })) i)
    go i low part (inl p) = inl p
    go i low part (inr (k, apart)) = inr (
      record { at = k.at; there = k.there; is = k.is; same = k.same },
      λ j a b below is shape same. elim (cases_eq j s.left.given) [
        | inl last ↦ g.apart i a b low part (sym (ap (held_at s.facts.held) last) ∙ is) shape same
        | inr other ↦ apart j a b (omega (arith, below, other)) is shape same
      ],
    )
