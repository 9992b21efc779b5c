-- What parts keep where terms come, a term is listed, or a literal is held.
use Rattle.std.proofs.Common.{◌≡◌, ℕ, ◌<◌, ◌≤◌, true, List, [], ◌∷◌, ◌++◌, ◌↔◌, length, get_or, inl, inr, ◌⊎◌, refl, sym, ap, ◌∙◌, subst, arith}
use Rattle.std.specs.Prelude.{All, Contains}
use Rattle.std.proofs.lemmas.Bool.{cases_lt}
use Rattle.std.proofs.lemmas.List.{length_push, get_or_append_left, get_or_push}
use Rattle.std.proofs.lemmas.List.Elements.{All-push, Contains-append_left, Contains-push_cases}
use Rattle.term_core.specs.declared.ids.TermId.{TermId}
use Rattle.term_core.specs.declared.ids.Lit.{Lit}
use Rattle.class_table.specs.Classes.{class_at, with_terms, AreSame}
use Rattle.class_table.proofs.Joined.{length-with_terms, others_kept, added_alone}
use Rattle.explain_forest.specs.declared.types.Edge.{Edge}
use Rattle.explain_forest.specs.Forest.{root, Linked}
use Rattle.congruence_relation.specs.declared.Truths.{Truths}
use Rattle.congruence_relation.specs.Relation.{Application, Facts, IsEquality, StatesEqual, decides, equates}
use Rattle.congruence_relation.proofs.More.{reasons_more}
use Rattle.congruence_closure.specs.Closure.{denial}
use Rattle.congruence_closure.specs.Listed.{nth, no_application, held_at, IsListed}
use Rattle.congruence_closure.specs.Keys.{key_of, key_at, holder_at}
use Rattle.congruence_closure.specs.State.{PartsState, IsLive, AreJoint, IsPending, HasKey, IsApart, PartsFit, no_facts, with_listed, with_held}
use Rattle.congruence_closure.proofs.Denials.{places, held_before, held_there, once_push}
use Rattle.congruence_closure.proofs.Terms.{key_same, term_low, arguments_low, sides_low, held_listed, states_low, root_past, root_below}

-- the parts with other class numbers
abbrev pub with_numbers : PartsState → List ℕ → PartsState
with_numbers s numbers = record { facts = s.facts; numbers = numbers; edges = s.edges; keys = s.keys; left = s.left }

-- the parts about other facts
abbrev pub with_facts : PartsState → Facts → PartsState
with_facts s f = record { facts = f; numbers = s.numbers; edges = s.edges; keys = s.keys; left = s.left }

-- ---- terms come, each alone

module _ (numbers : List ℕ) (es : List Edge) (count : ℕ) (joint : AreJoint numbers es) where
  grown_length : length numbers ≤ length (with_terms count numbers)
  grown_length = omega (arith, length-with_terms numbers count)

  grown_alone : (t : TermId) → length numbers ≤ t.0 → t.0 < length (with_terms count numbers) → class_at (with_terms count numbers) t ≡ t.0
  grown_alone t past lt = added_alone numbers count t past (omega (arith, past, lt, length-with_terms numbers count))

  pub joint_grown : AreJoint (with_terms count numbers) es
  joint_grown = record {
    live = λ t lt. live t lt (cases_lt t.0 (length numbers));
    ends = λ k d lt. (omega (arith, (joint.ends k d lt).0, grown_length), omega (arith, (joint.ends k d lt).1, grown_length));
    agree = λ t u lt lu. agree t u lt lu (cases_lt t.0 (length numbers)) (cases_lt u.0 (length numbers));
  }
    where
      live : (t : TermId) → t.0 < length (with_terms count numbers) → (t.0 < length numbers) ⊎ (length numbers ≤ t.0) → IsLive (with_terms count numbers) (record { 0 = class_at (with_terms count numbers) t })
      live t lt (inl low) =
          let old = joint.live t low in
          subst (λ c. IsLive (with_terms count numbers) (record { 0 = c })) (sym (others_kept numbers count t low))
          (omega (arith, old.0, grown_length), others_kept numbers count (record { 0 = class_at numbers t }) old.0 ∙ old.1)
      live t lt (inr past) = subst (λ c. IsLive (with_terms count numbers) (record { 0 = c })) (sym (grown_alone t past lt)) (lt, grown_alone t past lt)

      apart : (t u : TermId) → t.0 < length numbers → length numbers ≤ u.0 → u.0 < length (with_terms count numbers) → AreSame (with_terms count numbers) t u → ⊥
      apart t u low past lu e = omega (arith, (joint.live t low).0, past, sym (others_kept numbers count t low) ∙ e ∙ grown_alone u past lu)

      not_linked : (t u : TermId) → t.0 < length numbers → length numbers ≤ u.0 → Linked es t.0 u.0 → ⊥
      not_linked t u low past e = omega (arith, root_below (length numbers) es t.0 joint.ends low, root_past (length numbers) es u.0 joint.ends past, e, past)

      agree : (t u : TermId) → t.0 < length (with_terms count numbers) → u.0 < length (with_terms count numbers) → (t.0 < length numbers) ⊎ (length numbers ≤ t.0) → (u.0 < length numbers) ⊎ (length numbers ≤ u.0)
          → Linked es t.0 u.0 ↔ AreSame (with_terms count numbers) t u
      agree t u lt lu (inl low) (inl below) =
          let old = joint.agree t u low below in
          (λ e. others_kept numbers count t low ∙ old.0 e ∙ sym (others_kept numbers count u below), λ e. old.1 (sym (others_kept numbers count t low) ∙ e ∙ others_kept numbers count u below))
      agree t u lt lu (inl low) (inr past) = (λ e. absurd (not_linked t u low past e), λ e. absurd (apart t u low past lu e))
      agree t u lt lu (inr past) (inl low) = (λ e. absurd (not_linked u t low past (sym e)), λ e. absurd (apart u t low past lt (sym e)))
      agree t u lt lu (inr past) (inr also) = (
        λ e. grown_alone t past lt ∙ (sym (root_past (length numbers) es t.0 joint.ends past) ∙ e ∙ root_past (length numbers) es u.0 joint.ends also) ∙ sym (grown_alone u also lu),
        λ e. ap (root es) (sym (grown_alone t past lt) ∙ e ∙ grown_alone u also lu),
      )

module _ (s : PartsState) (count : ℕ) (h : PartsFit s) where
  same_at : (t : TermId) → t.0 < length s.numbers → class_at (with_terms count s.numbers) t ≡ class_at s.numbers t
  same_at t lt = others_kept s.numbers count t lt

  same_key : (i : ℕ) → i < length s.facts.listed → key_of (with_terms count s.numbers) (nth s.facts.listed i).shape ≡ key_of s.numbers (nth s.facts.listed i).shape
  same_key i lt = key_same s.numbers (with_terms count s.numbers) (nth s.facts.listed i).shape
      (λ a c. same_at a (subst (λ (t : TermId). t.0 < length s.numbers) c.2 (arguments_low s h i lt c.0 a c.1)))

  pub kept_grown : PartsFit (with_numbers s (with_terms count s.numbers))
  kept_grown = record {
    order = h.order;
    there = record { true_in = more h.there.true_in; false_in = more h.there.false_in; terms = λ k d lt. more (h.there.terms k d lt) };
    joint = joint_grown s.numbers s.edges count h.joint;
    reasons = h.reasons;
    keys = record {
      keys = h.keys.keys;
      holders = h.keys.holders;
      parts = h.keys.parts;
      low = λ k lt j d low. more (h.keys.low k lt j d low);
      present = λ k lt live. h.keys.present k lt (λ j d low. old_live k lt j d low (live j d low)) ∙ sym (same_key (holder_at s.keys k) (h.keys.holders k lt));
    };
    looked = h.looked;
    given = h.given;
    ready = λ i lt part. go i lt (h.ready i lt part);
    stated = λ j a b lt states.
        let low = states_low s h (held_at s.facts.held j) a b (held_there s.facts.held j (omega (arith, lt, h.given))) states in
        same_at a low.0 ∙ h.stated j a b lt states ∙ sym (same_at b low.1);
  }
    where
      more : {k : ℕ} → k < length s.numbers → k < length (with_terms count s.numbers)
      more {k} lt = omega (arith, lt, grown_length s.numbers s.edges count h.joint)

      old_live : (k : ℕ) → k < length s.keys.shapes → (j : ℕ) (d : TermId) → j < length (key_at s.keys k).arguments → IsLive (with_terms count s.numbers) (get_or (key_at s.keys k).arguments j d)
          → IsLive s.numbers (get_or (key_at s.keys k).arguments j d)
      old_live k lt j d low live = (h.keys.low k lt j d low, sym (same_at (get_or (key_at s.keys k).arguments j d) (h.keys.low k lt j d low)) ∙ live.1)

      go : (i : ℕ) → i < length s.facts.listed → IsPending s.left i ⊎ (HasKey s i × IsApart s i)
          → IsPending s.left i ⊎ (HasKey (with_numbers s (with_terms count s.numbers)) i × IsApart (with_numbers s (with_terms count s.numbers)) i)
      go i lt (inl p) = inl p
      go i lt (inr (k, apart)) = inr (
        record {
          at = k.at;
          there = k.there;
          is = k.is ∙ sym (same_key i lt);
          same = same_at (nth s.facts.listed (holder_at s.keys k.at)).term (term_low s h (holder_at s.keys k.at) (h.keys.holders k.at k.there)) ∙ k.same ∙ sym (same_at (nth s.facts.listed i).term (term_low s h i lt));
        },
        λ j a b low is shape same.
            let sides = sides_low s h i a b lt shape in
            apart j a b low is shape (sym (same_at a sides.0) ∙ same ∙ same_at b sides.1),
      )

-- nothing is listed and held
pub kept_start : (truths : Truths) (numbers : List ℕ) → AreJoint numbers [] → truths.true_term.0 < length numbers → truths.false_term.0 < length numbers
    → PartsFit (record { facts = no_facts truths; numbers = numbers; edges = []; keys = record { shapes = []; holders = [] }; left = record { looked = 0; given = 0; pending = [] } })
kept_start truths numbers joint true_in false_in = record {
  order = record { once = λ i j a b e. none a; below = λ k d lt. none lt; held = λ k d lt. none lt; held_once = λ i j low lt e. none lt };
  there = record { true_in = true_in; false_in = false_in; terms = λ k d lt. none lt };
  joint = joint;
  reasons = tt;
  keys = record {
    keys = record { count = refl; once = λ j k a b e. none a };
    holders = λ k lt. none lt;
    parts = λ k lt. none lt;
    low = λ k lt. none lt;
    present = λ k lt live. none lt;
  };
  looked = omega arith;
  given = omega arith;
  ready = λ i lt part. none lt;
  stated = λ j a b lt states. none lt;
}
  where
    none : {A : Type 0} → {k : ℕ} → k < 0 → A
    none {A} {k} lt = absurd (omega (arith, lt))

-- there are no terms
pub joint_none : AreJoint [] []
joint_none = record {
  live = λ t lt. absurd (omega (arith, lt));
  ends = λ k d lt. absurd (omega (arith, lt));
  agree = λ t u lt lu. absurd (omega (arith, lt));
}

-- ---- a term is listed

module _ (s : PartsState) (x : Application) (h : PartsFit s) (absent : IsListed s.facts.listed x.term → ⊥) (low : x.term.0 < length s.numbers) (below : All (λ (a : TermId). a.0 < x.term.0) x.shape.arguments) where
  old_at : (i : ℕ) → i < length s.facts.listed → nth (s.facts.listed ++ x ∷ []) i ≡ nth s.facts.listed i
  old_at i lt = get_or_append_left s.facts.listed (x ∷ []) no_application i lt

  new_at : (i : ℕ) → i ≡ length s.facts.listed → nth (s.facts.listed ++ x ∷ []) i ≡ x
  new_at i e = get_or_push s.facts.listed x no_application i (sym e)

  listed_more : (t : TermId) → IsListed s.facts.listed t → IsListed (s.facts.listed ++ x ∷ []) t
  listed_more t (i, (lt, is)) = (i, (omega (arith, lt, length_push s.facts.listed x), ap (λ (y : Application). y.term) (old_at i lt) ∙ is))

  -- what is stated of older terms
  old_equality : (e a b : TermId) → IsListed s.facts.listed e → IsEquality (s.facts.listed ++ x ∷ []) e a b → IsEquality s.facts.listed e a b
  old_equality e a b p q = go (Contains-push_cases s.facts.listed x q.at q.there)
    where
      go : Contains s.facts.listed q.at ⊎ (x ≡ q.at) → IsEquality s.facts.listed e a b
      go (inl there) = record { at = q.at; there = there; term = q.term; shape = q.shape }
      go (inr is) = absurd (absent (p.0, (p.1.0, p.1.1 ∙ sym q.term ∙ ap (λ (y : Application). y.term) (sym is))))

  old_states : (l : Lit) (a b : TermId) → IsListed s.facts.listed l.term → StatesEqual (with_listed s.facts x) l a b → StatesEqual s.facts l a b
  old_states l _ _ p decides = decides
  old_states l a b p (equates _ _ positive q) = equates a b positive (old_equality l.term a b p q)

  listed_once : (i j : ℕ) → i < length (s.facts.listed ++ x ∷ []) → j < length (s.facts.listed ++ x ∷ []) → (nth (s.facts.listed ++ x ∷ []) i).term ≡ (nth (s.facts.listed ++ x ∷ []) j).term → i ≡ j
  listed_once i j a b e = go (places s.facts.listed x i a) (places s.facts.listed x j b)
    where
      term_of : {a b : Application} → a ≡ b → a.term ≡ b.term
      term_of e = ap (λ (y : Application). y.term) e

      go : (i < length s.facts.listed) ⊎ (i ≡ length s.facts.listed) → (j < length s.facts.listed) ⊎ (j ≡ length s.facts.listed) → i ≡ j
      go (inl p) (inl q) = h.order.once i j p q (sym (term_of (old_at i p)) ∙ e ∙ term_of (old_at j q))
      go (inl p) (inr q) = absurd (absent (i, (p, sym (term_of (old_at i p)) ∙ e ∙ term_of (new_at j q))))
      go (inr p) (inl q) = absurd (absent (j, (q, sym (term_of (old_at j q)) ∙ sym e ∙ term_of (new_at i p))))
      go (inr p) (inr q) = p ∙ sym q

  pub kept_listed : PartsFit (with_facts s (with_listed s.facts x))
  kept_listed = record {
    order = record {
      once = listed_once;
      below = All-push (λ (y : Application). All (λ (a : TermId). a.0 < y.term.0) y.shape.arguments) s.facts.listed x h.order.below below;
      held = λ k d lt. listed_more (get_or s.facts.held k d).term (h.order.held k d lt);
      held_once = h.order.held_once;
    };
    there = record { true_in = h.there.true_in; false_in = h.there.false_in; terms = All-push (λ (y : Application). y.term.0 < length s.numbers) s.facts.listed x h.there.terms low };
    joint = h.joint;
    reasons = reasons_more s.facts (with_listed s.facts x) (record { listed = λ y c. Contains-append_left s.facts.listed (x ∷ []) y c; truths = refl; held = λ l c. c }) s.edges h.reasons;
    keys = record {
      keys = h.keys.keys;
      holders = λ k lt. omega (arith, h.keys.holders k lt, length_push s.facts.listed x);
      parts = λ k lt. ap (λ (y : Application). y.takes_part) (old_at (holder_at s.keys k) (h.keys.holders k lt)) ∙ h.keys.parts k lt;
      low = h.keys.low;
      present = λ k lt live. h.keys.present k lt live ∙ ap (λ (y : Application). key_of s.numbers y.shape) (sym (old_at (holder_at s.keys k) (h.keys.holders k lt)));
    };
    looked = omega (arith, h.looked, length_push s.facts.listed x);
    given = h.given;
    ready = λ i lt part. go i (places s.facts.listed x i lt) part;
    stated = λ j a b lt states.
        h.stated j a b lt (old_states (held_at s.facts.held j) a b (held_listed s h (held_at s.facts.held j) (held_there s.facts.held j (omega (arith, lt, h.given)))) states);
  }
    where
      go : (i : ℕ) → (i < length s.facts.listed) ⊎ (i ≡ length s.facts.listed) → (nth (s.facts.listed ++ x ∷ []) i).takes_part ≡ true
          → IsPending s.left i ⊎ (HasKey (with_facts s (with_listed s.facts x)) i × IsApart (with_facts s (with_listed s.facts x)) i)
      go i (inr last) part = inl (inl (omega (arith, last, h.looked)))
      go i (inl lt) part = ready (h.ready i lt (sym (ap (λ (y : Application). y.takes_part) (old_at i lt)) ∙ part))
        where
          ready : IsPending s.left i ⊎ (HasKey s i × IsApart s i) → IsPending s.left i ⊎ (HasKey (with_facts s (with_listed s.facts x)) i × IsApart (with_facts s (with_listed s.facts x)) i)
          ready (inl p) = inl p
          ready (inr (k, apart)) = inr (
            record {
              at = k.at;
              there = k.there;
              is = k.is ∙ ap (λ (y : Application). key_of s.numbers y.shape) (sym (old_at i lt));
              same = ap (λ (y : Application). class_at s.numbers y.term) (old_at (holder_at s.keys k.at) (h.keys.holders k.at k.there)) ∙ k.same ∙ ap (λ (y : Application). class_at s.numbers y.term) (sym (old_at i lt));
            },
            λ j a b low is shape same. apart j a b low (is ∙ ap (λ (y : Application). denial y.term) (old_at i lt)) (ap (λ (y : Application). y.shape) (sym (old_at i lt)) ∙ shape) same,
          )

-- ---- a literal is held

module _ (s : PartsState) (l : Lit) (h : PartsFit s) (listed : IsListed s.facts.listed l.term) (absent : Contains s.facts.held l → ⊥) where
  same_states : (m : Lit) (a b : TermId) → StatesEqual (with_held s.facts l) m a b → StatesEqual s.facts m a b
  same_states m _ _ decides = decides
  same_states m a b (equates _ _ positive q) = equates a b positive q

  pub kept_held : PartsFit (with_facts s (with_held s.facts l))
  kept_held = record {
    order = record {
      once = h.order.once;
      below = h.order.below;
      held = All-push (λ (m : Lit). IsListed s.facts.listed m.term) s.facts.held l h.order.held listed;
      held_once = once_push s.facts.held l h.order.held_once absent;
    };
    there = record { true_in = h.there.true_in; false_in = h.there.false_in; terms = h.there.terms };
    joint = h.joint;
    reasons = reasons_more s.facts (with_held s.facts l) (record { listed = λ y c. c; truths = refl; held = λ m c. Contains-append_left s.facts.held (l ∷ []) m c }) s.edges h.reasons;
    keys = record { keys = h.keys.keys; holders = h.keys.holders; parts = h.keys.parts; low = h.keys.low; present = h.keys.present };
    looked = h.looked;
    given = omega (arith, h.given, length_push s.facts.held l);
    ready = λ i lt part. go i (h.ready i lt part);
    stated = λ j a b lt states.
        h.stated j a b lt (subst (λ (m : Lit). StatesEqual s.facts m a b) (held_before s.facts.held l j (omega (arith, lt, h.given))) (same_states (held_at (s.facts.held ++ l ∷ []) j) a b states));
  }
    where
      go : (i : ℕ) → IsPending s.left i ⊎ (HasKey s i × IsApart s i) → IsPending s.left i ⊎ (HasKey (with_facts s (with_held s.facts l)) i × IsApart (with_facts s (with_held s.facts l)) i)
      go i (inl p) = inl p
      go i (inr (k, apart)) = inr (
        record { at = k.at; there = k.there; is = k.is; same = k.same },
        λ j a b low is shape same. apart j a b low (sym (held_before s.facts.held l j (omega (arith, low, h.given))) ∙ is) shape same,
      )
