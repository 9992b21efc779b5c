-- Looking at a listed term, and giving a literal.
use Rattle.std.proofs.Common.{◌≡◌, ℕ, ◌<◌, Bool, true, false, [], ◌∷◌, ◌↔◌, length, slice_index, inl, inr, ◌⊎◌, refl, sym, ap, ◌∙◌, subst, arith, true≢false}
use Rattle.std.specs.Prelude.{Contains, MatchBool}
use Rattle.std.specs.Bool.{beq}
use Rattle.std.proofs.lemmas.Bool.{cases_Bool}
use Rattle.term_core.specs.declared.ids.TermId.{TermId}
use Rattle.term_core.specs.declared.ids.Lit.{Lit}
use Rattle.term_core.specs.Tables.{Shape}
use Rattle.class_table.specs.Classes.{AreSame}
use Rattle.explain_forest.specs.Forest.{Linked}
use Rattle.congruence_relation.specs.Relation.{Application, truth_of, IsEquality, StatesEqual, decides, equates}
use Rattle.congruence_relation.specs.Edges.{Meet, HasLinkedSidesIn}
use Rattle.congruence_closure.specs.Closure.{denial}
use Rattle.congruence_closure.specs.Listed.{nth, HasPlace, equality_of}
use Rattle.congruence_closure.specs.Keys.{key_of, IsHeld}
use Rattle.congruence_closure.specs.State.{PartsState, IsApart, PartsFit}
use Rattle.congruence_closure.specs.Changes.{IsGiven}
use Rattle.congruence_closure.proofs.Denials.{held_there}
use Rattle.congruence_closure.proofs.Steps.{holder_key, holder_listed, holder_part}
use Rattle.congruence_closure.proofs.Terms.{cons_same, place_of, at_place, arguments_low, sides_low, same_roots}

-- either way of a test
pub told : (b : Bool) (P Q : Type 0) → (b ≡ true → P) → (b ≡ false → Q) → MatchBool b P Q
told true P Q f g = f refl
told false P Q f g = g refl

pub tests_apart : (a b : Bool) → beq a b ≡ false → a ≡ false → b ≡ true
tests_apart true b e f = absurd (true≢false f)
tests_apart false true e f = refl
tests_apart false false e f = absurd (true≢false e)

pub tests_denied : (a b : Bool) → beq a b ≡ false → a ≡ true → b ≡ false
tests_denied true true e f = absurd (true≢false e)
tests_denied true false e f = refl
tests_denied false b e f = absurd (true≢false (sym f))

-- one equality has one pair of sides
pub sides_same : (x : Shape) (a b c d : TermId) → x ≡ equality_of a b → x ≡ equality_of c d → (a ≡ c) × (b ≡ d)
sides_same x a b c d e f =
    let lists : a ∷ b ∷ [] ≡ c ∷ d ∷ [] = ap (λ (s : Shape). s.arguments) (sym e ∙ f) in
    ((cons_same lists).0, (cons_same (cons_same lists).1).0)

module _ (s : PartsState) (h : PartsFit s) (i : ℕ) (there : i < length s.facts.listed) where
  -- what is no equality has no sides in one class
  pub apart_free : ((a b : TermId) → (nth s.facts.listed i).shape ≡ equality_of a b → ⊥) → IsApart s i
  apart_free none j a b low is shape same = none a b shape

  -- nor has one whose sides are not linked
  pub apart_sides : (a b : TermId) → (nth s.facts.listed i).shape ≡ equality_of a b → (Linked s.edges a.0 b.0 → ⊥) → IsApart s i
  apart_sides a b shape apart j c d low is other same =
      let e = sides_same (nth s.facts.listed i).shape a b c d shape other in
      let in_range = sides_low s h i a b there shape in
      apart ((h.joint.agree a b in_range.0 in_range.1).1 (ap (λ (t : TermId). slice_index s.numbers t.0) e.0 ∙ same ∙ ap (λ (t : TermId). slice_index s.numbers t.0) (sym e.1)))

  -- nor one that is not denied
  pub apart_held : (Contains s.facts.held (denial (nth s.facts.listed i).term) → ⊥) → IsApart s i
  apart_held absent j a b low is shape same = absent (subst (Contains s.facts.held) is (held_there s.facts.held j (omega (arith, low, h.given))))

  -- an equality that takes part, with linked sides
  pub linked_sides : (a b : TermId) → (nth s.facts.listed i).shape ≡ equality_of a b → (nth s.facts.listed i).takes_part ≡ true → Linked s.edges a.0 b.0 → HasLinkedSidesIn s.facts s.edges (nth s.facts.listed i).term
  linked_sides a b shape part linked = (a, b, record { at = nth s.facts.listed i; there = at_place s.facts.listed i there; term = refl; shape = shape }, part, linked)

  -- another term of one key has linked arguments
  pub they_meet : (nth s.facts.listed i).takes_part ≡ true → (holder : ℕ) → IsHeld s.keys (key_of s.numbers (nth s.facts.listed i).shape) holder → Meet s.facts s.edges (nth s.facts.listed i).term (nth s.facts.listed holder).term
  they_meet part holder held =
      let low = holder_listed s h i holder held in
      let key = holder_key s h i holder there held in
      record {
        one = nth s.facts.listed i;
        other = nth s.facts.listed holder;
        one_there = at_place s.facts.listed i there;
        other_there = at_place s.facts.listed holder low;
        one_part = part;
        other_part = holder_part s h i holder held;
        one_is = refl;
        other_is = refl;
        heads = ap (λ (x : Shape). x.head) key;
        arguments = same_roots s.numbers s.edges h.joint (nth s.facts.listed i).shape.arguments (nth s.facts.listed holder).shape.arguments (arguments_low s h i there) (arguments_low s h holder low)
            (ap (λ (x : Shape). x.arguments) key);
      }

-- the equality of a listed term has the shape of its place
pub shape_at : (s : PartsState) → PartsFit s → (e a b : TermId) (i : ℕ) → HasPlace s.facts.listed e i → IsEquality s.facts.listed e a b → (nth s.facts.listed i).shape ≡ equality_of a b
shape_at s h e a b i (lt, is) q =
    let p = place_of s.facts.listed q.at q.there in
    let same : i ≡ p.0 = h.order.once i p.0 lt p.1 (is ∙ sym q.term ∙ ap (λ (x : Application). x.term) (sym p.2)) in
    ap (λ k. (nth s.facts.listed k).shape) same ∙ ap (λ (x : Application). x.shape) p.2 ∙ q.shape

-- a listed term of the shape of an equality is one
pub equality_at : (s : PartsState) (e a b : TermId) (i : ℕ) → HasPlace s.facts.listed e i → (nth s.facts.listed i).shape ≡ equality_of a b → IsEquality s.facts.listed e a b
equality_at s e a b i place shape = record { at = nth s.facts.listed i; there = at_place s.facts.listed i place.0; term = place.1; shape = shape }

-- which takes part where the listed term does
pub equality_part : (s : PartsState) (e a b : TermId) (i : ℕ) (place : HasPlace s.facts.listed e i) (shape : (nth s.facts.listed i).shape ≡ equality_of a b)
    → (equality_at s e a b i place shape).at.takes_part ≡ (nth s.facts.listed i).takes_part
unfolding equality_at
equality_part s e a b i place shape = refl

module _ (s : PartsState) (h : PartsFit s) (l : Lit) (decided : AreSame s.numbers l.term (truth_of s.facts.truths l.positive)) where
  -- a literal of no equality is given
  pub given_plain : (i : ℕ) → HasPlace s.facts.listed l.term i → ((a b : TermId) → (nth s.facts.listed i).shape ≡ equality_of a b → ⊥) → IsGiven s l
  given_plain i place none = record {
    stated = λ a b states. go a b states;
    apart = λ k a b low part is shape same.
        let e : i ≡ k = h.order.once i k place.0 low (place.1 ∙ ap (λ (m : Lit). m.term) is) in
        none a b (ap (λ n. (nth s.facts.listed n).shape) e ∙ shape);
  }
    where
      go : (a b : TermId) → StatesEqual s.facts l a b → AreSame s.numbers a b
      go _ _ decides = decided
      go a b (equates _ _ positive q) = absurd (none a b (shape_at s h l.term a b i place q))

  module _ (a b : TermId) (equality : IsEquality s.facts.listed l.term a b) where
    where_at : (i : ℕ) × (i < length s.facts.listed) × (nth s.facts.listed i ≡ equality.at)
    where_at = place_of s.facts.listed equality.at equality.there

    own_shape : (nth s.facts.listed where_at.0).shape ≡ equality_of a b
    unfolding where_at
    own_shape = ap (λ (x : Application). x.shape) where_at.2 ∙ equality.shape

    own_place : HasPlace s.facts.listed l.term where_at.0
    unfolding where_at
    own_place = (where_at.1, ap (λ (x : Application). x.term) where_at.2 ∙ equality.term)

    pub ends_low : (a.0 < length s.numbers) × (b.0 < length s.numbers)
    ends_low = sides_low s h where_at.0 a b own_place.0 own_shape

    -- an equality that is held as it is, with sides in one class
    pub given_equal : l.positive ≡ true → Linked s.edges a.0 b.0 → IsGiven s l
    given_equal positive linked = record {
      stated = λ c d states. go c d states;
      apart = λ k c d low part is shape same. absurd (true≢false (sym positive ∙ ap (λ (m : Lit). m.positive) is));
    }
      where
        go : (c d : TermId) → StatesEqual s.facts l c d → AreSame s.numbers c d
        go _ _ decides = decided
        go c d (equates _ _ p q) =
            let e = sides_same (nth s.facts.listed where_at.0).shape a b c d own_shape (shape_at s h l.term c d where_at.0 own_place q) in
            ap (λ (t : TermId). slice_index s.numbers t.0) (sym e.0) ∙ (h.joint.agree a b ends_low.0 ends_low.1).0 linked ∙ ap (λ (t : TermId). slice_index s.numbers t.0) e.1

    -- one that is denied, with sides in two
    pub given_denied : l.positive ≡ false → (Linked s.edges a.0 b.0 → ⊥) → IsGiven s l
    given_denied negative apart = record {
      stated = λ c d states. go c d states;
      apart = λ k c d low part is shape same.
          let place : HasPlace s.facts.listed l.term k = (low, ap (λ (m : Lit). m.term) (sym is)) in
          let e = sides_same (nth s.facts.listed k).shape a b c d (shape_at s h l.term a b k place equality) shape in
          apart ((h.joint.agree a b ends_low.0 ends_low.1).1 (ap (λ (t : TermId). slice_index s.numbers t.0) e.0 ∙ same ∙ ap (λ (t : TermId). slice_index s.numbers t.0) (sym e.1)));
    }
      where
        go : (c d : TermId) → StatesEqual s.facts l c d → AreSame s.numbers c d
        go _ _ decides = decided
        go c d (equates _ _ p q) = absurd (true≢false (sym p ∙ negative))

    -- one that is denied, and takes no part
    pub given_apart : l.positive ≡ false → equality.at.takes_part ≡ false → IsGiven s l
    given_apart negative none = record {
      stated = λ c d states. go c d states;
      apart = λ k c d low part is shape same.
          let e : where_at.0 ≡ k = h.order.once where_at.0 k where_at.1 low (own_place.1 ∙ ap (λ (m : Lit). m.term) is) in
          absurd (true≢false (sym part ∙ ap (λ n. (nth s.facts.listed n).takes_part) (sym e) ∙ ap (λ (x : Application). x.takes_part) where_at.2 ∙ none));
    }
      where
        go : (c d : TermId) → StatesEqual s.facts l c d → AreSame s.numbers c d
        go _ _ decides = decided
        go c d (equates _ _ p q) = absurd (true≢false (sym p ∙ negative))

    -- one whose sides are linked exactly where it is held as it is
    pub given_as_held : (linked : Bool) → (linked ≡ true) ↔ Linked s.edges a.0 b.0 → linked ≡ l.positive → IsGiven s l
    given_as_held linked is e = go (cases_Bool l.positive)
      where
        go : (l.positive ≡ true) ⊎ (l.positive ≡ false) → IsGiven s l
        go (inl p) = given_equal p (is.0 (e ∙ p))
        go (inr n) = given_denied n (λ q. true≢false (sym (is.1 q) ∙ e ∙ n))
