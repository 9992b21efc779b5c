-- Terms that are there, and their keys.
use Rattle.std.proofs.Common.{◌≡◌, ◌≢◌, ℕ, zero, suc, ◌<◌, ◌≤◌, Bool, true, false, List, [], ◌∷◌, length, get_or, map, inl, inr, ◌⊎◌, refl, sym, ap, ◌∙◌, subst, arith}
use Rattle.std.specs.Prelude.{All, Contains}
use Rattle.std.proofs.lemmas.Bool.{cases_lt, cases_eq}
use Rattle.std.proofs.lemmas.List.{get_or_default}
use Rattle.std.proofs.lemmas.List.Elements.{All-head, All-tail, All-contains, Contains-get_or}
use Rattle.term_core.specs.declared.ids.TermId.{TermId}
use Rattle.term_core.specs.declared.ids.Lit.{Lit}
use Rattle.term_core.specs.Tables.{Shape}
use Rattle.class_table.specs.Classes.{class_at}
use Rattle.explain_forest.specs.declared.types.Edge.{Edge}
use Rattle.explain_forest.specs.Forest.{root, Linked}
use Rattle.explain_forest.proofs.Roots.{root-under, root-elsewhere}
use Rattle.congruence_relation.specs.Relation.{Application, truth_of, StatesEqual, decides, equates}
use Rattle.congruence_relation.specs.Edges.{roots}
use Rattle.congruence_closure.specs.Listed.{nth, no_application, IsListed, equality_of}
use Rattle.congruence_closure.specs.Keys.{key_of}
use Rattle.congruence_closure.specs.State.{PartsState, AreJoint, PartsFit}

-- lists that are one have one first element and one rest
pub cons_same : {X : Type 0} {x y : X} {xs ys : List X} → x ∷ xs ≡ y ∷ ys → (x ≡ y) × (xs ≡ ys)
cons_same e = (cc, cc)

-- the numbers of classes of some terms
abbrev pub classes_of : List ℕ → List TermId → List TermId
classes_of numbers xs = map (λ a. record { 0 = class_at numbers a }) xs

-- what is listed has a place
pub place_of : (listed : List Application) (x : Application) → Contains listed x → (i : ℕ) × (i < length listed) × (nth listed i ≡ x)
place_of listed x there = (there.0, there.1, get_or_default listed there.0 no_application x there.1 ∙ there.2)

-- what a place has is listed
pub at_place : (listed : List Application) (i : ℕ) → i < length listed → Contains listed (nth listed i)
at_place listed i lt = Contains-get_or listed i no_application lt

-- listed terms are there, and so are their arguments
pub term_low : (s : PartsState) → PartsFit s → (i : ℕ) → i < length s.facts.listed → (nth s.facts.listed i).term.0 < length s.numbers
term_low s h i lt = h.there.terms i no_application lt

pub arguments_low : (s : PartsState) → PartsFit s → (i : ℕ) → i < length s.facts.listed → All (λ (a : TermId). a.0 < length s.numbers) (nth s.facts.listed i).shape.arguments
arguments_low s h i lt k d low = omega (arith, h.order.below i no_application lt k d low, term_low s h i lt)

pub sides_low : (s : PartsState) → PartsFit s → (i : ℕ) (a b : TermId) → i < length s.facts.listed → (nth s.facts.listed i).shape ≡ equality_of a b → (a.0 < length s.numbers) × (b.0 < length s.numbers)
sides_low s h i a b lt e =
    let low : All (λ (t : TermId). t.0 < length s.numbers) (a ∷ b ∷ []) = subst (λ (x : Shape). All (λ (t : TermId). t.0 < length s.numbers) x.arguments) e (arguments_low s h i lt) in
    (low 0 a (omega arith), low 1 a (omega arith))

pub listed_low : (s : PartsState) → PartsFit s → (t : TermId) → IsListed s.facts.listed t → t.0 < length s.numbers
listed_low s h t (i, (lt, is)) = subst (λ (u : TermId). u.0 < length s.numbers) is (term_low s h i lt)

pub truth_low : (s : PartsState) → PartsFit s → (b : Bool) → (truth_of s.facts.truths b).0 < length s.numbers
truth_low s h true = h.there.true_in
truth_low s h false = h.there.false_in

pub held_listed : (s : PartsState) → PartsFit s → (l : Lit) → Contains s.facts.held l → IsListed s.facts.listed l.term
held_listed s h l there = All-contains (λ (m : Lit). IsListed s.facts.listed m.term) s.facts.held l h.order.held there

pub states_low : (s : PartsState) → PartsFit s → (l : Lit) (a b : TermId) → Contains s.facts.held l → StatesEqual s.facts l a b → (a.0 < length s.numbers) × (b.0 < length s.numbers)
states_low s h l _ _ there decides = (listed_low s h l.term (held_listed s h l there), truth_low s h l.positive)
states_low s h l a b there (equates _ _ p q) =
    let at = place_of s.facts.listed q.at q.there in
    sides_low s h at.0 a b at.1 (ap (λ (x : Application). x.shape) at.2 ∙ q.shape)

-- ---- keys

-- keys are the same where the classes of arguments are
pub classes_same : (old new : List ℕ) (xs : List TermId) → ((a : TermId) → Contains xs a → class_at new a ≡ class_at old a) → classes_of new xs ≡ classes_of old xs
classes_same old new [] h = refl
classes_same old new (x ∷ xs) h =
    let here : class_at new x ≡ class_at old x = h x (0, omega arith, refl) in
    let rest : classes_of new xs ≡ classes_of old xs = classes_same old new xs (λ a c. h a (suc c.0, omega (arith, c.1), c.2)) in
    λ i. record { 0 = here i } ∷ rest i

pub key_same : (old new : List ℕ) (x : Shape) → ((a : TermId) → Contains x.arguments a → class_at new a ≡ class_at old a) → key_of new x ≡ key_of old x
key_same old new x h = ap (λ (ts : List TermId). record { head = x.head; arguments = ts }) (classes_same old new x.arguments h)

-- what holds of the class number of each argument, and of the arguments of keys
pub class_each : (P : TermId → Type 0) (numbers : List ℕ) (xs : List TermId) → All P (classes_of numbers xs) → (a : TermId) → Contains xs a → P (record { 0 = class_at numbers a })
class_each P numbers [] all a c = absurd (omega (arith, c.1))
class_each P numbers (x ∷ xs) all a c = go (class_each P numbers xs (All-tail P (record { 0 = class_at numbers x }) (classes_of numbers xs) all) a) c.0 c.1 c.2
  where
    go : (Contains xs a → P (record { 0 = class_at numbers a })) → (k : ℕ) → k < length (x ∷ xs) → get_or (x ∷ xs) k a ≡ a → P (record { 0 = class_at numbers a })
    go rest zero low is = subst (λ (t : TermId). P (record { 0 = class_at numbers t })) is (All-head P (record { 0 = class_at numbers x }) (classes_of numbers xs) all)
    go rest (suc k) low is = rest (k, omega (arith, low), is)

pub each_class : (P : TermId → Type 0) (numbers : List ℕ) (xs : List TermId) → ((a : TermId) → Contains xs a → P (record { 0 = class_at numbers a })) → All P (classes_of numbers xs)
each_class P numbers [] h k d low = absurd (omega (arith, low))
each_class P numbers (x ∷ xs) h zero d low = h x (0, omega arith, refl)
each_class P numbers (x ∷ xs) h (suc k) d low = each_class P numbers xs (λ a c. h a (suc c.0, omega (arith, c.1), c.2)) k d (omega (arith, low))

-- ---- classes and edges

module _ (numbers : List ℕ) (es : List Edge) (joint : AreJoint numbers es) where
  -- terms with the same classes have the same roots
  pub same_roots : (xs ys : List TermId) → All (λ (a : TermId). a.0 < length numbers) xs → All (λ (a : TermId). a.0 < length numbers) ys → classes_of numbers xs ≡ classes_of numbers ys → roots es xs ≡ roots es ys
  same_roots [] [] xs_low ys_low e = refl
  same_roots [] (y ∷ ys) xs_low ys_low e = absurd (cc)
  same_roots (x ∷ xs) [] xs_low ys_low e = absurd (cc)
  same_roots (x ∷ xs) (y ∷ ys) xs_low ys_low e =
      let x_low = All-head (λ (a : TermId). a.0 < length numbers) x xs xs_low in
      let y_low = All-head (λ (a : TermId). a.0 < length numbers) y ys ys_low in
      let same : class_at numbers x ≡ class_at numbers y = ap (λ (t : TermId). t.0) (cons_same e).0 in
      let here : root es x.0 ≡ root es y.0 = (joint.agree x y x_low y_low).1 same in
      let rest : roots es xs ≡ roots es ys
      = same_roots xs ys (All-tail (λ (a : TermId). a.0 < length numbers) x xs xs_low) (All-tail (λ (a : TermId). a.0 < length numbers) y ys ys_low) (cons_same e).1 in
      λ i. here i ∷ rest i

  -- and the other way round
  pub same_classes : (xs ys : List TermId) → All (λ (a : TermId). a.0 < length numbers) xs → All (λ (a : TermId). a.0 < length numbers) ys → roots es xs ≡ roots es ys → classes_of numbers xs ≡ classes_of numbers ys
  same_classes [] [] xs_low ys_low e = refl
  same_classes [] (y ∷ ys) xs_low ys_low e = absurd (cc)
  same_classes (x ∷ xs) [] xs_low ys_low e = absurd (cc)
  same_classes (x ∷ xs) (y ∷ ys) xs_low ys_low e =
      let x_low = All-head (λ (a : TermId). a.0 < length numbers) x xs xs_low in
      let y_low = All-head (λ (a : TermId). a.0 < length numbers) y ys ys_low in
      let here : class_at numbers x ≡ class_at numbers y = (joint.agree x y x_low y_low).0 (cons_same e).0 in
      let rest : classes_of numbers xs ≡ classes_of numbers ys
      = same_classes xs ys (All-tail (λ (a : TermId). a.0 < length numbers) x xs xs_low) (All-tail (λ (a : TermId). a.0 < length numbers) y ys ys_low) (cons_same e).1 in
      λ i. record { 0 = here i } ∷ rest i

-- edges are between terms below a number
abbrev AreBelow : ℕ → List Edge → Type 0
AreBelow n es = All (λ (e : Edge). (e.a.0 < n) × (e.b.0 < n)) es

under_or_other : (n : ℕ) (e : Edge) (es : List Edge) (t : ℕ) → root es e.b.0 < n → root es t < n → root (e ∷ es) t < n
under_or_other n e es t end own = go (cases_eq (root es t) (root es e.a.0))
  where
    go : (root es t ≡ root es e.a.0) ⊎ (root es t ≢ root es e.a.0) → root (e ∷ es) t < n
    go (inl p) = subst (λ k. k < n) (sym (root-under e es t p)) end
    go (inr p) = subst (λ k. k < n) (sym (root-elsewhere e es t p)) own

-- the root of a term of the edges is one
pub root_below : (n : ℕ) (es : List Edge) (t : ℕ) → AreBelow n es → t < n → root es t < n
root_below n [] t low lt = lt
root_below n (e ∷ es) t low lt =
    let ends = All-head (λ (e : Edge). (e.a.0 < n) × (e.b.0 < n)) e es low in
    let rest = All-tail (λ (e : Edge). (e.a.0 < n) × (e.b.0 < n)) e es low in
    under_or_other n e es t (root_below n es e.b.0 rest ends.1) (root_below n es t rest lt)

-- a term past those of the edges is its own root
pub root_past : (n : ℕ) (es : List Edge) (t : ℕ) → AreBelow n es → n ≤ t → root es t ≡ t
root_past n [] t low past = refl
root_past n (e ∷ es) t low past =
    let ends = All-head (λ (e : Edge). (e.a.0 < n) × (e.b.0 < n)) e es low in
    let rest = All-tail (λ (e : Edge). (e.a.0 < n) × (e.b.0 < n)) e es low in
    let own : root es t ≡ t = root_past n es t rest past in
    let end : root es e.a.0 < n = root_below n es e.a.0 rest ends.0 in
    root-elsewhere e es t (λ p. omega (arith, p, past, own, end)) ∙ own

-- which terms are linked, where classes tell it: terms that are not there to themselves alone
pub linked_past : (numbers : List ℕ) (es : List Edge) (t u : TermId) → AreJoint numbers es → length numbers ≤ t.0 → Linked es t.0 u.0 → t ≡ u
linked_past numbers es t u joint past e = λ i. record { 0 = same i }
  where
    n : ℕ
    n = length numbers

    same : t.0 ≡ u.0
    same = elim (cases_lt u.0 (length numbers)) [
      | inl lt ↦ absurd (omega (arith, root_past (length numbers) es t.0 joint.ends past, root_below (length numbers) es u.0 joint.ends lt, e, past))
      | inr also ↦ sym (root_past (length numbers) es t.0 joint.ends past) ∙ e ∙ root_past (length numbers) es u.0 joint.ends also
    ]
