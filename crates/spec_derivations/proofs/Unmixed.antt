-- That the clauses of the eight and those of the idle constant have no atom in common, nor have those from which a search
-- may learn.
use Rattle.std.proofs.Common.{◌≡◌, ℕ, zero, suc, ◌<◌, ◌≤◌, length, take, arith, subst, ◌&&◌, ◌||◌, Bool, true, false, List, [], ◌∷◌, ◌++◌, map, All, Contains, inl, inr, refl, sym, ap, ◌∙◌}
use Rattle.std.specs.Bool.{beq}
use Rattle.std.specs.Cmp.{booleans_Decides}
use Rattle.std.specs.List.{AllByRecursion}
use Rattle.std.proofs.lemmas.Bool.{false≢true, false_from_ne_true, and_parts}
use Rattle.std.proofs.lemmas.List.{length-take-le}
use Rattle.std.proofs.lemmas.List.Elements.{All-contains, All-from_recursion}
use Rattle.spec_text.proofs.Members.{cases, none, from_image}
use Rattle.spec_sorts.specs.Terms.{Term, same_term, sort_of, second_sort}
use Rattle.spec_sorts.specs.Literals.{Literal, literal_of, literals_of}
use Rattle.spec_sorts.specs.Subterms.{with_subterms, with_all_subterms}
use Rattle.spec_sorts.proofs.SameTerms.{terms_decide}
use Rattle.spec_derivations.specs.Derivations.{Inference, «assumption», by_rule, Derivation, conclusion, premises_of, inference_at, conclusion_at, IsDerivation}
use Rattle.spec_derivations.specs.Orders.{whole_terms}
use Rattle.spec_derivations.specs.Lemmas.{IsLemma}
use Rattle.spec_derivations.specs.Inputs.{input_clauses, IsInput}
use Rattle.spec_derivations.specs.Examples.{asserting, eight}
use Rattle.spec_derivations.specs.ExactChains.{AreAlike}
use Rattle.spec_derivations.specs.Copies.{idle, idle_or_not, given, IsIdle, IsUnmixed}
use Rattle.spec_derivations.proofs.Derivations.{follows_at}
use Rattle.spec_derivations.proofs.Eight.{either}
use Rattle.spec_derivations.proofs.Exact.{chain_alike}
use Rattle.spec_derivations.proofs.Spending.{premises_before}

-- whether a term is of the kind
abbrev pub is_idle : Term → Bool
is_idle t = same_term t idle || same_term t idle_or_not

pub idle_is : (t : Term) → is_idle t ≡ true → IsIdle t
idle_is t e = elim (either (same_term t idle) (same_term t idle_or_not) e) [
  | inl h ↦ inl ((terms_decide t idle).0 h)
  | inr h ↦ inr ((terms_decide t idle_or_not).0 h)
]

left_true : (a b : Bool) → a ≡ true → a || b ≡ true
left_true true b e = refl
left_true false b e = absurd (false≢true e)

right_true : (a b : Bool) → b ≡ true → a || b ≡ true
right_true true b e = refl
right_true false b e = e

pub is_idle_by : (t : Term) → IsIdle t → is_idle t ≡ true
is_idle_by t (inl e) = left_true (same_term t idle) (same_term t idle_or_not) ((terms_decide t idle).1 e)
is_idle_by t (inr e) = right_true (same_term t idle) (same_term t idle_or_not) ((terms_decide t idle_or_not).1 e)

-- whether each atom of a clause is like a first one
abbrev all_like : Bool → List Literal → Bool
all_like b [] = true
all_like b (l ∷ ls) = beq (is_idle l.atom) b && all_like b ls

abbrev alike : List Literal → Bool
alike [] = true
alike (l ∷ ls) = all_like (is_idle l.atom) (l ∷ ls)

abbrev all_alike : List (List Literal) → Bool
all_alike [] = true
all_alike (c ∷ cs) = alike c && all_alike cs

like_is : (b : Bool) (ls : List Literal) → all_like b ls ≡ true → (l : Literal) → Contains ls l → is_idle l.atom ≡ b
like_is b [] e l i = absurd (none l i)
like_is b (m ∷ ms) e l i =
    let h = and_parts (beq (is_idle m.atom) b) (all_like b ms) e in
    elim (cases m ms l i) [
      | inl same ↦ ap (λ (x : Literal). is_idle x.atom) (sym same) ∙ (booleans_Decides (is_idle m.atom) b).0 h.0
      | inr rest ↦ like_is b ms h.1 l rest
    ]

alike_is : (c : List Literal) → alike c ≡ true → AreAlike is_idle c
alike_is [] e l m i j = absurd (none l i)
alike_is (x ∷ xs) e l m i j = like_is (is_idle x.atom) (x ∷ xs) e l i ∙ sym (like_is (is_idle x.atom) (x ∷ xs) e m j)

each_alike : (cs : List (List Literal)) → all_alike cs ≡ true → AllByRecursion (AreAlike is_idle) cs
each_alike [] e = tt
each_alike (c ∷ cs) e = let h = and_parts (alike c) (all_alike cs) e in (alike_is c h.0, each_alike cs h.1)

given_are : all_alike given ≡ true
unfolding same_term sort_of second_sort with_subterms with_all_subterms literal_of
given_are = refl

-- so they are
pub given_alike : All (AreAlike is_idle) given
given_alike = All-from_recursion (AreAlike is_idle) given (each_alike given given_are)

abbrev inputs : List (List Literal)
inputs = map literals_of (input_clauses (asserting (eight ++ idle_or_not ∷ [])))

inputs_are : all_alike inputs ≡ true
unfolding same_term sort_of second_sort with_subterms with_all_subterms literal_of
inputs_are = refl

unmixed_alike : (c : List Literal) → IsUnmixed c → AreAlike is_idle c
unmixed_alike c (inl all) l m i j = is_idle_by l.atom (all l i) ∙ sym (is_idle_by m.atom (all m j))
unmixed_alike c (inr free) l m i j = off l i ∙ sym (off m j)
  where
    off : (k : Literal) → Contains c k → is_idle k.atom ≡ false
    off k k_in = false_from_ne_true (is_idle k.atom) (λ e. free k k_in (idle_is k.atom e))

-- where each inference without premises has atoms that are alike
module _ (d : Derivation) (right : IsDerivation d) (bare : (n : ℕ) → n < length d → premises_of (inference_at d n) ≡ [] → IsUnmixed (literals_of (conclusion_at d n))) where
  -- so has each lemma
  module _ (ts : List Term) (since last : ℕ) (low : last < length d) (batch : (n : ℕ) → since ≤ n → n ≤ last → IsLemma ts d since (inference_at d n)) where
    batch_alike : (fuel n : ℕ) → n < fuel → since ≤ n → n ≤ last → AreAlike is_idle (literals_of (conclusion_at d n))
    batch_alike zero n lt from to = absurd (omega (arith, lt))
    batch_alike (suc fuel) n lt from to = go (λ m early late on. batch_alike fuel m (omega (arith, early, lt)) late on) (inference_at d n) refl (batch n from to)
      where
        there : n < length d
        there = omega (arith, to, low)

        go : ((m : ℕ) → m < n → since ≤ m → m ≤ last → AreAlike is_idle (literals_of (conclusion_at d m))) → (x : Inference) → x ≡ inference_at d n → IsLemma ts d since x → AreAlike is_idle (literals_of (conclusion_at d n))
        go earlier («assumption» t) e h = absurd h
        go earlier (by_rule r ps arguments c) e h = elim h.2 [
          | inl none_there ↦ unmixed_alike (literals_of (conclusion_at d n)) (bare n there (ap premises_of (sym e) ∙ none_there))
          | inr exact ↦ subst (λ (x : Inference). AreAlike is_idle (literals_of (conclusion x))) e
              (chain_alike (Contains (map literals_of (map (conclusion_at d) ps))) is_idle (λ a a_in.
              let w = from_image literals_of (map (conclusion_at d) ps) a a_in in
              let v = from_image (conclusion_at d) ps w.0 w.1 in
              let own : Contains (premises_of (inference_at d n)) v.0 = subst (λ (x : Inference). Contains (premises_of x) v.0) e v.1 in
              let less = premises_before (take n d) (inference_at d n) v.0 (follows_at d right n there) own in
              let late = (All-contains (λ m. (since ≤ m) × (m < length d)) ps v.0 h.0 v.1).0 in
              let before : v.0 < n = omega (arith, less, length-take-le n d (omega (arith, there))) in
              subst (λ (ls : List Literal). AreAlike is_idle ls) (ap literals_of v.2 ∙ w.2) (earlier v.0 before late (omega (arith, before, to)))) exact.0 (literals_of c) exact.1)
        ]

  -- and each clause from which a search may learn
  pub input_alike : (c : List Literal) → IsInput (asserting (eight ++ idle_or_not ∷ [])) d c → AreAlike is_idle c
  input_alike c (inl i) = All-contains (AreAlike is_idle) inputs c (All-from_recursion (AreAlike is_idle) inputs (each_alike inputs inputs_are)) i
  input_alike c (inr h) = subst (λ (ls : List Literal). AreAlike is_idle ls) h.same
      (batch_alike (whole_terms (asserting (eight ++ idle_or_not ∷ []))) h.since h.number h.there h.batch (suc h.number) h.number (omega arith) h.begun (omega arith))
