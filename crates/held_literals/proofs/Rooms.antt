-- Literals that are held once each, over watched terms, are at most twice as many.
use Rattle.std.proofs.Common.{◌≡◌, ◌≢◌, ◌==◌, ◌&&◌, ◌*◌, ◌<◌, ◌≤◌, zero, suc, Bool, true, false, List, [], ◌∷◌, ◌++◌, length, get_or, All, Contains, inl, inr, refl, sym, ap, ◌∙◌, subst, arith}
use Rattle.std.specs.Bool.{Decides, beq}
use Rattle.std.specs.Cmp.{IsEquivalence, booleans_Decides}
use Rattle.std.specs.List.{AllPairs}
use Rattle.std.proofs.lemmas.Bool.Decides.{Decides-eqb, Decides-like, same_from_decides}
use Rattle.std.proofs.lemmas.Bool.{and_parts}
use Rattle.std.proofs.lemmas.List.{length-append}
use Rattle.std.proofs.lemmas.List.Elements.{Contains-append_right, Contains-get_or, All-contains}
use Rattle.std.proofs.lemmas.Map.Made.{length-le_from_is_member, is_member-Decides, IsDistinct-from_AllPairs}
use Rattle.term_core.specs.declared.ids.TermId.{TermId}
use Rattle.term_core.specs.declared.ids.Lit.{Lit}
use Rattle.held_literals.specs.Room.{IsHeldOver}
use Rattle.held_literals.proofs.Marks.{early, last, place}

same_lit : Lit → Lit → Bool
same_lit a b = (a.term.0 == b.term.0) && beq a.positive b.positive

bit_itself : (a : Bool) → beq a a ≡ true
bit_itself true = refl
bit_itself false = refl

itself : (a : Lit) → same_lit a a ≡ true
unfolding same_lit
itself a = λ i. (Decides-eqb a.term.0 a.term.0).1 refl i && bit_itself a.positive i

one : (a b : Lit) → same_lit a b ≡ true → a ≡ b
unfolding same_lit
one a b e =
    let h = and_parts (a.term.0 == b.term.0) (beq a.positive b.positive) e in
    let t = (Decides-eqb a.term.0 b.term.0).0 h.0 in
    let s = (booleans_Decides a.positive b.positive).0 h.1 in
    λ i. record { term = record { 0 = t i }; positive = s i }

decides : (a b : Lit) → Decides (same_lit a b) (a ≡ b)
decides a b = (one a b, λ e. subst (λ x. same_lit a x ≡ true) e (itself a))

equivalence : IsEquivalence same_lit
equivalence = record {
  refl = itself;
  symm = λ a b. same_from_decides _ _ (decides a b) (Decides-like _ sym sym (decides b a));
  congr = λ a b c e. ap (λ x. same_lit x c) (one a b e);
}

-- both literals of each term
both : List TermId → List Lit
both [] = []
both (t ∷ ts) = record { term = t; positive = true } ∷ record { term = t; positive = false } ∷ both ts

twice : (ts : List TermId) → length (both ts) ≡ 2 * length ts
unfolding both
twice [] = refl
twice (t ∷ ts) = omega (arith, twice ts)

has_both : (ts : List TermId) (l : Lit) → Contains ts l.term → Contains (both ts) l
unfolding both
has_both [] l c = absurd (omega (arith, c.1))
has_both (t ∷ ts) l (zero, lt, e) = go l.positive refl
  where
    go : (b : Bool) → l.positive ≡ b → Contains (both (t ∷ ts)) l
    go true s = (0, omega arith, λ i. record { term = e i; positive = sym s i })
    go false s = (1, omega arith, λ i. record { term = e i; positive = sym s i })
has_both (t ∷ ts) l (suc k, lt, e) = Contains-append_right (record { term = t; positive = true } ∷ record { term = t; positive = false } ∷ []) (both ts) l (has_both ts l (k, omega (arith, lt), e))

pub bounded : (held : List Lit) (watched : List TermId) → AllPairs (λ l m. l ≢ m) held → All (λ (l : Lit). Contains watched l.term) held → length held ≤ 2 * length watched
bounded held watched once over =
    let le = length-le_from_is_member equivalence held (both watched) (IsDistinct-from_AllPairs decides held once)
    (λ l m. (is_member-Decides decides (both watched) l).1 (has_both watched l (All-contains (λ (x : Lit). Contains watched x.term) held l over ((is_member-Decides decides held l).0 m)))) in
    omega (arith, le, twice watched)

-- with a new literal
module _ (held : List Lit) (watched : List TermId) (l : Lit) (h : IsHeldOver held watched) (there : Contains watched l.term) (fresh : Contains held l → ⊥) where
  once_more : AllPairs (λ l m. l ≢ m) (held ++ l ∷ [])
  once_more i j d lt within = elim (place j (length held) (omega (arith, within, length-append held (l ∷ [])))) [
    | inl j_in ↦ λ e. h.once i j d lt j_in (sym (early held (l ∷ []) i d (omega (arith, lt, j_in))) ∙ e ∙ early held (l ∷ []) j d j_in)
    | inr is ↦ λ e.
        let i_in : i < length held = omega (arith, lt, is) in
        fresh (subst (Contains held) (sym (early held (l ∷ []) i d i_in) ∙ e ∙ ap (λ k. get_or (held ++ l ∷ []) k d) is ∙ last held l d) (Contains-get_or held i d i_in))
  ]

  over_more : All (λ (x : Lit). Contains watched x.term) (held ++ l ∷ [])
  over_more k d lt = elim (place k (length held) (omega (arith, lt, length-append held (l ∷ [])))) [
    | inl k_in ↦ subst (λ (x : Lit). Contains watched x.term) (sym (early held (l ∷ []) k d k_in)) (h.over k d k_in)
    | inr is ↦ subst (λ (x : Lit). Contains watched x.term) (sym (ap (λ n. get_or (held ++ l ∷ []) n d) is ∙ last held l d)) there
  ]

  pub room_left : length held < 2 * length watched
  room_left = omega (arith, bounded (held ++ l ∷ []) watched once_more over_more, length-append held (l ∷ []))

  pub held_more : IsHeldOver (held ++ l ∷ []) watched
  held_more = record { once = once_more; over = over_more }
