-- Marking what can be reached, from the greatest number down.
use Rattle.std.proofs.Common.{◌≡◌, ℕ, zero, suc, ◌<◌, ◌≤◌, inl, inr, Bool, true, false, List, [], ◌∷◌, ◌++◌, length, take, drop, Contains, sym, ap, ◌∙◌, subst, refl, arith}
use Rattle.std.specs.List.{slice_set}
use Rattle.std.proofs.lemmas.Bool.{false≢true, cases_eq}
use Rattle.std.proofs.lemmas.List.{get_or-set_same, get_or-set_other, length-set}
use Rattle.std.proofs.lemmas.List.Elements.{Contains-append_left, Contains-append_right, Contains-append_cases}
use Rattle.alethe_writer.specs.Marks.{IsNumberMarked, MarksNumbers, Reaches, root, onward}

-- what was written into a list's place, taken back
pub written_back : {A : Type 0} (new items : List A) (n : ℕ) → n ≡ length new → take n (new ++ drop (length new) items) ≡ new
written_back new items n e = ap (λ m. take m (new ++ drop (length new) items)) e ∙ front new (drop (length new) items)
  where
    front : {A : Type 0} (xs ys : List A) → take (length xs) (xs ++ ys) ≡ xs
    front [] ys = refl
    front (x ∷ xs) ys = ap (λ zs. x ∷ zs) (front xs ys)

-- no number is marked beyond the marks
pub marked_below : (marks : List Bool) (k : ℕ) → IsNumberMarked marks k → k < length marks
marked_below [] k e = absurd (false≢true e)
marked_below (m ∷ ms) zero e = omega arith
marked_below (m ∷ ms) (suc k) e = let lt = marked_below ms k e in omega arith

-- the only one of a list
pub only_one : (n k : ℕ) → Contains (n ∷ []) k → n ≡ k
only_one n k (zero, lt, e) = e
only_one n k (suc i, lt, e) = absurd (omega (arith, lt))

-- one number more
pub marks_one : (old mid : List Bool) (ns : List ℕ) (n : ℕ) → n < length mid → MarksNumbers old ns mid → MarksNumbers old (ns ++ n ∷ []) (slice_set mid n true)
marks_one old mid ns n lt m = record {
  same_length = length-set mid n true ∙ m.same_length;
  kept = λ k e. set_keeps k (m.kept k e);
  there = λ k c. elim (Contains-append_cases ns (n ∷ []) k c) [
    | inl early ↦ set_keeps k (m.there k early)
    | inr last ↦ subst (IsNumberMarked (slice_set mid n true)) (only_one n k last) (get_or-set_same mid n true false lt)
  ];
  no_others = λ k e. elim (cases_eq k n) [
    | inl same ↦ inr (Contains-append_right ns (n ∷ []) k (subst (Contains (n ∷ [])) (sym same) (0, omega arith, refl)))
    | inr differ ↦ elim (m.no_others k (sym (get_or-set_other mid n k true false differ) ∙ e)) [
      | inl early ↦ inl early
      | inr c ↦ inr (Contains-append_left ns (n ∷ []) k c)
    ]
  ];
}
  where
    set_keeps : (k : ℕ) → IsNumberMarked mid k → IsNumberMarked (slice_set mid n true) k
    set_keeps k e = elim (cases_eq k n) [
      | inl same ↦ subst (IsNumberMarked (slice_set mid n true)) (sym same) (get_or-set_same mid n true false lt)
      | inr differ ↦ get_or-set_other mid n k true false differ ∙ e
    ]

-- The roots are marked, and with each marked number from `from` on those that come next.
pub record IsClosedFrom (Root : ℕ → Type 0) (Next : ℕ → ℕ → Type 0) (from : ℕ) (marks : List Bool) : Type 0 where
  pub starts : (k : ℕ) → Root k → IsNumberMarked marks k
  pub sound : (k : ℕ) → IsNumberMarked marks k → Reaches Root Next k
  pub closed : (k j : ℕ) → from ≤ k → IsNumberMarked marks k → Next k j → IsNumberMarked marks j

module _ (Root : ℕ → Type 0) (Next : ℕ → ℕ → Type 0) where
  -- the roots alone are marked
  pub closing_start : (marks : List Bool) → ((k : ℕ) → Root k → IsNumberMarked marks k) → ((k : ℕ) → IsNumberMarked marks k → Root k) → IsClosedFrom Root Next (length marks) marks
  closing_start marks each only = record {
    starts = each;
    sound = λ k e. root k (only k e);
    closed = λ k j le e next. let lt = marked_below marks k e in absurd (omega (arith, le, lt));
  }

  -- those that come next after one marked number more
  pub closing_more : (n : ℕ) (old new : List Bool) (ns : List ℕ) → IsClosedFrom Root Next (suc n) old → IsNumberMarked old n → ((j : ℕ) → Next n j → Contains ns j) → ((j : ℕ) → Contains ns j → Next n j) → ((j : ℕ) → Contains ns j → j < n) → MarksNumbers old ns new → IsClosedFrom Root Next n new
  closing_more n old new ns h here each only below m = record {
    starts = λ k r. m.kept k (h.starts k r);
    sound = λ k e. elim (m.no_others k e) [
      | inl early ↦ h.sound k early
      | inr c ↦ onward n k (h.sound n here) (only k c)
    ];
    closed = λ k j le e next. elim (m.no_others k e) [
      | inr c ↦ let lt = below k c in absurd (omega (arith, le, lt))
      | inl early ↦ elim (cases_eq k n) [
        | inl same ↦ m.there j (each j (subst (λ i. Next i j) same next))
        | inr differ ↦ m.kept j (h.closed k j (grind (arith, le, differ)) early next)
      ]
    ];
  }

  -- a number that is not marked
  pub closing_skip : (n : ℕ) (marks : List Bool) → IsClosedFrom Root Next (suc n) marks → (IsNumberMarked marks n → ⊥) → IsClosedFrom Root Next n marks
  closing_skip n marks h free = record {
    starts = h.starts;
    sound = h.sound;
    closed = λ k j le e next. elim (cases_eq k n) [
      | inl same ↦ absurd (free (subst (IsNumberMarked marks) same e))
      | inr differ ↦ h.closed k j (grind (arith, le, differ)) e next
    ];
  }

  -- all that can be reached is marked
  pub closing_end : (marks : List Bool) → IsClosedFrom Root Next 0 marks → (k : ℕ) → Reaches Root Next k → IsNumberMarked marks k
  closing_end marks h k (root _ r) = h.starts k r
  closing_end marks h k (onward j _ r next) = h.closed j k (omega arith) (closing_end marks h j r) next
