-- What there was at marks, while merges come and go.
use Rattle.std.proofs.Common.{arith, ◌≡◌, ◌∙◌, ℕ, suc, ◌<◌, List, [], ◌∷◌, ◌++◌, length, map, take, refl, sym, ap, ap₂, subst, length-take, get_or-take}
use Rattle.std.proofs.lemmas.List.{take-map, take-take, take-append-le}
use Rattle.class_table.specs.declared.rings.Merge.{Merge}
use Rattle.class_table.specs.declared.rings.MergeMark.{MergeMark}
use Rattle.class_table.specs.Rings.{alone, after_all}
use Rattle.class_table.specs.Kept.{numbers_at, mark_at, no_mark, AreMergeMarks}

-- of the merges of a mark no others matter
same_numbers : (ms ns : List Merge) (marks : List MergeMark) → ((k : ℕ) → k < length marks → take (mark_at marks k).merges ms ≡ take (mark_at marks k).merges ns)
    → map (numbers_at ms) marks ≡ map (numbers_at ns) marks
same_numbers ms ns [] same = refl
same_numbers ms ns (mark ∷ marks) same =
    ap₂ (λ xs rest. (after_all (alone mark.terms) xs).numbers ∷ rest) (same 0 (omega arith)) (same_numbers ms ns marks (λ k lt. same (suc k) (omega (arith, lt))))

module _ (marks : List MergeMark) (terms : ℕ) (merges : List Merge) (are : AreMergeMarks marks terms merges) where
  -- one merge more changes none
  pub marks_kept : (after : List Merge) (m : Merge) → after ≡ merges ++ m ∷ [] → map (numbers_at after) marks ≡ map (numbers_at merges) marks
  marks_kept after m e =
      ap (λ ms. map (numbers_at ms) marks) e
      ∙ same_numbers (merges ++ m ∷ []) merges marks (λ k lt. take-append-le (mark_at marks k).merges merges (m ∷ []) (are.fit k lt).1)

  -- to go back to a mark changes none that is older
  pub marks_back : (n : ℕ) → n < length marks → map (numbers_at (take (mark_at marks n).merges merges)) (take n marks) ≡ take n (map (numbers_at merges) marks)
  marks_back n low =
      same_numbers (take (mark_at marks n).merges merges) merges (take n marks) (λ k lt. older k (omega (arith, lt, length-take n marks)))
      ∙ sym (take-map (numbers_at merges) n marks)
    where
      older : (k : ℕ) → k < n → take (mark_at (take n marks) k).merges (take (mark_at marks n).merges merges) ≡ take (mark_at (take n marks) k).merges merges
      older k lt =
          subst (λ (m : MergeMark). take m.merges (take (mark_at marks n).merges merges) ≡ take m.merges merges) (sym (get_or-take n marks k no_mark lt))
          (take-take (mark_at marks k).merges (mark_at marks n).merges merges (are.ordered k n (omega (arith, lt)) low).1)
