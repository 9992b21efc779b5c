-- Entries with other signs, and what the sum of a key is.
use Rattle.std.proofs.Common.{◌≡◌, ℕ, ◌+◌, ◌<◌, Bool, true, false, List, [], ◌∷◌, ◌++◌, length, take, get_or, refl, sym, ◌∙◌, ap, add-one}
use Rattle.std.proofs.Math.Seq.{take-suc}
use Rattle.std.proofs.lemmas.List.{map_push}
use Rattle.std.proofs.lemmas.List.Sorted.{IsPermutation-map}
use Rattle.spec_tableaux.specs.Spaces.{as_space}
use Rattle.spec_tableaux.specs.Rows.{Entry, sum_of, negated}
use Rattle.spec_tableaux.specs.Numbers.{Number, numbers}
use Rattle.spec_tableaux.proofs.Numbers.{numbers_are_ordered_field}
use Rattle.spec_tableaux.proofs.OrderedSpaces.{field_is_space}
use Rattle.spec_tableaux.proofs.Sums.{sum_negated}
use Rattle.spec_tableaux.proofs.Signs.{opposite_is, opposite_twice}
use Rattle.ratio128.specs.declared.ratio.Ratio.{Ratio}
use Rattle.tableau.specs.declared.entries.Entry.{Entry as CodeEntry}
use Rattle.tableau.specs.Numbers.{number_of}
use Rattle.tableau.specs.Entries.{entry_of, entries_of}
use Rattle.simplex_atoms.specs.declared.keys.Key.{Key}
use Rattle.simplex_atoms.specs.Sums.{sign_by, with_sign, signed_entries, pair_meant, pairs_meant, key_meant, IsKeyOf}
use Rattle.simplex_atoms.proofs.Summing.{total_reordered}

-- one entry more

negated_more : (es : List (Entry Number)) (e : Entry Number) → negated numbers (es ++ e ∷ []) ≡ negated numbers es ++ record { variable = e.variable; coefficient = numbers.opposite e.coefficient } ∷ []
negated_more [] e = refl
negated_more (x ∷ es) e = ap (λ (l : List (Entry Number)). record { variable = x.variable; coefficient = numbers.opposite x.coefficient } ∷ l) (negated_more es e)

signed_more : (b : Bool) (es : List (Entry Number)) (e : Entry Number) → signed_entries b (es ++ e ∷ []) ≡ signed_entries b es ++ record { variable = e.variable; coefficient = with_sign b e.coefficient } ∷ []
signed_more false es e = refl
signed_more true es e = negated_more es e

pub listed_none : (b : Bool) (es : List CodeEntry) (ps : List (ℕ × Ratio)) → ps ≡ [] → pairs_meant ps ≡ signed_entries b (entries_of (take 0 es))
listed_none false es ps e = ap pairs_meant e
listed_none true es ps e = ap pairs_meant e

pub listed_step : (b : Bool) (es : List CodeEntry) (i : ℕ) (e : CodeEntry) (k : Ratio) (ps qs : List (ℕ × Ratio)) → pairs_meant ps ≡ signed_entries b (entries_of (take i es)) → i < length es → e ≡ get_or es i e
    → number_of k ≡ with_sign b (number_of e.coefficient) → qs ≡ ps ++ (e.variable, k) ∷ [] → pairs_meant qs ≡ signed_entries b (entries_of (take (i + 1) es))
listed_step b es i e k ps qs h lt is sign pushed =
    let taken : take (i + 1) es ≡ take i es ++ e ∷ [] = ap (λ n. take n es) (add-one i) ∙ take-suc es i e lt ∙ ap (λ x. take i es ++ x ∷ []) (sym is) in
    ap pairs_meant pushed ∙ map_push pair_meant ps (e.variable, k)
    ∙ (λ j. h j ++ record { variable = e.variable; coefficient = sign j } ∷ [])
    ∙ sym (ap (λ (l : List CodeEntry). signed_entries b (entries_of l)) taken ∙ ap (signed_entries b) (map_push entry_of (take i es) e) ∙ signed_more b (entries_of (take i es)) (entry_of e))

-- the sum of a key

signs : (a : Bool) (x : Number) → numbers.times (sign_by a) (numbers.times (sign_by a) x) ≡ x
signs a x = sym (numbers_are_ordered_field.product_associative (sign_by a) (sign_by a) x) ∙ ap (λ k. numbers.times k x) (square a) ∙ numbers_are_ordered_field.product_one x
  where
    square : (a : Bool) → numbers.times (sign_by a) (sign_by a) ≡ numbers.one
    square false = numbers_are_ordered_field.product_one numbers.one
    square true = sym (opposite_is numbers numbers_are_ordered_field (numbers.opposite numbers.one)) ∙ opposite_twice numbers numbers_are_ordered_field numbers.one

signed_sum : (v : ℕ → Number) (b : Bool) (es : List (Entry Number)) → sum_of (as_space numbers) v (signed_entries b es) ≡ numbers.times (sign_by b) (sum_of (as_space numbers) v es)
signed_sum v false es = sym (numbers_are_ordered_field.product_one (sum_of (as_space numbers) v es))
signed_sum v true es = sum_negated (as_space numbers) (field_is_space numbers numbers_are_ordered_field) v es

pub key_sum : (v : ℕ → Number) (es : List CodeEntry) (key : Key) → IsKeyOf es key → sum_of (as_space numbers) v (key_meant key) ≡ numbers.times (sign_by key.opposite) (sum_of (as_space numbers) v (entries_of es))
key_sum v es key k =
    ap (sum_of (as_space numbers) v) k.is ∙ signed_sum v key.opposite (entries_of k.sorted)
    ∙ ap (numbers.times (sign_by key.opposite)) (total_reordered numbers numbers_are_ordered_field v (entries_of es) (entries_of k.sorted) (IsPermutation-map entry_of es k.sorted k.same))

pub sum_by_key : (v : ℕ → Number) (es : List CodeEntry) (key : Key) → IsKeyOf es key → sum_of (as_space numbers) v (entries_of es) ≡ numbers.times (sign_by key.opposite) (sum_of (as_space numbers) v (key_meant key))
sum_by_key v es key k = sym (ap (numbers.times (sign_by key.opposite)) (key_sum v es key k) ∙ signs key.opposite (sum_of (as_space numbers) v (entries_of es)))
