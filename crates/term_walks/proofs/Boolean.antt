-- One step over values, true or not.
use Rattle.std.proofs.Common.{◌≡◌, ℕ, ◌+◌, ◌<◌, ◌≤◌, Bool, true, false, ◌&&◌, ◌||◌, List, length, get_or, drop, sym, ap, ◌∙◌}
use Rattle.std.proofs.lemmas.List.{drop_more}
use Rattle.std.proofs.Math.ListN.{drop_of_length-le}
use Rattle.spec_text.specs.Bytes.{Name}
use Rattle.spec_sorts.specs.Values.{is_true, all_true, any_true}
use Rattle.term_walks.specs.declared.values.Value.{Value as CodeValue}
use Rattle.term_walks.specs.Valuations.{value_meant, values_meant}

module _ (sorts : List Name) (vs : List CodeValue) (k : ℕ) where
  pub all_more : (v : CodeValue) (b : Bool) → k < length vs → v ≡ get_or vs k v → b ≡ is_true (value_meant sorts v)
      → all_true (values_meant sorts (drop k vs)) ≡ b && all_true (values_meant sorts (drop (k + 1) vs))
  all_more v b lt is e =
      ap (λ l. all_true (values_meant sorts l)) (drop_more vs k v lt)
      ∙ ap (λ x. is_true (value_meant sorts x) && all_true (values_meant sorts (drop (k + 1) vs))) (sym is)
      ∙ ap (λ x. x && all_true (values_meant sorts (drop (k + 1) vs))) (sym e)

  pub any_more : (v : CodeValue) (b : Bool) → k < length vs → v ≡ get_or vs k v → b ≡ is_true (value_meant sorts v)
      → any_true (values_meant sorts (drop k vs)) ≡ b || any_true (values_meant sorts (drop (k + 1) vs))
  any_more v b lt is e =
      ap (λ l. any_true (values_meant sorts l)) (drop_more vs k v lt)
      ∙ ap (λ x. is_true (value_meant sorts x) || any_true (values_meant sorts (drop (k + 1) vs))) (sym is)
      ∙ ap (λ x. x || any_true (values_meant sorts (drop (k + 1) vs))) (sym e)

  pub all_end : length vs ≤ k → all_true (values_meant sorts (drop k vs)) ≡ true
  all_end le = ap (λ l. all_true (values_meant sorts l)) (drop_of_length-le vs le)

  pub any_end : length vs ≤ k → any_true (values_meant sorts (drop k vs)) ≡ false
  any_end le = ap (λ l. any_true (values_meant sorts l)) (drop_of_length-le vs le)
