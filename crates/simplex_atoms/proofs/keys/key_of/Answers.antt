-- The key is of the entries in order.
use Rattle.std.proofs.Common.{List, rules, ◌∙◌, ap, subst}
use Rattle.std.specs.Prelude.{◌≡◌, IsPermutation}
use Rattle.std.specs.Ordering.{nat_cmp}
use Rattle.std.specs.List.Sorted.{IsStableByKey}
use Rattle.std.proofs.lemmas.List.Sorted.{IsNonDecreasingBy-from_sort_by_key}
use Rattle.std.proofs.lemmas.Fn.{always_returns_same}
use Rattle.tableau.specs.declared.entries.Entry.{Entry}
use Rattle.tableau.specs.Entries.{entries_of}
use Rattle.simplex_atoms.specs.Sums.{signed_entries, begins_negative}
use Rattle.simplex_atoms.proofs.keys.key_of.Goals as goal

pub returns : goal.returns
returns c = record {
  sorted = c.sort_by_key.new.self.items;
  same = subst (λ (es : List Entry). IsPermutation es c.sort_by_key.new.self.items) c.in_ok-sorted.ensures.items c.sort_by_key.ensures.permutation;
  order = IsNonDecreasingBy-from_sort_by_key (λ (e : Entry). e.variable) c.sort_by_key.new.self.items c.in_ok-sort_by_key.ensures.sorted (λ a r q k. search rules);
  stable =
      subst (λ (es : List Entry). IsStableByKey (λ (e : Entry). e.variable) nat_cmp es c.sort_by_key.new.self.items) c.in_ok-sorted.ensures.items
      (c.in_ok-sort_by_key.ensures.stable (λ (e : Entry). e.variable) (always_returns_same _ (λ a r. r ≡ a.0.now.variable) _ (λ a r q k. search rules)));
  opposite = c.begins_negative-opposite.ensures ∙ ap (λ (es : List Entry). begins_negative (entries_of es)) c.deref.ensures.value;
  is = c.in_ok-entries.ensures ∙ ap (λ (es : List Entry). signed_entries c.begins_negative-opposite.result (entries_of es)) c.deref-2.ensures.value;
}
