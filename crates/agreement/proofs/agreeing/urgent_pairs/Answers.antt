-- Pairs of both orders are pairs of the list.
use Rattle.std.proofs.lemmas.List.Sorted.{IsPermutation-trans}
use Rattle.agreement.proofs.Clashes.{both_are}
use Rattle.agreement.proofs.agreeing.urgent_pairs.Goals as goal

pub returns-in_err-add_urgent-2-clause-permutation : goal.returns-in_err-add_urgent-2-clause-permutation
returns-in_err-add_urgent-2-clause-permutation c =
    IsPermutation-trans _ _ _ c.sort_unstable_by_key.ensures.permutation c.sort_unstable_by_key-2.ensures.permutation

pub returns-clause-permutation : goal.returns-clause-permutation
returns-clause-permutation c =
    IsPermutation-trans _ _ _ c.sort_unstable_by_key.ensures.permutation c.sort_unstable_by_key-2.ensures.permutation

pub returns-clause-pairs : goal.returns-clause-pairs
returns-clause-pairs c =
    let moved = IsPermutation-trans _ _ _ c.sort_unstable_by_key.ensures.permutation c.sort_unstable_by_key-2.ensures.permutation in
    both_are c.args.shared.now _ _ _ _ _ c.new-pairs.ensures.items c.sort_unstable_by_key.ensures.permutation moved c.in_ok-add_urgent.ensures c.in_ok-add_urgent-2.ensures
