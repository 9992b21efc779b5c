use Rattle.std.proofs.Common.{rules, arith, sym, ◌∙◌}
use Rattle.std.specs.Vec.{vec_len}
use Rattle.std.proofs.lemmas.Bool.Decides.{Decides-eqb}
use Rattle.std.proofs.lemmas.List.MinMax.{ranks_by}
use Rattle.std.proofs.lemmas.List.Sorted.{answers_always, IsPermutation-trans}
use Rattle.agreement.specs.declared.agreeing.Shared.{Shared}
use Rattle.agreement.proofs.Orders.{by_value, values_total, agree_in}
use Rattle.agreement.proofs.Clashes.{both_are, pairs_of, none_of_both, above_none}
use Rattle.agreement.proofs.agreeing.agree.Goals as goal

pub returns-in_err-add_clashes-clause-permutation : goal.returns-in_err-add_clashes-clause-permutation
returns-in_err-add_clashes-clause-permutation c =
    IsPermutation-trans _ _ _ c.in_ok-urgent.ensures.permutation c.sort_unstable_by.ensures.permutation

pub returns-in_err-add_clashes-2-clause-permutation : goal.returns-in_err-add_clashes-2-clause-permutation
returns-in_err-add_clashes-2-clause-permutation c =
    IsPermutation-trans _ _ _ c.in_ok-urgent.ensures.permutation (IsPermutation-trans _ _ _ c.sort_unstable_by.ensures.permutation c.sort_unstable_by_key.ensures.permutation)

pub returns-then-is_empty-clause-permutation : goal.returns-then-is_empty-clause-permutation
returns-then-is_empty-clause-permutation c =
    IsPermutation-trans _ _ _ c.in_ok-urgent.ensures.permutation (IsPermutation-trans _ _ _ c.sort_unstable_by.ensures.permutation c.sort_unstable_by_key.ensures.permutation)

pub returns-then-is_empty-clause-answer : goal.returns-then-is_empty-clause-answer
returns-then-is_empty-clause-answer c =
    let moved = IsPermutation-trans _ _ _ c.in_ok-urgent.ensures.permutation c.sort_unstable_by.ensures.permutation in
    let rise = c.sort_unstable_by.ensures.sorted by_value (ranks_by values_total (λ (s : Shared). s.value)) (answers_always _ _ _ (λ f a r g h. search rules)) in
    let climb = c.sort_unstable_by_key.ensures.sorted (λ (s : Shared). s.class) (answers_always _ _ _ (λ f a r g h. search rules)) in
    let none = none_of_both _ _ _ _ _ c.in_ok-add_clashes.ensures c.in_ok-add_clashes-2.ensures (omega (arith, c.add_clashes-2.new.pairs.ok.0, (Decides-eqb (vec_len c.add_clashes-2.new.pairs) 0).0 (sym c.is_empty-2.ensures ∙ c.if-is_empty.true))) in
    agree_in c.args.shared.now _ _ moved c.sort_unstable_by_key.ensures.permutation rise climb none.0 none.1

pub returns-clause-permutation : goal.returns-clause-permutation
returns-clause-permutation c =
    IsPermutation-trans _ _ _ c.in_ok-urgent.ensures.permutation (IsPermutation-trans _ _ _ c.sort_unstable_by.ensures.permutation c.sort_unstable_by_key.ensures.permutation)

pub returns-clause-answer : goal.returns-clause-answer
returns-clause-answer c =
    let one = IsPermutation-trans _ _ _ c.in_ok-urgent.ensures.permutation c.sort_unstable_by.ensures.permutation in
    let other = IsPermutation-trans _ _ _ one c.sort_unstable_by_key.ensures.permutation in (
      both_are c.args.shared.now _ _ _ _ _ c.new-pairs.ensures.items one other (pairs_of _ _ _ c.in_ok-add_clashes.ensures) (pairs_of _ _ _ c.in_ok-add_clashes-2.ensures),
      omega (arith, c.add_clashes-2.new.pairs.ok.0, above_none (vec_len c.add_clashes-2.new.pairs) (sym c.is_empty-2.ensures ∙ c.if-is_empty.false)),
    )
