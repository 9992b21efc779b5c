-- Parameters as bound names, the last one first.
use Rattle.std.proofs.Common.{◌≡◌, suc, ◌-◌, [], ◌∷◌, ◌++◌, length, sym, ◌∙◌, subst, arith}
use Rattle.sort_check.specs.Bindings.{BindingsView}
use Rattle.sort_check.proofs.Parameters.{AreBound, bound_begin, bound_go, means_of}
use Rattle.sort_check.proofs.defining.bind_parameters.Goals as goal

pub sorts-init : goal.sorts-init
sorts-init c =
    subst (AreBound c.args.table.now c.args.table.now c.args.names.now c.args.sorts.now (length c.args.sorts.now)) (sym c.new-bound.ensures) (bound_begin c.args.table.now c.args.names.now c.args.sorts.now c.requires.long)

pub sorts-preserved : goal.sorts-preserved
sorts-preserved c =
    let old = c.args.table.now in
    let new = c.put.new.table in
    let ns = c.args.names.now in
    let ss = c.args.sorts.now in
    let b = c.sorts.bound in
    let id = c.in_ok-id.id in
    let k = c.sorts.left - 1 in
    let more : c.sorts.left ≡ suc k = omega (arith, c.sorts-test.true) in
    let long = subst (λ (v : BindingsView). length v.names ≡ length v.terms) c.bound.view_is c.bound.invariant in
    subst (AreBound old new ns ss k) (sym (c.in_ok-push.ensures.added ∙ (λ i. record { names = b.names ++ c.name.ensures i ∷ []; terms = b.terms ++ id ∷ [] })))
    (bound_go old c.sorts.table new ns ss k b id _ (subst (λ j. AreBound old c.sorts.table ns ss j b) more c.sorts.invariant) c.requires.long long c.put.ensures.keeps (means_of new _ _ _ c.put.ensures.ends c.in_ok-id.was))
