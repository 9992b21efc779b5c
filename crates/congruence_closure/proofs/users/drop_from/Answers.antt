-- What is taken off is not below the place.
use Rattle.std.proofs.Common.{◌≡◌, ◌-◌, ◌<◌, length, take, get_or, arith, sym, ap, ◌∙◌, subst}
use Rattle.std.specs.Prelude.{Contains}
use Rattle.std.proofs.lemmas.Grind.{common_steps}
use Rattle.std.proofs.lemmas.List.{get_or_default}
use Rattle.congruence_closure.proofs.Places.{before_last}
use Rattle.congruence_closure.proofs.users.drop_from.Goals as goal

pub places-preserved : goal.places-preserved
places-preserved c = λ i low there.
    let n : c.len-last.result ≡ length c.places.list.items = omega (arith, c.places.list.ok.0) in
    let some : 0 < length c.places.list.items = grind (arith, common_steps, c.is_empty.ensures, c.places-test.true) in
    let last : c.index.result.now ≡ get_or c.places.list.items (length c.places.list.items - 1) 0
    = c.index.ensures ∙ get_or_default c.places.list.items (c.len-last.result - 1) c.index.result.now 0 (omega arith) ∙ ap (λ k. get_or c.places.list.items (k - 1) 0) n in
    rw c.truncate.ensures.items (subst (λ k. Contains (take (k - 1) c.places.list.items) i) (sym n)
    (before_last c.places.list.items c.args.place i some (omega (arith, last)) low (c.places.invariant i low there)))
