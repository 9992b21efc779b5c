-- One asserted expression more.
use Rattle.std.proofs.Common.{◌<◌, ℕ, length, map, refl, sym, ap, ◌∙◌, subst, arith}
use Rattle.std.proofs.lemmas.List.{length-map, get_or-map}
use Rattle.assertion_stack.specs.Assertions.{Written, no_written}
use Rattle.script_standing.proofs.Asked.{adds_more}
use Rattle.script_standing.proofs.standing.add_asserted.Goals as goal

pub asserted-preserved : goal.asserted-preserved
asserted-preserved c =
    let k = c.asserted.k in
    let ids = c.current-ids.result.now in
    let written = c.args.stack.now.assertions.written in
    let at : Written → ℕ = λ w. w.at in
    let there : k < length written = omega (arith, c.asserted-test.true, c.each_has_its_text.ensures, ap length c.current-ids.ensures) in
    record {
      so_far = adds_more c.args.expressions.now.items c.asserted.expressions.items c.push.new.self.items ids (map at written) k (record { 0 = 0 }) 0 _ c.asserted-test.true (subst (λ n. k < n) (sym (length-map written at)) there) c.in_ok-push.ensures.items refl
          (ap at c.written.ensures ∙ sym (get_or-map at written k no_written 0 there)) c.asserted.invariant.so_far;
    }
