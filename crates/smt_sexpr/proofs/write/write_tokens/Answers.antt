-- Each token is a part of the tree.
use Rattle.std.proofs.Common.{[], ◌++◌}
use Rattle.spec_text.specs.Printed.{printed}
use Rattle.world_io.proofs.Sending.{nothing_sent, sent_both, sends_failed}
use Rattle.smt_sexpr.specs.Printing.{token_bytes}
use Rattle.smt_sexpr.proofs.Tokens.{left_all, left_none, taken, no_end_left, token_fails}
use Rattle.smt_sexpr.proofs.write.write_tokens.Goals as goal

pub loop-place-init : goal.loop-place-init
loop-place-init g c = record {
  place = c.requires;
  tree = λ t h. ([], left_all c.args.text.now t c.args.first.offset c.args.last h, nothing_sent _);
}

pub returns-in_default : goal.returns-in_default
returns-in_default g c t h =
    let i = c.loop-place.invariant.tree t h in
    absurd (no_end_left _ t _ _ _ i.0 i.1 c.loop-place-test.true c.in_default.ensures)

pub returns-in_err-write_token : goal.returns-in_err-write_token
returns-in_err-write_token g c t h =
    let i = c.loop-place.invariant.tree t h in
    let k = taken _ t _ _ _ i.0 i.1 c.loop-place-test.true c.in-Some.ensures.0 _ c.in-Some.token c.in-Some.ensures.1 in
    sends_failed _ _ _ _ c.from_residual.ensures.0 (token_fails (printed t) i.0 _ k.later _ _ _ k.bytes i.2 c.in_err-write_token.ensures)

pub loop-place-preserved : goal.loop-place-preserved
loop-place-preserved g c = record {
  place = c.in-Some.ensures.3;
  tree = λ t h.
      let i = c.loop-place.invariant.tree t h in
      let k = taken _ t _ _ _ i.0 i.1 c.loop-place-test.true c.in-Some.ensures.0 _ c.in-Some.token c.in-Some.ensures.1 in
      (i.0 ++ token_bytes c.loop-place.wanted c.in-Some.token, rw c.wants_space-wanted.ensures k.left, sent_both _ _ _ _ _ i.2 c.in_ok-write_token.ensures);
}

pub returns : goal.returns
returns g c t h =
    let i = c.loop-place.invariant.tree t h in
    rw (left_none _ t _ _ _ i.0 i.1 c.loop-place-test.false) i.2
