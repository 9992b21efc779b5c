-- Two quotes are passed, and one ends the body.
use Rattle.std.proofs.Common.{arith}
use Rattle.smt_lexer.proofs.Strings.{body_byte, body_two_quotes, body_last_quote, body_one_quote, body_ends_never}
use Rattle.smt_lexer.proofs.pieces.body_len.Goals as goal
use Rattle.smt_lexer.proofs.pieces.body_len.Goals.{else-n-bytes-via-then-n-bytes+else-bytes-n-eq34, else-n-bytes-via-else-n-bytes}

pub loop-n-preserved-then-bytes-n-ne34 : goal.loop-n-preserved-then-bytes-n-ne34
loop-n-preserved-then-bytes-n-ne34 c = record {
  within = omega arith;
  body = body_byte _ _ c.loop-n-test.true c.loop-n.invariant.body c.if-bytes-n-ne34.true;
}

pub loop-n-preserved : goal.loop-n-preserved
loop-n-preserved c = record {
  within = omega arith;
  body = body_two_quotes _ _ c.loop-n-test.true c.loop-n.invariant.body c.if-bytes-n-ne34.false c.if-n-bytes.true c.if-bytes-n-eq34.true;
}

pub returns-else-n-bytes : goal.returns-else-n-bytes
returns-else-n-bytes c = (
  c.loop-n-test.true,
  elim c.else-n-bytes.branch [
    | else-n-bytes-via-then-n-bytes+else-bytes-n-eq34 w ↦ body_one_quote _ _ c.loop-n-test.true c.loop-n.invariant.body c.if-bytes-n-ne34.false w.if-n-bytes.true w.if-bytes-n-eq34.false
    | else-n-bytes-via-else-n-bytes w ↦ body_last_quote _ _ c.loop-n-test.true c.loop-n.invariant.body c.if-bytes-n-ne34.false (omega (arith, w.if-n-bytes.false))
  ],
)

pub returns : goal.returns
returns c = body_ends_never _ _ (omega arith) c.loop-n.invariant.body
