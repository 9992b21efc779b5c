-- No byte is taken that was not fed.
use Rattle.std.proofs.Common.{arith}
use Rattle.sexpr_stream.specs.Streams.{bytes_of}
use Rattle.sexpr_stream.proofs.Continuing.{kept_within}
use Rattle.sexpr_stream.proofs.stream.Stream.held.Goals as goal

pub overflow_sub-result : goal.overflow_sub-result
overflow_sub-result c =
    let s = c.args.self.now in
    omega (arith, s.placed.within, kept_within (bytes_of s), s.counted)
