-- A place of the bytes that are read is one of all.
use Rattle.std.proofs.Common.{ap, arith, length}
use Rattle.sexpr_stream.specs.Streams.{bytes_of}
use Rattle.sexpr_stream.proofs.Continuing.{kept_within}
use Rattle.sexpr_stream.proofs.stream.Stream.advance.Goals as goal

pub slice_bounds-scan_on-count : goal.slice_bounds-scan_on-count
slice_bounds-scan_on-count c = omega (arith, c.requires.within, kept_within (bytes_of c.args.self.now), ap length c.deref.ensures.value)

pub slice_bounds-scan_on-start : goal.slice_bounds-scan_on-start
slice_bounds-scan_on-start c = omega (arith, c.requires.within, kept_within (bytes_of c.args.self.now), ap length c.deref.ensures.value)
