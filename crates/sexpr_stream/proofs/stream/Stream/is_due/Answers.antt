-- What is open is not due.
use Rattle.std.proofs.Common.{◌≢◌, ◌∙◌, ◌≤◌, length, sym, arith}
use Rattle.std.proofs.lemmas.Bool.Decides.{nat_tests}
use Rattle.stream_scan.specs.declared.Scan.TheVariants.{Settled}
use Rattle.stream_scan.specs.Scanning.{scanned_from}
use Rattle.sexpr_stream.specs.Streams.{bytes_of, taken_to}
use Rattle.sexpr_stream.proofs.Continuing.{kept_within}
use Rattle.sexpr_stream.proofs.stream.Stream.is_due.Goals as goal

pub returns-in-Open-clause-more : goal.returns-in-Open-clause-more
returns-in-Open-clause-more c = λ _.
    let s = c.args.self.now in
    let within : taken_to s ≤ length (bytes_of s) = omega (arith, s.placed.within, kept_within (bytes_of s)) in
    let unsettled : scanned_from (bytes_of s) (taken_to s) ≢ Settled = λ e. let k = sym c.in-Open.is ∙ s.scans ∙ e in cc in
    record {
      not_closed = c.if-self.false;
      short = grind (arith, nat_tests, c.if-len-gt-TEXT_LIMIT.false);
      nothing = c.scanning_is_exact.ensures.open (bytes_of s) (taken_to s) within unsettled;
      no_tree = λ t h. c.settled_trees_and_faults_stay.ensures.open (bytes_of s) (taken_to s) t within unsettled h;
    }
