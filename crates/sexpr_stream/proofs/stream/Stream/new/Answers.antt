-- The start is a place of every text.
use Rattle.std.proofs.Common.{◌∙◌, sym, ap, arith, length, List, ℕ}
use Rattle.spec_text.specs.Readings.{kept}
use Rattle.stream_scan.specs.Scanning.{scanned_from}
use Rattle.sexpr_stream.proofs.stream.Stream.new.Goals as goal

pub invariant_of-result : goal.invariant_of-result
invariant_of-result c = record {
  placed = c.start.ensures.place (kept c.new.result.items);
  small = omega (arith, ap length c.new.ensures.items);
  counted = omega (arith, ap length c.new.ensures.items);
  scans = sym (ap (λ n. scanned_from c.new.result.items n) c.start.ensures.offset ∙ ap (λ (b : List ℕ). scanned_from b 0) c.new.ensures.items);
}
