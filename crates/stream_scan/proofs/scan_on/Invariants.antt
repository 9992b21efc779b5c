-- The bytes that are left lead from the scan before them to where all lead from the first scan. Those before them opened
-- as many lists as they are, at most.
use Rattle.std.proofs.Common.{◌≡◌, ◌+◌, ◌≤◌, drop}
use Rattle.stream_scan.specs.Scanning.{lists_of, scanned}
use Rattle.stream_scan.proofs.scan_on.Given as goal

abbrev pub invariant-loop-b : goal.invariant-loop-b
invariant-loop-b l = record {
  leads : scanned l.scan (drop l.b-index l.bytes) ≡ scanned l.fn.from l.bytes;
  lists : lists_of l.scan ≤ lists_of l.fn.from + l.b-index;
}
