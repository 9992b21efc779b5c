-- After what is settled nothing changes.
use Rattle.std.proofs.Common.{◌∙◌, sym, ap, drop, get_or, ◌+◌, ◌∷◌, arith}
use Rattle.std.proofs.lemmas.List.{drop_more}
use Rattle.stream_scan.specs.Scanning.{lists_of, scanned}
use Rattle.stream_scan.proofs.Scans.{scanned_settled, next_lists}
use Rattle.stream_scan.proofs.scan_on.Goals as goal

pub returns-in-Settled : goal.returns-in-Settled
returns-in-Settled c =
    sym (scanned_settled (drop c.loop-b.b-index c.args.bytes.now)) ∙ ap (λ s. scanned s (drop c.loop-b.b-index c.args.bytes.now)) (sym c.in-Settled.is) ∙ c.loop-b.invariant.leads

pub loop-b-preserved : goal.loop-b-preserved
loop-b-preserved c =
    let bytes = c.args.bytes.now in
    let b = get_or bytes c.loop-b.b-index 0 in
    let rest = drop (c.loop-b.b-index + 1) bytes in
    record {
      leads = ap (λ s. scanned s rest) c.next_scan-scan.ensures ∙ sym (ap (scanned c.loop-b.scan) (drop_more bytes c.loop-b.b-index 0 c.loop-b-test.true) ∙ ap (λ s. scanned s (b ∷ rest)) c.in-Open.is) ∙ c.loop-b.invariant.leads;
      lists = omega (arith, c.loop-b.invariant.lists, ap lists_of c.in-Open.is, ap lists_of c.next_scan-scan.ensures, next_lists c.in-Open.pending c.in-Open.open_lists b);
    }
