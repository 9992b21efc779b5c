-- The laws of scans.
use Rattle.stream_scan.proofs.Scans.{in_pieces, scan_settles, scan_stays_open}
use Rattle.stream_scan.proofs.scanning_is_exact.Goals as goal

pub returns-clause-pieces : goal.returns-clause-pieces
returns-clause-pieces c s xs ys = in_pieces xs ys s

pub returns-clause-settled : goal.returns-clause-settled
returns-clause-settled c text at within e more = scan_settles text at within e more

pub returns-clause-open : goal.returns-clause-open
returns-clause-open c text at within e o h = scan_stays_open text at within e o h
