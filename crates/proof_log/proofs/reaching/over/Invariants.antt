-- It is the same from here.
use Rattle.std.proofs.Common.{◌≡◌, map, drop}
use Rattle.proof_log.specs.Reaches.{reach_view, over_from}
use Rattle.proof_log.proofs.reaching.over.Given as goal

abbrev pub invariant-premises : goal.invariant-premises
invariant-premises l = over_from (map reach_view l.reaches) (reach_view l.most) (drop l.p-index l.premises) ≡ over_from (map reach_view l.reaches) (reach_view l.fn.least) l.premises
