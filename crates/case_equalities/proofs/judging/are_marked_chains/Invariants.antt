-- The chains up to here are of marked formulas.
use Rattle.std.proofs.Common.{All, take}
use Rattle.case_equalities.specs.Finding.{IsMarkedChain}
use Rattle.case_equalities.proofs.judging.are_marked_chains.Given as goal

abbrev pub invariant-chains : goal.invariant-chains
invariant-chains l = All (IsMarkedChain l.table l.marks) (take l.chain-index l.chains)
