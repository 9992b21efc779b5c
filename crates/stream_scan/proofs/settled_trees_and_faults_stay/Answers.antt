-- The laws of scans for trees and faults.
use Rattle.stream_scan.proofs.Continuations.{settled_tree_stays, settled_fault_stays, settled_fault_is_inner, settled_is_some, open_has_no_tree}
use Rattle.stream_scan.proofs.settled_trees_and_faults_stay.Goals as goal

pub returns-clause-tree : goal.returns-clause-tree
returns-clause-tree c text at t rest within e split more = settled_tree_stays text at t rest within e split more

pub returns-clause-fault : goal.returns-clause-fault
returns-clause-fault c text at f within e b more = settled_fault_stays text at f within e b more

pub returns-clause-inner : goal.returns-clause-inner
returns-clause-inner c text at f within e b = settled_fault_is_inner text at f within e b

pub returns-clause-some : goal.returns-clause-some
returns-clause-some c text at e none = settled_is_some text at e none

pub returns-clause-open : goal.returns-clause-open
returns-clause-open c text at t within e h = open_has_no_tree text at t within e h
