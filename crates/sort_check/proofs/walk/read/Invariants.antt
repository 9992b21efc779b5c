use Rattle.smt_sexpr.specs.Items.{trees_meant}
use Rattle.term_reader.specs.Names.{setting_meant}
use Rattle.sort_check.specs.Walks.{here, started, Level, IsWalk, OnWalk, all_left}
use Rattle.sort_check.specs.Reads.{store, StoreGrows}
use Rattle.sort_check.proofs.walk.read.Given as goal

abbrev pub invariant-steps : goal.invariant-steps
invariant-steps l =
    OnWalk (setting_meant l.fn.setting) (here l.table l.scope l.walk)
    × ((root : Level) → IsWalk (setting_meant l.fn.setting) root (started l.fn.table l.fn.scope l.fn.bound (trees_meant l.fn.texts)) → IsWalk (setting_meant l.fn.setting) root (here l.table l.scope l.walk))
    × StoreGrows (store l.fn.table l.fn.scope) (store l.table l.scope)

abbrev pub decreases-steps : goal.decreases-steps
decreases-steps l = all_left (here l.table l.scope l.walk)
