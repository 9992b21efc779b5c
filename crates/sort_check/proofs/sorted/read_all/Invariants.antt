use Rattle.spec_sorts.specs.Signatures.{Signature}
use Rattle.smt_sexpr.specs.Items.{trees_meant, size_of}
use Rattle.term_core.specs.Symbols.{sort_meant}
use Rattle.term_reader.specs.Names.{setting_meant}
use Rattle.term_reader.specs.Scopes.{HasSignature, ScopeMeans}
use Rattle.sort_check.specs.Reads.{store, StoreGrows}
use Rattle.sort_check.proofs.AllRead.{IsAll}
use Rattle.sort_check.proofs.sorted.read_all.Given as goal

abbrev pub invariant-trees : goal.invariant-trees
invariant-trees l =
    HasSignature l.table l.scope
    × StoreGrows (store l.fn.table l.fn.scope) (store l.table l.scope)
    × ((s : Signature) → ScopeMeans l.fn.table l.fn.scope s → IsAll (setting_meant l.fn.setting) s (sort_meant l.fn.table.sorts l.fn.sort) (trees_meant l.fn.trees, trees_meant l.rest) (store l.table l.scope) l.ids.items)

abbrev pub decreases-trees : goal.decreases-trees
decreases-trees l = size_of l.rest
