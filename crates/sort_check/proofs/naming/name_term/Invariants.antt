use Rattle.spec_text.specs.Trees.{Tree}
use Rattle.spec_sorts.specs.Signatures.{Signature}
use Rattle.spec_sorts.specs.Forms.{a_keyword, named_words}
use Rattle.smt_sexpr.specs.Items.{trees_meant, size_of}
use Rattle.term_reader.specs.Forms.{next_meant}
use Rattle.term_reader.specs.Names.{setting_meant}
use Rattle.term_reader.specs.Scopes.{Widens}
use Rattle.sort_check.specs.Naming.{NamesMean, annotated_meant}
use Rattle.sort_check.proofs.NamesGiven.{IsNaming}
use Rattle.sort_check.proofs.naming.name_term.Given as goal

abbrev pub invariant-attributes : goal.invariant-attributes
invariant-attributes l =
    Widens l.fn.scope l.scope
    × ((s : Signature) (text : Tree) → NamesMean l.fn.table l.fn.scope s
    → IsNaming (setting_meant l.fn.setting) s (annotated_meant l.fn.table text l.fn.term) (named_words a_keyword (trees_meant l.fn.attributes)) (named_words (next_meant l.next) (trees_meant l.rest)) l.fn.table l.scope l.fn.named.items l.named.items)

abbrev pub decreases-attributes : goal.decreases-attributes
decreases-attributes l = size_of l.rest
