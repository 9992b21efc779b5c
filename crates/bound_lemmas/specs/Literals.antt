-- Literals of atoms.
use Rattle.std.specs.Prelude.{List, Contains}
use Rattle.spec_sorts.specs.Terms.{Term}
use Rattle.term_core.specs.declared.ids.Lit.{Lit}
use Rattle.term_core.specs.Tables.{TableView, term_at}
use Rattle.proof_log.specs.Theories.{IsAtomIn}

-- the literal is one of an atom of the table, which is one of these terms
abbrev pub IsAtomOf : List Term → TableView → Lit → Type 0
IsAtomOf ts t l = IsAtomIn t l.term × Contains ts (term_at t l.term)
