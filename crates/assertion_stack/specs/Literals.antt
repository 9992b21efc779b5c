-- What reading literals comes to, and the room for their terms.
use Rattle.std.specs.Prelude.{◌≡◌, List, Vec, Result, Ok, Err}
use Rattle.std.specs.declared.alloc.Global.{Global}
use Rattle.spec_text.specs.Answers.{Answer, ◌>>=◌}
use Rattle.spec_text.specs.Trees.{Trees}
use Rattle.spec_sorts.specs.Terms.{Term}
use Rattle.spec_sorts.specs.Signatures.{Known, Signature}
use Rattle.spec_commands.specs.Stack.{Assertion, terms_asserted, literals_in}
use Rattle.term_core.specs.declared.ids.TermId.{TermId}
use Rattle.term_core.specs.Tables.{TableView}
use Rattle.term_reader.specs.declared.faults.ReadError.{ReadError}
use Rattle.term_reader.specs.Building.{MeansTerm}
use Rattle.sort_check.specs.Reads.{Room, within}
use Rattle.assertion_stack.specs.Views.{Fails}
use Rattle.assertion_stack.specs.Stacks.{AreAssumed}

-- the symbol means something, or has this fault
abbrev pub EndsSymbol : Answer Known → Result (Unit {0}) ReadError → Type 0
EndsSymbol answer (Ok u) = (k : Known) × (answer ≡ Ok k)
EndsSymbol answer (Err stop) = Fails stop answer

-- the literal is read, by the number of its term, or has this fault
abbrev pub EndsLiteral : TableView → Answer Term → Result TermId ReadError → Type 0
EndsLiteral t answer (Ok id) = (u : Term) × (answer ≡ Ok u) × MeansTerm t u id
EndsLiteral t answer (Err stop) = Fails stop answer

-- the literals are read, by the numbers of their terms, or have this first fault
abbrev pub EndsLiterals : TableView → Answer (List Assertion) → Result (Vec TermId Global) ReadError → Type 0
EndsLiterals t answer (Ok ids) = (ls : List Assertion) × (answer ≡ Ok ls) × AreAssumed t ids.items ls
EndsLiterals t answer (Err stop) = Fails stop answer

-- the literals that a check assumes, where there is room for their terms
abbrev pub roomy_literals : Room → Signature → Trees → Answer (List Assertion)
roomy_literals room s ts =
    literals_in s ts >>= λ ls.
    within room s (terms_asserted ls) >>= λ fits.
    Ok ls
