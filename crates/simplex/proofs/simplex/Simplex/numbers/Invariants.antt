-- The numbers up to here.
use Rattle.std.proofs.Common.{◌≡◌, map, take}
use Rattle.ratio128.specs.Meant.{fraction}
use Rattle.term_core.specs.declared.ids.TermId.{TermId}
use Rattle.term_core.specs.Tables.{term_at, clause_at}
use Rattle.tableau.specs.Numbers.{number_of}
use Rattle.simplex.proofs.TermNumbers.{number_in}
use Rattle.simplex.proofs.NumbersApart.{number_apart}
use Rattle.simplex.proofs.simplex.Simplex.numbers.Given as goal

abbrev pub invariant-terms : goal.invariant-terms
invariant-terms l =
    map fraction l.numbers.items
    ≡ map (λ (id : TermId). number_apart (number_in l.table l.self (number_of l.small)) (clause_at l.table l.shared) (term_at l.table id)) (take l.id-index l.terms)
