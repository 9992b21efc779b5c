-- A row comes with its variable and its sum, or nothing does.
use Rattle.std.proofs.Common.{[], ◌∷◌, ◌++◌, List, Option, None, refl, ◌∙◌, ap}
use Rattle.std.proofs.lemmas.List.Sorted.{IsPermutation-sym, Contains-permutation}
use Rattle.term_core.specs.declared.ids.TermId.{TermId}
use Rattle.tableau.specs.Entries.{entries_of}
use Rattle.simplex_atoms.specs.Sums.{key_meant, sum_by}
use Rattle.simplex_atoms.specs.Atoms.{ground_of}
use Rattle.simplex_atoms.specs.Grown.{any_table, ground_on}
use Rattle.simplex_atoms.proofs.RowSums.{sums_moved, no_row, sums_more}
use Rattle.simplex_atoms.proofs.Growing.{grown_same, grown_row}
use Rattle.simplex_atoms.proofs.Making.{row_overflowing, row_is_sum}
use Rattle.simplex_atoms.proofs.Coming.{row_leads}
use Rattle.simplex_atoms.proofs.placing.add_row.Goals as goal

pub returns-in_err-reserve-clause-grown : goal.returns-in_err-reserve-clause-grown
returns-in_err-reserve-clause-grown c =
    grown_same c.args.meanings.now c.args.assignment.now _ _ c.requires.fit.counted any_table
    (sums_moved (ground_on c.args.meanings.now c.args.assignment.now) c.args.meanings.now.sums.list c.reserve.new.self.list c.reserve.ensures.list c.requires.fit.sums) refl refl

pub returns-in_err-reserve-2-clause-grown : goal.returns-in_err-reserve-2-clause-grown
returns-in_err-reserve-2-clause-grown c =
    grown_same c.args.meanings.now c.args.assignment.now _ _ c.requires.fit.counted any_table
    (sums_moved (ground_on c.args.meanings.now c.args.assignment.now) c.args.meanings.now.sums.list c.reserve.new.self.list c.reserve.ensures.list c.requires.fit.sums) c.reserve-2.ensures.list refl

pub returns-in_err-variable-clause-grown : goal.returns-in_err-variable-clause-grown
returns-in_err-variable-clause-grown c =
    grown_same c.args.meanings.now c.args.assignment.now _ _ c.requires.fit.counted any_table
    (sums_moved (ground_on c.args.meanings.now c.args.assignment.now) c.args.meanings.now.sums.list c.reserve.new.self.list c.reserve.ensures.list c.requires.fit.sums) c.reserve-2.ensures.list c.in_err-variable.ensures.err

pub returns-in_err-variable-clause-wide : goal.returns-in_err-variable-clause-wide
returns-in_err-variable-clause-wide c constant =
    row_overflowing c.args.assignment.now c.add_row.new.self constant c.args.entries.now c.in_err-variable.field-0.0 c.from_residual-in_err-variable.result
    c.in_err-variable.ensures.err c.in_err-variable.ensures.wide c.from_residual-in_err-variable.ensures.1

pub add-requires-clause-is_new : goal.add-requires-clause-is_new
add-requires-clause-is_new c m there =
    c.requires.is_new m
    (Contains-permutation c.reserve.new.self.list c.args.meanings.now.sums.list (sum_by (key_meant c.args.key) m)
    (IsPermutation-sym c.args.meanings.now.sums.list c.reserve.new.self.list c.reserve.ensures.list) there)

pub returns-clause-grown : goal.returns-clause-grown
returns-clause-grown c =
    grown_row c.args.meanings.now c.args.assignment.now _ _ c.requires.fit.counted any_table (entries_of c.args.entries.now) c.requires.over
    (c.add_none.ensures ∙ ap (λ (l : List (Option TermId)). l ++ None ∷ []) c.reserve-2.ensures.list) c.in_ok-variable.ensures.ok.1
    (λ grows.
    sums_more (ground_on c.args.meanings.now c.args.assignment.now) (ground_of c.add_none.new.self.list c.add_row.new.self) c.args.entries.now c.args.key c.in_ok-variable.variable c.reserve.new.self.list c.add.new.self.list
    (sums_moved (ground_on c.args.meanings.now c.args.assignment.now) c.args.meanings.now.sums.list c.reserve.new.self.list c.reserve.ensures.list c.requires.fit.sums) grows c.in_ok-variable.ensures.ok.1 c.requires.key
    (row_is_sum c.args.meanings.now.owners.list c.add_none.new.self.list c.args.assignment.now c.add_row.new.self (entries_of c.args.entries.now) c.in_ok-variable.variable c.requires.fit.counted
    (c.add_none.ensures ∙ ap (λ (l : List (Option TermId)). l ++ None ∷ []) c.reserve-2.ensures.list) c.in_ok-variable.ensures.ok.1 c.in_ok-variable.ensures.ok.0)
    c.add.ensures)

pub returns-clause-is : goal.returns-clause-is
returns-clause-is c =
    row_is_sum c.args.meanings.now.owners.list c.add_none.new.self.list c.args.assignment.now c.add_row.new.self (entries_of c.args.entries.now) c.in_ok-variable.variable c.requires.fit.counted
    (c.add_none.ensures ∙ ap (λ (l : List (Option TermId)). l ++ None ∷ []) c.reserve-2.ensures.list) c.in_ok-variable.ensures.ok.1 c.in_ok-variable.ensures.ok.0

pub returns-clause-came : goal.returns-clause-came
returns-clause-came c t f are =
    row_leads t f c.args.meanings.now.owners.list c.add_none.new.self.list c.args.assignment.now c.add_row.new.self (entries_of c.args.entries.now) c.requires.fit.counted
    (c.add_none.ensures ∙ ap (λ (l : List (Option TermId)). l ++ None ∷ []) c.reserve-2.ensures.list) c.in_ok-variable.ensures.ok.1 are c.requires.longer
    (no_row (ground_on c.args.meanings.now c.args.assignment.now) c.args.meanings.now.sums.list c.args.entries.now c.args.key c.requires.fit.sums c.requires.key c.requires.is_new)
