-- Atoms that are no terms.
use Rattle.std.proofs.Common.{sym, ap, ◌∙◌}
use Rattle.std.specs.Prelude.{Err}
use Rattle.spec_reading.specs.Reading.{atom_term}
use Rattle.term_reader.specs.Names.{located_of}
use Rattle.term_reader.proofs.Tables.{keeps_same}
use Rattle.sort_check.specs.Bindings.{bound_at}
use Rattle.sort_check.proofs.applied.atom.Goals as goal

pub returns-in-Reserved : goal.returns-in-Reserved
returns-in-Reserved c =
    λ s h. record { keeps = keeps_same c.args.table.now; ends = ap (λ k. atom_term s (bound_at c.args.table.now c.args.bound.now) c.args.called.at k c.args.called.name.now) c.in-Reserved.is ∙ ap (λ f. Err (located_of f)) (sym c.fault_at.ensures) }

pub returns-in-Text : goal.returns-in-Text
returns-in-Text c =
    λ s h. record { keeps = keeps_same c.args.table.now; ends = ap (λ k. atom_term s (bound_at c.args.table.now c.args.bound.now) c.args.called.at k c.args.called.name.now) c.in-Text.is ∙ ap (λ f. Err (located_of f)) (sym c.fault_at-in-Text.ensures) }

pub returns-in-Keyword : goal.returns-in-Keyword
returns-in-Keyword c =
    λ s h. record { keeps = keeps_same c.args.table.now; ends = ap (λ k. atom_term s (bound_at c.args.table.now c.args.bound.now) c.args.called.at k c.args.called.name.now) c.in-Keyword.is ∙ ap (λ f. Err (located_of f)) (sym c.fault_at-in-Keyword.ensures) }
