-- Lists of different lengths are not the same.
use Rattle.std.proofs.Common.{map, sym, ◌∙◌}
use Rattle.std.proofs.lemmas.List.{length-map}
use Rattle.spec_sorts.specs.Terms.{sort_of}
use Rattle.term_core.specs.Symbols.{sort_meant, sorts_meant}
use Rattle.term_core.specs.Tables.{term_at, clause_at}
use Rattle.term_core.proofs.SortsTaken.{lengths_differ}
use Rattle.term_reader.proofs.comparing.have_sorts.Goals as goal

pub returns-then-sorts-ids : goal.returns-then-sorts-ids
returns-then-sorts-ids c =
    let t = c.args.table.now in
    sym (lengths_differ (sorts_meant t.sorts c.args.sorts.now) (map sort_of (clause_at t c.args.ids.now))
    (λ e. c.if-sorts-ids.true (sym (length-map c.args.sorts.now (sort_meant t.sorts)) ∙ e ∙ length-map (clause_at t c.args.ids.now) sort_of ∙ length-map c.args.ids.now (term_at t))))
