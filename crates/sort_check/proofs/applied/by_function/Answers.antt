-- What the name of a function is.
use Rattle.std.proofs.Common.{Some, None, sym, ap, ◌∙◌}
use Rattle.std.specs.Prelude.{Err}
use Rattle.spec_reading.specs.Reading.{applied_as}
use Rattle.term_core.specs.Tables.{clause_at}
use Rattle.term_reader.proofs.Tables.{keeps_same}
use Rattle.term_reader.specs.Names.{located_of}
use Rattle.sort_check.proofs.Functions.{not_known, macro_usable}
use Rattle.sort_check.proofs.applied.by_function.Goals as goal

pub by_macro-requires-clause-usable : goal.by_macro-requires-clause-usable
by_macro-requires-clause-usable c =
    let known = c.requires.known in
    macro_usable c.args.table.now c.args.scope.now known.0 known.1 c.args.called.name.now c.in-Defined.definition (sym c.in-Some.ensures ∙ ap (λ f. Some f) c.in-Defined.is)

pub returns-in-None : goal.returns-in-None
returns-in-None c =
    λ s h. record {
      keeps = keeps_same c.args.table.now;
      ends = ap (λ o. applied_as None None o c.args.called.place c.args.called.at (clause_at c.args.table.now c.args.ids.now)) (not_known c.args.table.now c.args.scope.now s h c.args.called.name.now (sym c.in-None.ensures)) ∙ ap (λ f. Err (located_of f)) (sym c.fault_at.ensures);
    }
