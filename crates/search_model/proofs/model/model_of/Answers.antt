-- That the tables are those by the terms up to here.
use Rattle.std.proofs.Common.{List, get_or, take, map, sym, subst}
use Rattle.std.proofs.lemmas.List.{map_more}
use Rattle.std.proofs.lemmas.List.Elements.{Contains-get_or}
use Rattle.spec_sorts.specs.Terms.{Term}
use Rattle.ratio128.specs.Meant.{fraction}
use Rattle.term_core.specs.Tables.{term_at, clause_at}
use Rattle.term_walks.specs.declared.values.Value.{Value as CodeValue}
use Rattle.search_model.specs.Models.{no_id, values_of}
use Rattle.search_model.specs.Made.{HasValues, AreTables}
use Rattle.search_model.proofs.model.model_of.Goals as goal

pub terms-preserved : goal.terms-preserved
terms-preserved c =
    let t = c.args.table.now in
    let ids = c.args.terms.now in
    let at = c.terms.id-index in
    let id = get_or ids at no_id in
    let v = values_of t c.args.trail.now.literals ids c.args.classes.now (map fraction c.args.numbers.now) in
    let values = subst (λ (vs : List CodeValue). HasValues t v ids vs) (sym c.deref.ensures.value) c.in_ok-values.ensures in
    subst (λ (ts : List Term). AreTables t v ts c.note.new.tables.items) (sym (map_more (term_at t) ids at no_id c.terms-test.true))
    (c.in_ok-note.ensures v ids (clause_at t (take at ids)) values (Contains-get_or ids at no_id c.terms-test.true) c.terms.invariant)
