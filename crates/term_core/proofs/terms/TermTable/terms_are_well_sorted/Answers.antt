-- The terms of a table are closed, and their heads take their arguments: so they are well sorted.
use Rattle.std.proofs.Common.{List, [], Contains, subst}
use Rattle.spec_sorts.specs.Terms.{Sort, Term}
use Rattle.spec_sorts.specs.WellSorted.{AllHeads, IsWellSorted}
use Rattle.term_core.specs.Tables.{TableView, shapes_of, grown, IsParameterAmong}
use Rattle.term_core.proofs.TermsClosed.{closed_terms, heads_take, heads_over}
use Rattle.term_core.proofs.TermsWellSorted.{well_sorted}
use Rattle.term_core.proofs.terms.TermTable.terms_are_well_sorted.Goals as goal

pub returns : goal.returns
returns c =
    let d = c.self.inside.symbols in
    let nodes = c.self.inside.nodes.keys in
    let whole = c.self.invariant.whole in
    subst (λ (t : TableView). (ps : List Sort) (u : Term) → Contains t.terms u → AllHeads (IsParameterAmong ps) u → IsWellSorted t.symbols ps u) c.self.view_is
    (λ ps. well_sorted d.symbols ps (grown d [] (shapes_of nodes)) (closed_terms d nodes whole) (heads_take d nodes whole) (heads_over d nodes whole))
