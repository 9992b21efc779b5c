-- One formula more is marked.
use Rattle.std.proofs.Common.{List, All, subst}
use Rattle.std.proofs.lemmas.List.{take_all}
use Rattle.std.proofs.lemmas.List.Elements.{All-more}
use Rattle.term_core.specs.declared.ids.TermId.{TermId}
use Rattle.term_clauses.specs.SpokenTerms.{no_id}
use Rattle.case_equalities.specs.Finding.{IsMarkedFormula}
use Rattle.case_equalities.proofs.judging.are_marked_formulas.Goals as goal

pub ids-preserved : goal.ids-preserved
ids-preserved c =
    All-more (IsMarkedFormula c.args.table.now c.args.marks.now) c.args.ids.now c.ids.id-index no_id c.ids-test.true c.ids.invariant
    (c.is_marked_formula.ensures c.if-not-is_marked_formula.false)

pub returns : goal.returns
returns c _ =
    subst (λ (ids : List TermId). All (IsMarkedFormula c.args.table.now c.args.marks.now) ids) (take_all c.ids.id-index c.args.ids.now c.ids-test.false) c.ids.invariant
