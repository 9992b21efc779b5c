-- One number more is marked.
use Rattle.std.proofs.Common.{List, ◌∙◌, subst}
use Rattle.std.proofs.lemmas.List.{take_all}
use Rattle.term_core.specs.declared.ids.TermId.{TermId}
use Rattle.term_clauses.specs.SpokenTerms.{no_id}
use Rattle.case_equalities.specs.Finding.{MarksOnly}
use Rattle.case_equalities.proofs.Asserted.{marks_one}
use Rattle.case_equalities.proofs.conjuncts.mark_each.Goals as goal

pub ids-preserved : goal.ids-preserved
ids-preserved c = record {
  many = c.mark.ensures.length ∙ c.ids.invariant.many;
  only = marks_one c.args.marks.now c.ids.marks c.mark.new.marks c.args.ids.now c.ids.id-index no_id c.ids-test.true c.ids.invariant.only c.mark.ensures.marks;
}

pub returns-clause-marks : goal.returns-clause-marks
returns-clause-marks c = subst (λ (ids : List TermId). MarksOnly c.args.marks.now ids c.ids.marks) (take_all c.ids.id-index c.args.ids.now c.ids-test.false) c.ids.invariant.only
