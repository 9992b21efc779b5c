-- One variable comes, or none.
use Rattle.std.proofs.Common.{[], ◌∷◌, ◌++◌, List, Option, Some, None, refl, ◌∙◌, ap}
use Rattle.term_core.specs.declared.ids.TermId.{TermId}
use Rattle.term_core.specs.Tables.{IsIn}
use Rattle.simplex_atoms.proofs.Growing.{grown_same, grown_variable, grown_term}
use Rattle.simplex_atoms.proofs.Coming.{variable_leads}
use Rattle.simplex_atoms.proofs.numbering.variable_of.Goals as goal

pub returns-in-Some-clause-grown : goal.returns-in-Some-clause-grown
returns-in-Some-clause-grown c = grown_same c.args.meanings.now c.args.assignment.now _ _ c.requires.counted (λ t. IsIn t c.args.id) c.requires.sums refl refl

pub returns-in_err-reserve-clause-grown : goal.returns-in_err-reserve-clause-grown
returns-in_err-reserve-clause-grown c = grown_same c.args.meanings.now c.args.assignment.now _ _ c.requires.counted (λ t. IsIn t c.args.id) c.requires.sums c.reserve.ensures.list refl

pub returns-in_err-add_var-clause-grown : goal.returns-in_err-add_var-clause-grown
returns-in_err-add_var-clause-grown c =
    grown_same c.args.meanings.now c.args.assignment.now _ _ c.requires.counted (λ t. IsIn t c.args.id) c.requires.sums c.reserve.ensures.list c.in_err-add_var.ensures.err

pub returns-in_err-add_term-clause-grown : goal.returns-in_err-add_term-clause-grown
returns-in_err-add_term-clause-grown c =
    grown_variable c.args.meanings.now c.args.assignment.now _ _ c.requires.counted (λ t. IsIn t c.args.id) c.requires.sums
    (c.in_err-add_term.ensures.err ∙ ap (λ (l : List (Option TermId)). l ++ None ∷ []) c.reserve.ensures.list) c.in_ok-add_var.ensures.ok

pub returns-clause-grown : goal.returns-clause-grown
returns-clause-grown c =
    grown_term c.args.meanings.now c.args.assignment.now _ _ c.requires.counted c.args.id c.requires.sums
    (c.in_ok-add_term.ensures.ok ∙ ap (λ (l : List (Option TermId)). l ++ Some c.args.id ∷ []) c.reserve.ensures.list) c.in_ok-add_var.ensures.ok

pub returns-clause-came : goal.returns-clause-came
returns-clause-came c k t f tells is =
    variable_leads t f c.args.meanings.now.owners.list c.add_term.new.self.list c.args.assignment.now c.add_var.new.self c.args.id k
    (c.in_ok-add_term.ensures.ok ∙ ap (λ (l : List (Option TermId)). l ++ Some c.args.id ∷ []) c.reserve.ensures.list) c.in_ok-add_var.ensures.ok c.in_default.ensures tells is
