-- What the cases lead to comes first.
use Rattle.std.proofs.Common.{List, ◌∙◌, sym, subst}
use Rattle.std.proofs.lemmas.List.Elements.{All-weaker}
use Rattle.spec_sorts.specs.Terms.{Term}
use Rattle.spec_sorts.specs.Subterms.{subterms_of}
use Rattle.term_core.specs.Tables.{IsIn}
use Rattle.term_core.proofs.TermsExtend.{clause_at-kept}
use Rattle.proof_log.specs.Logs.{IsFormulaIn}
use Rattle.solve_core.specs.Sharing.{AreSharedOf}
use Rattle.solve_core.proofs.answering.answer.Goals as goal

pub returns-in_err-shared-clause-grown : goal.returns-in_err-shared-clause-grown
returns-in_err-shared-clause-grown g c = c.speak_of_cases.ensures.grown

-- the same terms are asked about
pub answer_numbers-requires : goal.answer_numbers-requires
answer_numbers-requires g c =
    let t = c.args.table.now in
    let u = c.speak_of_cases.new.table in
    let roots = c.args.roots.now in
    let there = All-weaker (IsFormulaIn t) (IsIn t) (λ id f. f.0) roots c.requires.1.0 in
    let same = clause_at-kept t u c.speak_of_cases.ensures.grown roots there ∙ sym c.requires.0 in
    let shared = c.in_ok-shared.ensures in (
      c.in_ok-speak_of_cases.ensures.begun,
      subst (AreSharedOf u (subterms_of g.asked)) (sym c.deref-then-have_numbers.ensures.value)
          (subst (λ (ts : List Term). AreSharedOf u (subterms_of ts) c.in_ok-shared.shared.items) same shared),
    )
