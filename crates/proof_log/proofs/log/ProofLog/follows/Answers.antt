-- A step follows where its premises are there and its rule takes it.
use Rattle.std.proofs.Common.{◌≡◌, List, map, All, sym, ap, ◌∙◌, subst, Err}
use Rattle.spec_rules.specs.Rules.{IsRight, IsWide}
use Rattle.term_core.specs.declared.ids.TermId.{TermId}
use Rattle.term_core.specs.Tables.{AreIn, clause_at}
use Rattle.rule_bool.specs.Resolvents.{StopsRule}
use Rattle.rule_bool.specs.Arguments.{texts_of, fractions_of, WritesCoefficients}
use Rattle.proof_log.specs.Logs.{AreStepsOf, clauses_in, stepped}
use Rattle.proof_log.specs.Faults.{fault_of}
use Rattle.proof_log.specs.Adding.{Collects}
use Rattle.proof_log.proofs.Logged.{clauses_there, follows_there}
use Rattle.proof_log.proofs.Added.{missing, refused, judged}
use Rattle.proof_log.proofs.log.ProofLog.follows.Goals as goal

pub returns-in_err-premises : goal.returns-in_err-premises
returns-in_err-premises c =
    let t = c.args.table.now in
    let log = c.args.self.now in
    let s = c.args.step.now in
    let f = c.in_err-premises.field-0.0 in
    judged t log (stepped s.rule s.premises s.arguments s.clause) c.from_residual.result f c.from_residual.ensures.1
    (missing t log s.rule s.premises s.arguments s.clause f (subst (λ ss. Collects log ss (Err f)) c.as_slice.ensures c.in_err-premises.ensures))

pub judge-requires-clause-premises : goal.judge-requires-clause-premises
judge-requires-clause-premises c =
    let log = c.args.self.now in
    let ps = c.args.step.now.premises in
    let there : AreStepsOf log ps = subst (λ ss. AreStepsOf log ss) c.as_slice.ensures c.in_ok-premises.ensures.0 in
    let copied : c.deref.result.now ≡ clauses_in log ps = c.deref.ensures.value ∙ c.in_ok-premises.ensures.1 ∙ ap (clauses_in log) c.as_slice.ensures in
    subst (λ (cs : List (List TermId)). All (AreIn c.args.table.now) cs) (sym copied) (clauses_there c.args.table.now log c.requires.log ps there)

pub returns-in_err-judge : goal.returns-in_err-judge
returns-in_err-judge c =
    let t = c.args.table.now in
    let log = c.args.self.now in
    let s = c.args.step.now in
    let stop = c.in_err-judge.field-0.0 in
    let there : AreStepsOf log s.premises = subst (λ ss. AreStepsOf log ss) c.as_slice.ensures c.in_ok-premises.ensures.0 in
    let copied : c.deref.result.now ≡ clauses_in log s.premises = c.deref.ensures.value ∙ c.in_ok-premises.ensures.1 ∙ ap (clauses_in log) c.as_slice.ensures in
    let written : WritesCoefficients (texts_of s.arguments) c.deref-2.result.now =
    subst (λ qs. WritesCoefficients (texts_of qs) c.deref-2.result.now) c.as_slice-2.ensures (subst (λ ks. WritesCoefficients (texts_of (fractions_of c.as_slice-2.result.now)) ks) (sym c.deref-2.ensures.value) c.in_ok-arguments.ensures) in
    let verdict : StopsRule stop (IsRight s.rule (map (clause_at t) (clauses_in log s.premises)) (texts_of s.arguments) (clause_at t s.clause)) (IsWide s.rule (map (clause_at t) (clauses_in log s.premises)) (texts_of s.arguments) (clause_at t s.clause)) =
    rw (copied, c.as_slice-3.ensures) at c.in_err-judge.ensures.exact (texts_of s.arguments) written in
    judged t log (stepped s.rule s.premises s.arguments s.clause) c.from_residual-in_err-judge.result (fault_of stop) c.from_residual-in_err-judge.ensures.1
    (refused t log s.rule s.premises s.arguments s.clause stop there verdict)

pub returns : goal.returns
returns c =
    let t = c.args.table.now in
    let log = c.args.self.now in
    let s = c.args.step.now in
    let there : AreStepsOf log s.premises = subst (λ ss. AreStepsOf log ss) c.as_slice.ensures c.in_ok-premises.ensures.0 in
    let copied : c.deref.result.now ≡ clauses_in log s.premises = c.deref.ensures.value ∙ c.in_ok-premises.ensures.1 ∙ ap (clauses_in log) c.as_slice.ensures in
    let written : WritesCoefficients (texts_of s.arguments) c.deref-2.result.now =
    subst (λ qs. WritesCoefficients (texts_of qs) c.deref-2.result.now) c.as_slice-2.ensures (subst (λ ks. WritesCoefficients (texts_of (fractions_of c.as_slice-2.result.now)) ks) (sym c.deref-2.ensures.value) c.in_ok-arguments.ensures) in
    let right : IsRight s.rule (map (clause_at t) (clauses_in log s.premises)) (texts_of s.arguments) (clause_at t s.clause) = rw (copied, c.as_slice-3.ensures) at c.in_ok-judge.ensures.exact (texts_of s.arguments) written in
    follows_there t log s.rule s.premises s.arguments s.clause there right
