-- By the answer.
use Rattle.std.proofs.Common.{[], map, Contains, refl, sym, subst, arith}
use Rattle.std.proofs.lemmas.List.{append-nil, length-map}
use Rattle.spec_sorts.specs.Terms.{Term}
use Rattle.spec_commands.specs.Stack.{signature_of, terms_asserted}
use Rattle.spec_commands.specs.Checks.{asked}
use Rattle.spec_derivations.specs.Derivations.{IsDerivedFrom}
use Rattle.spec_proof_texts.specs.Lines.{proof_text}
use Rattle.spec_proof_texts.specs.Plans.{lines_of, IsPrinted}
use Rattle.spec_sessions.specs.Evidence.{proof}
use Rattle.spec_sessions.specs.Refutations.{IsProofOf}
use Rattle.term_core.specs.Tables.{literal_at}
use Rattle.proof_log.specs.Logs.{inference_of, derivation_in}
use Rattle.spec_proof_texts.specs.Readable.{IsReadableWhole}
use Rattle.spec_proof_texts.proofs.Assumed.{assumes_planned}
use Rattle.search_loop.specs.Rounds.{HasLogged, HasEvidence}
use Rattle.check_evidence.proofs.Asking.{names_here, kept_values, kept_readable, known_readable}
use Rattle.check_evidence.proofs.Assuming.{all_asserted}
use Rattle.check_evidence.proofs.Printed.{printed_readable}
use Rattle.check_evidence.proofs.Showing.{model_shown, reason_shown}
use Rattle.check_evidence.proofs.evidence.evidence_of.Goals as goal

pub returns-in-Sat-clause-shown : goal.returns-in-Sat-clause-shown
returns-in-Sat-clause-shown c = λ limits k kept readable symbols h.
    let t = c.args.table.now in
    let o = c.args.outcome in
    model_shown limits t k symbols o (kept_values limits.terms k kept) c.in-Sat.interp c.in-Sat.is
    h.interface (subst (HasEvidence t (all_asserted k h.interface) o.log [] o.budget) c.in-Sat.is h.justified.evidence)

pub returns-in_ok-plan-in-Unsat-clause-shown : goal.returns-in_ok-plan-in-Unsat-clause-shown
returns-in_ok-plan-in-Unsat-clause-shown c = λ limits k kept readable symbols h.
    let t = c.args.table.now in
    let o = c.args.outcome in
    let d = derivation_in t o.log in
    let p = c.in_ok-plan-in-Unsat.plan in
    let step = c.in-Unsat.step in
    let n = step.0 in
    let ts = terms_asserted (asked k) in
    let learned = map (map (literal_at t)) o.budget.learned in
    let problem = all_asserted k h.interface in
    let j = h.justified in
    let shown = subst (HasEvidence t problem o.log [] o.budget) c.in-Unsat.is j.evidence in
    let steps = subst (λ a. HasLogged problem d a learned) c.in-Unsat.is j.learning.logged in
    let terms = known_readable ts h.interface (kept_readable limits.terms k kept c.read_numbers_are_decimals.ensures readable) h.equalities in
    let printed : (u : Term) → IsPrinted d n u → IsReadableWhole u =
    printed_readable c.search_makes_readable_terms.ensures.lemmas c.search_makes_readable_terms.ensures.atoms problem terms c.whole_clauses_are_over_whole_terms.ensures d learned j.learning.learns.atoms steps n in
    let planned = c.in_ok-plan-in-Unsat.ensures.plan in
    let is_proof : IsProofOf k (proof_text (lines_of t.terms d p)) = record {
      terms = t.terms;
      derivation = d;
      over = c.logs_are_over_their_terms.ensures t o.log j.log_right;
      right = j.log_right.right;
      number = n;
      derived = subst (λ us. IsDerivedFrom us d n) (append-nil ts) shown.1;
      empty = shown.0;
      printable = c.terms_are_printable.ensures (signature_of k.stack) o.log n (names_here k.stack kept.names) (λ f i. subst (λ fs. Contains fs f) (sym symbols) i) j.log_right
          (omega (arith, shown.1.there, length-map o.log (inference_of t)))
          (λ u q. let r = printed u q in c.linear_terms_with_decimals_are_readable.ensures u r.0 r.1);
      plan = p;
      planned = planned;
      written = refl;
    } in
    let assumes = assumes_planned (signature_of k.stack) t.terms ts d n p (names_here k.stack kept.names) is_proof.printable is_proof.over is_proof.right is_proof.derived planned in
    (proof (proof_text (lines_of t.terms d p)), is_proof, (j.log_right, c.in_ok-plan-in-Unsat.ensures.fits, refl), (step, p, c.in-Unsat.is, planned, refl), assumes)

pub returns-in-Unknown-clause-shown : goal.returns-in-Unknown-clause-shown
returns-in-Unknown-clause-shown c = λ limits k kept readable symbols h.
    let t = c.args.table.now in
    let o = c.args.outcome in
    reason_shown limits t k symbols o h c.causes_are_overflows.ensures.search c.ratios_are_fractions.ensures.bounded c.in-Unknown.reason c.in-Unknown.is
    (subst (HasEvidence t (all_asserted k h.interface) o.log [] o.budget) c.in-Unknown.is h.justified.evidence)
