-- That what an outcome shows, what was found shows.
use Rattle.std.proofs.Common.{◌≡◌, ℕ, true, List, [], length, map, All, refl, sym, ap, ◌∙◌, subst, arith}
use Rattle.std.proofs.lemmas.List.{append-nil, length-map, get_or-map}
use Rattle.spec_sorts.specs.Terms.{Term}
use Rattle.spec_sorts.specs.Values.{Interpretation, Interprets, truth}
use Rattle.spec_sorts.specs.TermValues.{value_at}
use Rattle.spec_sorts.specs.Signatures.{Signature, symbols_in}
use Rattle.spec_sorts.specs.Meaning.{value_under}
use Rattle.spec_sorts.specs.Subterms.{subterms_of}
use Rattle.spec_commands.specs.Stack.{Assertion, signature_of, terms_asserted}
use Rattle.spec_commands.specs.Checks.{Check, asked, IsTrueAssertion}
use Rattle.spec_interfaces.specs.Interfaces.{IsInterfaceEquality}
use Rattle.spec_sessions.specs.Evidence.{Limits, Kept, model, spent, overflowed, IsProblemOf, IsKeptOf, Justifies}
use Rattle.term_core.specs.Tables.{TableView, literal_at}
use Rattle.term_walks.specs.declared.values.Interp.{Interp}
use Rattle.proof_log.specs.Logs.{derivation_in}
use Rattle.sat_budget.specs.declared.limits.Reason.{Reason}
use Rattle.sat_budget.specs.declared.limits.Reason.TheVariants as reasons
use Rattle.search_loop.specs.declared.cdcl.Answer.TheVariants.{Sat, Unknown}
use Rattle.solve_core.specs.declared.outcome.Outcome.{Outcome}
use Rattle.spec_numbers.specs.Bounds.{fits}
use Rattle.ratio128.specs.declared.ratio.Ratio.{Ratio}
use Rattle.ratio128.specs.Meant.{fraction, overflow}
use Rattle.search_loop.specs.Stops.{IsOverflowed}
use Rattle.search_loop.specs.Rounds.{HasEvidence}
use Rattle.spec_derivations.specs.Problems.{Problem, terms_of_problem, problem_of}
use Rattle.check_evidence.specs.declared.evidence.Evidence.TheVariants as found
use Rattle.check_evidence.specs.Evidence.{kept_of, Decides, IsShown}
use Rattle.check_evidence.proofs.Assuming.{all_asserted, same_terms, asserts_no_more, spent_too, kept_too, overflowed_too}
use Rattle.check_evidence.proofs.Causes.{AreOverflows, cause_of}

-- the text has its term's value under an interpretation
abbrev pub HasValue : Signature → Interpretation → Assertion → Type 0
HasValue g i a = value_under i g a.text ≡ value_at i [] a.term

-- what is true of the terms is true of the texts
texts_true : (g : Signature) (i : Interpretation) (xs : List Assertion) → All (HasValue g i) xs → All (λ u. value_at i [] u ≡ truth true) (terms_asserted xs) → All (IsTrueAssertion i g) xs
texts_true g i xs same each = λ k d lt.
    same k d lt ∙ ap (value_at i []) (sym (get_or-map (λ (a : Assertion). a.term) xs k d (d.term) lt)) ∙ each k d.term (omega (arith, length-map xs (λ (a : Assertion). a.term), lt))

module _ (limits : Limits) (t : TableView) (c : Check) (symbols : symbols_in (signature_of c.stack) ≡ t.symbols) (o : Outcome) where
  pub model_shown : ((i : Interpretation) → All (HasValue (signature_of c.stack) i) (asked c)) → (interp : Interp) → o.answer ≡ Sat interp → (interface : List Term) → HasEvidence t (all_asserted c interface) o.log [] o.budget (Sat interp) → IsShown limits t c (found.Model interp) o
  model_shown values interp is interface h =
      let i = h.interpretation.0 in
      let represents = h.interpretation.1 in
      let interprets = h.interprets i represents in
      let terms : All (λ u. value_at i [] u ≡ truth true) (terms_asserted (asked c)) = subst (All (λ u. value_at i [] u ≡ truth true)) (append-nil (terms_asserted (asked c))) (h.holds i represents) in (
        model i,
        record {
          interprets = subst (Interprets i) (sym symbols) interprets;
          each = texts_true (signature_of c.stack) i (asked c) (values i) terms;
        },
        (i, record { count = omega (arith, h.tables); named = h.named }, represents, interprets, refl),
        (interp, is, represents),
        tt,
      )

  -- what the search keeps
  abbrev kept : Kept
  kept = kept_of t (derivation_in t o.log) o.budget

  many : length kept.learned ≡ length o.budget.learned
  many = length-map o.budget.learned (map (literal_at t))

  module _ (d : Decides limits t c o) where
    -- the problem that was decided
    abbrev decided : Problem
    decided = all_asserted c d.interface

    -- the check's own, which asserts no more
    abbrev problem : Problem
    problem = problem_of c d.interface

    same : terms_of_problem decided ≡ terms_of_problem problem
    same = same_terms c d.interface

    problem_is : IsProblemOf c problem
    problem_is = record { interface = d.interface; equalities = subst (λ ts. All (IsInterfaceEquality (subterms_of ts)) d.interface) (same_terms c []) d.equalities; is = refl }

    conflicts_shown : (n : ℕ) → o.answer ≡ Unknown (reasons.Conflicts n) → HasEvidence t decided o.log [] o.budget (Unknown (reasons.Conflicts n)) → IsShown limits t c (found.Reason (reasons.Conflicts n)) o
    conflicts_shown n is h =
        let e = derivation_in t o.log in
        let learned = map (map (literal_at t)) o.budget.learned in
        let on = spent_too decided problem same refl (asserts_no_more c d.interface) o.budget.limit n e learned (record {
          spent = h.0;
          conflict = h.1.0;
          apart = d.justified.learning.apart;
          conflict_apart = h.1.1;
        }) in (
          spent n e learned,
          subst (λ m. Justifies (record { conflicts = m; terms = limits.terms }) c (spent n e learned)) d.justified.limit_is (problem, problem_is, on),
          (e, refl),
          (is, refl, refl),
          tt,
        )

    kept_within : IsKeptOf limits problem kept
    kept_within = kept_too decided problem same refl (asserts_no_more c d.interface) limits kept (record {
      learned = omega (arith, many, d.justified.learned_within, d.justified.limit_is);
      learns = d.justified.learning.learns;
      apart = d.justified.learning.apart;
    })

    pub reason_shown : AreOverflows → ((a : Ratio) → fits (fraction a) ≡ true) → (r : Reason) → o.answer ≡ Unknown r → HasEvidence t decided o.log [] o.budget (Unknown r) → IsShown limits t c (found.Reason r) o
    reason_shown overflows bounded (reasons.Conflicts n) is h = conflicts_shown n is h
    reason_shown overflows bounded (reasons.Overflow x) is h =
        let es = o.budget.exchanges in
        let l = length kept.learned in
        let cause = overflowed_too decided problem same refl (asserts_no_more c d.interface) l es (overflow x.wide)
        (cause_of decided l es x (subst (λ (m : ℕ). IsOverflowed decided m es x) (sym many) h)) in (
          overflowed (overflow x.wide) kept,
          (overflows problem l es (overflow x.wide) cause, (bounded x.wide.left, bounded x.wide.right), (problem, problem_is, kept_within, cause)),
          (derivation_in t o.log, refl),
          (x, is, refl, refl),
          tt,
        )
