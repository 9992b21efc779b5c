-- One clause after the other.
use Rattle.std.proofs.Common.{◌≡◌, ◌<◌, length, map, get_or, All, sym, ap, ◌∙◌, subst, arith}
use Rattle.std.proofs.lemmas.List.{length-map, get_or-map}
use Rattle.proof_log.specs.declared.premises.StepId.{StepId}
use Rattle.proof_log.specs.Logs.{no_logged, premises_in}
use Rattle.proof_log.specs.Entries.{logged_of, log_of}
use Rattle.proof_log.specs.Reaches.{reach_view, reach_of}
use Rattle.proof_log.proofs.Kept.{reached_more, reached_all}
use Rattle.proof_log.proofs.keeping.reach_again.Goals as goal

pub reach_of_entry-reach-requires-clause-there : goal.reach_of_entry-reach-requires-clause-there
reach_of_entry-reach-requires-clause-there c =
    let es = c.args.entries.now.items in
    let k = c.clauses.k in
    let lt : k < length es = omega (arith, c.clauses-test.true, c.len-k-end.ensures, c.args.entries.now.ok.0) in
    let lt_log : k < length (log_of es) = omega (arith, lt, length-map es logged_of) in
    let same : get_or (log_of es) k no_logged ≡ logged_of c.index.result.now = get_or-map logged_of es k c.index.result.now no_logged lt ∙ ap logged_of (sym c.index.ensures) in
    let before : All (λ (p : StepId). p.0 < k) (premises_in (logged_of c.index.result.now)) = subst (λ l. All (λ (p : StepId). p.0 < k) (premises_in l)) same (c.requires.earlier k lt_log) in
    λ j d low. omega (arith, before j d low, lt_log, ap length c.as_slice.ensures.value, c.clauses.invariant.size)

pub clauses-preserved : goal.clauses-preserved
clauses-preserved c =
    let es = c.args.entries.now.items in
    let k = c.clauses.k in
    let lt : k < length es = omega (arith, c.clauses-test.true, c.len-k-end.ensures, c.args.entries.now.ok.0) in
    let lt_log : k < length (log_of es) = omega (arith, lt, length-map es logged_of) in
    let same : get_or (log_of es) k no_logged ≡ logged_of c.index.result.now = get_or-map logged_of es k c.index.result.now no_logged lt ∙ ap logged_of (sym c.index.ensures) in
    reached_more (log_of es) c.clauses.stored.items k c.reach_of_entry-reach.result c.requires.earlier lt_log c.clauses.invariant
    (c.reach_of_entry-reach.ensures ∙ (λ i. reach_of (map reach_view (c.as_slice.ensures.value i)) k (sym same i)))

pub returns : goal.returns
returns c =
    let es = c.args.entries.now.items in
    reached_all (log_of es) c.clauses.stored.items c.clauses.k (omega (arith, c.clauses-test.false, c.len-k-end.ensures, c.args.entries.now.ok.0, length-map es logged_of)) c.clauses.invariant
