-- The log with a clause more.
use Rattle.std.proofs.Common.{◌<◌, ◌++◌, [], ◌∷◌, ℕ, List, length, map, All, sym, ap, ◌∙◌, subst}
use Rattle.std.proofs.lemmas.List.{map-append}
use Rattle.proof_log.specs.declared.entry.LogEntry.{LogEntry}
use Rattle.proof_log.specs.declared.premises.StepId.{StepId}
use Rattle.proof_log.specs.declared.reach.Reach.{Reach}
use Rattle.proof_log.specs.Logs.{Logged, premises_in, AreStepsOf}
use Rattle.proof_log.specs.Entries.{logged_of, log_of}
use Rattle.proof_log.specs.Reaches.{reach_view, reach_of}
use Rattle.proof_log.proofs.Kept.{kept_size, kept_came}
use Rattle.proof_log.proofs.log.ProofLog.put.Goals as goal

pub reach_of_entry-reach-requires-clause-there : goal.reach_of_entry-reach-requires-clause-there
reach_of_entry-reach-requires-clause-there c =
    let size = kept_size (log_of c.self.inside.entries.items) c.self.inside.reaches.items c.self.inside.marks.items c.self.invariant in
    subst (λ n. All (λ (p : StepId). p.0 < n) (premises_in (logged_of c.args.entry))) (sym (ap length c.as_slice.ensures.value ∙ size ∙ ap length c.self.view_is)) c.requires.there

pub invariant_of-self-2 : goal.invariant_of-self-2
invariant_of-self-2 c =
    let log = log_of c.self.inside.entries.items in
    let l = logged_of c.args.entry in
    let there : AreStepsOf log (premises_in l) = subst (λ (x : List Logged). AreStepsOf x (premises_in l)) (sym c.self.view_is) c.requires.there in
    kept_came log c.self.inside.reaches.items c.self.inside.marks.items l c.reach_of_entry-reach.result 0 c.len-number.result _ _ _ c.self.invariant there
    (c.len-number.ensures ∙ ap length (sym c.self.view_is))
    (c.reach_of_entry-reach.ensures ∙ ap (λ (rs : List Reach). reach_of (map reach_view rs) c.len-number.result l) c.as_slice.ensures.value)
    (ap log_of (c.push_reserved-3.ensures.items ∙ ap (λ (es : List LogEntry). es ++ c.args.entry ∷ []) c.in_ok-reserve-3.ensures.items) ∙ map-append logged_of c.self.inside.entries.items (c.args.entry ∷ []))
    (c.push_reserved-2.ensures.items ∙ ap (λ (rs : List Reach). rs ++ c.reach_of_entry-reach.result ∷ []) c.in_ok-reserve-2.ensures.items)
    (c.push_reserved.ensures.items ∙ ap (λ (ms : List ℕ). ms ++ 0 ∷ []) c.in_ok-reserve.ensures.items)
