-- The first entries are the first clauses.
use Rattle.std.proofs.Common.{◌≡◌, ℕ, List, take, sym, ap, ◌∙◌, subst}
use Rattle.std.proofs.lemmas.List.{take-map}
use Rattle.proof_log.specs.declared.reach.Reach.{Reach}
use Rattle.proof_log.specs.Logs.{Logged, IsLogOf}
use Rattle.proof_log.specs.Entries.{logged_of, log_of}
use Rattle.proof_log.specs.Reaches.{IsKept}
use Rattle.proof_log.proofs.Logged.{log_front}
use Rattle.proof_log.proofs.Kept.{kept_front}
use Rattle.proof_log.proofs.log.ProofLog.cut.Goals as goal

fewer : (c : goal.After-truncate-3) → log_of c.truncate.new.self.items ≡ take c.args.len (log_of c.self.inside.entries.items)
fewer c = ap log_of c.truncate.ensures.items ∙ sym (take-map logged_of c.args.len c.self.inside.entries.items)

pub invariant_of-self : goal.invariant_of-self
invariant_of-self c =
    let n = c.args.len in
    let inside = c.self.inside in
    subst (λ (x : List Logged). IsKept x c.truncate-2.new.self.items c.truncate-3.new.self.items) (sym (fewer c))
    (subst (λ (x : List Reach). IsKept (take n (log_of inside.entries.items)) x c.truncate-3.new.self.items) (sym c.truncate-2.ensures.items)
    (subst (λ (x : List ℕ). IsKept (take n (log_of inside.entries.items)) (take n inside.reaches.items) x) (sym c.truncate-3.ensures.items)
    (kept_front (log_of inside.entries.items) inside.reaches.items inside.marks.items n c.self.invariant)))

pub returns-clause-clauses : goal.returns-clause-clauses
returns-clause-clauses c = fewer c ∙ ap (λ l. take c.args.len l) c.self.view_is

pub returns-clause-right : goal.returns-clause-right
returns-clause-right c t h = subst (λ l. IsLogOf t l) (sym (fewer c ∙ ap (λ l. take c.args.len l) c.self.view_is)) (log_front t c.args.self.now c.args.len h)
