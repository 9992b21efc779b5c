-- There is a reach for each clause.
use Rattle.std.proofs.Common.{◌≡◌, List, length, get_or, sym, ap, ◌∙◌, arith}
use Rattle.std.proofs.lemmas.List.{get_or-map}
use Rattle.proof_log.specs.Logs.{Logged}
use Rattle.proof_log.specs.Entries.{log_of}
use Rattle.proof_log.specs.Reaches.{ReachView, reaches, no_reach, reach_view}
use Rattle.proof_log.proofs.Kept.{kept_size}
use Rattle.proof_log.proofs.log.ProofLog.reach.Goals as goal

pub index-requires : goal.index-requires
index-requires c =
    let e : length c.self.inside.reaches.items ≡ length c.args.self.now = kept_size (log_of c.self.inside.entries.items) c.self.inside.reaches.items c.self.inside.marks.items c.self.invariant ∙ ap length c.self.view_is in
    omega (arith, c.requires, e, c.self.inside.reaches.ok.0)

pub returns : goal.returns
returns c =
    let n = c.args.step.0 in
    let e : length c.self.inside.reaches.items ≡ length c.args.self.now = kept_size (log_of c.self.inside.entries.items) c.self.inside.reaches.items c.self.inside.marks.items c.self.invariant ∙ ap length c.self.view_is in
    ap reach_view c.index.ensures ∙ sym (get_or-map reach_view c.self.inside.reaches.items n c.index.result.now no_reach (omega (arith, c.requires, e)))
    ∙ ap (λ (rs : List ReachView). get_or rs n no_reach) c.self.invariant.reached ∙ ap (λ (log : List Logged). get_or (reaches log) n no_reach) c.self.view_is
