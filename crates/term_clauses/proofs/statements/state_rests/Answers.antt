-- A scheme with one clause.
use Rattle.std.proofs.Common.{◌∷◌, []}
use Rattle.std.proofs.lemmas.Result.{on_ok_weaker}
use Rattle.spec_sorts.specs.Subsets.{arguments_of}
use Rattle.spec_rules.specs.Schemes.{rests_of}
use Rattle.term_core.specs.Tables.{term_at}
use Rattle.term_clauses.specs.Stating.{single, before}
use Rattle.term_clauses.proofs.Growing.{Tells-same}
use Rattle.term_clauses.proofs.Formulas.{is_single, single_rests}
use Rattle.term_clauses.proofs.statements.state_rests.Goals as goal

pub returns-in_default : goal.returns-in_default
returns-in_default c =
    let t = c.args.table.now in
    let front = term_at t c.args.front in
    let args = arguments_of (term_at t c.args.id) in
    let one = is_single c.args.rest c.in_default.not-AnyOne c.in_default.not-Innermost in
    record {
      grows = c.state_single.ensures.grows;
      tells = on_ok_weaker c.state_single.result (Tells-same t c.state_single.new.table c.args.log.now c.state_single.new.log c.args.steps.now.items c.state_single.new.steps.items ((front ∷ single c.args.rest args) ∷ []) (before front (rests_of c.args.rest args)) (single_rests c.args.rest front args one)) c.state_single.ensures.tells;
    }
