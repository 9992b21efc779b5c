-- A try where nothing is wrong without the literal, and what comes of a conflict else.
use Rattle.std.proofs.Common.{sym, subst, arith}
use Rattle.std.specs.Prelude.{Ok}
use Rattle.proof_log.specs.declared.theory.Verdict.TheVariants.{Fine, Clash}
use Rattle.search_loop.specs.Paying.{counted_held}
use Rattle.search_loop.specs.Loops.{loop_state, Looks, TriesAll}
use Rattle.search_loop.proofs.SearchTries.{looked_on, looked_stopped, tries_after, tried_clash, handed_same}
use Rattle.search_loop.proofs.search.Search.try_one.Goals as goal

pub returns-in_err-look : goal.returns-in_err-look
returns-in_err-look g c =
    let a = loop_state c.args.table.now c.args.self.now (g.T.Theory.meaning c.args.theory.now) in
    let b = loop_state c.look.new.table c.look.new.self (g.T.Theory.meaning c.look.new.theory) in
    let stop = c.in_err-look.field-0.0 in
    subst (TriesAll 1 0 a b) (sym (handed_same c.from_residual.result stop c.from_residual.ensures.1))
    (looked_stopped a b c.requires 0 (omega arith) stop c.in_err-look.ensures)

pub returns-in-Fine : goal.returns-in-Fine
returns-in-Fine g c =
    let a = loop_state c.args.table.now c.args.self.now (g.T.Theory.meaning c.args.theory.now) in
    let b = loop_state c.look.new.table c.look.new.self (g.T.Theory.meaning c.look.new.theory) in
    let d = loop_state c.try_at_quiet.new.table c.try_at_quiet.new.self (g.T.Theory.meaning c.try_at_quiet.new.theory) in
    let look : Looks a b (Ok Fine) = rw c.in-Fine.is at c.in_ok-look.ensures in
    tries_after 0 0 1 (counted_held b.table b.theory.view.held) a b d (looked_on a b c.requires 0 (omega arith) look) c.try_at_quiet.result c.try_at_quiet.ensures

pub returns-in_ok-end-in-Clash : goal.returns-in_ok-end-in-Clash
returns-in_ok-end-in-Clash g c =
    let a = loop_state c.args.table.now c.args.self.now (g.T.Theory.meaning c.args.theory.now) in
    let b = loop_state c.look.new.table c.look.new.self (g.T.Theory.meaning c.look.new.theory) in
    let d = loop_state c.learn_and_rest.new.table c.learn_and_rest.new.self (g.T.Theory.meaning c.learn_and_rest.new.theory) in
    let look : Looks a b (Ok (Clash c.in-Clash.clash)) = rw c.in-Clash.is at c.in_ok-look.ensures in
    tried_clash 0 a b d c.requires (omega arith) c.in-Clash.clash look c.in_ok-end-in-Clash.end c.in_ok-end-in-Clash.ensures.resolves c.in_ok-end-in-Clash.ensures.level
