-- A look, and what comes of it.
use Rattle.std.proofs.Common.{sym, subst, arith}
use Rattle.std.specs.Prelude.{Ok}
use Rattle.proof_log.specs.declared.theory.Verdict.TheVariants.{Fine, Clash}
use Rattle.search_loop.specs.Paying.{counted_held}
use Rattle.search_loop.specs.Loops.{loop_state, Looks, TriesAll}
use Rattle.search_loop.proofs.SearchTries.{looked_on, looked_few, looked_can, looked_stopped, tried_rested, tried_clash, handed_same}
use Rattle.search_loop.proofs.search.Search.settle.Goals as goal

pub returns-in_err-look : goal.returns-in_err-look
returns-in_err-look g c =
    let a = loop_state c.args.table.now c.args.self.now (g.T.Theory.meaning c.args.theory.now) in
    let b = loop_state c.look.new.table c.look.new.self (g.T.Theory.meaning c.look.new.theory) in
    let h = counted_held a.table a.theory.view.held in
    let stop = c.in_err-look.field-0.0 in
    subst (TriesAll 1 h a b) (sym (handed_same c.from_residual.result stop c.from_residual.ensures.1))
    (looked_stopped a b c.requires h (omega arith) stop c.in_err-look.ensures)

pub returns-in-Fine : goal.returns-in-Fine
returns-in-Fine g c =
    let a = loop_state c.args.table.now c.args.self.now (g.T.Theory.meaning c.args.theory.now) in
    let b = loop_state c.look.new.table c.look.new.self (g.T.Theory.meaning c.look.new.theory) in
    let h = counted_held a.table a.theory.view.held in
    let look : Looks a b (Ok Fine) = rw c.in-Fine.is at c.in_ok-look.ensures in
    let can = looked_can a b c.requires look in
    let rests = c.rest.ensures in
    tried_rested h a b (looked_on a b c.requires h (omega arith) look) (looked_few a b c.requires look) can c.rest.new.self (g.T.Theory.meaning c.rest.new.theory) rests.level rests.budget
    (rests.ready b.table can.ready) (rests.continues b.table) rests.asked rests.keeps

pub returns-in_ok-end-in-Clash : goal.returns-in_ok-end-in-Clash
returns-in_ok-end-in-Clash g c =
    let a = loop_state c.args.table.now c.args.self.now (g.T.Theory.meaning c.args.theory.now) in
    let b = loop_state c.look.new.table c.look.new.self (g.T.Theory.meaning c.look.new.theory) in
    let d = loop_state c.learn_and_rest.new.table c.learn_and_rest.new.self (g.T.Theory.meaning c.learn_and_rest.new.theory) in
    let h = counted_held a.table a.theory.view.held in
    let look : Looks a b (Ok (Clash c.in-Clash.clash)) = rw c.in-Clash.is at c.in_ok-look.ensures in
    tried_clash h a b d c.requires (omega arith) c.in-Clash.clash look c.in_ok-end-in-Clash.end c.in_ok-end-in-Clash.ensures.resolves c.in_ok-end-in-Clash.ensures.level
