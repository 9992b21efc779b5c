-- Try by try.
use Rattle.std.proofs.Common.{◌+◌, length, sym, subst, arith}
use Rattle.std.specs.Prelude.{Ok, Err, Some, None}
use Rattle.search_loop.specs.Loops.{loop_state, TriesAll}
use Rattle.search_loop.proofs.SearchTries.{tried_none, tried_on, tries_after, tries_fewer, handed_same}
use Rattle.search_loop.proofs.search.Search.try_all.Goals as goal

pub literals-init : goal.literals-init
literals-init g c = tried_none (loop_state c.args.table.now c.args.self.now (g.T.Theory.meaning c.args.theory.now)) c.requires.going c.requires.level

pub literals-preserved : goal.literals-preserved
literals-preserved g c =
    let k = c.literals.lit-index in
    let a = loop_state c.args.table.now c.args.self.now (g.T.Theory.meaning c.args.theory.now) in
    let b = loop_state c.literals.table c.literals.self (g.T.Theory.meaning c.literals.theory) in
    let d = loop_state c.try_one.new.table c.try_one.new.self (g.T.Theory.meaning c.try_one.new.theory) in
    tries_after k 0 1 0 a b d (tried_on k 0 a b c.literals.invariant) (Ok None) (rw c.in_default.is at c.in_ok-end.ensures)

pub returns-in-Some : goal.returns-in-Some
returns-in-Some g c =
    let k = c.literals.lit-index in
    let n = length c.args.lits.now in
    let a = loop_state c.args.table.now c.args.self.now (g.T.Theory.meaning c.args.theory.now) in
    let b = loop_state c.literals.table c.literals.self (g.T.Theory.meaning c.literals.theory) in
    let d = loop_state c.try_one.new.table c.try_one.new.self (g.T.Theory.meaning c.try_one.new.theory) in
    tries_fewer (k + 1) n (omega (arith, c.literals-test.true)) 0 a d (Ok (Some c.in-Some.end))
    (tries_after k 0 1 0 a b d (tried_on k 0 a b c.literals.invariant) (Ok (Some c.in-Some.end)) (rw c.in-Some.is at c.in_ok-end.ensures))

pub returns-in_err-end : goal.returns-in_err-end
returns-in_err-end g c =
    let k = c.literals.lit-index in
    let n = length c.args.lits.now in
    let a = loop_state c.args.table.now c.args.self.now (g.T.Theory.meaning c.args.theory.now) in
    let b = loop_state c.literals.table c.literals.self (g.T.Theory.meaning c.literals.theory) in
    let d = loop_state c.try_one.new.table c.try_one.new.self (g.T.Theory.meaning c.try_one.new.theory) in
    let stop = c.in_err-end.field-0.0 in
    subst (TriesAll n 0 a d) (sym (handed_same c.from_residual.result stop c.from_residual.ensures.1))
    (tries_fewer (k + 1) n (omega (arith, c.literals-test.true)) 0 a d (Err stop) (tries_after k 0 1 0 a b d (tried_on k 0 a b c.literals.invariant) (Err stop) c.in_err-end.ensures))

pub returns : goal.returns
returns g c =
    let a = loop_state c.args.table.now c.args.self.now (g.T.Theory.meaning c.args.theory.now) in
    let b = loop_state c.literals.table c.literals.self (g.T.Theory.meaning c.literals.theory) in
    tries_fewer c.literals.lit-index (length c.args.lits.now) (omega (arith, c.literals.auto.lit-index-end)) 0 a b (Ok None) c.literals.invariant

pub returns-then-vain-ge-MOST_VAIN : goal.returns-then-vain-ge-MOST_VAIN
returns-then-vain-ge-MOST_VAIN g c =
    let a = loop_state c.args.table.now c.args.self.now (g.T.Theory.meaning c.args.theory.now) in
    let b = loop_state c.literals.table c.literals.self (g.T.Theory.meaning c.literals.theory) in
    tries_fewer c.literals.lit-index (length c.args.lits.now) (omega (arith, c.literals-test.true)) 0 a b (Ok None) c.literals.invariant
