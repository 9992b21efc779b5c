-- One command more, or what ends them, or a fault.
use Rattle.alethe_check.proofs.Judged.{commands_right, goes_on, going_begins, judging_stops, reading_stops}
use Rattle.alethe_check.proofs.judge.judge_commands.Goals as goal

pub commands-init : goal.commands-init
commands-init c = record {
  known = c.requires;
  going = λ k known. going_begins c.args.reader.now k c.args.state.now known;
}

pub returns-in_err-sexpr : goal.returns-in_err-sexpr
returns-in_err-sexpr c k known =
    reading_stops c.args.reader.now k c.commands.state c.commands.reader (c.commands.invariant.going k known) _ c.next.new.self c.commands.state c.from_residual.result c.in_err-sexpr.ensures.next c.from_residual.ensures.1

pub returns-in_err-judge_one : goal.returns-in_err-judge_one
returns-in_err-judge_one c k known =
    let read = rw c.in-Some.is at c.in_ok-sexpr.ensures.next in
    let g = c.commands.invariant.going k known in
    judging_stops c.args.reader.now k c.commands.state c.commands.reader g c.in-Some.sexpr c.next.new.self read _ c.judge_one.new.state c.from_residual-in_err-judge_one.result (c.in_err-judge_one.ensures.judged g.now g.known) c.from_residual-in_err-judge_one.ensures.1

pub commands-preserved : goal.commands-preserved
commands-preserved c =
    let read = rw c.in-Some.is at c.in_ok-sexpr.ensures.next in
    record {
      known = c.in_ok-judge_one.ensures.known;
      going = λ k known.
          let g = c.commands.invariant.going k known in
          goes_on c.args.reader.now k c.commands.state c.commands.reader g c.in-Some.sexpr c.next.new.self read _ c.judge_one.new.state c.in_ok-sexpr.ensures.text (c.in_ok-judge_one.ensures.judged g.now g.known);
    }

pub returns : goal.returns
returns c k known =
    let over = rw c.in_default.is at c.in_ok-sexpr.ensures.next in
    commands_right c.args.reader.now k c.commands.state c.commands.reader (c.commands.invariant.going k known) over.1
