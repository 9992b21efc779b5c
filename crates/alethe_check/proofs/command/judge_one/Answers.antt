-- A command that is read, by what judging it and adding it come to.
use Rattle.std.proofs.Common.{inr, Some, subst}
use Rattle.spec_text.specs.Trees.{Tree}
use Rattle.spec_commands.specs.Checks.{term_limit}
use Rattle.spec_checking.specs.Reading.{command_of}
use Rattle.alethe_reader.specs.Reads.{IsRead, located_view}
use Rattle.alethe_check.proofs.Commands.{before, one_added, known_added, one_fails, one_wide}
use Rattle.alethe_check.proofs.command.judge_one.Goals as goal

pub returns-in-Ok-judge_statement-clause-judged : goal.returns-in-Ok-judge_statement-clause-judged
returns-in-Ok-judge_statement-clause-judged c k known =
    let h = c.proof_command.new.state in
    let r = subst (λ (t : Tree). IsRead k (command_of (Some term_limit) k t) h c.in-Ok.command) c.trees.ensures.tree (c.in-Ok.ensures k known) in
    one_added k _ h c.in-Ok.command r c.add_command.new.state _ c.add_command.result (c.in-Ok-judge_statement.ensures (before k _ h c.in-Ok.command r) r.known) c.add_command.ensures.added c.add_command.ensures.memory

pub returns-in-Ok-judge_statement-clause-known : goal.returns-in-Ok-judge_statement-clause-known
returns-in-Ok-judge_statement-clause-known c =
    let h = c.proof_command.new.state in
    known_added c.requires.0 _ h c.in-Ok.command (c.in-Ok.ensures c.requires.0 c.requires.1) c.add_command.new.state c.add_command.result c.add_command.ensures.added

pub returns-in-Err-Fails-clause-judged : goal.returns-in-Err-Fails-clause-judged
returns-in-Err-Fails-clause-judged c k known =
    let h = c.proof_command.new.state in
    let r = subst (λ (t : Tree). IsRead k (command_of (Some term_limit) k t) h c.in-Ok.command) c.trees.ensures.tree (c.in-Ok.ensures k known) in
    let j = rw c.in-Err-Fails.field-0-is at c.in-Err-Fails.ensures in
    inr (one_fails k _ h c.in-Ok.command r (located_view c.wrong.result) (j (before k _ h c.in-Ok.command r) r.known) (c.wrong.ensures h))

pub returns-in-Err-Wide-clause-judged : goal.returns-in-Err-Wide-clause-judged
returns-in-Err-Wide-clause-judged c k known =
    let h = c.proof_command.new.state in
    let r = subst (λ (t : Tree). IsRead k (command_of (Some term_limit) k t) h c.in-Ok.command) c.trees.ensures.tree (c.in-Ok.ensures k known) in
    let j = rw c.in-Err-Wide.field-0-is at c.in-Err-Wide.ensures in
    inr (one_wide k _ h c.in-Ok.command r (located_view c.wide.result) (j (before k _ h c.in-Ok.command r) r.known) (c.wide.ensures h))
