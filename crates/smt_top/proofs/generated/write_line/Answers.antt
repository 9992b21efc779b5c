-- The line has what was found at the check of the script.
use Rattle.smt_top.proofs.ScriptLines.{line_of}
use Rattle.smt_top.proofs.generated.write_line.Goals as goal

pub gen_line-requires : goal.gen_line-requires
gen_line-requires g c = record { answered = (c.requires.state, c.requires.represents, c.requires.mode) }

pub returns-in-Ok-clause-ends : goal.returns-in-Ok-clause-ends
returns-in-Ok-clause-ends g c = (_, line_of c.args.n c.args.bytes c.args.session.now c.requires, c.in-Ok.ensures c.requires.state c.requires.checked c.requires.represents c.requires.answer)

pub returns-in-Err-clause-ends : goal.returns-in-Err-clause-ends
returns-in-Err-clause-ends g c = (_, line_of c.args.n c.args.bytes c.args.session.now c.requires, c.in-Err.ensures c.requires.state c.requires.checked c.requires.represents c.requires.answer)
