-- The run of symbol bytes is the whole name, or shorter.
use Rattle.std.proofs.Common.{arith, ap, ◌∙◌, sym}
use Rattle.std.specs.Prelude.{not}
use Rattle.smt_lexer.proofs.Runs.{bare_shorter, bare_whole}
use Rattle.smt_lexer.proofs.words.is_bare.Goals as goal

pub returns-then-front_len-name : goal.returns-then-front_len-name
returns-then-front_len-name c = bare_shorter c.args.name.now _ _ c.in-Some.ensures.cases.0 (sym c.if-is_ascii_digit.ensures.value) (omega (arith, c.if-front_len-name.true, c.front_len.ensures.length))

pub returns : goal.returns
returns c = ap not c.is_reserved.ensures ∙ bare_whole c.args.name.now _ _ c.in-Some.ensures.cases.0 (sym c.if-is_ascii_digit.ensures.value) (omega (arith, c.if-front_len-name.false, c.front_len.ensures.length))
