-- The text or its prefix.
use Rattle.std.proofs.Common.{sym, arith}
use Rattle.std.proofs.lemmas.List.{take_all, length-take-le}
use Rattle.spec_text.specs.Readings.{text_limit}
use Rattle.smt_sexpr.proofs.limited.kept.Goals as goal

pub slice_bounds-result-end : goal.slice_bounds-result-end
slice_bounds-result-end c = sym (length-take-le text_limit c.args.text.now (omega (arith, c.if-text-gt-TEXT_LIMIT.true)))

pub returns : goal.returns
returns c = sym (take_all text_limit c.args.text.now (omega (arith, c.if-text-gt-TEXT_LIMIT.false)))
