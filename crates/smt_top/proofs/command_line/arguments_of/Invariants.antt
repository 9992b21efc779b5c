-- The arguments that were collected are a prefix of all arguments.
use Rattle.std.proofs.Common.{map, string_bytes}
use Rattle.smt_top.proofs.CommandLines.{ArePrefix}
use Rattle.smt_top.proofs.command_line.arguments_of.Given as goal

abbrev pub invariant-turns : goal.invariant-turns
invariant-turns g l = ArePrefix (g.C.CommandLine.arguments l.line) (map string_bytes l.arguments.items)
