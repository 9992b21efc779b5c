-- The rule of the name is that which the rules that are left have for it.
use Rattle.std.proofs.Common.{◌≡◌, drop}
use Rattle.spec_sorts.specs.Theory.{look_up}
use Rattle.spec_proofs.specs.RuleNames.{named_rows}
use Rattle.spec_proofs.proofs.rule_names.rule_among.Given as goal

abbrev pub invariant-loop-rule : goal.invariant-loop-rule
invariant-loop-rule l = look_up (named_rows l.rules) l.name ≡ look_up (named_rows (drop l.rule-index l.rules)) l.name
