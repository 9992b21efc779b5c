-- Each rule of linear arithmetic by its name.
use Rattle.std.proofs.Common.{◌≡◌, Bool, true, false, [], ap}
use Rattle.std.proofs.lemmas.Bool.{false≢true}
use Rattle.spec_text.specs.Bytes.{Name}
use Rattle.spec_arithmetic.specs.declared.ArithmeticRule.{ArithmeticRule}
use Rattle.spec_arithmetic.specs.ArithmeticRules.{arithmetic_name}
use Rattle.spec_proofs.specs.declared.Rule.{Rule}
use Rattle.spec_proofs.specs.declared.Rule.TheVariants as rules
use Rattle.spec_proofs.specs.RuleNames.{rule_name}
use Rattle.spec_rules.specs.Schemes.{Kind, calculates, kind_of}
use Rattle.spec_rules.proofs.laws.arithmetic_rules_keep_their_names.Goals as goal

-- the name of the rule of arithmetic, where the kind is of one
abbrev name_in : Kind → Name
name_in (calculates e) = arithmetic_name e
name_in _ = []

-- the kind is of a rule of arithmetic
abbrev is_calculating : Kind → Bool
is_calculating (calculates e) = true
is_calculating _ = false

one_name : (rule : Rule) (other : ArithmeticRule) → kind_of rule ≡ calculates other → rule_name rule ≡ arithmetic_name other
one_name rules.LaGeneric other e = ap name_in e
one_name rules.LaDisequality other e = ap name_in e
one_name rules.LaTotality other e = ap name_in e
one_name _ other e = absurd (false≢true (ap is_calculating e))

pub returns : goal.returns
returns c = one_name
