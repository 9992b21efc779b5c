-- Each rule of the table by its name.
use Rattle.std.proofs.Common.{◌≡◌, Bool, true, false, [], ap}
use Rattle.std.proofs.lemmas.Bool.{false≢true}
use Rattle.spec_text.specs.Bytes.{Name}
use Rattle.spec_equality.specs.declared.EqualityRule.{EqualityRule}
use Rattle.spec_equality.specs.EqualityRules.{equality_name}
use Rattle.spec_proofs.specs.declared.Rule.{Rule}
use Rattle.spec_proofs.specs.declared.Rule.TheVariants as rules
use Rattle.spec_proofs.specs.RuleNames.{rule_name}
use Rattle.spec_rules.specs.Schemes.{Kind, equates, kind_of}
use Rattle.spec_rules.proofs.laws.equality_rules_keep_their_names.Goals as goal

-- the name of the rule of equality, where the kind is of one
abbrev name_in : Kind → Name
name_in (equates e) = equality_name e
name_in _ = []

-- the kind is of a rule of equality
abbrev is_equating : Kind → Bool
is_equating (equates e) = true
is_equating _ = false

one_name : (rule : Rule) (other : EqualityRule) → kind_of rule ≡ equates other → rule_name rule ≡ equality_name other
one_name rules.EqReflexive other e = ap name_in e
one_name rules.EqTransitive other e = ap name_in e
one_name rules.EqCongruent other e = ap name_in e
one_name rules.EqCongruentPred other e = ap name_in e
one_name rules.Refl other e = ap name_in e
one_name rules.Symm other e = ap name_in e
one_name rules.Trans other e = ap name_in e
one_name rules.Cong other e = ap name_in e
one_name rules.DistinctElim other e = ap name_in e
one_name rules.IteThen other e = ap name_in e
one_name rules.IteElse other e = ap name_in e
one_name _ other e = absurd (false≢true (ap is_equating e))

pub returns : goal.returns
returns c = one_name
