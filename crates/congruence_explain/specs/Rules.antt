-- Which rule states a clause.
use Rattle.std.specs.Prelude.{◌==◌, Bool, true, false, List, [], ◌∷◌, if◌then◌else◌}
use Rattle.spec_proofs.specs.declared.Rule.{Rule}
use Rattle.spec_proofs.specs.declared.Rule.TheVariants as rules
use Rattle.term_core.specs.declared.ids.TermId.{TermId}

-- that linked terms are equal
abbrev pub path_rule : TermId → TermId → Rule
path_rule x y = if x.0 == y.0 then rules.EqReflexive else rules.EqTransitive

-- that terms with these and equal arguments are equal; without arguments they are one
abbrev pub arguments_rule : List TermId → Rule
arguments_rule [] = rules.EqReflexive
arguments_rule (x ∷ xs) = rules.EqCongruent

-- a truth value
abbrev pub value_rule : Bool → Rule
value_rule true = rules.True
value_rule false = rules.False

-- that a formula is equal to its truth value
abbrev pub decided_rule : Bool → Rule
decided_rule true = rules.EquivNeg1
decided_rule false = rules.EquivNeg2
