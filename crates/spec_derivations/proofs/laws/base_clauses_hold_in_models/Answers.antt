-- Each base clause is a term's alone or stated by a rule.
use Rattle.std.proofs.Common.{[], true, ◌≡◌, get_or}
use Rattle.std.proofs.lemmas.List.Elements.{All-nil, Contains-get_or}
use Rattle.spec_text.specs.Trees.{none}
use Rattle.spec_rules.specs.Clauses.{clause_true}
use Rattle.spec_derivations.specs.Base.{base_clauses}
use Rattle.spec_derivations.proofs.Holding.{each_formula, each_holds}
use Rattle.spec_derivations.proofs.laws.base_clauses_hold_in_models.Goals as goal

pub returns-clause-formulas : goal.returns-clause-formulas
returns-clause-formulas c symbols p formulas k d lt = each_formula symbols p formulas (get_or (base_clauses p) k d) (Contains-get_or (base_clauses p) k d lt)

pub returns-clause-hold : goal.returns-clause-hold
returns-clause-hold c symbols p i interprets formulas = each_holds symbols p formulas i (λ rule clause over right. c.rules_are_sound.ensures symbols rule [] none clause i interprets over (All-nil (λ x. clause_true i x ≡ true)) right)
