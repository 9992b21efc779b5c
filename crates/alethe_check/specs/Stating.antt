-- Whether what a command of a proof states is right, and what is known after it.
use Rattle.std.specs.Prelude.{◌≡◌, ◌⊎◌, ℕ, List, [], map, take, All, Result, MatchResult, slice_index_or}
use Rattle.spec_text.specs.Trees.{Trees}
use Rattle.spec_sorts.specs.Literals.{Clause}
use Rattle.spec_equality.specs.declared.EqualityRule.TheVariants as equals
use Rattle.spec_proofs.specs.declared.Rule.{Rule}
use Rattle.spec_proofs.specs.Faults.{Fault}
use Rattle.spec_rules.specs.Clauses.{IsResolvent}
use Rattle.spec_rules.specs.Schemes.{Kind, resolves, equates, kind_of}
use Rattle.spec_rules.specs.Rules.{IsRight, IsWide}
use Rattle.spec_checking.specs.Commands.{Known, Step, Statement}
use Rattle.spec_checking.specs.Judging.{with_statement, IsRightAfter, IsWideStep, fault_of, wide_fault}
use Rattle.term_core.specs.Tables.{clause_at, AreIn}
use Rattle.rule_bool.specs.declared.rule_stop.RuleStop.{RuleStop}
use Rattle.rule_bool.specs.Resolvents.{StopsRule}
use Rattle.alethe_reader.specs.declared.proof_state.ProofState.{ProofState}

-- such a step has one premise at most
abbrev pub takes_few : Kind → Type 0
takes_few resolves = ⊥
takes_few (equates equals.Trans) = ⊥
takes_few (equates equals.Cong) = ⊥
takes_few k = Unit {0}

-- a step by the rule has one premise at most
abbrev pub TakesFew : Rule → Type 0
TakesFew rule = takes_few (kind_of rule)

-- such a step takes of each premise nothing but its one literal, if it has one
abbrev pub takes_literals : Kind → Type 0
takes_literals (equates equals.Trans) = Unit {0}
takes_literals (equates equals.Cong) = Unit {0}
takes_literals k = ⊥

-- a step by the rule takes of each premise nothing but its one literal, if it has one
abbrev pub TakesLiterals : Rule → Type 0
TakesLiterals rule = takes_literals (kind_of rule)

-- the two first terms of the clause with that number, and of the clauses with these numbers
abbrev pub front_numbered : ProofState → ℕ → Clause
front_numbered h k = clause_at h.table (take 2 (slice_index_or h.clauses.items k []))

abbrev pub fronts_numbered : ProofState → List ℕ → List Clause
fronts_numbered h ks = map (front_numbered h) ks

-- the terms of the clauses that are known are in the table
abbrev pub HasClauses : ProofState → Type 0
HasClauses h = All (λ c. AreIn h.table c) h.clauses.items

-- whether the clause follows from the premises by resolution, unless memory ran out
abbrev pub JudgesResolvent : List Clause → Clause → Result (Unit {0}) RuleStop → Type 0
JudgesResolvent premises clause result =
    MatchResult result (λ _. IsResolvent premises clause) (λ stop. StopsRule stop (IsResolvent premises clause) ⊥)

-- whether the clause follows from the premises by the rule, and whether this can be told, unless memory ran out
abbrev pub JudgesBy : Rule → List Clause → Trees → Clause → Result (Unit {0}) RuleStop → Type 0
JudgesBy rule premises arguments clause result =
    MatchResult result (λ _. IsRight rule premises arguments clause)
    (λ stop. StopsRule stop (IsRight rule premises arguments clause) (IsWide rule premises arguments clause))

-- the same of a step
abbrev pub JudgesStep : Step → Result (Unit {0}) RuleStop → Type 0
JudgesStep s result = JudgesBy s.rule s.premises s.arguments s.clause result

-- the same of what a command states
abbrev pub JudgesStatement : Known → Statement → Result (Unit {0}) RuleStop → Type 0
JudgesStatement k s result =
    MatchResult result (λ _. IsRightAfter k s) (λ stop. StopsRule stop (IsRightAfter k s) (IsWideStep s))

-- what is known, with what is stated after it
abbrev pub stating : Known → Statement → Known
stating k s = record k { entries = with_statement k.entries s }

-- it is the fault of what is stated: that this is wide, or is not right
abbrev pub IsWrong : Known → Statement → Fault → Type 0
IsWrong k s f =
    (IsWideStep s × (f ≡ wide_fault s))
    ⊎ ((IsRightAfter k s → ⊥) × (IsWideStep s → ⊥) × (f ≡ fault_of s))
