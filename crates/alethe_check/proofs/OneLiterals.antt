-- `trans` and `cong` take of each premise nothing but its one literal, and so its two first terms are enough.
use Rattle.std.proofs.Common.{◌≡◌, ℕ, List, [], ◌∷◌, map, take, get_or, refl, sym}
use Rattle.std.specs.Prelude.{◌↔◌, Result, Ok, Err, MatchResult}
use Rattle.spec_text.specs.Trees.{Trees}
use Rattle.spec_sorts.specs.Literals.{Clause}
use Rattle.spec_equality.specs.declared.EqualityRule.TheVariants as equals
use Rattle.spec_equality.specs.Reasons.{alone}
use Rattle.spec_equality.specs.EqualityRules.{IsChained, IsJoined}
use Rattle.spec_equality.proofs.Alone.{chained_same, joined_same}
use Rattle.spec_rules.specs.Schemes.{Kind, equates}
use Rattle.spec_rules.specs.Rules.{IsBy, IsWideBy}
use Rattle.term_core.specs.declared.ids.TermId.{TermId}
use Rattle.term_core.specs.Tables.{TableView, clause_at}
use Rattle.rule_bool.specs.declared.rule_stop.RuleStop.{RuleStop}
use Rattle.rule_bool.specs.Resolvents.{StopsRule}
use Rattle.alethe_reader.specs.declared.proof_state.ProofState.{ProofState}
use Rattle.alethe_reader.specs.Holding.{clauses_numbered}
use Rattle.alethe_check.specs.Stating.{takes_literals, fronts_numbered}
use Rattle.alethe_check.proofs.Within.{stops_same}

-- two terms tell whether there is one alone
front_alone : (t : TableView) (ids : List TermId) → alone (clause_at t (take 2 ids)) ≡ alone (clause_at t ids)
front_alone t [] = refl
front_alone t (i ∷ []) = refl
front_alone t (i ∷ j ∷ ids) = refl

pub fronts_alone : (h : ProofState) (ks : List ℕ) → map alone (fronts_numbered h ks) ≡ map alone (clauses_numbered h ks)
fronts_alone h [] = refl
fronts_alone h (k ∷ ks) = λ j. front_alone h.table (get_or h.clauses.items k []) j ∷ fronts_alone h ks j

-- a step is right or not, and can be told or not
abbrev JudgesKind : Kind → List Clause → Trees → Clause → Result (Unit {0}) RuleStop → Type 0
JudgesKind k ps arguments c result = MatchResult result (λ _. IsBy k ps arguments c) (λ stop. StopsRule stop (IsBy k ps arguments c) (IsWideBy k ps arguments c))

-- what is judged of the ones is judged of the others
told : (P Q : Type 0) → (P ↔ Q) → (result : Result (Unit {0}) RuleStop) → MatchResult result (λ _. P) (λ stop. StopsRule stop P ⊥) → MatchResult result (λ _. Q) (λ stop. StopsRule stop Q ⊥)
told P Q same (Ok u) h = same.0 h
told P Q same (Err stop) h = stops_same P Q stop same h

pub judged_alike : (k : Kind) → takes_literals k → (ps qs : List Clause) (arguments : Trees) (c : Clause) → map alone ps ≡ map alone qs → (result : Result (Unit {0}) RuleStop) → JudgesKind k ps arguments c result → JudgesKind k qs arguments c result
judged_alike (equates equals.Trans) takes ps qs arguments c same result h = told (IsChained ps c) (IsChained qs c) (chained_same ps qs c same, chained_same qs ps c (sym same)) result h
judged_alike (equates equals.Cong) takes ps qs arguments c same result h = told (IsJoined ps c) (IsJoined qs c) (joined_same ps qs c same, joined_same qs ps c (sym same)) result h
judged_alike _ takes ps qs arguments c same result h = absurd takes
