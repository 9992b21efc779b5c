-- The step that says that not all of some literals hold, and why there is none.
use Rattle.std.specs.Prelude.{◌≡◌, List, [], Result, Err}
use Rattle.spec_proofs.specs.declared.Rule.TheVariants.{LaGeneric}
use Rattle.spec_arithmetic.specs.Contradictions.{Failure, wide, la_generic}
use Rattle.spec_derivations.specs.Derivations.{Inference, by_rule}
use Rattle.ratio128.specs.declared.ratio.Ratio.{Ratio}
use Rattle.ratio128.specs.Meant.{overflow}
use Rattle.rule_bool.specs.Arguments.{texts_of, fractions_of}
use Rattle.term_core.specs.declared.ids.TermId.{TermId}
use Rattle.term_core.specs.Tables.{TableView, clause_at}
use Rattle.proof_log.specs.declared.premises.StepId.{StepId}
use Rattle.proof_log.specs.Logs.{Logged, stepped}
use Rattle.proof_log.specs.Adding.{IsAdded}
use Rattle.simplex_explain.specs.declared.stop.ExplainStop.{ExplainStop}
use Rattle.simplex_explain.specs.declared.stop.ExplainStop.TheVariants as stops
use Rattle.simplex_explain.specs.declared.weighted.Weighted.{Weighted}
use Rattle.simplex_explain.specs.Reasons.{weights_of, weights_meant, denials_meant, arguments_meant}

-- what the rule `la_generic` says of the clause that not all of the literals hold, with their weights
abbrev pub judged : TableView → List Weighted → Result (Unit {0}) Failure
judged t rs = la_generic (denials_meant t rs) (arguments_meant rs)

-- the step of that clause by that rule: it has no premises, and its arguments are the weights
abbrev pub refutation : TableView → List Weighted → Inference
refutation t rs = by_rule LaGeneric [] (texts_of (weights_meant rs)) (denials_meant t rs)

-- a step by that rule, as a log has it
abbrev pub refuting : List Ratio → List TermId → Logged
refuting weights clause = stepped LaGeneric [] (fractions_of weights) clause

-- The step that not all of the literals hold was logged last, under a number.
pub record LogsRefutation (t u : TableView) (old new : List Logged) (rs : List Weighted) (id : StepId) : Type 0 where
  -- its clause
  pub clause : List TermId
  pub says : clause_at u clause ≡ denials_meant t rs
  -- it is the step that came
  pub added : IsAdded u old (refuting (weights_of rs) clause) id new

-- a number leaves the bound as the rule's does; out of memory says nothing
abbrev pub IsCause : Result (Unit {0}) Failure → ExplainStop → Type 0
IsCause a (stops.Wide w) = a ≡ Err (wide (overflow w))
IsCause a stops.Memory = Unit {0}
