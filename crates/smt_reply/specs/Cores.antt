-- What the last check asked about, and which terms of it count for a core.
use Rattle.std.specs.Prelude.{◌≡◌, ℕ, Bool, true, false, not, ◌&&◌, ◌||◌, List, [], ◌∷◌, ◌++◌, length, get_or}
use Rattle.std.specs.Prelude.{Option, Some, None, if◌then◌else◌}
use Rattle.std.specs.List.{slice_set}
use Rattle.spec_sorts.specs.Signatures.{is_some}
use Rattle.spec_sorts.specs.Terms.{Term}
use Rattle.spec_sorts.specs.Subterms.{has_term}
use Rattle.spec_commands.specs.Stack.{Assertion, assertions_of, terms_asserted}
use Rattle.spec_commands.specs.Checks.{Check}
use Rattle.spec_checking.specs.Commands.{known_at}
use Rattle.spec_checking.specs.Assumes.{assumed_in}
use Rattle.spec_proof_texts.specs.Plans.{Plan, terms_planned}
use Rattle.spec_sessions.specs.Evidence.{Checked, proof}
use Rattle.spec_sessions.specs.States.{State}
use Rattle.spec_sessions.specs.Replies.{proof_found}
use Rattle.spec_sessions.specs.Cores.{unnamed}
use Rattle.term_core.specs.Tables.{TableView, AreIn}
use Rattle.proof_log.specs.Logs.{Logged, derivation_in, IsLogOf}
use Rattle.alethe_writer.specs.Printing.{PlanFits}
use Rattle.assertion_stack.specs.declared.assuming.Assumed.{Assumed}
use Rattle.assertion_stack.specs.Assertions.{texts_printed}
use Rattle.assertion_stack.specs.Stacks.{AreAssumed}
use Rattle.check_evidence.specs.declared.evidence.Evidence.{Evidence}
use Rattle.smt_reply.specs.Replies.{found_in}

-- What a check asked about: its assertions are those of a state still, and this is what it assumed.
pub record IsAskedIn (t : TableView) (a : Assumed) (s : State) (c : Checked) : Type 0 where
  -- the assertions
  pub assertions : assertions_of c.check.stack ≡ assertions_of s.stack
  -- the terms of the literals
  pub literals : AreAssumed t a.ids.items c.check.assumptions
  -- how they are printed
  pub texts : a.texts ≡ texts_printed c.check.assumptions

-- so it is of the last check, where its answer counts
abbrev pub KeepsAsked : TableView → Assumed → State → Type 0
KeepsAsked t a s = (c : Checked) → s.answer ≡ Some c → IsAskedIn t a s c

-- what is assumed is in the table, each literal with its text, where there is an answer
abbrev pub HoldsAssumed : TableView → Option Evidence → Assumed → Type 0
HoldsAssumed t None a = Unit {0}
HoldsAssumed t (Some e) a = AreIn t a.ids.items × (length a.texts ≡ length a.ids.items)

-- A log and a plan of it.
pub record Planned : Type 0 where
  -- the log
  pub log : List Logged
  -- the plan
  pub plan : Plan

-- by its parts
abbrev pub planned : List Logged → Plan → Planned
planned log plan = record { log = log; plan = plan }

-- the terms that are assumed by it
abbrev pub planned_terms : TableView → Planned → List Term
planned_terms t p = terms_planned (derivation_in t p.log) p.plan.inferences

-- A proof of this check is found, which assumes these terms.
pub record FindsProof (last : Option Checked) (assumed : List Term) : Type 0 where
  -- the check
  pub check : Check
  -- the text of its proof
  pub text : List ℕ
  -- it is the last check
  pub is : last ≡ Some (record { check = check; found = proof text })
  -- the text assumes the terms
  pub assumes : assumed_in (known_at check) text ≡ assumed

-- the proof is that of the last check, or it has none
abbrev pub IsProofFound : TableView → Option Planned → Option Checked → Type 0
IsProofFound t None last = is_some (found_in proof_found last) ≡ false
IsProofFound t (Some p) last = FindsProof last (planned_terms t p)

-- the log is one over the table, and the plan fits, where there are any
abbrev pub FitsPlanned : TableView → Option Planned → Type 0
FitsPlanned t None = Unit {0}
FitsPlanned t (Some p) = IsLogOf t p.log × PlanFits t p.log p.plan

-- whether a term counts for a core, after terms that were named
abbrev pub counts_named : (assumed without_name seen : List Term) → Term → Bool
counts_named assumed without_name seen u = has_term assumed u && not (has_term without_name u || has_term seen u)

-- whether a term counts, where some were seen
abbrev pub counts_unseen : (assumed seen : List Term) → Term → Bool
counts_unseen assumed seen u = has_term assumed u && not (has_term seen u)

-- the terms of assertions that take a name from others: of all, or of those without a name
abbrev pub striking : Bool → List Assertion → List Term
striking true assertions = terms_asserted assertions
striking false assertions = unnamed assertions

-- a marked term's text comes last, and its mark is taken; nothing is done without a text
abbrev pub ListsMarked : Option (List ℕ) → ℕ → List Bool → List (List ℕ) → List Bool → List (List ℕ) → Type 0
ListsMarked None n marks texts left later = (left ≡ marks) × (later ≡ texts)
ListsMarked (Some text) n marks texts left later =
    (left ≡ slice_set marks n false) × (later ≡ (if get_or marks n false then texts ++ text ∷ [] else texts))
