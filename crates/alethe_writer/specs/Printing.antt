-- Which plans are of a log, and the texts of which its proof is made.
use Rattle.std.specs.Prelude.{ℕ, ◌≤◌, List, [], ◌∷◌, ◌++◌, length, map, flat_map, Option, None, get_or, codes}
use Rattle.spec_text.specs.Printed.{printed, printed_symbol}
use Rattle.spec_numbers.specs.Fractions.{Fraction}
use Rattle.spec_sorts.specs.Terms.{Term, app}
use Rattle.spec_sorts.specs.HeadNames.{head_name}
use Rattle.spec_proof_texts.specs.Lines.{Argument, argument_tree, Reference, assumed, stepped, reference_name, assumes}
use Rattle.spec_proof_texts.specs.Lines.{steps, line_text}
use Rattle.spec_proof_texts.specs.Plans.{Plan, number_or_zero, in_place, argument_for, arguments_for, reference_for}
use Rattle.spec_proof_texts.specs.Plans.{definition_by, definition_lines, inference_by, inference_lines}
use Rattle.spec_models.specs.Values.{fraction_tree}
use Rattle.rule_bool.specs.Arguments.{texts_of}
use Rattle.term_core.specs.declared.ids.TermId.{TermId}
use Rattle.term_core.specs.declared.nodes.Head.{Head}
use Rattle.term_core.specs.Tables.{TableView, head_meant, term_at, clause_at}
use Rattle.proof_log.specs.declared.premises.StepId.{StepId}
use Rattle.proof_log.specs.declared.step.Step.{Step}
use Rattle.proof_log.specs.Logs.{Logged, logged_at, inference_of, derivation_in}
use Rattle.proof_log.specs.Logs as logged

-- The plan has no numbers beyond the table and the log.
pub record PlanFits (t : TableView) (log : List Logged) (plan : Plan) : Type 0 where
  -- of terms
  pub terms : length plan.terms ≤ length t.terms
  -- of clauses
  pub inferences : length plan.inferences ≤ length log

-- a printed term after a space
abbrev pub spaced : Argument → List ℕ
spaced a = 32 ∷ printed (argument_tree a)

-- printed terms, each after a space
abbrev pub all_spaced : List Argument → List ℕ
all_spaced items = flat_map spaced items

-- a clause of a log by the number under which it is printed, as a premise
abbrev pub logged_by : Logged → ℕ → Reference
logged_by (logged.assumed id) n = assumed n
logged_by (logged.stepped r ps qs c) n = stepped n

-- the premise that a number of a log is
abbrev pub logged_reference : List Logged → List (Option ℕ) → StepId → Reference
logged_reference log numbers s = logged_by (logged_at log s) (number_or_zero (get_or numbers s.0 None))

-- premises, each after a space
abbrev pub references_spaced : List Reference → List ℕ
references_spaced ps = flat_map (λ p. 32 ∷ reference_name p) ps

-- the premises of a step, or nothing where there are none
abbrev pub premises_text : List Reference → List ℕ
premises_text [] = []
premises_text (p ∷ ps) = codes " :premises (" ++ (reference_name p ++ (references_spaced ps ++ codes ")"))

-- fractions, each after a space
abbrev pub fractions_spaced : List Fraction → List ℕ
fractions_spaced qs = flat_map (λ q. 32 ∷ printed (fraction_tree q)) qs

-- the arguments of a step's rule, or nothing where there are none
abbrev pub given_listed : List Fraction → List ℕ
given_listed [] = []
given_listed (q ∷ qs) = codes " :args (" ++ (printed (fraction_tree q) ++ (fractions_spaced qs ++ codes ")"))

-- a term of a table as a plan prints it
abbrev pub name_by : TableView → Plan → Term → Argument
name_by t plan = argument_for t.terms plan.terms

-- a term in place, whether it has a number or not
abbrev pub in_place_for : List Term → List (Option ℕ) → Term → Argument
in_place_for terms numbers (app h ts) = in_place h (arguments_for terms numbers ts)

-- a premise of a log as a plan prints it
abbrev pub refer_by : TableView → List Logged → Plan → ℕ → Reference
refer_by t log plan = reference_for (derivation_in t log) plan.inferences

-- a term after a space
abbrev pub argument_text : TableView → Plan → TermId → List ℕ
argument_text t plan id = spaced (name_by t plan (term_at t id))

-- a term in place after a space
abbrev pub in_place_text : TableView → Plan → TermId → List ℕ
in_place_text t plan id = spaced (in_place_for t.terms plan.terms (term_at t id))

-- terms, each after a space
abbrev pub arguments_text : TableView → Plan → List TermId → List ℕ
arguments_text t plan ids = all_spaced (map (name_by t plan) (clause_at t ids))

-- premises, each after a space
abbrev pub references_text : List Logged → Plan → List StepId → List ℕ
references_text log plan ids = references_spaced (map (logged_reference log plan.inferences) ids)

-- the name of a premise
abbrev pub reference_text : List Logged → Plan → StepId → List ℕ
reference_text log plan id = reference_name (logged_reference log plan.inferences id)

-- the premises of a step, or nothing where there are none
abbrev pub premises_listed : List Logged → Plan → List StepId → List ℕ
premises_listed log plan ids = premises_text (map (logged_reference log plan.inferences) ids)

-- the name of a head, between bars where it needs them
abbrev pub head_text : TableView → Head → List ℕ
head_text t head = printed_symbol (head_name (head_meant t head))

-- the number of a term's definition
abbrev pub term_number : Plan → TermId → Option ℕ
term_number plan id = get_or plan.terms id.0 None

-- the number of a clause's assume or step
abbrev pub clause_number : Plan → StepId → Option ℕ
clause_number plan id = get_or plan.inferences id.0 None

-- the definition of a term, where it has a number
abbrev pub definition_text : TableView → Plan → TermId → Option ℕ → List ℕ
definition_text t plan id number = flat_map line_text (definition_by (name_by t plan) number (term_at t id))

-- the line of an assume by its number
abbrev pub assume_text : TableView → Plan → TermId → ℕ → List ℕ
assume_text t plan id number = line_text (assumes number (name_by t plan (term_at t id)))

-- the line of a step by its number
abbrev pub step_text : TableView → List Logged → Plan → Step → ℕ → List ℕ
step_text t log plan step number =
    line_text (steps (record {
      number = number;
      literals = map (name_by t plan) (clause_at t step.clause);
      rule = step.rule;
      premises = map (logged_reference log plan.inferences) step.premises;
      arguments =
          texts_of step.arguments;
    }))

-- the line of a clause of a log, where it has a number
abbrev pub clause_text : TableView → List Logged → Plan → StepId → Option ℕ → List ℕ
clause_text t log plan id number =
    flat_map line_text (inference_by (name_by t plan) (refer_by t log plan) number (inference_of t (logged_at log id)))

-- all definitions
abbrev pub definitions_text : TableView → Plan → List ℕ
definitions_text t plan = flat_map line_text (definition_lines (name_by t plan) t.terms plan.terms)

-- all lines of clauses
abbrev pub clauses_text : TableView → List Logged → Plan → List ℕ
clauses_text t log plan = flat_map line_text (inference_lines (name_by t plan) (refer_by t log plan)
    (derivation_in t log) plan.inferences)
