-- What answers a question, or its first fault. Source: SMT-LIB 2.6, sections 4.1.7, 4.1.8, 4.2.4 and 4.2.6 to 4.2.8;
-- the texts of infos, the mode of `unknown`, the order of faults, and that each mode takes `get-assertions` are own.
use Rattle.std.specs.Prelude.{ℕ, Bool, true, false, List, [], ◌∷◌, ◌++◌, map, Option, Some, None, Result, Ok, Err}
use Rattle.std.specs.Prelude.{codes, decimal, if◌then◌else◌}
use Rattle.std.specs.Str.{bytes_eq}
use Rattle.spec_text.specs.declared.Fault.TheVariants.{WrongMode, NotEnabled, Full, ValueWide}
use Rattle.spec_text.specs.Bytes.{Name}
use Rattle.spec_text.specs.Trees.{Tree, Trees, more, offset_of}
use Rattle.spec_text.specs.Printed.{printed}
use Rattle.spec_text.specs.Answers.{Answer, ◌>>=◌, refused, require}
use Rattle.spec_numbers.specs.Bounds.{Overflow}
use Rattle.spec_sorts.specs.Terms.{Term}
use Rattle.spec_sorts.specs.Values.{Value, Interpretation}
use Rattle.spec_sorts.specs.Signatures.{symbols_in}
use Rattle.spec_sorts.specs.BoundedValues.{bounded_value}
use Rattle.spec_sorts.specs.Subterms.{has_room}
use Rattle.spec_reading.specs.Names.{elsewhere}
use Rattle.spec_reading.specs.Reading.{readings}
use Rattle.spec_commands.specs.Stack.{Assertion, Options, Key, success_key, models_key, proofs_key, assertions_key}
use Rattle.spec_commands.specs.Stack.{cores_key, assumptions_key, global_key}
use Rattle.spec_commands.specs.Stack.{key_named, signature_of, assertions_of, levels_open}
use Rattle.spec_models.specs.Values.{in_list, symbol_tree, value_tree}
use Rattle.spec_models.specs.Models.{model_text}
use Rattle.spec_models.specs.Replies.{Reason, conflicts, overflow, reason_info}
use Rattle.spec_sessions.specs.Evidence.{Found, model, proof, spent, overflowed, Checked}
use Rattle.spec_sessions.specs.States.{State}
use Rattle.spec_sessions.specs.Cores.{core_of, assumptions_of}
use Rattle.spec_sessions.specs.Questions.{Question, for_model, for_proof, for_assertions, for_values, for_option}
use Rattle.spec_sessions.specs.Questions.{for_core, for_assumptions, for_info}

-- What answers a question.
pub data Reply : Type 0 where
  -- these lines
  says : List ℕ → Reply
  -- that its option or information is not known
  not_known : Reply

-- the model that was found
abbrev pub model_found : Found → Option Interpretation
model_found (model i) = Some i
model_found _ = None

-- the text of the proof that was found
abbrev pub proof_found : Found → Option (List ℕ)
proof_found (proof text) = Some text
proof_found _ = None

-- the reason that was found
abbrev pub reason_found : Found → Option Reason
reason_found (spent n d learned) = Some (conflicts n)
reason_found (overflowed o k) = Some (overflow o)
reason_found _ = None

-- the unsat core, where a proof was found
abbrev pub core_found : Checked → Option (List Name)
core_found c = by c.found
  where
    by : Found → Option (List Name)
    by (proof text) = Some (core_of c.check text)
    by _ = None

-- the assumptions that the proof rests on, where one was found
abbrev pub assumptions_found : Checked → Option (List Assertion)
assumptions_found c = by c.found
  where
    by : Found → Option (List Assertion)
    by (proof text) = Some (assumptions_of c.check text)
    by _ = None

-- what is there, or the fault at the command's start
abbrev pub held : {A : Type 0} → ℕ → Option A → Answer A
held at None = refused at WrongMode
held at (Some a) = Ok a

-- what of it was found at the last check, in whose mode the session is, or the fault at the command's start
abbrev pub in_mode : {A : Type 0} → ℕ → (Found → Option A) → Option Checked → Answer A
in_mode at of None = refused at WrongMode
in_mode at of (Some c) = held at (of c.found)

-- what of the last check there is, in whose mode the session is, or the fault at the command's start
abbrev pub of_check : {A : Type 0} → ℕ → (Checked → Option A) → Option Checked → Answer A
of_check at of None = refused at WrongMode
of_check at of (Some c) = held at (of c)

-- a tree on a line
abbrev pub tree_line : Tree → List ℕ
tree_line t = printed t ++ 10 ∷ []

-- names, each as a symbol
abbrev pub names_line : List Name → List ℕ
names_line names = tree_line (in_list (map symbol_tree names))

-- assertions, or assumptions, as they are written
abbrev pub assertions_line : List Assertion → List ℕ
assertions_line assertions = tree_line (in_list (map (λ (a : Assertion). a.text) assertions))

-- the value of a term whose text begins at an offset, or the fault there
abbrev pub value_there : ℕ → Result Value Overflow → Answer Value
value_there at (Ok v) = Ok v
value_there at (Err o) = refused at ValueWide

-- each text with its term's value, in their order, or the first fault
unfoldable pub valued : Interpretation → Trees → List Term → Answer (List Tree)
valued i (more t ts) (u ∷ us) =
    value_there (offset_of t) (bounded_value i [] u) >>= λ v.
    valued i ts us >>= λ rest.
    Ok (in_list (t ∷ value_tree v ∷ []) ∷ rest)
valued i ts us = Ok []

-- the truth value of an option
abbrev pub option_value : Key → Options → Bool
option_value success_key o = o.print_success
option_value models_key o = o.models
option_value proofs_key o = o.proofs
option_value assertions_key o = o.assertions
option_value cores_key o = o.unsat_cores
option_value assumptions_key o = o.unsat_assumptions
option_value global_key o = o.global_declarations

-- its line
abbrev pub truth_line : Bool → List ℕ
truth_line true = codes "true\n"
truth_line false = codes "false\n"

-- the reply for an option, if it is known
abbrev pub option_reply : Options → Option Key → Reply
option_reply o (Some k) = says (truth_line (option_value k o))
option_reply o None = not_known

-- The names of the infos that are known.
pub data Info : Type 0 where
  -- `name`, `version`, `authors`, `error-behavior`
  name_info version_info authors_info behavior_info : Info
  -- `reason-unknown`, `assertion-stack-levels`
  unknown_info levels_info : Info

-- which name is which
abbrev pub info_named : Name → Option Info
info_named n =
    if bytes_eq n (codes "name") then Some name_info
    else if bytes_eq n (codes "version") then Some version_info
    else if bytes_eq n (codes "authors") then Some authors_info
    else if bytes_eq n (codes "error-behavior") then Some behavior_info
    else if bytes_eq n (codes "reason-unknown") then Some unknown_info
    else if bytes_eq n (codes "assertion-stack-levels") then Some levels_info
    else None

-- the reply for information, in a state
abbrev pub info_reply : ℕ → State → Option Info → Answer Reply
info_reply at s None = Ok not_known
info_reply at s (Some name_info) = Ok (says (codes "(:name \"smt_cli\")\n"))
info_reply at s (Some version_info) = Ok (says (codes "(:version \"1.0\")\n"))
info_reply at s (Some authors_info) = Ok (says (codes "(:authors \"the smt_cli team\")\n"))
info_reply at s (Some behavior_info) = Ok (says (codes "(:error-behavior continued-execution)\n"))
info_reply at s (Some unknown_info) = in_mode at reason_found s.answer >>= λ r. Ok (says (reason_info r))
info_reply at s (Some levels_info) =
    Ok (says (codes "(:assertion-stack-levels " ++ decimal (levels_open s.stack.levels) ++ codes ")\n"))

-- what answers a question in a state, or its first fault: `limit` bounds the different subterms of its terms; `at` is
-- the command's offset
abbrev pub reply_to : (limit at : ℕ) → State → Question → Answer Reply
reply_to limit at s for_model =
    in_mode at model_found s.answer >>= λ i.
    require s.stack.options.models at NotEnabled >>= λ on.
    Ok (says (model_text i (symbols_in (signature_of s.stack))))
reply_to limit at s for_proof =
    in_mode at proof_found s.answer >>= λ text.
    require s.stack.options.proofs at NotEnabled >>= λ on.
    Ok (says text)
reply_to limit at s for_assertions =
    require s.stack.options.assertions at NotEnabled >>= λ on.
    Ok (says (assertions_line (assertions_of s.stack)))
reply_to limit at s for_core =
    of_check at core_found s.answer >>= λ names.
    require s.stack.options.unsat_cores at NotEnabled >>= λ on.
    Ok (says (names_line names))
reply_to limit at s for_assumptions =
    of_check at assumptions_found s.answer >>= λ literals.
    require s.stack.options.unsat_assumptions at NotEnabled >>= λ on.
    Ok (says (assertions_line literals))
reply_to limit at s (for_values ts) =
    readings elsewhere (signature_of s.stack) [] ts >>= λ rs.
    in_mode at model_found s.answer >>= λ i.
    require s.stack.options.models at NotEnabled >>= λ on.
    require (has_room limit (signature_of s.stack) rs.terms) at Full >>= λ room.
    valued i ts rs.terms >>= λ pairs.
    Ok (says (tree_line (in_list pairs)))
reply_to limit at s (for_option k) = Ok (option_reply s.stack.options (key_named k))
reply_to limit at s (for_info k) = info_reply at s (info_named k)
