-- What is kept of the last check, what answers a question over it, and what is written for that. Source: SMT-LIB 2.6,
-- sections 4.1.8, 4.2.4 and 4.2.6 to 4.2.8.
use Rattle.std.specs.Prelude.{◌≡◌, ℕ, suc, List, [], ◌∷◌, ◌++◌, length, map, All, Option, Some, None, Result, Ok, Err}
use Rattle.std.specs.Prelude.{codes, decimal}
use Rattle.spec_text.specs.declared.Fault.{Fault}
use Rattle.spec_text.specs.Answers.{Answer}
use Rattle.spec_text.specs.Printed.{printed_symbol}
use Rattle.spec_sorts.specs.Values.{Interpretation}
use Rattle.spec_sorts.specs.Signatures.{symbols_in}
use Rattle.spec_commands.specs.Stack.{signature_of}
use Rattle.spec_models.specs.declared.ResponseWord.TheVariants.{Unsupported}
use Rattle.spec_models.specs.Replies.{Reason, word_line, reason_info}
use Rattle.spec_sessions.specs.Evidence.{Found, Checked}
use Rattle.spec_sessions.specs.Responses.{evidence_text}
use Rattle.spec_sessions.specs.Replies.{Reply, says, not_known, reason_found}
use Rattle.term_core.specs.Tables.{TableView}
use Rattle.term_walks.specs.declared.values.Interp.{Interp}
use Rattle.term_walks.specs.Valuations.{HasTables, HasSymbolTables}
use Rattle.term_reader.specs.declared.faults.ReadError.{ReadError}
use Rattle.term_reader.specs.declared.faults.ReadError.TheVariants as errors
use Rattle.sat_budget.specs.Budgets.{BudgetView}
use Rattle.assertion_stack.specs.Assertions.{Written}
use Rattle.assertion_stack.specs.Views.{Fails}
use Rattle.assertion_stack.specs.declared.stack.Stack.{Stack as CodeStack}
use Rattle.model_text.specs.Lines.{gap}
use Rattle.check_evidence.specs.declared.evidence.Evidence.{Evidence}
use Rattle.check_evidence.specs.Evidence.{IsEvidence, IsSomeEvidence, AssumesPlanned}
use Rattle.smt_reply.specs.declared.replies.Reply.{Reply as CodeReply}
use Rattle.smt_reply.specs.declared.replies.Reply.TheVariants as replies
use Rattle.smt_reply.specs.Pairs.{pair_text, IsPairNamed}

-- what is kept of the last check is what was found at it, where its answer counts; a proof assumes what is planned
abbrev pub IsLastAnswer : TableView → BudgetView → Option Evidence → Option Checked → Type 0
IsLastAnswer t budget None last = last ≡ None
IsLastAnswer t budget (Some e) last =
    (c : Checked) × (last ≡ Some c) × IsEvidence t budget e c.found × AssumesPlanned t c.check e c.found

-- it is evidence of something, where there is one
abbrev pub HoldsAnswer : TableView → Option Evidence → Type 0
HoldsAnswer t None = Unit {0}
HoldsAnswer t (Some e) = IsSomeEvidence t e

-- what of it was found at the last check
abbrev pub found_in : {A : Type 0} → (Found → Option A) → Option Checked → Option A
found_in of None = None
found_in of (Some c) = of c.found

-- the tables tell the model, or there is none
abbrev pub IsModelFound : TableView → Option Interp → Option Interpretation → Type 0
IsModelFound t None found = found ≡ None
IsModelFound t (Some interp) found = (i : Interpretation) × (found ≡ Some i) × HasSymbolTables t interp i

-- there are tables for all symbols, where there are any
abbrev pub FitsTable : TableView → Option Interp → Type 0
FitsTable t None = Unit {0}
FitsTable t (Some interp) = HasTables t interp

-- a fault at an offset
abbrev pub fault_of : ℕ → Fault → ReadError
fault_of at f = errors.Fault (record { offset = at; fault = f })

-- A stack and its table, with what is kept of the last check.
pub record Context : Type 0 where
  -- the table
  pub table : TableView
  -- the stack
  pub stack : CodeStack
  -- what the last check found, where its answer counts
  pub answer : Option Evidence

-- a context by its parts
abbrev pub in_context : TableView → CodeStack → Option Evidence → Context
in_context t x e = record { table = t; stack = x; answer = e }

-- something is kept, and this holds of it
abbrev pub OnAnswer : Option Evidence → (Evidence → Type 0) → Type 0
OnAnswer None p = ⊥
OnAnswer (Some e) p = p e

-- What was found at a check is written.
pub record ShowsFound (t : TableView) (e : Evidence) (r : Reply) : Type 0 where
  -- the check with what was found at it
  pub checked : Checked
  -- the table has the symbols of its stack
  pub symbols : symbols_in (signature_of checked.check.stack) ≡ t.symbols
  -- the budget of its search
  pub budget : BudgetView
  -- it is what was found
  pub evidence : IsEvidence t budget e checked.found
  -- what is written
  pub text : r ≡ says (evidence_text checked)

-- The reason that was found at a check is written.
pub record TellsReason (t : TableView) (e : Evidence) (r : Reply) : Type 0 where
  -- what was found
  pub found : Found
  -- the budget of the search
  pub budget : BudgetView
  -- it is what was found
  pub evidence : IsEvidence t budget e found
  -- the reason
  pub reason : Reason
  -- it is that
  pub reason_is : reason_found found ≡ Some reason
  -- what is written
  pub text : r ≡ says (reason_info reason)

-- texts, with a space before all but the first, where so many come before them
abbrev pub listed : ℕ → List (List ℕ) → List ℕ
listed k [] = []
listed k (text ∷ texts) = (gap k ++ text) ++ listed (suc k) texts

-- texts in parentheses, on a line
abbrev pub listed_line : List (List ℕ) → List ℕ
listed_line texts = 40 ∷ listed 0 texts ++ 41 ∷ 10 ∷ []

-- how assertions are written
abbrev pub texts_of : List Written → List (List ℕ)
texts_of ws = map (λ (w : Written). w.text) ws

-- how many levels are open, on a line
abbrev pub levels_line : ℕ → List ℕ
levels_line n = codes "(:assertion-stack-levels " ++ decimal n ++ codes ")\n"

-- what answers a question is this, in the words of the definitions
abbrev pub IsReply : Context → CodeReply → Reply → Type 0
IsReply x replies.NotKnown r = r ≡ not_known
IsReply x (replies.Line text) r = r ≡ says text.now
IsReply x (replies.Levels n) r = r ≡ says (levels_line n)
IsReply x replies.Evidence r = OnAnswer x.answer (λ e. ShowsFound x.table e r)
IsReply x replies.Reason r = OnAnswer x.answer (λ e. TellsReason x.table e r)
IsReply x (replies.Names names) r = r ≡ says (listed_line (map printed_symbol names))
IsReply x (replies.Texts texts) r = r ≡ says (listed_line texts)
IsReply x replies.Assertions r =
    (length x.stack.assertions.written ≡ length x.stack.assertions.ids)
    × (r ≡ says (listed_line (texts_of x.stack.assertions.written)))
IsReply x (replies.Values vs) r =
    All (IsPairNamed x.table.sorts) vs.items × (r ≡ says (listed_line (map (pair_text x.table.sorts) vs.items)))

-- it answers some question
abbrev pub IsSomeReply : Context → CodeReply → Type 0
IsSomeReply x reply = (r : Reply) × IsReply x reply r

-- the question is answered so, or has this first fault, unless memory ran out
abbrev pub Replies : Answer Reply → Context → Result CodeReply ReadError → Type 0
Replies wanted x (Ok reply) = (r : Reply) × (wanted ≡ Ok r) × IsReply x reply r
Replies wanted x (Err stop) = Fails stop wanted

-- what is written for what answers a question
abbrev pub reply_lines : Reply → List ℕ
reply_lines (says lines) = lines
reply_lines not_known = word_line Unsupported
