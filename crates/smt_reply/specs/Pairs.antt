-- Terms as they are written, each with its value, and what finding them comes to. Source: SMT-LIB 2.6, section 4.2.6.
use Rattle.std.specs.Prelude.{◌≡◌, ℕ, List, [], ◌∷◌, ◌++◌, map, All, Vec, Result, Ok, Err}
use Rattle.std.specs.declared.alloc.Global.{Global}
use Rattle.spec_text.specs.declared.Fault.TheVariants.{NotEnabled, Full}
use Rattle.spec_text.specs.Bytes.{Name}
use Rattle.spec_text.specs.Trees.{Tree, Trees}
use Rattle.spec_text.specs.Printed.{printed}
use Rattle.spec_text.specs.Answers.{Answer, ◌>>=◌, require}
use Rattle.spec_sorts.specs.Terms.{Term}
use Rattle.spec_sorts.specs.Values.{Value, Interpretation}
use Rattle.spec_sorts.specs.Subterms.{has_room}
use Rattle.spec_reading.specs.Names.{elsewhere}
use Rattle.spec_reading.specs.Reading.{Readings, readings}
use Rattle.spec_commands.specs.Stack.{Stack, signature_of}
use Rattle.spec_models.specs.Values.{value_text}
use Rattle.spec_sessions.specs.States.{State}
use Rattle.spec_sessions.specs.Replies.{model_found, in_mode, valued}
use Rattle.term_core.specs.declared.ids.TermId.{TermId}
use Rattle.term_core.specs.Tables.{TableView, AreIn, clause_at}
use Rattle.term_walks.specs.Valuations.{value_meant, IsNamed}
use Rattle.term_reader.specs.declared.faults.ReadError.{ReadError}
use Rattle.assertion_stack.specs.Views.{Fails}
use Rattle.smt_reply.specs.declared.values.TermValue.{TermValue}

-- a term as it is written with its value, in parentheses
abbrev pub pair_text : List Name → TermValue → List ℕ
pair_text sorts v = 40 ∷ (v.text ++ 32 ∷ value_text (value_meant sorts v.value)) ++ 41 ∷ []

-- the sort of its value, where that is an element, is one of the sorts
abbrev pub IsPairNamed : List Name → TermValue → Type 0
IsPairNamed sorts v = IsNamed sorts v.value

-- Terms with their values are those that the trees are printed of.
pub record ArePairs (sorts : List Name) (vs : List TermValue) (pairs : List Tree) : Type 0 where
  -- they are printed so
  pub texts : map (pair_text sorts) vs ≡ map printed pairs
  -- the sorts of elements are there
  pub named : All (IsPairNamed sorts) vs

-- the values of terms beside texts, where the option for models is on, and there is room
abbrev pub pairs_after : (limit at : ℕ) → Stack → Interpretation → Trees → List Term → Answer (List Tree)
pairs_after limit at s i ts us =
    require s.options.models at NotEnabled >>= λ on.
    require (has_room limit (signature_of s) us) at Full >>= λ room.
    valued i ts us

-- what texts are read as with their values in the last model, or the first fault
abbrev pub pairs_of : (limit at : ℕ) → State → Trees → Answer (List Tree)
pairs_of limit at s ts =
    readings elsewhere (signature_of s.stack) [] ts >>= λ rs.
    in_mode at model_found s.answer >>= λ i.
    pairs_after limit at s.stack i ts rs.terms

-- The texts are read, by the numbers of their terms.
pub record AreTermsRead (t : TableView) (answer : Answer Readings) (ids : List TermId) : Type 0 where
  -- what they are read as
  pub readings : Readings
  -- they are that
  pub read : answer ≡ Ok readings
  -- the numbers are of the table's
  pub there : AreIn t ids
  -- they are those of their terms
  pub terms : clause_at t ids ≡ readings.terms

-- the texts are read, or have this first fault
abbrev pub EndsTermsRead : TableView → Answer Readings → Result (Vec TermId Global) ReadError → Type 0
EndsTermsRead t answer (Ok ids) = AreTermsRead t answer ids.items
EndsTermsRead t answer (Err stop) = Fails stop answer

-- The value of a term is this, beside its text.
pub record IsPair (sorts : List Name) (t : Tree) (answer : Answer Value) (v : TermValue) : Type 0 where
  -- the text
  pub text : v.text ≡ printed t
  -- the value
  pub value : answer ≡ Ok (value_meant sorts v.value)
  -- the sort of an element is there
  pub named : IsPairNamed sorts v

-- the value of a term, beside its text, or the fault
abbrev pub EndsValue : List Name → Tree → Answer Value → Result TermValue ReadError → Type 0
EndsValue sorts t answer (Ok v) = IsPair sorts t answer v
EndsValue sorts t answer (Err stop) = Fails stop answer

-- the terms with their values, or the first fault
abbrev pub EndsPairs : List Name → Answer (List Tree) → Result (Vec TermValue Global) ReadError → Type 0
EndsPairs sorts answer (Ok vs) = (pairs : List Tree) × (answer ≡ Ok pairs) × ArePairs sorts vs.items pairs
EndsPairs sorts answer (Err stop) = Fails stop answer
