-- A run over a text that a shelf in memory holds ends as that of the text.
use Rattle.std.proofs.Common.{◌≡◌, ◌≢◌, inl, inr, ℕ, true, false, List, [], Option, Some, IfSome, refl, sym, subst}
use Rattle.world_io.specs.Writing.{SinkView}
use Rattle.spec_text.specs.Readings.{kept}
use Rattle.spec_sessions.specs.Evidence.{Limits}
use Rattle.spec_sessions.specs.Responses.{Mode}
use Rattle.spec_sessions.specs.Statements.{OnTranscript, OnBegun}
use Rattle.world_io.specs.Writing.{NotSent}
use Rattle.script_run.specs.declared.status.Status.{Status}
use Rattle.script_run.specs.declared.status.Status.TheVariants.{Done, Refused, Words, Memory, ReadFault, WriteFault}
use Rattle.script_run.specs.Runs.{Delivered, EndsText}
use Rattle.script_run.specs.Scripts.{Holdings, ScriptMeans, OnText}
use Rattle.script_run.proofs.Saying.{WholeSays, BegunSays, says_so}
use Rattle.script_run.proofs.Going.{ReadLaw}
use Rattle.script_run.proofs.TextRuns.{nothing_begun}

module _ (whole : WholeSays) (begun : BegunSays) (read : ReadLaw) (limits : Limits) (mode : Mode) (text : List ℕ) where
  -- nothing was done, as memory ran out before
  pub nothing_done : (sink : SinkView) → EndsText limits mode text Memory sink sink
  nothing_done sink = says_so whole begun limits mode text Memory sink sink (nothing_begun limits mode text sink (read (kept text) 0))

  module _ (holds : Holdings) (held : holds [] ≡ Some text) (old new : SinkView) where
    of_text : (P : List ℕ → Type 0) → OnText [] holds P → P text
    of_text P (t, is, p) = let same : text ≡ t = subst (λ (h : Option (List ℕ)). IfSome h (λ x. x ≡ t)) held is in subst P (sym same) p

    -- what the name holds is the text
    pub ends_as_text : (status : Status) → status ≢ ReadFault → ScriptMeans status (record { mode = mode; name = []; limits = limits }) holds old new → EndsText limits mode text status old new
    ends_as_text Done other m = of_text (λ t. OnTranscript limits mode t false (λ all. Delivered all old new)) m
    ends_as_text Refused other m = of_text (λ t. OnTranscript limits mode t true (λ all. Delivered all old new)) m
    ends_as_text Words other m = absurd m
    ends_as_text Memory other (inl m) = of_text (λ t. OnBegun limits mode t (λ all. Delivered all old new)) m
    ends_as_text Memory other (inr same) = subst (EndsText limits mode text Memory old) (sym same) (nothing_done old)
    ends_as_text ReadFault other m = absurd (other refl)
    ends_as_text WriteFault other m = of_text (λ t. OnBegun limits mode t (λ all. NotSent all old new)) m
