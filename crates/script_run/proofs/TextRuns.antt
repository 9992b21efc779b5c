-- A text that is run command by command by a session.
use Rattle.std.proofs.Common.{◌≡◌, ℕ, Bool, true, false, ◌||◌, List, [], ◌++◌, length, Option, Some, None, refl, sym, ap, ◌∙◌, subst, append-nil}
use Rattle.std.proofs.Math.Bool.{or-false, or-true}
use Rattle.std.specs.List.{list_any}
use Rattle.world_io.specs.Writing.{SinkView, Sent, NotSent}
use Rattle.world_io.proofs.Sending.{nothing_sent, sent_both, second_fails}
use Rattle.spec_text.specs.Faults.{Located}
use Rattle.spec_text.specs.Places.{IsPlaceOf, column_of, name_of}
use Rattle.spec_text.specs.Lexemes.{lexemes_from}
use Rattle.spec_text.specs.Trees.{Tree}
use Rattle.stream_scan.specs.Next.{IsNext, end_of}
use Rattle.spec_text.specs.Readings.{EndsTrees, kept, is_long, limited}
use Rattle.spec_models.specs.Replies.{error_text}
use Rattle.spec_sessions.specs.Evidence.{Limits}
use Rattle.spec_sessions.specs.States.{State, first_state}
use Rattle.spec_sessions.specs.Responses.{Mode, Response, success, not_supported, answered, echoed, ended, replied, rejected, Answered, Answers, response_text, is_rejected, is_end}
use Rattle.spec_sessions.specs.Transcripts.{answers_text, closing_text, is_fault, IsTranscript}
use Rattle.spec_sessions.proofs.Running.{Going, going_begins, EachIsRead, begun_here, text_ends, line_begun, begun_next, script_ends}
use Rattle.smt_lexer.specs.declared.Refusal.{Refusal}
use Rattle.smt_sexpr.specs.Limited.{refusal_meant, IsStopped}
use Rattle.smt_sexpr.proofs.Limits.{stops_in}
use Rattle.check_evidence.specs.Evidence.{limits_meant}
use Rattle.smt_session.specs.declared.session.After.{After}
use Rattle.smt_session.specs.declared.session.After.TheVariants as afters
use Rattle.script_run.specs.declared.status.Status.{Status}
use Rattle.script_run.specs.declared.status.Status.TheVariants as statuses
use Rattle.smt_session.specs.Sessions.{mode_meant, SessionView, IsSession, after_meant}
use Rattle.script_run.specs.Runs.{Delivered, HasStopped, RunsText, is_last, is_refusal, ended_by, line_of_refusal, Ended}

-- what a response says of what comes after it
pub after_is : (r : Response) (a : After) → a ≡ after_meant r → (is_end r ≡ is_last a) × (is_rejected r ≡ is_refusal a)
after_is success a e = (ap is_last (sym e), ap is_refusal (sym e))
after_is not_supported a e = (ap is_last (sym e), ap is_refusal (sym e))
after_is (answered f) a e = (ap is_last (sym e), ap is_refusal (sym e))
after_is (echoed s) a e = (ap is_last (sym e), ap is_refusal (sym e))
after_is ended a e = (ap is_last (sym e), ap is_refusal (sym e))
after_is (replied lines) a e = (ap is_last (sym e), ap is_refusal (sym e))
after_is (rejected f) a e = (ap is_last (sym e), ap is_refusal (sym e))

-- the last command was not refused
pub last_is_taken : (a : After) → is_last a ≡ true → is_refusal a ≡ false
last_is_taken afters.Went e = cc
last_is_taken afters.Refused e = cc
last_is_taken afters.Ended e = refl

-- more was delivered
pub delivered_more : (first y : List ℕ) (old now new : SinkView) → Delivered first old now → Sent y now new × (new.pending ≡ []) → Delivered (first ++ y) old new
delivered_more first y old now new w d = record { sent = sent_both first y old now new w.sent d.0; passed_on = λ e. d.1 }

module _ (limits : Limits) (mode : Mode) (text : List ℕ) (old : SinkView) where
  -- what is read of the text
  abbrev bytes : List ℕ
  bytes = kept text

  -- Up to here the commands of the text were answered, and this was written.
  pub record IsGoing (x : SessionView) (at : ℕ) (refused : Bool) (now : SinkView) : Type 0 where
    pub state : State
    pub given : List Answered
    pub represents : IsSession x state
    pub limits_are : limits_meant x.limits ≡ limits
    pub mode_is : mode_meant x.mode ≡ mode
    pub going : Going limits bytes at state given
    pub goes_on : list_any (λ (a : Answered). is_end a.response) given ≡ false
    pub told : refused ≡ list_any (λ (a : Answered). is_rejected a.response) given
    pub written : Delivered (answers_text mode bytes given) old now

  -- nothing was written
  pub nothing : Delivered [] old old
  nothing = record { sent = nothing_sent old; passed_on = λ e. e }

  -- nothing was done yet
  pub nothing_begun : EachIsRead bytes 0 → HasStopped limits mode text old old
  nothing_begun r = ([], begun_here limits mode text bytes refl 0 first_state [] (going_begins limits bytes 0 refl) r, nothing)

  module _ (x : SessionView) (at : ℕ) (refused : Bool) (now : SinkView) (i : IsGoing x at refused now) where
    -- what was written up to here
    abbrev written : List ℕ
    written = answers_text mode bytes i.given

    -- memory ran out
    pub memory_here : EachIsRead bytes at → HasStopped limits mode text old now
    memory_here r = (written, begun_here limits mode text bytes refl at i.state i.given i.going r, i.written)

    failed : (y : List ℕ) (new : SinkView) → NotSent y now new → NotSent (written ++ y) old new
    failed y new d = second_fails written y old now new i.written.sent d

    -- what stops the text, where it has no more commands
    module _ (stop : Option Located) (stops : EndsTrees (length bytes) (lexemes_from bytes at) stop) where
      -- nothing stops it but its end
      pub ends_plain : limited (is_long text) stop ≡ None → RunsText limits mode text (ended_by refused) old now
      ends_plain e =
          let t = text_ends limits mode text bytes refl at i.state i.given i.going i.goes_on stop stops in
          let plain = subst (λ (l : Option Located). IsTranscript limits mode text (written ++ closing_text bytes l) (list_any (λ (a : Answered). is_rejected a.response) i.given || is_fault l)) e t in
          by refused (subst (λ r. IsTranscript limits mode text written r) (or-false _ ∙ sym i.told) (subst (λ o. IsTranscript limits mode text o (list_any (λ (a : Answered). is_rejected a.response) i.given || false)) (append-nil _) plain))
        where
          by : (r : Bool) → IsTranscript limits mode text written r → RunsText limits mode text (ended_by r) old now
          by true t = (written, t, i.written)
          by false t = (written, t, i.written)

      -- a fault does
      pub ends_at : (r : Refusal) (new : SinkView) (status : Status) → limited (is_long text) stop ≡ Some (refusal_meant r) → IsPlaceOf bytes r.place → Ended r status now new → RunsText limits mode text status old new
      ends_at r new status e place done = by status done
        where
          line : closing_text bytes (limited (is_long text) stop) ≡ line_of_refusal r
          line = ap (closing_text bytes) e ∙ ap (λ n. error_text n (column_of bytes r.place.offset) (name_of r.fault)) (sym place.line) ∙ ap (λ n. error_text r.place.line n (name_of r.fault)) (sym place.col)

          by : (status : Status) → Ended r status now new → RunsText limits mode text status old new
          by statuses.Refused d =
              let t = text_ends limits mode text bytes refl at i.state i.given i.going i.goes_on stop stops in
              let told : (list_any (λ (a : Answered). is_rejected a.response) i.given || is_fault (limited (is_long text) stop)) ≡ true = ap (λ (o : Option Located). list_any (λ (a : Answered). is_rejected a.response) i.given || is_fault o) e ∙ or-true _ in (
                written ++ closing_text bytes (limited (is_long text) stop),
                subst (IsTranscript limits mode text _) told t,
                subst (λ y. Delivered (written ++ y) old new) (sym line) (delivered_more written (line_of_refusal r) old now new i.written d),
              )
          by statuses.WriteFault d = (
            written ++ closing_text bytes (limited (is_long text) stop),
            line_begun limits mode text bytes refl at i.state i.given i.going i.goes_on stop stops,
            subst (λ y. NotSent (written ++ y) old new) (sym line) (failed (line_of_refusal r) new d),
          )
          by statuses.Done d = absurd d
          by statuses.Words d = absurd d
          by statuses.Memory d = absurd d
          by statuses.ReadFault d = absurd d

    -- the text is at its end
    pub ends_whole : (lexemes_from bytes at ≡ []) × (is_long text ≡ false) → RunsText limits mode text (ended_by refused) old now
    ends_whole h = ends_plain None h.0 (ap (λ b. limited b None) h.1)

    -- the text cannot be read on
    pub ends_stopped : (r : Refusal) (new : SinkView) (status : Status) → IsStopped text 0 (lexemes_from bytes at) r → Ended r status now new → RunsText limits mode text status old new
    ends_stopped r new status h done = ends_at h.stop (stops_in (length bytes) (lexemes_from bytes at) h.stop h.stops) r new status h.is h.place done

    -- the next command, which was answered
    module _ (t : Tree) (next : IsNext bytes at t) (a : Answered) (answers : Answers limits i.state t a) (r : EachIsRead bytes (end_of t)) where
      pub ended_here : (new : SinkView) → is_end a.response ≡ true → is_rejected a.response ≡ false → Sent (response_text mode bytes a) now new × (new.pending ≡ []) → RunsText limits mode text (ended_by refused) old new
      ended_here new last taken wrote =
          let h = script_ends limits mode text bytes refl at (end_of t) t next.first i.state i.given i.going a answers r i.goes_on last taken in
          by refused (subst (IsTranscript limits mode text _) (sym i.told) h) (delivered_more written (response_text mode bytes a) old now new i.written wrote)
        where
          by : (q : Bool) → IsTranscript limits mode text (written ++ response_text mode bytes a) q → Delivered (written ++ response_text mode bytes a) old new → RunsText limits mode text (ended_by q) old new
          by true h w = (_, h, w)
          by false h w = (_, h, w)

      pub write_failed : (new : SinkView) → NotSent (response_text mode bytes a) now new → RunsText limits mode text statuses.WriteFault old new
      write_failed new wrote = (
        written ++ response_text mode bytes a,
        begun_next limits mode text bytes refl at (end_of t) t next.first i.state i.given i.going a answers r,
        failed (response_text mode bytes a) new wrote,
      )
