-- From the end of a run to what was passed on after it.
use Rattle.std.proofs.Common.{◌≡◌, ◌≢◌, refl, ◌⊎◌, inl, inr, sym, ap, ◌∙◌, ℕ, ◌-◌, ◌≤◌, Bool, true, false, List, length, Option, Some, None, arith}
use Rattle.std.specs.Prelude.{Ok}
use Rattle.std.proofs.lemmas.Bool.{false≢true}
use Rattle.world_io.specs.Writing.{SinkView, HasRoom, Sent, NotSent, Flushed, NotFlushed}
use Rattle.world_io.proofs.Sending.{room_for_less}
use Rattle.spec_sessions.specs.Evidence.{Limits}
use Rattle.spec_sessions.specs.States.{first_state}
use Rattle.spec_sessions.specs.Responses.{Mode}
use Rattle.spec_sessions.proofs.Running.{begins_all}
use Rattle.script_run.specs.declared.status.Status.{Status}
use Rattle.script_run.specs.declared.status.Status.TheVariants.{Done, Refused, Words, Memory, ReadFault, WriteFault}
use Rattle.smt_session.specs.Sessions.{Delivers}
use Rattle.spec_sessions.specs.Statements.{OnTranscript, OnBegun}
use Rattle.script_run.specs.Runs.{Delivered}
use Rattle.script_run.specs.Scripts.{Holdings}
use Rattle.smt_session.proofs.Delivering.{flushed, not_flushed}
use Rattle.smt_top.specs.Arguments.{Asked, runs, judges, generates, limits_by}
use Rattle.judge_run.specs.Judgings.{longest_line}
use Rattle.judge_run.specs.Runs.{IsUnread}
use Rattle.smt_top.specs.RunMeans.{RunMeans, is_answered}

-- a whole transcript is one that was begun
whole_is_begun : (limits : Limits) (mode : Mode) (text : List ℕ) (refused : Bool) (P Q : List ℕ → Type 0) → ((all : List ℕ) → P all → Q all) → OnTranscript limits mode text refused P → OnBegun limits mode text Q
whole_is_begun limits mode text refused P Q go (all, t, say, p) =
    (all, record { commands = t.commands; end = t.end; read = t.read; answers = t.answers; begins = begins_all limits first_state t.commands t.answers t.runs; written = inr (t.runs, t.written) }, say, go all p)

module _ (holds : Holdings) (old mid new : SinkView) where
  module _ (f : Flushed mid new) where
    kept : (x : List ℕ) → Delivers x (Ok tt) old mid → Delivers x (Ok tt) old new
    kept x d = (flushed x old mid new d.0 f, f.emptied)

    kept_all : (x : List ℕ) → Delivered x old mid → Delivered x old new
    kept_all x d = record { sent = flushed x old mid new d.sent f; passed_on = λ e. f.emptied }

    -- what waited was passed on, and nothing else is changed
    pub ends_kept : (status : Status) (asked : Option Asked) → is_answered status ≡ true → RunMeans status asked holds old mid → RunMeans status asked holds old new
    ends_kept Done None e r = absurd r
    ends_kept Done (Some (judges n)) e (script, text, s, t, (accepted, w)) = (script, text, s, t, (accepted, kept _ w))
    ends_kept Done (Some (generates n)) e (line, is, w) = (line, is, kept _ w)
    ends_kept Done (Some (runs mode name conflicts)) e (text, held, (all, t, say, w)) = (text, held, (all, t, say, kept_all all w))
    ends_kept Refused None e r = absurd r
    ends_kept Refused (Some (judges n)) e (script, text, s, t, r) =
        (script, text, s, t, record { line = r.line; refuses = r.refuses; short = r.short; written = kept _ r.written })
    ends_kept Refused (Some (generates n)) e r = absurd r
    ends_kept Refused (Some (runs mode name conflicts)) e (text, held, (all, t, say, w)) = (text, held, (all, t, say, kept_all all w))
    ends_kept Words None e w = kept _ w
    ends_kept Words (Some (judges n)) e r = absurd r
    ends_kept Words (Some (generates n)) e r = absurd r
    ends_kept Words (Some (runs mode name conflicts)) e r = absurd r
    ends_kept Memory asked e r = cc
    ends_kept ReadFault asked e r = cc
    ends_kept WriteFault asked e r = cc

  module _ (f : NotFlushed mid new) where
    cut : (x : List ℕ) → Sent x old mid → NotSent x old new
    cut x s = not_flushed x old mid new s f

    -- so much room leaves some
    no_room : (n : ℕ) (x : List ℕ) → Sent x old mid → length x ≤ n → HasRoom old n → ⊥
    no_room n x s l room = f.room (room_for_less mid (n - length x) 0 (omega arith) (s.room n room l))

    -- what waited could not be passed on
    pub ends_cut : (status : Status) (asked : Option Asked) → is_answered status ≡ true → RunMeans status asked holds old mid → RunMeans WriteFault asked holds old new
    ends_cut Done None e r = absurd r
    ends_cut Done (Some (judges n)) e (script, text, s, t, (accepted, w)) =
        (script, text, s, t, ((_, inl (accepted, refl), cut _ w.0), no_room longest_line _ w.0 (omega arith)))
    ends_cut Done (Some (generates n)) e (line, is, w) = (line, is, cut _ w.0)
    ends_cut Done (Some (runs mode name conflicts)) e (text, held, t) = (text, held, whole_is_begun (limits_by conflicts) mode text false _ _ (λ all d. cut all d.sent) t)
    ends_cut Refused None e r = absurd r
    ends_cut Refused (Some (judges n)) e (script, text, s, t, r) =
        (script, text, s, t, ((r.line, inr r.refuses, cut _ r.written.0), no_room longest_line _ r.written.0 r.short))
    ends_cut Refused (Some (generates n)) e r = absurd r
    ends_cut Refused (Some (runs mode name conflicts)) e (text, held, t) = (text, held, whole_is_begun (limits_by conflicts) mode text true _ _ (λ all d. cut all d.sent) t)
    ends_cut Words None e w = (cut _ w.0, no_room longest_line _ w.0 (omega arith))
    ends_cut Words (Some (judges n)) e r = absurd r
    ends_cut Words (Some (generates n)) e r = absurd r
    ends_cut Words (Some (runs mode name conflicts)) e r = absurd r
    ends_cut Memory asked e r = cc
    ends_cut ReadFault asked e r = cc
    ends_cut WriteFault asked e r = cc

-- what was found is so of the end, too
pub still_found : (A : Type 0) (status result : Status) (old mid new : SinkView) → is_answered status ≡ true → A ⊎ IsUnread status old mid → A ⊎ IsUnread result old new
still_found A status result old mid new e (inl a) = inl a
still_found A status result old mid new e (inr (inl is, same)) = absurd (false≢true (sym (ap is_answered is) ∙ e))
still_found A status result old mid new e (inr (inr is, same)) = absurd (false≢true (sym (ap is_answered is) ∙ e))

-- a status at which all was written is no other
pub is_no_other : (status other : Status) → is_answered status ≡ true → is_answered other ≡ false → status ≢ other
is_no_other status other answered unanswered same = false≢true (sym unanswered ∙ sym (ap is_answered same) ∙ answered)
