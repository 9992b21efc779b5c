-- The turns of a run that reads: what was fed, and what of it was answered.
use Rattle.std.proofs.Common.{◌≡◌, ◌≢◌, ◌≤◌, ◌<◌, inl, inr, ℕ, ◌+◌, ◌-◌, Bool, true, false, List, [], ◌++◌, length, Option, Some, None, refl, sym, ap, ◌∙◌, subst, append-nil, length-append, length-take, arith}
use Rattle.std.proofs.lemmas.Bool.{false≢true}
use Rattle.std.specs.Prelude.{if◌then◌else◌}
use Rattle.std.specs.Io.KnownBytes.{Consumes}
use Rattle.world_io.specs.Writing.{SinkView}
use Rattle.spec_text.specs.Readings.{text_limit, kept}
use Rattle.spec_sessions.specs.Evidence.{Limits}
use Rattle.spec_sessions.specs.Responses.{Mode}
use Rattle.sexpr_stream.specs.declared.stream.Stream.{Stream}
use Rattle.sexpr_stream.specs.Streams.{bytes_of, WantsMore}
use Rattle.sexpr_stream.proofs.Pieces.{fed_on, closed_then as closes}
use Rattle.smt_session.specs.Sessions.{SessionView}
use Rattle.script_run.specs.declared.status.Status.{Status}
use Rattle.script_run.specs.declared.status.Status.TheVariants.{Done, Refused, Words, Memory, ReadFault, WriteFault}
use Rattle.script_run.specs.Runs.{RunsText}
use Rattle.script_run.specs.Answering.{RunStart, IsAnswering}
use Rattle.script_run.specs.Reading.{Feeds}
use Rattle.script_run.specs.Scripts.{EndsReading, most_taken}
use Rattle.script_run.proofs.Saying.{WholeSays, BegunSays, says_so}
use Rattle.script_run.proofs.TextRuns.{nothing_begun}
use Rattle.script_run.proofs.Going.{ReadLaw, fed_more, closed_then, all_read, short_length}
use Rattle.script_run.proofs.Leaving.{IsAll, read_more, all_fed}

-- what is so of the text after a turn
pub record IsReading (b : RunStart) (before left : Option (List ℕ)) (s : Stream) (x : SessionView) (refused : Bool) (now : SinkView) : Type 0 where
  pub fed : List ℕ
  pub going : IsAnswering b fed s x refused now
  pub read : Consumes before left fed
  pub few : length fed ≤ most_taken
  pub closed : s.closed ≡ true → IsAll before fed

module _ (b : RunStart) (fed : List ℕ) (s : Stream) (x : SessionView) (refused : Bool) (now : SinkView) (i : IsAnswering b fed s x refused now) (wants : WantsMore s) (before middle left : Option (List ℕ)) (read : Consumes before middle fed) (piece : List ℕ) (took : Consumes middle left piece) (small : length piece ≤ 65536) (new : Stream) where
  -- a piece was fed, or the end was met
  pub turned : Feeds piece middle s new → IsReading b before left new x refused now
  turned (inl f) = record {
    fed = fed ++ piece;
    going = fed_more b fed s x refused now i fed_on piece new wants.not_closed f.bytes f.place;
    read = read_more before middle left fed piece read took;
    few = omega (arith, (all_read b fed s x refused now i wants.short).1, small, length-append fed piece);
    closed = λ e. absurd (false≢true (sym wants.not_closed ∙ sym f.closed ∙ e));
  }
  turned (inr (none, end, f)) = record {
    fed = fed;
    going = closed_then b fed s x refused now i closes new f.bytes f.place f.closed;
    read = subst (λ (bs : List ℕ). Consumes before left bs) (ap (λ (bs : List ℕ). fed ++ bs) none ∙ append-nil fed) (read_more before middle left fed piece read took);
    few = omega (arith, (all_read b fed s x refused now i wants.short).1);
    closed = λ e. all_fed before middle fed read end;
  }

-- how much may still be fed
abbrev pub measure : Stream → ℕ
measure s = (text_limit + 1 - length (bytes_of s)) + (if s.closed then 0 else 1)

one_more : (c : Bool) → c ≡ false → ◌≡◌ {A = ℕ} (if c then 0 else 1) 1
one_more true e = cc
one_more false e = refl

none_more : (c : Bool) → c ≡ true → ◌≡◌ {A = ℕ} (if c then 0 else 1) 0
none_more true e = refl
none_more false e = cc

-- less than before
pub turned_less : (old s new : Stream) (piece : List ℕ) (middle : Option (List ℕ)) → bytes_of s ≡ bytes_of old → s.closed ≡ old.closed → WantsMore s → Feeds piece middle s new → measure new < measure old
turned_less old s new piece middle e f wants (inl fed) =
    let few : length (bytes_of s) ≤ text_limit = short_length (bytes_of s) wants.short in
    let same : length (bytes_of s) ≡ length (bytes_of old) = ap length e in
    let long = ap length fed.bytes ∙ length-take (text_limit + 1) (bytes_of s ++ piece) in
    let after = one_more new.closed (fed.closed ∙ wants.not_closed) in
    let before = one_more old.closed (sym f ∙ wants.not_closed) in
    omega (arith, few, same, long, length-append (bytes_of s) piece, fed.some, after, before)
turned_less old s new piece middle e f wants (inr (none, end, shut)) =
    let same : length (bytes_of new) ≡ length (bytes_of old) = ap length (shut.bytes ∙ e) in
    let after = none_more new.closed shut.closed in
    let before = one_more old.closed (sym f ∙ wants.not_closed) in
    omega (arith, same, after, before)

-- no text's run ends by a read
pub no_read_fault : (limits : Limits) (mode : Mode) (text : List ℕ) (status : Status) (old new : SinkView) → RunsText limits mode text status old new → status ≢ ReadFault
no_read_fault limits mode text Done old new r e = cc
no_read_fault limits mode text Refused old new r e = cc
no_read_fault limits mode text Words old new r e = absurd r
no_read_fault limits mode text Memory old new r e = cc
no_read_fault limits mode text ReadFault old new r e = absurd r
no_read_fault limits mode text WriteFault old new r e = cc

-- memory ran out before anything was read
pub nothing_ends : WholeSays → BegunSays → ReadLaw → (b : RunStart) (before left : Option (List ℕ)) → EndsReading b Memory before left b.sink
nothing_ends whole begun read b None left = ([], tt, says_so whole begun b.limits b.mode [] Memory b.sink b.sink (nothing_begun b.limits b.mode [] b.sink (read (kept []) 0)))
nothing_ends whole begun read b (Some t) left = (t, refl, says_so whole begun b.limits b.mode t Memory b.sink b.sink (nothing_begun b.limits b.mode t b.sink (read (kept t) 0)))
