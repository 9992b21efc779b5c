-- A script that comes in pieces is run as each text that goes on so.
use Rattle.std.proofs.Common.{◌≡◌, ◌≤◌, ◌<◌, ℕ, Bool, true, false, ◌||◌, ◌+◌, List, [], ◌∷◌, ◌++◌, length, refl, sym, ap, ◌∙◌, subst, append-nil, append_assoc, arith}
use Rattle.std.proofs.lemmas.Bool.Decides.{nat_tests}
use Rattle.std.proofs.lemmas.List.{take_all}
use Rattle.std.specs.List.{list_any}
use Rattle.world_io.specs.Writing.{SinkView, Sent, NotSent}
use Rattle.world_io.proofs.Sending.{nothing_sent}
use Rattle.spec_text.specs.declared.Place.{Place}
use Rattle.spec_text.specs.Faults.{Located}
use Rattle.spec_text.specs.Lexemes.{lexemes_from}
use Rattle.spec_text.specs.Offsets.{at_offset}
use Rattle.spec_text.proofs.Offsets.{tree_in_text}
use Rattle.spec_text.specs.Readings.{text_limit, kept, prefix, is_long}
use Rattle.spec_text.specs.Trees.{Tree, Trees, none, more}
use Rattle.stream_scan.specs.Next.{IsNext, IsOpen, end_of}
use Rattle.spec_sessions.specs.States.{State, first_state}
use Rattle.spec_sessions.specs.Responses.{Answered, Answers, response_text, rejected, is_rejected, is_end}
use Rattle.spec_sessions.specs.Meaning.{AllSay}
use Rattle.spec_sessions.specs.Transcripts.{Runs, state_left, answers_text, checks_in}
use Rattle.spec_sessions.proofs.Running.{followed, runs_one_more, left_by_last, going_after, begun_with, EachIsRead, answers_more, told_more, ends_more}
use Rattle.smt_lexer.specs.declared.Refusal.{Refusal}
use Rattle.smt_sexpr.specs.declared.sexpr.Sexpr.{Sexpr}
use Rattle.smt_sexpr.specs.Items.{text_of, tree_of}
use Rattle.smt_sexpr.specs.Limited.{IsStopped}
use Rattle.smt_sexpr.specs.Open.{add}
use Rattle.sexpr_stream.specs.declared.stream.Stream.{Stream}
use Rattle.sexpr_stream.specs.Streams.{bytes_of, taken_to, is_fixed, HasItem, HasFault, IsDone, WantsMore}
use Rattle.sexpr_stream.specs.Pieces.{MayCome, HasTaken}
use Rattle.sexpr_stream.proofs.Limits.{kept_of_pieces, long_of_pieces, stopped_as, kept_of_prefix, long_by_prefix}
use Rattle.check_evidence.specs.Evidence.{limits_meant}
use Rattle.smt_session.specs.Sessions.{mode_meant, SessionView, IsSession, IsAnswered, written_for}
use Rattle.script_run.specs.declared.status.Status.{Status}
use Rattle.script_run.specs.declared.status.Status.TheVariants as statuses
use Rattle.script_run.specs.Runs.{Delivered, RunsText, ended_by, Ended}
use Rattle.script_run.specs.Answering.{RunStart, IsAnswering}
use Rattle.script_run.specs.Scripts.{IsAnsweredUpTo}
use Rattle.script_run.proofs.Saying.{BegunSays}
use Rattle.script_run.proofs.Refusing.{CommandLaw, QuestionLaw, refused_within, response_stays}
use Rattle.script_run.proofs.TextRuns.{IsGoing, delivered_more, memory_here, ends_whole, ends_stopped, ended_here, write_failed}

-- each text is read from each offset on
abbrev pub ReadLaw : Type 0
ReadLaw = (text : List ℕ) (at : ℕ) → EachIsRead text at

-- what is next in a stream is next in each text that goes on so
abbrev pub ItemLaw : Type 0
ItemLaw = (s : Stream) (x : Sexpr) (after : Place) (rest : List ℕ) → HasItem s x after → MayCome s rest → IsNext (kept (bytes_of s ++ rest)) (taken_to s) (tree_of x)

abbrev pub FaultLaw : Type 0
FaultLaw = (s : Stream) (r : Refusal) (rest : List ℕ) → HasFault (is_fixed s) (bytes_of s) (taken_to s) r → MayCome s rest → IsStopped (bytes_of s ++ rest) 0 (lexemes_from (kept (bytes_of s ++ rest)) (taken_to s)) r

-- one s-expression more is taken
abbrev pub TakenLaw : Type 0
TakenLaw = (old new : Stream) (fed : List ℕ) (ts : Trees) (x : Sexpr) → HasTaken old fed ts → HasItem old x new.place → bytes_of new ≡ bytes_of old → new.closed ≡ old.closed → HasTaken new fed (add ts (tree_of x))

pub short_length : (text : List ℕ) → is_long text ≡ false → length text ≤ text_limit
short_length text e = grind (arith, nat_tests, e)

added : (ts : Trees) (t : Tree) → add ts t ≡ followed ts (more t none)
added none t = refl
added (more u us) t = ap (λ r. more u r) (added us t)

-- nothing was written yet
pub begins : (b : RunStart) (s : Stream) (x : SessionView) → HasTaken s [] none → IsSession x first_state → limits_meant x.limits ≡ b.limits → mode_meant x.mode ≡ b.mode → IsAnswering b [] s x false b.sink
unfolding Runs
begins b s x taken represents l m = record {
  commands = none;
  taken = taken;
  answers = [];
  runs = refl;
  goes_on = refl;
  represents = represents;
  limits_are = l;
  mode_is = m;
  told = refl;
  written = λ rest come. record { sent = nothing_sent b.sink; passed_on = λ e. e };
}

-- bytes more came
abbrev pub FedLaw : Type 0
FedLaw = (old new : Stream) (fed piece : List ℕ) (ts : Trees) → HasTaken old fed ts → old.closed ≡ false → bytes_of new ≡ prefix (bytes_of old ++ piece) → new.place ≡ old.place → HasTaken new (fed ++ piece) ts

-- no more come
abbrev pub ClosedLaw : Type 0
ClosedLaw = (old new : Stream) (fed : List ℕ) (ts : Trees) → HasTaken old fed ts → bytes_of new ≡ bytes_of old → new.place ≡ old.place → new.closed ≡ true → HasTaken new fed ts

module _ (b : RunStart) (fed : List ℕ) (s : Stream) (x : SessionView) (refused : Bool) (now : SinkView) (i : IsAnswering b fed s x refused now) where
  pub fed_more : FedLaw → (piece : List ℕ) (new : Stream) → s.closed ≡ false → bytes_of new ≡ prefix (bytes_of s ++ piece) → new.place ≡ s.place → IsAnswering b (fed ++ piece) new x refused now
  fed_more law piece new not_closed bytes place = record {
    commands = i.commands;
    taken = law s new fed piece i.commands i.taken not_closed bytes place;
    answers = i.answers;
    runs = i.runs;
    goes_on = i.goes_on;
    represents = i.represents;
    limits_are = i.limits_are;
    mode_is = i.mode_is;
    told = i.told;
    written = λ rest come. subst (λ (text : List ℕ). Delivered (answers_text b.mode (kept text) i.answers) b.sink now) (sym (append_assoc fed piece rest)) (i.written (piece ++ rest) (λ closed. cc));
  }

  pub closed_then : ClosedLaw → (new : Stream) → bytes_of new ≡ bytes_of s → new.place ≡ s.place → new.closed ≡ true → IsAnswering b fed new x refused now
  closed_then law new bytes place closed = record {
    commands = i.commands;
    taken = law s new fed i.commands i.taken bytes place closed;
    answers = i.answers;
    runs = i.runs;
    goes_on = i.goes_on;
    represents = i.represents;
    limits_are = i.limits_are;
    mode_is = i.mode_is;
    told = i.told;
    written = λ rest come. i.written rest (λ was. come closed);
  }

  -- where more may come and be read, all that came is read
  pub all_read : is_long (bytes_of s) ≡ false → (bytes_of s ≡ fed) × (length fed ≤ text_limit)
  all_read short =
      let few : length fed ≤ text_limit = short_length fed (sym (long_by_prefix fed) ∙ ap is_long (sym i.taken.bytes) ∙ short) in
      (i.taken.bytes ∙ take_all (text_limit + 1) fed (omega (arith, few)), few)

  -- all commands were answered that the bytes hold, and no other is whole in them
  pub answered_up_to : BegunSays → ReadLaw → WantsMore s → IsAnsweredUpTo b.limits b.mode fed (λ begun. Delivered begun b.sink now)
  answered_up_to say read wants =
      let all = all_read wants.short in
      let come : MayCome s [] = λ closed. refl in
      let whole : kept (fed ++ []) ≡ fed = ap kept (append-nil fed) ∙ take_all text_limit fed all.1 in
      let g = going_after b.limits (kept (fed ++ [])) (taken_to s) i.commands i.answers (i.taken.trees [] come) i.runs i.goes_on in
      let t = begun_with b.limits b.mode (fed ++ []) (kept (fed ++ [])) refl (taken_to s) (state_left first_state i.answers) i.answers g (read (kept (fed ++ [])) (taken_to s)) in
      let says = subst (λ (given : List Answered). AllSay b.limits (fed ++ []) 0 (checks_in given)) t.1 (say b.limits b.mode (fed ++ []) (answers_text b.mode (kept (fed ++ [])) i.answers) t.0) in
      record {
        commands = i.commands;
        held = record {
          at = taken_to s;
          trees = λ rest. i.taken.trees rest (λ closed. let open_still = wants.not_closed in cc);
          unsettled = subst (λ (bs : List ℕ). IsOpen bs (taken_to s)) all.0 wants.nothing;
        };
        answers = i.answers;
        runs = i.runs;
        goes_on = i.goes_on;
        says = subst (λ (text : List ℕ). AllSay b.limits text 0 (checks_in i.answers)) (append-nil fed) says;
        responses = subst (λ (text : List ℕ). Delivered (answers_text b.mode text i.answers) b.sink now) whole (i.written [] come);
      }

  -- so it goes in each text that goes on so
  pub going_in : (rest : List ℕ) → MayCome s rest → IsGoing b.limits b.mode (fed ++ rest) b.sink x (taken_to s) refused now
  going_in rest come = record {
    state = state_left first_state i.answers;
    given = i.answers;
    represents = i.represents;
    limits_are = i.limits_are;
    mode_is = i.mode_is;
    going = going_after b.limits (kept (fed ++ rest)) (taken_to s) i.commands i.answers (i.taken.trees rest come) i.runs i.goes_on;
    goes_on = i.goes_on;
    told = i.told;
    written = i.written rest come;
  }

  kept_is : (rest : List ℕ) → kept (bytes_of s ++ rest) ≡ kept (fed ++ rest)
  kept_is rest = ap (λ (bs : List ℕ). kept (bs ++ rest)) i.taken.bytes ∙ kept_of_pieces fed rest

  long_is : (rest : List ℕ) → is_long (bytes_of s ++ rest) ≡ is_long (fed ++ rest)
  long_is rest = ap (λ (bs : List ℕ). is_long (bs ++ rest)) i.taken.bytes ∙ long_of_pieces fed rest

  -- memory ran out
  pub memory_in : ReadLaw → (rest : List ℕ) → MayCome s rest → RunsText b.limits b.mode (fed ++ rest) statuses.Memory b.sink now
  memory_in read rest come = memory_here b.limits b.mode (fed ++ rest) b.sink x (taken_to s) refused now (going_in rest come) (read (kept (fed ++ rest)) (taken_to s))

  -- the text is at its end
  pub done_in : IsDone s → (rest : List ℕ) → MayCome s rest → RunsText b.limits b.mode (fed ++ rest) (ended_by refused) b.sink now
  done_in end rest come =
      let whole : fed ++ rest ≡ fed = ap (λ (r : List ℕ). fed ++ r) (come end.closed) ∙ append-nil fed in
      let short : is_long (fed ++ rest) ≡ false = ap is_long whole ∙ sym (long_by_prefix fed) ∙ ap is_long (sym i.taken.bytes) ∙ end.short in
      let same : kept (fed ++ rest) ≡ kept (bytes_of s) = ap kept whole ∙ sym (kept_of_prefix fed) ∙ ap kept (sym i.taken.bytes) in
      ends_whole b.limits b.mode (fed ++ rest) b.sink x (taken_to s) refused now (going_in rest come) (ap (λ (bs : List ℕ). lexemes_from bs (taken_to s)) same ∙ end.rest, short)

  -- it cannot be read on
  pub fault_in : FaultLaw → (r : Refusal) (new : SinkView) (status : Status) → HasFault (is_fixed s) (bytes_of s) (taken_to s) r → Ended r status now new → (rest : List ℕ) → MayCome s rest → RunsText b.limits b.mode (fed ++ rest) status b.sink new
  fault_in law r new status fault done rest come =
      let stopped = stopped_as (bytes_of s ++ rest) (fed ++ rest) (taken_to s) r (kept_is rest) (long_is rest) (law s r rest fault come) in
      ends_stopped b.limits b.mode (fed ++ rest) b.sink x (taken_to s) refused now (going_in rest come) r new status stopped done

  -- the next command was answered
  module _ (item_law : ItemLaw) (command_law : CommandLaw) (question_law : QuestionLaw) (c : Sexpr) (after : Place) (item : HasItem s c after) (y : SessionView) (a : Answered) (answer : IsAnswered (state_left first_state i.answers) c x y a) where
    answers_so : Answers b.limits (state_left first_state i.answers) (tree_of c) a
    answers_so = subst (λ l. Answers l (state_left first_state i.answers) (tree_of c) a) i.limits_are answer.answers

    -- a refusal is in the bytes that came
    inside : (f : Located) → a.response ≡ rejected f → f.offset ≤ length (kept (bytes_of s))
    inside f e =
        let lies = at_offset (λ n. (taken_to s ≤ n) × (n < length (kept (bytes_of s)))) (tree_of c) f.offset (tree_in_text (kept (bytes_of s)) (taken_to s) (tree_of c) _ item.read.is.first) (refused_within b.limits command_law question_law (state_left first_state i.answers) (tree_of c) a f e answers_so) in
        omega (arith, lies.1)

    -- the text of the response, as one of each text that goes on so
    response : (rest : List ℕ) → written_for x c a ≡ response_text b.mode (kept (fed ++ rest)) a
    response rest = ap (λ m. response_text m (text_of c) a) i.mode_is ∙ ap (λ (bs : List ℕ). response_text b.mode bs a) item.read.is.text_is ∙ response_stays b.mode (bytes_of s) rest a inside ∙ ap (λ (bs : List ℕ). response_text b.mode bs a) (kept_is rest)

    next_in : (rest : List ℕ) → MayCome s rest → IsNext (kept (fed ++ rest)) (taken_to s) (tree_of c)
    next_in rest come = subst (λ (bs : List ℕ). IsNext bs (taken_to s) (tree_of c)) (kept_is rest) (item_law s c after rest item come)

    pub ended_in : ReadLaw → (new : SinkView) → is_end a.response ≡ true → is_rejected a.response ≡ false → Sent (written_for x c a) now new × (new.pending ≡ []) → (rest : List ℕ) → MayCome s rest → RunsText b.limits b.mode (fed ++ rest) (ended_by refused) b.sink new
    unfolding going_in
    ended_in read new last taken wrote rest come =
        ended_here b.limits b.mode (fed ++ rest) b.sink x (taken_to s) refused now (going_in rest come) (tree_of c) (next_in rest come) a answers_so (read (kept (fed ++ rest)) (end_of (tree_of c))) new last taken
        (subst (λ (z : List ℕ). Sent z now new × (new.pending ≡ [])) (response rest) wrote)

    pub write_failed_in : ReadLaw → (new : SinkView) → NotSent (written_for x c a) now new → (rest : List ℕ) → MayCome s rest → RunsText b.limits b.mode (fed ++ rest) statuses.WriteFault b.sink new
    unfolding going_in
    write_failed_in read new wrote rest come =
        write_failed b.limits b.mode (fed ++ rest) b.sink x (taken_to s) refused now (going_in rest come) (tree_of c) (next_in rest come) a answers_so (read (kept (fed ++ rest)) (end_of (tree_of c))) new
        (subst (λ (z : List ℕ). NotSent z now new) (response rest) wrote)

    -- the script goes on
    pub goes_on_after : TakenLaw → (then : Stream) → then.place ≡ after → bytes_of then ≡ bytes_of s → then.closed ≡ s.closed → (new : SinkView) (q : Bool) (told : Bool) → is_end a.response ≡ false → is_rejected a.response ≡ q → told ≡ (refused || q) → (y.limits ≡ x.limits) × (y.mode ≡ x.mode) → Sent (written_for x c a) now new × (new.pending ≡ []) → IsAnswering b fed then y told new
    goes_on_after law then at bytes closed new q told last rejects is same wrote = record {
      commands = add i.commands (tree_of c);
      taken = law s then fed i.commands c i.taken (subst (λ (p : Place). HasItem s c p) (sym at) item) bytes closed;
      answers = i.answers ++ a ∷ [];
      runs = subst (λ (ts : Trees). Runs b.limits first_state ts (i.answers ++ a ∷ [])) (sym (added i.commands (tree_of c))) (runs_one_more b.limits i.commands i.answers first_state (tree_of c) a i.runs i.goes_on answers_so last);
      goes_on = ends_more i.answers a false i.goes_on last;
      represents = subst (λ (z : State). IsSession y z) (sym (left_by_last first_state i.answers a)) answer.represents;
      limits_are = ap limits_meant same.0 ∙ i.limits_are;
      mode_is = ap mode_meant same.1 ∙ i.mode_is;
      told = is ∙ ap (λ z. z || q) i.told ∙ ap (λ z. list_any (λ (q : Answered). is_rejected q.response) i.answers || z) (sym rejects) ∙ sym (told_more i.answers a);
      written = λ rest come. subst (λ (z : List ℕ). Delivered z b.sink new) (sym (answers_more b.mode (kept (fed ++ rest)) i.answers a))
          (delivered_more (answers_text b.mode (kept (fed ++ rest)) i.answers) (response_text b.mode (kept (fed ++ rest)) a) b.sink now new (i.written rest (λ e. come (closed ∙ e))) (subst (λ (z : List ℕ). Sent z now new × (new.pending ≡ [])) (response rest) wrote));
    }
