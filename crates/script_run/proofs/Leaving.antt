-- What of a text was read, and what is left of it.
use Rattle.std.proofs.Common.{◌≡◌, ◌≤◌, inl, ℕ, ◌+◌, true, List, [], ◌∷◌, ◌++◌, length, Option, Some, None, refl, sym, ap, ◌∙◌, append-nil, append_assoc, length-append, arith}
use Rattle.std.specs.Prelude.{IfSome}
use Rattle.std.specs.Io.KnownBytes.{Consumes, Keeps, IsAtEnd}
use Rattle.world_io.specs.Writing.{SinkView}
use Rattle.spec_sessions.specs.Evidence.{Limits}
use Rattle.spec_sessions.specs.Responses.{Mode}
use Rattle.sexpr_stream.specs.declared.stream.Stream.{Stream}
use Rattle.sexpr_stream.specs.Pieces.{MayCome}
use Rattle.script_run.specs.declared.status.Status.{Status}
use Rattle.script_run.specs.declared.status.Status.TheVariants.{Done, Refused, Words, Memory, ReadFault, WriteFault}
use Rattle.script_run.specs.Runs.{Delivered, RunsText, EndsText}
use Rattle.script_run.specs.Answering.{RunStart}
use Rattle.script_run.specs.Scripts.{Holdings, TakesText, ScriptRun, ScriptMeans, EndsReading, IsAnsweredUpTo, OnRead, most_taken}
use Rattle.script_run.proofs.Saying.{WholeSays, BegunSays, says_so}

-- this is all of the text, where it is known
abbrev pub IsAll : Option (List ℕ) → List ℕ → Type 0
IsAll before fed = IfSome before (λ t. t ≡ fed)

no_more : (fed rest : List ℕ) → fed ++ rest ≡ fed → rest ≡ []
no_more fed [] e = refl
no_more fed (b ∷ bs) e = let long : length fed + length (b ∷ bs) ≡ length fed = sym (length-append fed (b ∷ bs)) ∙ ap length e in absurd (omega (arith, long))

-- nothing was read
pub nothing_read : (before : Option (List ℕ)) → Consumes before before []
nothing_read None = tt
nothing_read (Some t) = refl

-- a piece more was read
pub read_more : (before middle left : Option (List ℕ)) (fed piece : List ℕ) → Consumes before middle fed → Consumes middle left piece → Consumes before left (fed ++ piece)
read_more None middle left fed piece c d = tt
read_more (Some t) None left fed piece c d = absurd c
read_more (Some t) (Some m) None fed piece c d = absurd d
read_more (Some t) (Some m) (Some l) fed piece c d = c ∙ ap (λ r. fed ++ r) d ∙ sym (append_assoc fed piece l)

-- nothing more was
pub read_none : (before middle left : Option (List ℕ)) (fed : List ℕ) → Consumes before middle fed → Keeps middle left → Consumes before left fed
read_none None middle left fed c d = tt
read_none (Some t) None left fed c d = absurd c
read_none (Some t) (Some m) None fed c d = absurd d
read_none (Some t) (Some m) (Some l) fed c d = c ∙ ap (λ r. fed ++ r) (sym d)

-- at the end all was
pub all_fed : (before left : Option (List ℕ)) (fed : List ℕ) → Consumes before left fed → IsAtEnd left → IsAll before fed
all_fed None left fed c e = tt
all_fed (Some t) None fed c e = absurd c
all_fed (Some t) (Some l) fed c e = c ∙ ap (λ r. fed ++ r) e ∙ append-nil fed

-- so much was taken of it
pub taken_of : (before left : Option (List ℕ)) (fed : List ℕ) → Consumes before left fed → length fed ≤ most_taken → TakesText before left
taken_of None left fed c few = tt
taken_of (Some t) None fed c few = absurd c
taken_of (Some t) (Some l) fed c few = (fed, c, few)

-- what is left may come
pub what_is_left : (s : Stream) (before left : Option (List ℕ)) (fed : List ℕ) → Consumes before left fed → (s.closed ≡ true → IsAll before fed) → (rest : List ℕ) × MayCome s rest × IfSome before (λ t. t ≡ fed ++ rest)
what_is_left s None left fed c all = ([], λ closed. refl, tt)
what_is_left s (Some t) None fed c all = absurd c
what_is_left s (Some t) (Some l) fed c all = (l, λ closed. no_more fed l (sym c ∙ all closed), c)

-- so a run ends as that of the whole text
pub ends_reading : WholeSays → BegunSays → (b : RunStart) (status : Status) (s : Stream) (before left : Option (List ℕ)) (fed : List ℕ) (now : SinkView) → Consumes before left fed → (s.closed ≡ true → IsAll before fed) → ((rest : List ℕ) → MayCome s rest → RunsText b.limits b.mode (fed ++ rest) status b.sink now) → EndsReading b status before left now
ends_reading whole begun b status s before left fed now c all h =
    let r = what_is_left s before left fed c all in
    by status (says_so whole begun b.limits b.mode (fed ++ r.0) status b.sink now (h r.0 r.1)) r.2
  where
    by : (status : Status) → EndsText b.limits b.mode (fed ++ (what_is_left s before left fed c all).0) status b.sink now → IfSome before (λ t. t ≡ fed ++ (what_is_left s before left fed c all).0) → EndsReading b status before left now
    by Done e i = (_, i, e)
    by Refused e i = (_, i, e)
    by Words e i = absurd e
    by Memory e i = (_, i, e)
    by ReadFault e i = absurd e
    by WriteFault e i = (_, i, e)

-- what was read is a prefix of the text
on_read : (r : ScriptRun) (held left : Option (List ℕ)) (read : List ℕ) (P : List ℕ → Type 0) → Consumes held left read → IsAnsweredUpTo r.limits r.mode read P → (text : List ℕ) × IfSome held (λ t. t ≡ text) × OnRead r.limits r.mode text P
on_read r None left read P c a = (read, tt, (read, [], sym (append-nil read), a))
on_read r (Some t) None read P c a = absurd c
on_read r (Some t) (Some l) read P c a = (t, refl, (read, l, c, a))

-- the text is that of a name
pub script_ends : (r : ScriptRun) (status : Status) (holds : Holdings) (left : Option (List ℕ)) (old new : SinkView) → EndsReading (record { limits = r.limits; mode = r.mode; sink = old }) status (holds r.name) left new → ScriptMeans status r holds old new
script_ends r Done holds left old new e = e
script_ends r Refused holds left old new e = e
script_ends r Words holds left old new e = absurd e.2
script_ends r Memory holds left old new e = inl e
script_ends r ReadFault holds left old new e = inl (on_read r (holds r.name) left e.0 (λ begun. Delivered begun old new) e.1 e.2)
script_ends r WriteFault holds left old new e = e

-- what is true of the responses implies another
pub answered_as : (limits : Limits) (mode : Mode) (read : List ℕ) (P Q : List ℕ → Type 0) → ((x : List ℕ) → P x → Q x) → IsAnsweredUpTo limits mode read P → IsAnsweredUpTo limits mode read Q
answered_as limits mode read P Q go a = record { commands = a.commands; held = a.held; answers = a.answers; runs = a.runs; goes_on = a.goes_on; says = a.says; responses = go _ a.responses }
