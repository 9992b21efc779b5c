-- What is stated of the bytes that a run writes, with what its answers mean, in one statement.
use Rattle.std.specs.Prelude.{ℕ, Bool, List}
use Rattle.spec_sessions.specs.Evidence.{Limits}
use Rattle.spec_sessions.specs.Responses.{Mode, Answered}
use Rattle.spec_sessions.specs.Transcripts.{IsTranscript, IsBegun, checks_in}
use Rattle.spec_sessions.specs.Meaning.{AllSay}

-- what answers say of the checks of a text is so
abbrev pub AnswersSay : Limits → List ℕ → List Answered → Type 0
AnswersSay limits text answers = AllSay limits text 0 (checks_in answers)

-- P is true of a transcript of the text, and what its answers say is so; whether something is refused in it
abbrev pub OnTranscript : Limits → Mode → List ℕ → Bool → (List ℕ → Type 0) → Type 0
OnTranscript limits mode text refused P =
    (all : List ℕ) × (t : IsTranscript limits mode text all refused) × AnswersSay limits text t.answers × P all

-- P is true of what is to be written for the first of the text's commands, any number of them, and what these answers
-- say
-- is so
abbrev pub OnBegun : Limits → Mode → List ℕ → (List ℕ → Type 0) → Type 0
OnBegun limits mode text P =
    (begun : List ℕ) × (t : IsBegun limits mode text begun) × AnswersSay limits text t.answers × P begun
