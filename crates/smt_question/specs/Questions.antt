-- What reading a question gives, in the words of the definitions.
use Rattle.std.specs.Prelude.{◌≡◌, ℕ, Result, Ok, Err, Option, Some, None, option_map}
use Rattle.spec_text.specs.Places.{IsPlaceOf}
use Rattle.spec_text.specs.Trees.{Tree}
use Rattle.spec_text.specs.Shapes.{◌>>=◌, first_word, inside_of}
use Rattle.spec_sessions.specs.Questions.{Question, for_model, for_proof, for_assertions, for_values, for_option}
use Rattle.spec_sessions.specs.Questions.{for_info, for_core, for_assumptions, QuestionWord, gets_model, gets_value}
use Rattle.spec_sessions.specs.Questions.{gets_proof, gets_assertions, gets_core, gets_assumptions, gets_option}
use Rattle.spec_sessions.specs.Questions.{gets_info, question_named, question_by, question_of}
use Rattle.smt_lexer.specs.declared.Refusal.{Refusal}
use Rattle.smt_sexpr.specs.declared.sexpr.Sexpr.{Sexpr}
use Rattle.smt_sexpr.specs.Items.{trees_meant, tree_of, text_of}
use Rattle.smt_question.specs.declared.questions.Question.{Question as CodeQuestion}
use Rattle.smt_question.specs.declared.questions.Question.TheVariants as code
use Rattle.smt_question.specs.declared.questions.QuestionWord.{QuestionWord as CodeWord}
use Rattle.smt_question.specs.declared.questions.QuestionWord.TheVariants as words

-- a question in the words of the definitions
abbrev pub question_view : CodeQuestion → Question
question_view code.Model = for_model
question_view code.Proof = for_proof
question_view code.Assertions = for_assertions
question_view code.UnsatCore = for_core
question_view code.UnsatAssumptions = for_assumptions
question_view (code.Values terms) = for_values (trees_meant terms)
question_view (code.Option name) = for_option name.now
question_view (code.Info name) = for_info name.now

-- the word of a question in the words of the definitions
abbrev pub word_meant : CodeWord → QuestionWord
word_meant words.Model = gets_model
word_meant words.Value = gets_value
word_meant words.Proof = gets_proof
word_meant words.Assertions = gets_assertions
word_meant words.UnsatCore = gets_core
word_meant words.UnsatAssumptions = gets_assumptions
word_meant words.Option = gets_option
word_meant words.Info = gets_info

-- what a tree asks, where its word does: its offset, and the question, or none where the shape is another
unfoldable pub asked : Tree → Option (ℕ × Option Question)
asked t = do
  inside ← inside_of t
  first ← first_word inside.1
  word ← question_named first.0.kind first.0.bytes
  Some (inside.0, question_by word first.1)

-- the same of what the code found
abbrev pub asked_view : ℕ × Option CodeQuestion → ℕ × Option Question
asked_view a = (a.0, option_map question_view a.1)

-- the question that an s-expression is; or the fault of its shape, with its place in the text; or that nothing is asked
abbrev pub AsksQuestion : Sexpr → Option (Result CodeQuestion Refusal) → Type 0
AsksQuestion x None = question_of (tree_of x) ≡ None
AsksQuestion x (Some (Ok q)) = question_of (tree_of x) ≡ Some (Ok (question_view q))
AsksQuestion x (Some (Err r)) =
    (question_of (tree_of x) ≡ Some (Err (record { offset = r.place.offset; fault = r.fault })))
    × IsPlaceOf (text_of x) r.place
