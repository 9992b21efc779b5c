-- What a session may be asked, by the shape of the command. Source: SMT-LIB 2.6, sections 3.9, 4.2.4 and 4.2.6 to
-- 4.2.8.
use Rattle.std.specs.Prelude.{ℕ, Bool, true, false, List, [], ◌∷◌, Option, Some, None, codes}
use Rattle.spec_text.specs.declared.Kind.{Kind}
use Rattle.spec_text.specs.Bytes.{Name}
use Rattle.spec_text.specs.Trees.{Tree, Trees, atom, list, none, more}
use Rattle.spec_text.specs.Shapes.{◌>>=◌, passes, first_word, first_list, no_tree, is_keyword, is_reserved}
use Rattle.spec_text.specs.Answers.{Answer}
use Rattle.spec_sorts.specs.Theory.{look_up}
use Rattle.spec_commands.specs.Commands.{shaped}

-- What is asked.
pub data Question : Type 0 where
  -- for the model, the proof, and the current assertions
  for_model for_proof for_assertions : Question
  -- for the unsat core, and for the assumptions that the proof rests on
  for_core for_assumptions : Question
  -- for the values of terms, by their texts
  for_values : Trees → Question
  -- for the value of an option, and for information on the solver, by their names without the colon
  for_option for_info : Name → Question

-- The words of the commands that ask.
pub data QuestionWord : Type 0 where
  -- `get-model`, `get-value`, `get-proof`
  gets_model gets_value gets_proof : QuestionWord
  -- `get-assertions`, `get-option`, `get-info`
  gets_assertions gets_option gets_info : QuestionWord
  -- `get-unsat-core`, `get-unsat-assumptions`
  gets_core gets_assumptions : QuestionWord

-- which word is which
abbrev pub question_words : List (Name × QuestionWord)
question_words =
    (codes "get-model", gets_model) ∷
    (codes "get-value", gets_value) ∷
    (codes "get-proof", gets_proof) ∷
    (codes "get-assertions", gets_assertions) ∷
    (codes "get-unsat-core", gets_core) ∷
    (codes "get-unsat-assumptions", gets_assumptions) ∷
    (codes "get-option", gets_option) ∷
    (codes "get-info", gets_info) ∷ []

-- a question without parts
abbrev pub bare_question : Question → Trees → Option Question
bare_question q ts = no_tree ts >>= λ end. Some q

-- some tree is there
abbrev pub is_some_tree : Trees → Bool
is_some_tree none = false
is_some_tree (more t ts) = true

-- (get-value (t ..)), one term at least
unfoldable pub value_question : Trees → Option Question
value_question ts = do
  us ← first_list ts
  end ← no_tree us.1
  some ← passes (is_some_tree us.0)
  Some (for_values us.0)

-- the only keyword
unfoldable pub only_keyword : Trees → Option Name
only_keyword ts = do
  key ← first_word ts
  is_key ← passes (is_keyword key.0.kind)
  end ← no_tree key.1
  Some key.0.bytes

-- a question by its word
abbrev pub question_by : QuestionWord → Trees → Option Question
question_by gets_model ts = bare_question for_model ts
question_by gets_value ts = value_question ts
question_by gets_proof ts = bare_question for_proof ts
question_by gets_assertions ts = bare_question for_assertions ts
question_by gets_core ts = bare_question for_core ts
question_by gets_assumptions ts = bare_question for_assumptions ts
question_by gets_option ts = only_keyword ts >>= λ k. Some (for_option k)
question_by gets_info ts = only_keyword ts >>= λ k. Some (for_info k)

-- a word that asks, without bars
abbrev pub question_named : Kind → Name → Option QuestionWord
question_named k n = by (is_reserved k)
  where
    by : Bool → Option QuestionWord
    by true = look_up question_words n
    by false = None

-- the question of a word, or the fault of its shape at the command's start
abbrev pub asked_by : ℕ → Trees → Option QuestionWord → Option (Answer Question)
asked_by at ts (Some w) = Some (shaped at (question_by w ts))
asked_by at ts None = None

-- the question that a tree is, where its word asks
abbrev pub question_of : Tree → Option (Answer Question)
question_of (list at (more (atom place k n) ts) end) = asked_by at ts (question_named k n)
question_of t = None
