-- What trees ask, by what they are, and where.
use Rattle.std.proofs.Common.{◌≡◌, ℕ, ◌<◌, ◌≤◌, length, Option, Some, None, refl, sym, ap, ◌∙◌, subst, arith}
use Rattle.std.specs.Prelude.{Ok, option_map}
use Rattle.std.proofs.lemmas.Option.{same_Some}
use Rattle.spec_text.specs.declared.Fault.TheVariants.{BadShape}
use Rattle.spec_text.specs.Offsets.{AllOffsets}
use Rattle.spec_text.specs.Shapes.{◌>>=◌}
use Rattle.spec_text.specs.Trees.{Tree, Trees, atom, list, none, more}
use Rattle.spec_text.specs.Answers.{Answer, refused}
use Rattle.spec_commands.specs.Commands.{shaped}
use Rattle.spec_sessions.specs.Questions.{Question, QuestionWord, question_by, question_named, asked_by, question_of}
use Rattle.smt_sexpr.specs.declared.sexpr.Sexpr.{Sexpr}
use Rattle.smt_sexpr.specs.Items.{start_of, text_of, tree_of}
use Rattle.smt_question.specs.Questions.{asked}

-- what is asked at an offset, or the fault there
abbrev answered : ℕ × Option Question → Answer Question
answered a = shaped a.0 a.1

-- what a word asks at an offset
abbrev by_word : ℕ → Trees → Option QuestionWord → Option (ℕ × Option Question)
by_word at ts o = o >>= λ w. Some (at, question_by w ts)

word_asks : (at : ℕ) (ts : Trees) (o : Option QuestionWord) → asked_by at ts o ≡ option_map answered (by_word at ts o)
word_asks at ts (Some w) = refl
word_asks at ts None = refl

-- a tree's question, by what it asks
asked_is : (t : Tree) → question_of t ≡ option_map answered (asked t)
unfolding asked
asked_is (atom at k n) = refl
asked_is (list at none end) = refl
asked_is (list at (more (list place us close) ts) end) = refl
asked_is (list at (more (atom place k n) ts) end) = word_asks at ts (question_named k n)

pub nothing_asked : (t : Tree) → None ≡ asked t → question_of t ≡ None
nothing_asked t e = asked_is t ∙ ap (option_map answered) (sym e)

pub question_asked : (t : Tree) (at : ℕ) (q : Question) → Some (at, Some q) ≡ asked t → question_of t ≡ Some (Ok q)
question_asked t at q e = asked_is t ∙ ap (option_map answered) (sym e)

pub misshapen_question : (t : Tree) (at : ℕ) → Some (at, None) ≡ asked t → question_of t ≡ Some (refused at BadShape)
misshapen_question t at e = asked_is t ∙ ap (option_map answered) (sym e)

-- it is asked at an offset of the tree
asked_at : (P : ℕ → Type 0) (t : Tree) (at : ℕ) (o : Option Question) → Some (at, o) ≡ asked t → AllOffsets P t → P at
unfolding asked
asked_at P (atom x k n) at o e h = cc
asked_at P (list x none end) at o e h = cc
asked_at P (list x (more (list place us close) ts) end) at o e h = cc
asked_at P (list x (more (atom place k n) ts) end) at o e h = subst P (sym (by_any (question_named k n) e)) h.0
  where
    by_any : (w : Option QuestionWord) → Some (at, o) ≡ by_word x ts w → at ≡ x
    by_any (Some w) e = ap (λ a. a.0) (same_Some (at, o) (x, question_by w ts) e)
    by_any None e = cc

-- so that offset is in the text of an s-expression, from its start on
pub asked_in : (x : Sexpr) (at : ℕ) (o : Option Question) → Some (at, o) ≡ asked (tree_of x) → AllOffsets (λ n. (start_of x ≤ n) × (n < length (text_of x))) (tree_of x) → (start_of x ≤ at) × (at ≤ length (text_of x))
asked_in x at o e all = let there = asked_at (λ n. (start_of x ≤ n) × (n < length (text_of x))) (tree_of x) at o e all in (there.0, omega (arith, there.1))
