-- That what asks is no command, so nothing is stated by it.
use Rattle.std.proofs.Common.{◌≡◌, ℕ, Bool, true, false, List, [], ◌∷◌, Option, Some, None, refl, ap, subst}
use Rattle.std.specs.Prelude.{Err, if◌then◌else◌}
use Rattle.std.specs.Str.{bytes_eq}
use Rattle.std.proofs.lemmas.Slice.Eq.{bytes_eq-Decides}
use Rattle.spec_text.specs.declared.Kind.{Kind}
use Rattle.spec_text.specs.declared.Kind.TheVariants.{Numeral, Decimal, Text, Simple, Quoted, Keyword, Reserved}
use Rattle.spec_text.specs.declared.Fault.TheVariants.{UnknownCommand}
use Rattle.spec_text.specs.Bytes.{Name}
use Rattle.spec_text.specs.Faults.{Located}
use Rattle.spec_text.specs.Answers.{Answer, ◌>>=◌}
use Rattle.spec_text.specs.Trees.{Tree, Trees, atom, list, none, more}
use Rattle.spec_sorts.specs.Theory.{look_up}
use Rattle.spec_commands.specs.Commands.{Verb, verbs, verb_named, command_as, command_of}
use Rattle.spec_commands.specs.Stack.{Stack, performed, step}
use Rattle.spec_sessions.specs.Questions.{Question, QuestionWord, question_words, question_named, asked_by, question_of}

-- each of the words is no word of a command
abbrev NoVerbs : List (Name × QuestionWord) → Type 0
NoVerbs [] = Unit {0}
NoVerbs (e ∷ es) = (look_up verbs e.0 ≡ None) × NoVerbs es

-- whether the first is it or not
by_first : (b : Bool) (x : Name × QuestionWord) (xs : List (Name × QuestionWord)) (n : Name) (w : QuestionWord) → (b ≡ true → x.0 ≡ n) → look_up verbs x.0 ≡ None → (look_up xs n ≡ Some w → look_up verbs n ≡ None) → (if b then Some x.1 else look_up xs n) ≡ Some w → look_up verbs n ≡ None
by_first true x xs n w same missing rest e = subst (λ m. look_up verbs m ≡ None) (same refl) missing
by_first false x xs n w same missing rest e = rest e

no_verb : (ws : List (Name × QuestionWord)) → NoVerbs ws → (n : Name) (w : QuestionWord) → look_up ws n ≡ Some w → look_up verbs n ≡ None
no_verb [] each n w e = cc
no_verb (x ∷ xs) each n w e = by_first (bytes_eq x.0 n) x xs n w (bytes_eq-Decides x.0 n).0 each.0 (no_verb xs each.1 n w) e

no_verbs : NoVerbs question_words
no_verbs = (refl, (refl, (refl, (refl, (refl, (refl, (refl, (refl, tt))))))))

-- a word that is no verb is refused
refused_as : (limit : ℕ) (s : Stack) (at place : ℕ) (k : Kind) (n : Name) (ts : Trees) (end : ℕ) → verb_named k n ≡ None → step limit s (list at (more (atom place k n) ts) end) ≡ Err (record { offset = place; fault = UnknownCommand })
unfolding step command_of ◌>>=◌
refused_as limit s at place k n ts end e = ap (λ (o : Option Verb). command_as at place o ts >>= λ c. performed limit at s c) e

named_no_verb : (k : Kind) (n : Name) (w : QuestionWord) → question_named k n ≡ Some w → verb_named k n ≡ None
named_no_verb Reserved n w e = no_verb question_words no_verbs n w e
named_no_verb Numeral n w e = cc
named_no_verb Decimal n w e = cc
named_no_verb Text n w e = cc
named_no_verb Simple n w e = cc
named_no_verb Quoted n w e = cc
named_no_verb Keyword n w e = cc

-- a question is refused as a command
pub question_is_no_command : (limit : ℕ) (s : Stack) (t : Tree) (asked : Answer Question) → question_of t ≡ Some asked → (f : Located) × (step limit s t ≡ Err f)
question_is_no_command limit s (atom at k n) asked e = cc
question_is_no_command limit s (list at none end) asked e = cc
question_is_no_command limit s (list at (more (list from us to) ts) end) asked e = cc
question_is_no_command limit s (list at (more (atom place k n) ts) end) asked e = by (question_named k n) refl e
  where
    by : (o : Option QuestionWord) → question_named k n ≡ o → asked_by at ts o ≡ Some asked → (f : Located) × (step limit s (list at (more (atom place k n) ts) end) ≡ Err f)
    by None is e = cc
    by (Some w) is e = (record { offset = place; fault = UnknownCommand }, refused_as limit s at place k n ts end (named_no_verb k n w is))
