-- What is written after a fault of a text.
use Rattle.std.proofs.Common.{◌≡◌, ℕ, List, [], ◌∷◌, Some, refl, ap}
use Rattle.std.specs.Fmt.{digits}
use Rattle.spec_text.specs.declared.Fault.TheVariants.{StrayClose}
use Rattle.spec_text.specs.Lexemes.{Lexeme, opens, closes, word}
use Rattle.spec_text.specs.Faults.{Located, first_fault}
use Rattle.spec_text.specs.Readings.{BeginsNoTree, IsBroken}
use Rattle.spec_text.specs.Trees.{atom, list}
use Rattle.spec_sorts.specs.Written.{trees_in}
use Rattle.spec_commands.specs.Stack.{empty_stack, begun}
use Rattle.spec_commands.specs.OnLiterals.{commands_on_literals}
use Rattle.spec_sessions.specs.Evidence.{model}
use Rattle.spec_sessions.specs.Responses.{answered}
use Rattle.spec_sessions.specs.Transcripts.{Runs}
use Rattle.spec_sessions.specs.Examples.{tables, closed_too_often}
use Rattle.spec_sessions.proofs.Computed.{nothing, nothing_asked}
use Rattle.spec_sessions.proofs.examples.faults_end_a_run.Goals as goal

-- the first of lexemes, where there is one
abbrev first_lexeme : List (ℕ × Lexeme) → Lexeme
first_lexeme [] = opens
first_lexeme ((at, x) ∷ xs) = x

-- where a list ends there is no tree
no_tree : BeginsNoTree ((12, closes) ∷ [])
no_tree (atom at k bytes) ys e = let no : closes ≡ word k bytes = ap first_lexeme e in cc
no_tree (list at ts end) ys e = let no : closes ≡ opens = ap first_lexeme e in cc

abbrev fault : Located
fault = record { offset = 12; fault = StrayClose }

broken : IsBroken 13 0 ((12, closes) ∷ []) fault
unfolding first_fault
broken = record { fault = refl; no_end = λ at ys e. refl; no_tree = no_tree }

pub returns : goal.returns
unfolding commands_on_literals Runs digits
returns c = record {
  commands = trees_in closed_too_often;
  end = Some fault;
  read = record { rest = (12, closes) ∷ []; trees = refl; stop = Some fault; stops = broken; is = refl };
  answers = record { response = answered nothing; state = record { stack = begun empty_stack; answer = Some nothing } } ∷ [];
  runs = (((model tables, nothing_asked, refl), refl), refl);
  written = refl;
  told = refl;
}
