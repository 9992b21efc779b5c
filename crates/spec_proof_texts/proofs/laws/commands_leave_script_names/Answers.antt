-- A declared name is a word of the command.
use Rattle.std.proofs.Common.{ℕ, ◌*◌, length, arith}
use Rattle.spec_text.proofs.Words.{words_of_tree}
use Rattle.spec_commands.specs.Stack.{Stack, signature_of, up_to_level}
use Rattle.spec_commands.specs.Kept.{AtEachLevel}
use Rattle.spec_commands.proofs.Levels.{shorter_up_to}
use Rattle.spec_commands.proofs.Carried.{Property, each_weaker, each_empty}
use Rattle.spec_proof_texts.specs.ReadBack.{AreScriptNames, HaveScriptNames}
use Rattle.spec_proof_texts.proofs.Made.{few_symbols, nothing_named}
use Rattle.spec_proof_texts.proofs.ScriptNames.{Named, step_named}
use Rattle.spec_proof_texts.proofs.laws.commands_leave_script_names.Goals as goal

-- the names alone
abbrev OfScripts : Property
OfScripts g assertions = AreScriptNames g

-- no level has more names than the last one
counted : (s : Stack) → HaveScriptNames s → AtEachLevel (Named (11 * length (signature_of s))) s
counted s h = record { leveled = h.leveled; each = λ k. record { names = h.each k; few = omega (arith, shorter_up_to k s); symbols = omega (arith, shorter_up_to k s, few_symbols (signature_of (up_to_level k s))) } }

pub returns-clause-first : goal.returns-clause-first
returns-clause-first c = each_empty OfScripts nothing_named

pub returns-clause-next : goal.returns-clause-next
returns-clause-next c = λ limit s text from t rest d tree_there_first taken names.
    let size : ℕ = 11 * length (signature_of s) in
    each_weaker (Named _) OfScripts (λ g assertions k. k.names) d.stack
    (step_named limit size s t d (words_of_tree text from t rest tree_there_first) taken (counted s names))
