-- Each name is a word of the text.
use Rattle.std.proofs.Common.{◌+◌, ℕ, List, subst, arith}
use Rattle.std.proofs.lemmas.List.{length-take}
use Rattle.spec_text.specs.Readings.{text_limit, kept}
use Rattle.spec_text.proofs.Words.{AreWords, words_all, words_rest}
use Rattle.spec_commands.specs.Stack.{empty_stack, signature_of}
use Rattle.spec_commands.specs.Checks.{Check, IsCurrent}
use Rattle.spec_commands.proofs.Carried.{here}
use Rattle.spec_proof_texts.proofs.Weights.{weight_all, front_weight}
use Rattle.spec_proof_texts.proofs.ScriptNames.{IsNamed, Named, empty_named, current_named}
use Rattle.spec_proof_texts.proofs.laws.checks_have_script_names.Goals as goal

named : (limit : ℕ) (script : List ℕ) (k : ℕ) (c : Check) (current : IsCurrent limit script k c) → IsNamed (0 + weight_all current.commands) (signature_of c.stack)
named limit script k c current =
    let read = current.read in
    let words = (words_rest current.commands read.rest (subst AreWords read.trees (words_all 0 0 (kept script)))).0 in
    here (Named (0 + weight_all current.commands)) c.stack (current_named limit 0 empty_stack k current.commands c words current.here empty_named)

pub returns-clause-names : goal.returns-clause-names
returns-clause-names c = λ limit script k check current. (named limit script k check current).names

pub returns-clause-few : goal.returns-clause-few
returns-clause-few c = λ limit script k check current.
    omega (arith, (named limit script k check current).few, front_weight (kept script) current.commands current.read.rest current.read.trees, length-take text_limit script)

pub returns-clause-symbols : goal.returns-clause-symbols
returns-clause-symbols c = λ limit script k check current.
    omega (arith, (named limit script k check current).symbols, front_weight (kept script) current.commands current.read.rest current.read.trees, length-take text_limit script)
