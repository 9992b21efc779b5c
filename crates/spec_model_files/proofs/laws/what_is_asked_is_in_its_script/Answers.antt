-- Each command's parts are in the text, and what is asserted or assumed is one of them.
use Rattle.std.proofs.Common.{◌<◌, [], length, length-take, arith}
use Rattle.std.proofs.lemmas.List.Elements.{All-from_recursion}
use Rattle.spec_text.specs.Offsets.{weaker_offsets_of}
use Rattle.spec_text.specs.Readings.{text_limit, kept}
use Rattle.spec_commands.specs.Checks.{asked}
use Rattle.spec_model_files.proofs.Places.{BeginsIn, check_asks}
use Rattle.spec_model_files.proofs.laws.what_is_asked_is_in_its_script.Goals as goal

pub returns : goal.returns
returns c = λ limit text k check current.
    let inside = c.trees_are_in_their_text.ensures.all (kept text) 0 [] current.read.rest current.commands current.read.trees in
    All-from_recursion (BeginsIn (λ n. n < length text)) (asked check)
    (check_asks (λ n. n < length text) limit k current.commands check
    (weaker_offsets_of _ (λ n. n < length text) (λ n p. omega (arith, p.1, length-take text_limit text)) current.commands inside) current.here)
