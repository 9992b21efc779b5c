-- A fault is one of reading the file, or of an expression of the script.
use Rattle.std.proofs.Common.{◌<◌, length}
use Rattle.std.proofs.lemmas.List.Elements.{recursion_from_All}
use Rattle.spec_commands.specs.Checks.{asked, term_limit}
use Rattle.spec_model_files.proofs.Places.{BeginsIn, verdict_in}
use Rattle.spec_model_files.proofs.laws.model_verdicts_are_in_their_text.Goals as goal

pub returns : goal.returns
returns c = λ script model k f.
    verdict_in script model k (λ g x. c.faults_are_in_their_file.ensures g model x)
    (λ check current. recursion_from_All (BeginsIn (λ n. n < length script)) (asked check) (c.what_is_asked_is_in_its_script.ensures term_limit script k check current)) f
