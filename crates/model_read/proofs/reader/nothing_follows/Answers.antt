-- What follows the list: nothing, a tree, or what cannot be read.
use Rattle.std.proofs.Common.{ap, ◌∙◌}
use Rattle.spec_text.specs.Readings.{kept}
use Rattle.spec_text.specs.Trees.{offset_of}
use Rattle.spec_text.specs.Lexemes.{lexemes_from}
use Rattle.smt_sexpr.specs.Limited.{whole_of}
use Rattle.model_read.proofs.Remains.{list_breaks, list_finishes, list_goes_on}
use Rattle.model_read.proofs.reader.nothing_follows.Goals as goal

pub returns-in-Ok-None : goal.returns-in-Ok-None
returns-in-Ok-None c =
    let h = rw c.in-Ok-None.field-0-is at c.in-Ok-None.ensures in
    list_finishes (whole_of c.args.text) (lexemes_from (kept (whole_of c.args.text)) c.args.at.offset) h.0 h.1

pub returns-in-Ok-Some : goal.returns-in-Ok-Some
returns-in-Ok-Some c =
    let read = rw c.in-Ok-Some.field-0-is at c.in-Ok-Some.ensures in
    list_goes_on (whole_of c.args.text) c.args.at c.in-Ok-Some.sexpr _ c.offset.result c.fault_at.result read (c.offset.ensures ∙ ap offset_of c.trees.ensures.tree) c.fault_at.ensures

pub returns-in-Err-Fault : goal.returns-in-Err-Fault
returns-in-Err-Fault c =
    let h = rw c.in-Err-Fault.field-0-is at c.in-Err-Fault.ensures in
    list_breaks (whole_of c.args.text) (lexemes_from (kept (whole_of c.args.text)) c.args.at.offset) c.in-Err-Fault.refusal c.lexical.result h c.lexical.ensures
