-- What is there in place of a list.
use Rattle.std.proofs.Common.{ap, ◌∙◌, List, ℕ, length}
use Rattle.spec_text.specs.Readings.{kept}
use Rattle.spec_text.specs.Trees.{offset_of}
use Rattle.spec_text.specs.Lexemes.{lexemes_from}
use Rattle.smt_sexpr.specs.Limited.{whole_of}
use Rattle.model_read.proofs.Remains.{no_list_end, no_list_broken, no_list_tree}
use Rattle.model_read.proofs.reader.no_list.Goals as goal

pub returns-in-Ok-None : goal.returns-in-Ok-None
returns-in-Ok-None c =
    let h = rw c.in-Ok-None.field-0-is at c.in-Ok-None.ensures in
    no_list_end (whole_of c.args.text) (lexemes_from (kept (whole_of c.args.text)) c.args.at.offset) c.fault_at.result (length c.bytes.result.now) h.0 h.1 (ap (λ (b : List ℕ). length b) c.bytes.ensures) c.fault_at.ensures

pub returns-in-Ok-Some : goal.returns-in-Ok-Some
returns-in-Ok-Some c =
    let read = rw c.in-Ok-Some.field-0-is at c.in-Ok-Some.ensures in
    no_list_tree (whole_of c.args.text) c.args.at c.in-Ok-Some.sexpr _ c.offset.result c.fault_at-in-Ok-Some.result read c.requires.none (c.offset.ensures ∙ ap offset_of c.trees.ensures.tree) c.fault_at-in-Ok-Some.ensures

pub returns-in-Err-Fault : goal.returns-in-Err-Fault
returns-in-Err-Fault c =
    let h = rw c.in-Err-Fault.field-0-is at c.in-Err-Fault.ensures in
    no_list_broken (whole_of c.args.text) (lexemes_from (kept (whole_of c.args.text)) c.args.at.offset) c.lexical.result c.in-Err-Fault.refusal c.requires.none h (rw c.in-Err-Fault.refusal-is at c.lexical.ensures)
