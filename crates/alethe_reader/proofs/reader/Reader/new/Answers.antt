-- Commands from after the word on, in a list or not.
use Rattle.std.proofs.Common.{List, ℕ, subst, true, false, length}
use Rattle.std.specs.Prelude.{◌↔◌}
use Rattle.spec_text.specs.Lexemes.{lexemes_from}
use Rattle.spec_text.specs.Readings.{kept}
use Rattle.spec_proofs.specs.Texts.{IsProofText}
use Rattle.smt_sexpr.specs.Limited.{whole_of}
use Rattle.alethe_reader.specs.Endings.{AreLeft}
use Rattle.alethe_reader.proofs.Remains.{text_listed, text_plain}
use Rattle.alethe_reader.proofs.reader.Reader.new.Goals as goal

pub returns-in_default-clause-all : goal.returns-in_default-clause-all
returns-in_default-clause-all c ts e =
    let text = whole_of c.new-text.result in
    let at = c.after_unsat-at.result.offset in
    subst (λ (t : List ℕ). AreLeft false (length (kept text)) (lexemes_from (kept text) at) ts e ↔ IsProofText t ts e) c.new-text.ensures
    (text_plain text c.bytes-read.result.now at c.bytes-read.ensures c.after_unsat-at.ensures.lexemes ts e c.in_default.ensures)

pub returns-clause-all : goal.returns-clause-all
returns-clause-all c ts e =
    let text = whole_of c.new-text.result in
    let h = c.in-Some.ensures in
    subst (λ (t : List ℕ). AreLeft true (length (kept text)) (lexemes_from (kept text) c.in-Some.inside.offset) ts e ↔ IsProofText t ts e) c.new-text.ensures
    (text_listed text c.bytes-read.result.now c.after_unsat-at.result.offset c.bytes-read.ensures c.after_unsat-at.ensures.lexemes ts e c.in-Some.inside.offset h.1.0 h.0 h.1.1)
