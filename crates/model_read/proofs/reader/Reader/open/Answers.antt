-- A text begins with its list, or with none.
use Rattle.std.proofs.Common.{List, ℕ, subst}
use Rattle.std.specs.Prelude.{Err}
use Rattle.spec_model_files.specs.Texts.{ends, IsModelText}
use Rattle.smt_sexpr.specs.Limited.{whole_of}
use Rattle.spec_text.specs.Lexemes.{lexemes_from}
use Rattle.model_read.specs.Remaining.{BeginsText}
use Rattle.model_read.specs.Endings.{HasNoOpening}
use Rattle.model_read.proofs.Remains.{text_begins, text_without}
use Rattle.model_read.proofs.reader.Reader.open.Goals as goal

pub returns-in-Some : goal.returns-in-Some
returns-in-Some c =
    let text = whole_of c.new-text.result in
    let h = c.in-Some.ensures in
    record {
      whole = c.new-text.ensures;
      all = λ ts e left. subst (λ (t : List ℕ). IsModelText t ts (ends e)) c.new-text.ensures
          (text_begins text c.bytes-read.result.now c.bytes-read.ensures c.after_sat-at.result.offset c.after_sat-at.ensures.lexemes c.in-Some.inside.offset h.0.0 h.0.1 ts e left);
    }

pub no_list-requires-clause-none : goal.no_list-requires-clause-none
no_list-requires-clause-none c = subst (λ (b : List ℕ). HasNoOpening (lexemes_from b c.after_sat-at.result.offset)) c.bytes-read.ensures c.in-None.ensures

pub returns-in-None : goal.returns-in-None
returns-in-None c =
    let text = whole_of c.new-text.result in
    subst (λ (t : List ℕ). BeginsText t (Err c.no_list.result)) c.new-text.ensures
    (text_without text c.bytes-read.result.now c.bytes-read.ensures c.after_sat-at.result.offset c.after_sat-at.ensures.lexemes c.no_list.result c.no_list.ensures)
