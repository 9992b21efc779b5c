-- A command was read, or what ends them.
use Rattle.std.proofs.Common.{arith, length, None}
use Rattle.std.specs.Prelude.{drop}
use Rattle.spec_text.specs.Lexemes.{lexemes_from}
use Rattle.spec_text.specs.Readings.{kept}
use Rattle.spec_text.proofs.Blanks.{lexemes_have_no_blank}
use Rattle.alethe_reader.specs.Remaining.{text_of, lexemes_of}
use Rattle.alethe_reader.proofs.Readers.{unchanged}
use Rattle.alethe_reader.proofs.Remains.{closes_with, closes_stops, left_after, left_breaks, left_finishes, some_left}
use Rattle.alethe_reader.proofs.reader.Reader.next.Goals as goal

pub returns-in-Ok-One-clause-next : goal.returns-in-Ok-One-clause-next
returns-in-Ok-One-clause-next c =
    let r = c.args.self.now in
    let read = rw c.in-Ok-One.field-0-is at c.in-Ok-One.ensures in
    let clean = lexemes_have_no_blank 0 c.in-Ok-One.after.offset (drop c.in-Ok-One.after.offset (kept (text_of r))) in
    let h = some_left r.listed (length (kept (text_of r))) (lexemes_from (kept (text_of r)) c.in-Ok-One.after.offset) clean in
    record {
      others = h.0;
      ending = h.1;
      remain = h.2;
      first = left_after r.listed (text_of r) r.at c.in-Ok-One.sexpr c.in-Ok-One.after read;
      fewer = omega (arith, read.longer, read.is.place.within);
    }

pub returns-in_ok-nothing_follows-in-Ok-Close-clause-next : goal.returns-in_ok-nothing_follows-in-Ok-Close-clause-next
returns-in_ok-nothing_follows-in-Ok-Close-clause-next c =
    let r = c.args.self.now in
    let closes = rw c.lists_round.ensures at (rw c.in-Ok-Close.field-0-is at c.in-Ok-Close.ensures) in
    (unchanged r _, closes_with r.listed (text_of r) r.at c.in-Ok-Close.after None closes c.in_ok-nothing_follows-in-Ok-Close.ensures)

pub returns-in_err-nothing_follows-in-Ok-Close-clause-next : goal.returns-in_err-nothing_follows-in-Ok-Close-clause-next
returns-in_err-nothing_follows-in-Ok-Close-clause-next c =
    let r = c.args.self.now in
    let closes = rw c.lists_round.ensures at (rw c.in-Ok-Close.field-0-is at c.in-Ok-Close.ensures) in
    closes_stops r _ (unchanged r _) c.in-Ok-Close.after closes _ _ c.in_err-nothing_follows-in-Ok-Close.ensures c.from_residual.ensures.1

pub returns-in-Ok-End-clause-next : goal.returns-in-Ok-End-clause-next
returns-in-Ok-End-clause-next c =
    let r = c.args.self.now in
    let h = rw c.lists_round.ensures at (rw c.in-Ok-End.field-0-is at c.in-Ok-End.ensures) in
    (unchanged r _, left_finishes r.listed (text_of r) (lexemes_of r) h.0 h.1 h.2)

pub returns-in-Err-Fault-clause-next : goal.returns-in-Err-Fault-clause-next
returns-in-Err-Fault-clause-next c =
    let r = c.args.self.now in
    let s = rw c.lists_round.ensures at (rw c.in-Err-Fault.field-0-is at c.in-Err-Fault.ensures) in
    (unchanged r _, left_breaks r.listed (text_of r) (lexemes_of r) c.in-Err-Fault.refusal c.lexical.result s (rw c.in-Err-Fault.refusal-is at c.lexical.ensures))

pub returns-in-Err-Memory-clause-next : goal.returns-in-Err-Memory-clause-next
returns-in-Err-Memory-clause-next c = unchanged c.args.self.now _
