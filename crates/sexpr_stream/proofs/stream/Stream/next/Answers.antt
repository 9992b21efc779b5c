-- What is due is read, and stays.
use Rattle.std.proofs.Common.{◌≡◌, ◌≤◌, ◌∙◌, arith, subst, List, ℕ, Some, None}
use Rattle.std.specs.Prelude.{Ok, Err}
use Rattle.spec_text.specs.Readings.{kept}
use Rattle.stream_scan.specs.Next.{end_of}
use Rattle.smt_sexpr.specs.Items.{start_of, tree_of}
use Rattle.smt_sexpr.specs.Limited.{ReadsOneOf, whole_of}
use Rattle.smt_sexpr.specs.Reads.{ReadsSexpr}
use Rattle.sexpr_stream.specs.Streams.{bytes_of}
use Rattle.sexpr_stream.proofs.ItemEnds.{first_item_ends}
use Rattle.sexpr_stream.proofs.Reading.{end_is_behind, end_is_within, item_next, done, refused}
use Rattle.sexpr_stream.proofs.stream.Stream.next.Goals as goal

module _ (c : goal.After-end_of) where
  -- the whole text is that of the bytes that were fed
  text : whole_of c.new-text.result ≡ bytes_of c.args.self.now
  text = c.new-text.ensures ∙ c.as_slice.ensures.value

  reads : ReadsSexpr (kept (bytes_of c.args.self.now)) c.args.self.now.place c.in-Ok-Some.s c.in-Ok-Some.field-0-0-1
  reads = subst (λ (t : List ℕ). ReadsOneOf t c.args.self.now.place (Ok (Some (c.in-Ok-Some.s, c.in-Ok-Some.field-0-0-1)))) text (rw c.in-Ok-Some.field-0-is at c.in-Ok-Some.ensures)

  ends : c.end_of.result ≡ end_of (tree_of c.in-Ok-Some.s)
  ends = c.end_of.ensures ∙ (first_item_ends (tree_of c.in-Ok-Some.s) c.items.result.now _ (c.items.ensures ∙ c.in-Ok-Some.s.read.0)).1

  behind : start_of c.in-Ok-Some.s ≤ c.end_of.result
  behind = omega (arith, ends, end_is_behind c.args.self.now (c.is_due.ensures.due c.if-not-is_due.false) c.in-Ok-Some.s c.in-Ok-Some.field-0-0-1 c.in-Ok-Some.field-0-0-1 reads)

pub place-after-requires-clause-behind : goal.place-after-requires-clause-behind
place-after-requires-clause-behind c = behind c

pub place-after-requires-clause-within : goal.place-after-requires-clause-within
place-after-requires-clause-within c = omega (arith, ends c, end_is_within c.args.self.now (c.is_due.ensures.due c.if-not-is_due.false) c.in-Ok-Some.s c.in-Ok-Some.field-0-0-1 c.in-Ok-Some.field-0-0-1 (reads c))

pub returns-in-Ok-Some : goal.returns-in-Ok-Some
returns-in-Ok-Some c = item_next c.args.self.now (c.is_due.ensures.due c.if-not-is_due.false) c.in-Ok-Some.s c.in-Ok-Some.field-0-0-1 c.place-after.result (reads c.before) (c.place-after.ensures.offset ∙ ends c.before) c.place-after.ensures.place

pub returns-in-Ok-None : goal.returns-in-Ok-None
returns-in-Ok-None c =
    let text : whole_of c.new-text.result ≡ bytes_of c.args.self.now = c.new-text.ensures ∙ c.as_slice.ensures.value in
    done c.args.self.now (c.is_due.ensures.due c.if-not-is_due.false) (subst (λ (t : List ℕ). ReadsOneOf t c.args.self.now.place (Ok None)) text (rw c.in-Ok-None.field-0-is at c.in-Ok-None.ensures))

pub returns-in-Err : goal.returns-in-Err
returns-in-Err c =
    let text : whole_of c.new-text.result ≡ bytes_of c.args.self.now = c.new-text.ensures ∙ c.as_slice.ensures.value in
    refused c.args.self.now (c.is_due.ensures.due c.if-not-is_due.false) c.in-Err.reason (subst (λ (t : List ℕ). ReadsOneOf t c.args.self.now.place (Err c.in-Err.reason)) text c.in-Err.ensures)
