-- What is at the place is the next token, or is passed over.
use Rattle.std.proofs.Common.{◌∙◌, ◌∷◌, [], sym, ap, arith, refl}
use Rattle.spec_text.specs.Lexemes.{lexemes_from, wrong}
use Rattle.smt_lexer.proofs.Reading.{blank_here, fault_here, open_here, close_here, word_here, nothing_left}
use Rattle.smt_lexer.proofs.next.Goals as goal
use Rattle.smt_lexer.proofs.next.Goals.{in-Open, in-Close, in-Word}

pub loop-place-preserved : goal.loop-place-preserved
loop-place-preserved c = record {
  place = c.place_after-after.ensures.place;
  behind = omega (arith, c.loop-place.invariant.behind);
  passed = c.loop-place.invariant.passed ∙ blank_here c.args.bytes.now c.loop-place.place.offset c.loop-place-test.true _ _ c.piece_at-found.ensures.within c.piece_at-found.ensures.piece c.in-Blank.is ∙ ap (lexemes_from c.args.bytes.now) (sym c.place_after-after.ensures.offset);
}

pub returns-in-Wrong : goal.returns-in-Wrong
returns-in-Wrong c = (c.loop-place.invariant.passed ∙ fault_here c.args.bytes.now c.loop-place.place.offset c.loop-place-test.true _ _ c.piece_at-found.ensures.within c.piece_at-found.ensures.piece c.in-Wrong.fault c.in-Wrong.is ∙ ap (λ n. (n, wrong c.in-Wrong.fault) ∷ []) (sym c.place_after-after.ensures.offset), c.place_after-after.ensures.place)

pub returns-in-loop-place : goal.returns-in-loop-place
returns-in-loop-place c = (
  elim c.match-found.branch [
    | in-Open w ↦ open_here c.args.bytes.now c.loop-place.place.offset c.loop-place-test.true _ _ c.piece_at-found.ensures.within c.piece_at-found.ensures.piece _ _ _ c.loop-place.invariant.behind c.loop-place.invariant.passed refl c.place_after-after.ensures.offset w.in-Open.is _ w.kind-is
    | in-Close w ↦ close_here c.args.bytes.now c.loop-place.place.offset c.loop-place-test.true _ _ c.piece_at-found.ensures.within c.piece_at-found.ensures.piece _ _ _ c.loop-place.invariant.behind c.loop-place.invariant.passed refl c.place_after-after.ensures.offset w.in-Close.is _ w.kind-is
    | in-Word w ↦ word_here c.args.bytes.now c.loop-place.place.offset c.loop-place-test.true _ _ c.piece_at-found.ensures.within c.piece_at-found.ensures.piece _ _ _ c.loop-place.invariant.behind c.loop-place.invariant.passed refl c.place_after-after.ensures.offset _ _ w.in-Word.is _ w.kind-is
  ],
  c.loop-place.invariant.place,
  c.place_after-after.ensures.place,
)

pub returns : goal.returns
returns c = (record { nothing = c.loop-place.invariant.passed ∙ nothing_left c.args.bytes.now c.loop-place.place.offset (omega arith); place_end = omega (arith, c.loop-place.invariant.place.within); after_end = refl }, c.loop-place.invariant.place, c.loop-place.invariant.place)
