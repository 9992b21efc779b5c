-- What the first token says.
use Rattle.std.proofs.Common.{◌+◌, arith, ◌∙◌, ap, refl}
use Rattle.smt_sexpr.proofs.Broken.{nothing_broken, wrong_broken, stray_broken}
use Rattle.smt_sexpr.proofs.Reading.{begins_with_word, read_there, first_is}
use Rattle.smt_sexpr.proofs.Words.{close_size, word_size}
use Rattle.smt_sexpr.proofs.reader.read_next.Goals as goal

pub returns-in-Err : goal.returns-in-Err
returns-in-Err c = (wrong_broken _ _ _ _ _ c.in-Err.ensures.0, c.in-Err.ensures.1)

pub returns-then-open_lists-gt0 : goal.returns-then-open_lists-gt0
returns-then-open_lists-gt0 c =
    let t = rw c.in-End.is at c.in-Ok.ensures.0 in
    rw c.refused.ensures (rw t.place_end (nothing_broken _ _ _ t.nothing c.if-open_lists-gt0.true), c.in-Ok.ensures.1)

pub returns-then-open_lists-eq0 : goal.returns-then-open_lists-eq0
returns-then-open_lists-eq0 c =
    let t = rw c.in-Close.is at c.in-Ok.ensures.0 in
    rw c.refused-then-open_lists-eq0.ensures (stray_broken _ _ _ _ _ t.first (omega (arith, c.if-open_lists-eq0.true)), c.in-Ok.ensures.1)

pub invariant_of-result-clause-read : goal.invariant_of-result-clause-read
invariant_of-result-clause-read c =
    let t = rw c.in-Open.is at c.in-Ok.ensures.0 in
    read_there _ _ _ _ _ _ _ tt t.first (rw (← t.first) at c.in-Ok-read_list.ensures.0)

pub returns-in-Ok-read_list : goal.returns-in-Ok-read_list
returns-in-Ok-read_list c =
    let t = rw c.in-Open.is at c.in-Ok.ensures.0 in
    record { is = first_is _ _ _ _ _ _ _ tt refl refl t.first (rw (← t.first) at c.in-Ok-read_list.ensures.0); longer = omega (arith, t.behind, t.longer, c.in-Ok-read_list.ensures.1) }

pub returns-else-open_lists-eq0 : goal.returns-else-open_lists-eq0
returns-else-open_lists-eq0 c =
    let t = rw c.in-Close.is at c.in-Ok.ensures.0 in
    record {
      some = omega (arith, c.if-open_lists-eq0.false);
      at = _;
      first = t.first;
      size = t.ends ∙ ap (λ n. c.in-Ok.read.0.place.offset + n) (close_size _ _ t.own);
      place = c.in-Ok.ensures.2;
      longer = omega (arith, t.behind, t.longer);
    }

pub invariant_of-result-in-Word-clause-read : goal.invariant_of-result-in-Word-clause-read
invariant_of-result-in-Word-clause-read c =
    let t = rw c.in-Word.is at c.in-Ok.ensures.0 in
    read_there _ _ _ _ _ _ _ tt t.first (begins_with_word _ _ _ _ _ _ _ c.in_ok-items-in-Word.ensures t.first c.in-Ok.ensures.2)

pub returns-in_ok-items-in-Word : goal.returns-in_ok-items-in-Word
returns-in_ok-items-in-Word c =
    let t = rw c.in-Word.is at c.in-Ok.ensures.0 in
    record { is = first_is _ _ _ _ _ _ _ tt refl refl t.first (begins_with_word _ _ _ _ _ _ _ c.in_ok-items-in-Word.ensures t.first c.in-Ok.ensures.2); longer = omega (arith, t.behind, t.longer) }

pub read_list-requires-clause-start : goal.read_list-requires-clause-start
read_list-requires-clause-start c = let t = rw c.in-Open.is at c.in-Ok.ensures.0 in t.longer

pub read_word-requires-clause-at : goal.read_word-requires-clause-at
read_word-requires-clause-at c = omega (arith, c.requires.small, c.in-Ok.ensures.1.within)

pub read_word-requires-clause-size : goal.read_word-requires-clause-size
read_word-requires-clause-size c =
    let t = rw c.in-Word.is at c.in-Ok.ensures.0 in
    omega (arith, c.requires.small, word_size c.args.text.now c.args.at.offset _ c.in-Word.kind c.in-Word.bytes.now _ t.first)
