-- What each token comes to.
use Rattle.std.proofs.Common.{◌≡◌, ◌+◌, [], ◌∷◌, length, arith, ap, refl, length-append}
use Rattle.std.proofs.lemmas.List.{nil_from_length}
use Rattle.smt_sexpr.proofs.Broken.{nothing_broken, wrong_broken}
use Rattle.smt_sexpr.proofs.Reading.{reading_begins, stops, opened, word_within, closed_within, closed_whole}
use Rattle.spec_text.specs.Trees.{atom}
use Rattle.smt_sexpr.specs.Means.{flat}
use Rattle.smt_sexpr.specs.declared.items.Item.TheVariants.{List as Group}
use Rattle.smt_sexpr.proofs.Words.{word_size}
use Rattle.smt_sexpr.proofs.reader.read_list.Goals as goal

pub tokens-init : goal.tokens-init
tokens-init c = record {
  reading = rw (c.new-outer.ensures.items, c.in_ok-innermost.ensures.index, c.new-items.ensures.items) (reading_begins c.args.text.now c.args.open_lists c.args.start c.args.after.offset c.begin_list.new.items.items (rw c.new-items.ensures.items at c.in_ok-innermost.ensures.items));
  place = c.requires.after;
  count = omega (arith, c.requires.start, ap length c.new-items.ensures.items, ap length c.in_ok-innermost.ensures.items, length-append c.new-items.result.items (Group c.args.start 0 0 ∷ []));
  later = omega arith;
}

pub returns-in-Err : goal.returns-in-Err
returns-in-Err c = (stops _ _ _ _ _ _ c.tokens.invariant.reading _ (wrong_broken _ _ _ _ _ c.in-Err.ensures.0), c.in-Err.ensures.1)

pub returns-in-End : goal.returns-in-End
returns-in-End c =
    let t = rw c.in-End.is at c.in-Ok.ensures.0 in
    rw c.refused.ensures (rw t.place_end (stops _ _ _ _ _ _ c.tokens.invariant.reading _ (nothing_broken _ _ _ t.nothing (omega (arith, length-append c.tokens.outer.items (c.tokens.innermost ∷ []))))), c.in-Ok.ensures.1)

pub returns-in_default : goal.returns-in_default
returns-in_default c =
    let t = rw c.in-Close.is at c.in-Ok.ensures.0 in
    let none_left : c.tokens.outer.items ≡ [] = nil_from_length c.tokens.outer.items (omega (arith, c.in_default.ensures.cases.0, c.tokens.outer.ok.0)) in
    let ended = c.end_list.ensures.ended c.tokens.invariant.reading.context c.tokens.outer.items c.tokens.invariant.reading.holds in (
      closed_whole _ _ _ _ _ _ c.tokens.invariant.reading _ _ c.in-Ok.read.1 refl c.in-Ok.ensures.2 t.first c.end_list.new.items.items (omega (arith, ap length none_left, length-append c.tokens.outer.items (c.tokens.innermost ∷ []))) (rw none_left at ended),
      omega (arith, t.behind, t.longer, c.tokens.invariant.later),
    )

pub tokens-preserved-in_ok-innermost-in-Open : goal.tokens-preserved-in_ok-innermost-in-Open
tokens-preserved-in_ok-innermost-in-Open c =
    let t = rw c.in-Open.is at c.in-Ok.ensures.0 in
    record {
      reading = rw c.in_ok-push-in-Open.ensures.items (opened _ _ _ _ _ _ c.tokens.invariant.reading _ _ t.first _ _ c.in_ok-innermost-in-Open.ensures.items c.in_ok-innermost-in-Open.ensures.index);
      place = c.in-Ok.ensures.2;
      count = omega (arith, c.tokens.invariant.count, t.behind, t.longer, ap length c.in_ok-innermost-in-Open.ensures.items, length-append c.tokens.items.items (Group c.in-Ok.read.0.place.offset 0 0 ∷ []));
      later = omega (arith, t.behind, t.longer, c.tokens.invariant.later);
    }

pub tokens-preserved-in-Some : goal.tokens-preserved-in-Some
tokens-preserved-in-Some c =
    let t = rw c.in-Close.is at c.in-Ok.ensures.0 in
    let more : length c.tokens.outer.items ≡ length c.pop.new.self.items + 1 = omega (arith, ap length c.in-Some.ensures.items, length-append c.pop.new.self.items (c.in-Some.list ∷ [])) in
    record {
      reading = rw (← c.in-Some.ensures.items) (closed_within _ _ _ _ _ _ c.tokens.invariant.reading _ _ t.first _ _ (length-append c.tokens.outer.items (c.tokens.innermost ∷ [])) (omega arith) (c.end_list.ensures.ended _ _ c.tokens.invariant.reading.holds));
      place = c.in-Ok.ensures.2;
      count = omega (arith, c.tokens.invariant.count, t.behind, t.longer, c.end_list.ensures.count);
      later = omega (arith, t.behind, t.longer, c.tokens.invariant.later);
    }

pub tokens-preserved : goal.tokens-preserved
tokens-preserved c =
    let t = rw c.in-Word.is at c.in-Ok.ensures.0 in
    record {
      reading = word_within _ _ _ _ _ _ c.tokens.invariant.reading _ _ _ _ t.first (omega (arith, length-append c.tokens.outer.items (c.tokens.innermost ∷ []))) _ c.in_ok-add_word-in-Word.ensures;
      place = c.in-Ok.ensures.2;
      count = omega (arith, c.tokens.invariant.count, t.behind, t.longer, ap length c.in_ok-add_word-in-Word.ensures, length-append c.tokens.items.items (flat (atom c.in-Ok.read.0.place.offset c.in-Word.kind c.in-Word.bytes.now)));
      later = omega (arith, t.behind, t.longer);
    }

pub begin_list-requires : goal.begin_list-requires
begin_list-requires c = omega (arith, c.requires.small, c.requires.start, c.requires.after.within)

pub begin_list-requires-in-Open : goal.begin_list-requires-in-Open
begin_list-requires-in-Open c = omega (arith, c.requires.small, c.in-Ok.ensures.1.within)

pub end_list-requires-clause-end : goal.end_list-requires-clause-end
end_list-requires-clause-end c = omega (arith, c.requires.small, c.in-Ok.ensures.1.within)

pub end_list-requires-clause-few : goal.end_list-requires-clause-few
end_list-requires-clause-few c = omega (arith, c.requires.small, c.tokens.invariant.count, c.tokens.invariant.place.within)

pub add_word-requires-clause-at : goal.add_word-requires-clause-at
add_word-requires-clause-at c = omega (arith, c.requires.small, c.in-Ok.ensures.1.within)

pub add_word-requires-clause-size : goal.add_word-requires-clause-size
add_word-requires-clause-size c =
    let t = rw c.in-Word.is at c.in-Ok.ensures.0 in
    omega (arith, c.requires.small, word_size c.args.text.now c.tokens.place.offset _ c.in-Word.kind c.in-Word.bytes.now _ t.first)
