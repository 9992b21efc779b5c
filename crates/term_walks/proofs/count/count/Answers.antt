-- What is seen grows by the arguments of the next, until it is all, or too much.
use Rattle.std.proofs.Common.{◌≡◌, ◌<◌, ◌≤◌, length, nat_le, get_or, ap, ◌∙◌, subst, arith}
use Rattle.std.proofs.lemmas.List.{length-append}
use Rattle.term_core.specs.Tables.{term_at, clause_at, shape_of, shape_term}
use Rattle.term_walks.specs.Counting.{no_number, AddsOnce}
use Rattle.term_walks.proofs.TermsCounted.{counted_start, counted_more, too_many, all_counted}
use Rattle.term_walks.proofs.count.count.Goals as goal

pub seen-init : goal.seen-init
seen-init c = record {
  counted = counted_start c.args.table.now c.args.ids.now (c.subterms_are_least.ensures.there (clause_at c.args.table.now c.args.ids.now)) (c.subterms_are_least.ensures.closed (clause_at c.args.table.now c.args.ids.now)) c.args.seen.now.keys c.requires.there c.requires.start;
  low = omega arith;
}

pub returns-then-len-room : goal.returns-then-len-room
returns-then-len-room c = too_many c.args.table.now c.args.ids.now c.seen.seen.keys c.seen.done c.seen.invariant.counted c.subterms_are_counted.ensures.no_fewer c.ids_are_unique.ensures c.args.room
    (subst (λ n. c.args.room < n) c.len-in-seen.ensures.len c.if-len-room.true)

pub seen-preserved : goal.seen-preserved
seen-preserved c =
    let t = c.args.table.now in
    let s = shape_of c.node.result.now in
    let seen = c.seen.seen.keys in
    let new = c.see_all.new.seen.keys in
    let lt : c.seen.done < length seen = subst (λ n. c.seen.done < n) c.len.ensures.len c.seen-test.true in
    let means : term_at t (get_or seen c.seen.done no_number) ≡ shape_term t s = subst (λ l. term_at t (get_or l c.seen.done no_number) ≡ shape_term t s) c.as_slice.ensures.keys c.node.ensures.means in
    let adds : AddsOnce seen s.arguments new = subst (λ ids. AddsOnce seen ids new) c.as_slice-in-seen.ensures c.in_ok-see_all.ensures in
    record {
      counted = counted_more t c.args.ids.now (c.subterms_are_least.ensures.there (clause_at t c.args.ids.now)) (c.subterms_are_least.ensures.closed (clause_at t c.args.ids.now)) seen new c.seen.done no_number s c.seen.invariant.counted lt means c.node.ensures.placed adds;
      low = omega (arith, lt, ap length adds.kept, length-append seen adds.more);
    }

pub returns : goal.returns
returns c =
    ap (λ n. nat_le n c.args.room) c.len-2.ensures.len
    ∙ all_counted c.args.table.now c.args.ids.now c.seen.seen.keys c.seen.done c.seen.invariant.counted c.subterms_are_counted.ensures.no_fewer c.ids_are_unique.ensures c.subterms_are_counted.ensures.no_more c.args.room
    (subst (λ n. n ≤ c.seen.done) c.len.ensures.len c.seen-test.false)
