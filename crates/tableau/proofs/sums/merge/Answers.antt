use Rattle.std.proofs.Common.{rules, ◌≡◌, ◌∷◌, [], ap}
use Rattle.tableau.specs.Numbers.{number_of}
use Rattle.tableau.specs.Entries.{entry_of, entries_of}
use Rattle.tableau.specs.Sums.{OverflowsCombined}
use Rattle.tableau.proofs.Turns.{used_turn, unused_turn, tidy_later, left_later, left_first, left_then}
use Rattle.tableau.proofs.Telling.{passed_on, combined_more}
use Rattle.tableau.proofs.sums.merge.Goals as goal

pub returns-in_err-rest-clause-wide : goal.returns-in_err-rest-clause-wide
returns-in_err-rest-clause-wide c =
    let some : c.loop-g.taken.now ≡ c.in-Some.g.now ∷ c.in-Some.later.now = search rules in
    let i = c.loop-g.invariant in
    passed_on (OverflowsCombined c.args.minus (entries_of c.loop-g.left.now) (number_of c.args.k) (entry_of c.in-Some.g.now ∷ []))
    (OverflowsCombined c.args.minus (entries_of c.args.es.now) (number_of c.args.k) (entries_of c.args.gs.now))
    c.from_residual-in_err-rest.result c.in_err-rest.field-0.0
    (λ o. combined_more c.args.minus (entries_of c.args.es.now) (entries_of c.loop-g.left.now) (entries_of c.args.gs.now) (number_of c.args.k) (entry_of c.in-Some.g.now) o i.es_left
    (left_first (entry_of c.in-Some.g.now) (entries_of c.loop-g.taken.now) (entries_of c.in-Some.later.now) (entries_of c.args.gs.now) (ap entries_of some) i.gs_left))
    c.from_residual-in_err-rest.ensures.1 c.in_err-rest.ensures.wide

pub loop-g-preserved-then-used : goal.loop-g-preserved-then-used
loop-g-preserved-then-used c =
    let some : c.loop-g.taken.now ≡ c.in-Some.g.now ∷ c.in-Some.later.now = search rules in
    let i = c.loop-g.invariant in
    record {
      left_tidy = c.in_ok-rest.ensures.tidy;
      taken_tidy = tidy_later i.taken_tidy.0 (entry_of c.in-Some.g.now) (entries_of c.loop-g.taken.now) (entries_of c.in-Some.later.now) (ap entries_of some) i.taken_tidy.1;
      es_left = left_then (entries_of c.args.es.now) (entries_of c.loop-g.left.now) (entries_of c.in_ok-rest.rest.now) i.es_left c.in_ok-rest.ensures.left;
      gs_left = left_later (entry_of c.in-Some.g.now) (entries_of c.loop-g.taken.now) (entries_of c.in-Some.later.now) (entries_of c.args.gs.now) (ap entries_of some) i.gs_left;
      same = used_turn (record { minus = c.args.minus; factor = number_of c.args.k; entry = entry_of c.in-Some.g.now }) (entries_of c.loop-g.out.items) (entries_of c.merge_one.new.out.items) (entries_of c.loop-g.left.now) (entries_of c.in_ok-rest.rest.now) (entries_of c.loop-g.taken.now) (entries_of c.in-Some.later.now)
          _ c.in_ok-rest.used i.taken_tidy.0 c.in_ok-rest.ensures.merges c.if-used.true (ap entries_of some) i.taken_tidy.1 i.same;
    }

pub loop-g-preserved : goal.loop-g-preserved
loop-g-preserved c =
    let some : c.loop-g.taken.now ≡ c.in-Some.g.now ∷ c.in-Some.later.now = search rules in
    let i = c.loop-g.invariant in
    record {
      left_tidy = c.in_ok-rest.ensures.tidy;
      taken_tidy = i.taken_tidy;
      es_left = left_then (entries_of c.args.es.now) (entries_of c.loop-g.left.now) (entries_of c.in_ok-rest.rest.now) i.es_left c.in_ok-rest.ensures.left;
      gs_left = i.gs_left;
      same = unused_turn (record { minus = c.args.minus; factor = number_of c.args.k; entry = entry_of c.in-Some.g.now }) (entries_of c.loop-g.out.items) (entries_of c.merge_one.new.out.items) (entries_of c.loop-g.left.now) (entries_of c.in_ok-rest.rest.now) (entries_of c.loop-g.taken.now) (entries_of c.in-Some.later.now)
          _ c.in_ok-rest.used i.taken_tidy.0 c.in_ok-rest.ensures.merges c.if-used.false (ap entries_of some) i.taken_tidy.1 i.same;
    }
