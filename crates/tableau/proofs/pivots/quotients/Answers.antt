use Rattle.std.proofs.Common.{rules, ◌≡◌, ◌∷◌, ap, ◌∙◌}
use Rattle.std.proofs.lemmas.List.{map-append}
use Rattle.tableau.specs.Numbers.{number_of}
use Rattle.tableau.specs.Entries.{entry_of, entries_of}
use Rattle.tableau.specs.Pivots.{OverflowsQuotients}
use Rattle.tableau.proofs.Turns.{left_later, left_first}
use Rattle.tableau.proofs.Loops.{quotients_step}
use Rattle.tableau.proofs.Telling.{told_wide}
use Rattle.tableau.proofs.pivots.quotients.Goals as goal

pub returns-in_err-divided-clause-wide : goal.returns-in_err-divided-clause-wide
returns-in_err-divided-clause-wide c =
    let some : c.loop-e.rest.now ≡ c.in-Some.e.now ∷ c.in-Some.more.now = search rules in
    told_wide (OverflowsQuotients (entries_of c.args.entries.now) (number_of c.args.d)) c.from_residual-in_err-divided.result c.in_err-divided.field-0.0 c.from_residual-in_err-divided.ensures.1
    (record {
      entry = entry_of c.in-Some.e.now;
      there = left_first (entry_of c.in-Some.e.now) (entries_of c.loop-e.rest.now) (entries_of c.in-Some.more.now) (entries_of c.args.entries.now) (ap entries_of some) c.loop-e.invariant.left;
      wide = c.in_err-divided.ensures.wide;
    })

pub loop-e-preserved : goal.loop-e-preserved
loop-e-preserved c =
    let some : c.loop-e.rest.now ≡ c.in-Some.e.now ∷ c.in-Some.more.now = search rules in
    record {
      same = quotients_step (entries_of c.loop-e.out.items) (entries_of c.push.new.self.items) (entries_of c.loop-e.rest.now) (entries_of c.in-Some.more.now) _ (number_of c.args.d) (entry_of c.in-Some.e.now) (number_of c.in_ok-divided.divided)
          (ap entries_of some) c.in_ok-divided.ensures.ok (ap entries_of c.in_ok-push.ensures.items ∙ map-append _ _ _) c.loop-e.invariant.same;
      left = left_later (entry_of c.in-Some.e.now) (entries_of c.loop-e.rest.now) (entries_of c.in-Some.more.now) (entries_of c.args.entries.now) (ap entries_of some) c.loop-e.invariant.left;
    }
