use Rattle.std.proofs.Common.{rules, ◌≡◌, ◌∷◌, ap, ◌∙◌, arith}
use Rattle.std.proofs.lemmas.List.{map-append}
use Rattle.ratio128.specs.Meant.{overflow}
use Rattle.tableau.specs.Numbers.{number_of}
use Rattle.tableau.specs.Entries.{entry_of, entries_of}
use Rattle.tableau.specs.Sums.{OverflowsPut}
use Rattle.tableau.proofs.Turns.{left_later}
use Rattle.tableau.proofs.Loops.{put_step}
use Rattle.tableau.proofs.Telling.{told_wide, put_sum}
use Rattle.tableau.proofs.sums.put.Goals as goal

pub returns-in_err-sum-clause-wide : goal.returns-in_err-sum-clause-wide
returns-in_err-sum-clause-wide c =
    let some : c.loop-e.rest.now ≡ c.in-Some.e.now ∷ c.in-Some.more.now = search rules in
    told_wide (OverflowsPut (entries_of c.args.entries.now) c.args.x (number_of c.args.c)) c.from_residual-in_err-sum.result c.in_err-sum.field-0.0 c.from_residual-in_err-sum.ensures.1
    (put_sum (entries_of c.args.entries.now) (entries_of c.loop-e.rest.now) (entries_of c.in-Some.more.now) c.args.x (number_of c.args.c) (entry_of c.in-Some.e.now) (overflow c.in_err-sum.field-0.0)
    c.loop-e.invariant.left (ap entries_of some) (omega arith) c.in_err-sum.ensures.wide)

pub loop-e-preserved : goal.loop-e-preserved
loop-e-preserved c =
    let some : c.loop-e.rest.now ≡ c.in-Some.e.now ∷ c.in-Some.more.now = search rules in
    record {
      same = put_step (entries_of c.loop-e.out.items) (entries_of c.push.new.self.items) (entries_of c.loop-e.rest.now) (entries_of c.in-Some.more.now) _ c.args.x (number_of c.args.c) (entry_of c.in-Some.e.now)
          (ap entries_of some) (omega arith) (ap entries_of c.in_ok-push.ensures.items ∙ map-append _ _ _) c.loop-e.invariant.same;
      left = left_later (entry_of c.in-Some.e.now) (entries_of c.loop-e.rest.now) (entries_of c.in-Some.more.now) (entries_of c.args.entries.now) (ap entries_of some) c.loop-e.invariant.left;
    }
