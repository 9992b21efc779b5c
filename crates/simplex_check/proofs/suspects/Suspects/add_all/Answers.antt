use Rattle.std.proofs.Common.{◌≡◌, ◌∷◌, inl, rules}
use Rattle.std.proofs.lemmas.List.{nil_from_length}
use Rattle.simplex_check.proofs.Suspecting.{noted_more, noted_all}
use Rattle.simplex_check.proofs.suspects.Suspects.add_all.Goals as goal

pub loop-change-init : goal.loop-change-init
loop-change-init c = record { kept = λ z m. m; noted = λ z m. inl m }

pub loop-change-preserved : goal.loop-change-preserved
loop-change-preserved c =
    let some : c.loop-change.rest.now ≡ c.in-Some.change.now ∷ c.in-Some.more.now = search rules in
    record {
      kept = λ z m. c.in_ok-add.ensures.kept z (c.loop-change.invariant.kept z m);
      noted = λ z m. noted_more z c.in-Some.change.now c.loop-change.rest.now c.in-Some.more.now c.loop-change.self c.add.new.self some (c.in_ok-add.ensures.kept z) c.in_ok-add.ensures.added (c.loop-change.invariant.noted z m);
    }

pub returns-clause-added : goal.returns-clause-added
returns-clause-added c = λ z m. noted_all z c.loop-change.rest.now c.loop-change.self (nil_from_length c.loop-change.rest.now c.in_default.ensures.cases) (c.loop-change.invariant.noted z m)
