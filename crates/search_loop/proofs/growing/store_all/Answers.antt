-- That the store has the clauses of all steps.
use Rattle.std.proofs.Common.{◌≡◌, ◌+◌, ◌++◌, ◌∷◌, [], subst, sym, take, get_or, List}
use Rattle.std.proofs.lemmas.List.{take_more}
use Rattle.proof_log.specs.declared.premises.StepId.{StepId}
use Rattle.clause_store.specs.Stores.{no_step}
use Rattle.search_loop.specs.Growing.{StoresAll}
use Rattle.search_loop.proofs.SearchStored.{stores_none, stores_more, pairs_more}
use Rattle.search_loop.proofs.growing.store_all.Goals as goal

pub steps-init : goal.steps-init
steps-init c = record { stores = stores_none c.args.table.now c.args.log.now c.args.store.now; paired = λ p. p }

pub steps-preserved : goal.steps-preserved
steps-preserved c =
    let t = c.args.table.now in
    let log = c.args.log.now in
    let steps = c.args.steps.now in
    let n = c.steps.step-index in
    let s : StepId = get_or steps n no_step in
    let in_log = c.requires.steps n no_step c.steps-test.true in
    let seen = c.what_is_marked_was_seen.ensures.added in
    let implied = c.reasons_stay_right.ensures.added in
    let next : take (n + 1) steps ≡ take n steps ++ s ∷ [] = take_more steps n no_step c.steps-test.true in
    record {
      stores = subst (λ (xs : List StepId). StoresAll t log xs c.args.store.now c.add.new.self) (sym next)
          (stores_more seen implied t log (take n steps) s c.args.store.now c.steps.store c.add.new.self in_log c.in_ok-add.ensures c.steps.invariant.paired c.steps.invariant.stores);
      paired = pairs_more seen implied t log (take n steps) s c.args.store.now c.steps.store c.add.new.self in_log c.in_ok-add.ensures c.steps.invariant.paired;
    }
