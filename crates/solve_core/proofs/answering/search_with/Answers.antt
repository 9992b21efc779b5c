-- From rest to rest, until the search is answered.
use Rattle.std.proofs.Common.{◌<◌, refl, ◌∙◌, sym, subst}
use Rattle.spec_derivations.specs.Examples.{speaking}
use Rattle.term_core.proofs.TermsExtend.{Extends-self, Extends-trans}
use Rattle.search_loop.specs.declared.cdcl.Answer.{Answer}
use Rattle.search_loop.specs.declared.cdcl.Answer.TheVariants.{Sat, Unsat, Unknown}
use Rattle.search_loop.specs.Asking.{state}
use Rattle.search_loop.proofs.SearchRounds.{shows_on}
use Rattle.solve_core.specs.Answering.{IsStoppedBy}
use Rattle.solve_core.specs.Unspoken.{unspoken_in}
use Rattle.solve_core.specs.GoingOn.{HasRested}
use Rattle.solve_core.proofs.SearchRests.{unspoken_same, searching_on, handed_answers, ended_by, run_stopped, numbers_stopped}
use Rattle.solve_core.proofs.answering.search_with.Goals as goal

pub rests-init : goal.rests-init
rests-init g c = record { grown = Extends-self c.args.table.now; declared = refl; limit = refl; ready = c.requires }

pub returns-in_err-run-clause-answers : goal.returns-in_err-run-clause-answers
returns-in_err-run-clause-answers g c =
    let t = c.rests.table in
    let w = c.run.new.table in
    let x = c.rests.search in
    let y = c.run.new.self in
    let v = c.rests.theory in
    let z = c.run.new.theory in
    let ids = c.args.shared.now in
    let limit = c.args.search.now.budget.limit in
    let h = c.rests.invariant.ready in
    let stop = c.in_err-run.field-0.0 in
    handed_answers _ (IsStoppedBy g.asked limit (state w y)) c.from_residual.result stop c.from_residual.ensures.1
    (run_stopped g.asked ids t w x y v z h c.ids_are_unique.ensures limit c.rests.invariant.limit _ _ stop c.in_err-run.ensures.stopped c.in_err-run.ensures.stops c.in_err-run.ensures.came)

pub returns-in-Refuted-clause-answers : goal.returns-in-Refuted-clause-answers
returns-in-Refuted-clause-answers g c =
    let t = c.rests.table in
    let w = c.run.new.table in
    let x = c.rests.search in
    let y = c.run.new.self in
    let v = c.rests.theory in
    let z = c.run.new.theory in
    let ids = c.args.shared.now in
    let limit = c.args.search.now.budget.limit in
    let h = c.rests.invariant.ready in
    ended_by g.asked ids t w x y v z h c.run.ensures.grown c.in_ok-run.ensures.terms c.ids_are_unique.ensures limit (c.in_ok-run.ensures.limit ∙ c.rests.invariant.limit) c.in_ok-run.ensures.right _ (Unsat c.in-Refuted.step)
    (rw c.in-Refuted.is at c.in_ok-run.ensures.ends) c.in_ok-run.ensures.came

pub returns-in-Stopped-clause-answers : goal.returns-in-Stopped-clause-answers
returns-in-Stopped-clause-answers g c =
    let t = c.rests.table in
    let w = c.run.new.table in
    let x = c.rests.search in
    let y = c.run.new.self in
    let v = c.rests.theory in
    let z = c.run.new.theory in
    let ids = c.args.shared.now in
    let limit = c.args.search.now.budget.limit in
    let h = c.rests.invariant.ready in
    ended_by g.asked ids t w x y v z h c.run.ensures.grown c.in_ok-run.ensures.terms c.ids_are_unique.ensures limit (c.in_ok-run.ensures.limit ∙ c.rests.invariant.limit) c.in_ok-run.ensures.right _ (Unknown c.in-Stopped.reason)
    (rw c.in-Stopped.is at c.in_ok-run.ensures.ends) c.in_ok-run.ensures.came

pub agreement-requires-clause-asked : goal.agreement-requires-clause-asked
agreement-requires-clause-asked g c =
    let t = c.rests.table in
    let w = c.run.new.table in
    let x = c.rests.search in
    let y = c.run.new.self in
    let v = c.rests.theory in
    let z = c.run.new.theory in
    let ids = c.args.shared.now in
    let limit = c.args.search.now.budget.limit in
    let h = c.rests.invariant.ready in
    let ends = rw c.in-Saturated.is at c.in_ok-run.ensures.ends in
    let under_way = searching_on g.asked ids t w x y v z h ends.1 ends.0.ready ends.0.asked c.in_ok-run.ensures.with.0 c.in_ok-run.ensures.with.1 (λ us r paid. rw c.in-Saturated.is at (c.in_ok-run.ensures.came us r paid)) in
    (speaking g.asked under_way.terms.interface, under_way.terms.asked)

pub returns-in_err-pairs-clause-answers : goal.returns-in_err-pairs-clause-answers
returns-in_err-pairs-clause-answers g c =
    let t = c.rests.table in
    let w = c.run.new.table in
    let x = c.rests.search in
    let y = c.run.new.self in
    let v = c.rests.theory in
    let z = c.run.new.theory in
    let ids = c.args.shared.now in
    let limit = c.args.search.now.budget.limit in
    let h = c.rests.invariant.ready in
    let ends = rw c.in-Saturated.is at c.in_ok-run.ensures.ends in
    let under_way = searching_on g.asked ids t w x y v z h ends.1 ends.0.ready ends.0.asked c.in_ok-run.ensures.with.0 c.in_ok-run.ensures.with.1 (λ us r paid. rw c.in-Saturated.is at (c.in_ok-run.ensures.came us r paid)) in
    let stop = c.in_err-pairs.field-0.0 in
    handed_answers _ (IsStoppedBy g.asked limit (state w y)) c.from_residual-in_err-pairs.result stop c.from_residual-in_err-pairs.ensures.1
    (numbers_stopped g.asked ids w y z under_way c.ids_are_unique-in-rests.ensures ends.0.ready.right limit (c.in_ok-run.ensures.limit ∙ c.rests.invariant.limit) c.parts_hold_the_same.ensures stop c.in_err-pairs.ensures.stops)

pub speak_of-requires : goal.speak_of-requires
speak_of-requires g c =
    let t = c.rests.table in
    let w = c.run.new.table in
    let x = c.rests.search in
    let y = c.run.new.self in
    let v = c.rests.theory in
    let z = c.run.new.theory in
    let ids = c.args.shared.now in
    let limit = c.args.search.now.budget.limit in
    let h = c.rests.invariant.ready in
    let ends = rw c.in-Saturated.is at c.in_ok-run.ensures.ends in
    let under_way = searching_on g.asked ids t w x y v z h ends.1 ends.0.ready ends.0.asked c.in_ok-run.ensures.with.0 c.in_ok-run.ensures.with.1 (λ us r paid. rw c.in-Saturated.is at (c.in_ok-run.ensures.came us r paid)) in
    let rested : HasRested g.asked ids (state w y) z c.in-Differ.pairs.items = record { searching = under_way; are_open = (rw c.in-Differ.is at c.in_ok-pairs.ensures.found) (speaking g.asked under_way.terms.interface) under_way.terms.asked } in
    (ids, subst (HasRested g.asked ids (state w y) z) (sym c.deref.ensures.value) rested)

pub returns-in_err-speak_of-in-Differ-clause-grown : goal.returns-in_err-speak_of-in-Differ-clause-grown
returns-in_err-speak_of-in-Differ-clause-grown g c =
    Extends-trans c.args.table.now c.rests.table c.speak_of.new.table c.rests.invariant.grown (Extends-trans c.rests.table c.run.new.table c.speak_of.new.table c.run.ensures.grown c.speak_of.ensures.grown)

pub rests-smaller : goal.rests-smaller
rests-smaller g c =
    let t = c.rests.table in
    let w = c.run.new.table in
    let x = c.rests.search in
    let y = c.run.new.self in
    let v = c.rests.theory in
    let z = c.run.new.theory in
    let ids = c.args.shared.now in
    let limit = c.args.search.now.budget.limit in
    let h = c.rests.invariant.ready in
    let ends = rw c.in-Saturated.is at c.in_ok-run.ensures.ends in
    let under_way = searching_on g.asked ids t w x y v z h ends.1 ends.0.ready ends.0.asked c.in_ok-run.ensures.with.0 c.in_ok-run.ensures.with.1 (λ us r paid. rw c.in-Saturated.is at (c.in_ok-run.ensures.came us r paid)) in
    let rested : HasRested g.asked ids (state w y) z c.in-Differ.pairs.items = record { searching = under_way; are_open = (rw c.in-Differ.is at c.in_ok-pairs.ensures.found) (speaking g.asked under_way.terms.interface) under_way.terms.asked } in
    let goes_on = c.in_ok-speak_of-in-Differ.ensures.goes_on ids (subst (HasRested g.asked ids (state w y) z) (sym c.deref.ensures.value) rested) in
    subst (λ n. unspoken_in ids (state c.speak_of.new.table c.speak_of.new.search) < n) (unspoken_same g.asked ids t w x y v z h ends.1) goes_on.fewer

pub rests-preserved : goal.rests-preserved
rests-preserved g c =
    let t = c.rests.table in
    let w = c.run.new.table in
    let x = c.rests.search in
    let y = c.run.new.self in
    let v = c.rests.theory in
    let z = c.run.new.theory in
    let ids = c.args.shared.now in
    let limit = c.args.search.now.budget.limit in
    let h = c.rests.invariant.ready in
    let ends = rw c.in-Saturated.is at c.in_ok-run.ensures.ends in
    let under_way = searching_on g.asked ids t w x y v z h ends.1 ends.0.ready ends.0.asked c.in_ok-run.ensures.with.0 c.in_ok-run.ensures.with.1 (λ us r paid. rw c.in-Saturated.is at (c.in_ok-run.ensures.came us r paid)) in
    let rested : HasRested g.asked ids (state w y) z c.in-Differ.pairs.items = record { searching = under_way; are_open = (rw c.in-Differ.is at c.in_ok-pairs.ensures.found) (speaking g.asked under_way.terms.interface) under_way.terms.asked } in
    let goes_on = c.in_ok-speak_of-in-Differ.ensures.goes_on ids (subst (HasRested g.asked ids (state w y) z) (sym c.deref.ensures.value) rested) in
    record {
      grown = Extends-trans c.args.table.now t c.speak_of.new.table c.rests.invariant.grown (Extends-trans t w c.speak_of.new.table c.run.ensures.grown c.speak_of.ensures.grown);
      declared = c.speak_of.ensures.declared ∙ c.run.ensures.declared ∙ c.rests.invariant.declared;
      limit = c.in_ok-speak_of-in-Differ.ensures.limit ∙ c.in_ok-run.ensures.limit ∙ c.rests.invariant.limit;
      ready = goes_on.ready;
    }

pub returns-in-Agreed-clause-answers : goal.returns-in-Agreed-clause-answers
returns-in-Agreed-clause-answers g c =
    let t = c.rests.table in
    let w = c.run.new.table in
    let x = c.rests.search in
    let y = c.run.new.self in
    let v = c.rests.theory in
    let z = c.run.new.theory in
    let ids = c.args.shared.now in
    let limit = c.args.search.now.budget.limit in
    let h = c.rests.invariant.ready in
    let ends = rw c.in-Saturated.is at c.in_ok-run.ensures.ends in
    let a : Answer = Sat c.in_ok-model-in-Agreed.model in
    ended_by g.asked ids t w x y v z h c.run.ensures.grown c.in_ok-run.ensures.terms c.ids_are_unique.ensures limit (c.in_ok-run.ensures.limit ∙ c.rests.invariant.limit) c.in_ok-run.ensures.right _ a
    (shows_on t w w x y y a ends.1 c.in_ok-model-in-Agreed.ensures) c.in_ok-run.ensures.came
