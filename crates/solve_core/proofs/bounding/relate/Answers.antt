-- The literals of a pair are of atoms, and the clause of what comes is kept.
use Rattle.std.proofs.Common.{[], ◌∷◌, sym, subst}
use Rattle.term_core.specs.Tables.{TableView, Extends}
use Rattle.term_core.proofs.TermsExtend.{Extends-self}
use Rattle.solve_core.proofs.SearchRelated.{related_lemmas, kept_related, of_atoms, pair_of_atoms}
use Rattle.solve_core.proofs.bounding.relate.Goals as goal

pub excluding-requires : goal.excluding-requires
excluding-requires g c =
    let t = c.args.table.now in
    let x = c.args.search.now in
    let ready = c.requires.1.0 in
    let pair = c.requires.1.1.1 in (
      ready.right,
      (of_atoms t x g.terms c.args.pair.first c.requires.0 ready pair.first, of_atoms t x g.terms c.args.pair.second c.requires.0 ready pair.second),
    )

pub returns-in_err-step-clause-grown : goal.returns-in_err-step-clause-grown
returns-in_err-step-clause-grown g c = subst (λ (u : TableView). Extends c.args.table.now u) (sym c.in_err-step.ensures.derives.0) (Extends-self c.args.table.now)

pub returns-in_default-clause-related : goal.returns-in_default-clause-related
returns-in_default-clause-related g c =
    related_lemmas c.args.table.now c.excluding.new.table c.args.search.now c.excluding.new.log g.terms c.requires.0 c.requires.1.0 c.in_ok-step.ensures.derives

pub keep-requires-clause-ready : goal.keep-requires-clause-ready
keep-requires-clause-ready g c =
    (related_lemmas c.args.table.now c.excluding.new.table c.args.search.now c.excluding.new.log g.terms c.requires.0 c.requires.1.0 c.in_ok-step.ensures.derives).ready

pub keep-requires-clause-clash : goal.keep-requires-clause-clash
keep-requires-clause-clash g c =
    (c.args.pair.first ∷ c.args.pair.second ∷ [], rw c.in-Some.is at c.in_ok-step.ensures.clash, pair_of_atoms c.args.search.now c.args.pair c.requires.1.1.1)

pub returns-clause-related : goal.returns-clause-related
returns-clause-related g c =
    let t = c.args.table.now in
    let u = c.excluding.new.table in
    let x = c.args.search.now in
    let related = related_lemmas t u x c.excluding.new.log g.terms c.requires.0 c.requires.1.0 c.in_ok-step.ensures.derives in
    let e = c.keep.ensures in
    kept_related t u x (record x { log = c.excluding.new.log }) c.keep.new.self c.in-Some.step c.keep.result related e.kept e.continues e.ready
