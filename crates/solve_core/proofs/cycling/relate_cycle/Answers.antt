-- The literals of a cycle are of atoms, and the clause of what comes is kept.
use Rattle.std.proofs.Common.{List, sym, subst}
use Rattle.term_core.specs.declared.ids.Lit.{Lit}
use Rattle.term_core.specs.Tables.{TableView, Extends}
use Rattle.term_core.proofs.TermsExtend.{Extends-self}
use Rattle.proof_log.specs.Clashes.{IsClash}
use Rattle.simplex_explain.specs.Reasons.{AreHeld}
use Rattle.solve_core.proofs.SearchRelated.{related_lemmas, kept_related}
use Rattle.solve_core.proofs.SearchCycled.{literals_of, reasons_of_atoms, all_held, all_of_atoms}
use Rattle.solve_core.proofs.cycling.relate_cycle.Goals as goal

pub excluding_all-requires : goal.excluding_all-requires
excluding_all-requires g c = (
  c.requires.1.0.right,
  reasons_of_atoms c.args.table.now c.args.search.now g.terms c.args.reasons.now c.requires.0 c.requires.1.0 c.requires.1.1.1,
)

pub returns-in_err-step-clause-grown : goal.returns-in_err-step-clause-grown
returns-in_err-step-clause-grown g c = subst (λ (u : TableView). Extends c.args.table.now u) (sym c.in_err-step.ensures.derives.0) (Extends-self c.args.table.now)

pub returns-in_default-clause-related : goal.returns-in_default-clause-related
returns-in_default-clause-related g c =
    related_lemmas c.args.table.now c.excluding_all.new.table c.args.search.now c.excluding_all.new.log g.terms c.requires.0 c.requires.1.0 c.in_ok-step.ensures.derives

pub keep-requires-clause-ready : goal.keep-requires-clause-ready
keep-requires-clause-ready g c =
    (related_lemmas c.args.table.now c.excluding_all.new.table c.args.search.now c.excluding_all.new.log g.terms c.requires.0 c.requires.1.0 c.in_ok-step.ensures.derives).ready

pub keep-requires-clause-clash : goal.keep-requires-clause-clash
keep-requires-clause-clash g c =
    let rs = c.args.reasons.now in
    let clash : (held : List Lit) → AreHeld held rs → IsClash c.excluding_all.new.table c.excluding_all.new.log held c.in-Some.step = rw c.in-Some.is at c.in_ok-step.ensures.clash in
    (literals_of rs, clash (literals_of rs) (all_held rs), all_of_atoms c.args.search.now.atoms.items rs c.requires.1.1.1)

pub returns-clause-related : goal.returns-clause-related
returns-clause-related g c =
    let t = c.args.table.now in
    let u = c.excluding_all.new.table in
    let x = c.args.search.now in
    let related = related_lemmas t u x c.excluding_all.new.log g.terms c.requires.0 c.requires.1.0 c.in_ok-step.ensures.derives in
    let e = c.keep.ensures in
    kept_related t u x (record x { log = c.excluding_all.new.log }) c.keep.new.self c.in-Some.step c.keep.result related e.kept e.continues e.ready
