-- Clause by clause.
use Rattle.std.proofs.Common.{List, take, get_or, All, refl, sym, ap, ◌∙◌, subst}
use Rattle.std.specs.Prelude.{Ok}
use Rattle.std.proofs.lemmas.List.{take_all, take_more}
use Rattle.std.proofs.lemmas.List.Elements.{All-nil, All-push, All-weaker}
use Rattle.proof_log.specs.Logs.{Logged}
use Rattle.proof_log.specs.Clashes.{IsClash}
use Rattle.case_equalities.specs.declared.equalities.CaseEquality.{CaseEquality}
use Rattle.search_loop.specs.declared.search.Search.{Search}
use Rattle.search_loop.specs.Waiting.{AreOfAtoms}
use Rattle.solve_core.specs.Beginning.{IsStored}
use Rattle.solve_core.proofs.SearchRelated.{related_same, kept_related}
use Rattle.solve_core.proofs.SearchCases.{held_of, case_clash, held_over, kept_stored, stored_later}
use Rattle.solve_core.proofs.cases.keep_all.Goals as goal

-- no equality, where there should be one
abbrev no_case : CaseEquality
no_case = record { disjunction = record { 0 = 0 }; equality = record { 0 = 0 }; step = record { 0 = 0 } }

pub found-init : goal.found-init
found-init c = record { related = related_same c.args.table.now c.args.search.now c.requires.ready; log = refl; stored = All-nil (IsStored c.args.table.now c.args.search.now) }

pub keep-requires-clause-ready : goal.keep-requires-clause-ready
keep-requires-clause-ready c = c.found.invariant.related.ready

pub keep-requires-clause-level : goal.keep-requires-clause-level
keep-requires-clause-level c = ap (λ (s : Search). s.trail.level) c.found.invariant.related.same ∙ c.requires.level

pub keep-requires-clause-clash : goal.keep-requires-clause-clash
keep-requires-clause-clash c =
    let t = c.args.table.now in
    let x = c.args.search.now in
    let y = c.found.search in
    let k = c.found.x-index in
    let z = get_or c.args.found.now k no_case in
    let h = c.found.invariant in
    let found = c.requires.found.1 k no_case c.found-test.true in
    let over = c.requires.atoms k no_case c.found-test.true in (
      held_of z,
      subst (λ (log : List Logged). IsClash t log (held_of z) z.step) (sym h.log) (case_clash t c.ids_are_unique.ensures x.log c.requires.found.0 z found),
      subst (λ (s : Search). AreOfAtoms s.atoms.items (held_of z)) (sym h.related.same) (held_over x.atoms.items z over),
    )

pub found-preserved : goal.found-preserved
found-preserved c =
    let t = c.args.table.now in
    let x = c.args.search.now in
    let y = c.found.search in
    let w = c.keep.new.self in
    let k = c.found.x-index in
    let z = get_or c.args.found.now k no_case in
    let h = c.found.invariant in
    let found = c.requires.found.1 k no_case c.found-test.true in
    let kept = c.in_ok-keep.ensures.kept in
    record {
      related = kept_related t t x y w z.step (Ok tt) h.related kept c.in_ok-keep.ensures.continues c.in_ok-keep.ensures.ready;
      log = ap (λ (s : Search). s.log) kept.0 ∙ h.log;
      stored = subst (All (IsStored t w)) (sym (take_more c.args.found.now k no_case c.found-test.true))
          (All-push (IsStored t w) (take k c.args.found.now) z (All-weaker (IsStored t y) (IsStored t w) (stored_later t y w z.step kept) (take k c.args.found.now) h.stored) (kept_stored t c.ids_are_unique.ensures x.log c.requires.found.0 z found y w h.log kept));
    }

pub returns-clause-stored : goal.returns-clause-stored
returns-clause-stored c = subst (All (IsStored c.args.table.now c.found.search)) (take_all c.found.x-index c.args.found.now c.found-test.false) c.found.invariant.stored
