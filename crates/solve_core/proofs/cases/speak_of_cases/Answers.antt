-- Lemmas come into the log, the search grows by their equalities, and their clauses are kept.
use Rattle.std.proofs.Common.{◌≡◌, [], List, map, All, Contains, sym, ap, ◌∙◌, subst}
use Rattle.std.specs.Prelude.{Result, Ok, Err, OnOk}
use Rattle.no_memory.specs.declared.NoMemory.{NoMemory}
use Rattle.std.proofs.lemmas.List.Elements.{All-weaker, All-contains, All-contains_itself}
use Rattle.spec_text.proofs.Members.{to_image}
use Rattle.spec_sorts.specs.Terms.{Term}
use Rattle.term_core.specs.declared.ids.TermId.{TermId}
use Rattle.term_core.specs.Tables.{TableView, AreDifferent, clause_at}
use Rattle.proof_log.specs.Logs.{Logged, AreFormulasIn}
use Rattle.proof_log.specs.Theories.{DerivesLemmas, derived}
use Rattle.case_equalities.specs.declared.equalities.CaseEquality.{CaseEquality}
use Rattle.case_equalities.specs.Leads.{asserted_below, IsCaseEquality}
use Rattle.search_loop.specs.Answered.{AreAnswered}
use Rattle.search_loop.specs.declared.search.Search.{Search}
use Rattle.search_loop.specs.Asking.{state}
use Rattle.search_loop.specs.Growing.{IsBegun, HasGrown}
use Rattle.spec_derivations.specs.Examples.{speaking}
use Rattle.solve_core.specs.Beginning.{IsBegunFor, IsOverAtomsOf, IsStored}
use Rattle.solve_core.specs.Relating.{HasRelated}
use Rattle.solve_core.proofs.SearchRelated.{begun_for_none}
use Rattle.solve_core.proofs.SearchCases.{begun_in, found_formulas, found_linear, found_later, over_atoms, begun_with}
use Rattle.solve_core.proofs.cases.speak_of_cases.Goals as goal

-- all that was found, over the table and the log as they are then
all_later : (ts : List Term) (t u : TableView) (x : Search) (roots : List TermId) (formulas : AreFormulasIn t roots) (asked : ts ≡ clause_at t roots) (b : IsBegun t (speaking ts []) [] x) (log : List Logged)
    (derives : DerivesLemmas (asserted_below t roots) (derived t x.log) (derived u log)) (w : TableView) (y : Search) (ids : List TermId) (grown : HasGrown (state u (record x { log = log })) (state w y) [] ids)
    (found : List CaseEquality) → All (IsCaseEquality u log roots) found → All (IsCaseEquality w y.log roots) found
all_later ts t u x roots formulas asked b log derives w y ids grown found each =
    All-weaker (IsCaseEquality u log roots) (IsCaseEquality w y.log roots) (found_later ts t u x roots formulas asked b log derives w y ids grown) found each

-- and is over the search's atoms
all_over : (ts : List Term) (t u : TableView) (x : Search) (roots : List TermId) (formulas : AreFormulasIn t roots) (asked : ts ≡ clause_at t roots) (b : IsBegun t (speaking ts []) [] x) (log : List Logged)
    (derives : DerivesLemmas (asserted_below t roots) (derived t x.log) (derived u log)) (w : TableView) (y : Search) (ids : List TermId) (grown : HasGrown (state u (record x { log = log })) (state w y) [] ids) (differ : AreDifferent w.terms)
    (found : List CaseEquality) → ids ≡ map (λ (z : CaseEquality). z.equality) found → All (IsCaseEquality u log roots) found → All (IsOverAtomsOf y.atoms.items) found
all_over ts t u x roots formulas asked b log derives w y ids grown differ found are each =
    All-weaker (Contains found) (IsOverAtomsOf y.atoms.items) (λ z i. over_atoms ts t u x roots formulas asked b log derives w y ids grown differ z (All-contains (IsCaseEquality u log roots) found z each i)
    (subst (λ (is : List TermId). Contains is z.equality) (sym are) (to_image (λ (q : CaseEquality). q.equality) found z i))) found (All-contains_itself found)

pub grow-requires-clause-ready : goal.grow-requires-clause-ready
grow-requires-clause-ready g c =
    (begun_in g.asked c.args.table.now c.equalities_of_cases.new.table c.args.search.now c.args.roots.now c.requires.1.0 c.requires.0 c.requires.1.1 c.equalities_of_cases.new.log c.equalities_of_cases.ensures.derives).ready

pub grow-requires-clause-interface : goal.grow-requires-clause-interface
grow-requires-clause-interface g c =
    subst (AreFormulasIn c.equalities_of_cases.new.table) (sym c.deref-2.ensures.value)
    (found_formulas g.asked c.args.table.now c.equalities_of_cases.new.table c.args.search.now c.args.roots.now c.requires.1.0 c.requires.0 c.requires.1.1 c.equalities_of_cases.new.log c.equalities_of_cases.ensures.derives
    c.in_ok-equalities.equalities.items c.deref.result.now c.in_ok-equalities.ensures (subst (All (IsCaseEquality c.equalities_of_cases.new.table c.equalities_of_cases.new.log c.args.roots.now)) (sym c.deref.ensures.value) c.in_ok-found.ensures.found))

pub grow-requires-clause-answered_interface : goal.grow-requires-clause-answered_interface
grow-requires-clause-answered_interface g c =
    subst (λ (ids : List TermId). AreAnswered (clause_at c.equalities_of_cases.new.table ids)) (sym c.deref-2.ensures.value)
    (found_linear g.asked c.args.table.now c.equalities_of_cases.new.table c.args.search.now c.args.roots.now c.requires.1.0 c.requires.0 c.requires.1.1 c.equalities_of_cases.new.log c.equalities_of_cases.ensures.derives
    c.in_ok-equalities.equalities.items c.deref.result.now c.in_ok-equalities.ensures (subst (All (IsCaseEquality c.equalities_of_cases.new.table c.equalities_of_cases.new.log c.args.roots.now)) (sym c.deref.ensures.value) c.in_ok-found.ensures.found))

-- where all clauses were kept
kept_begins : (r : Result (Unit {0}) NoMemory) (A B C : Type 0) → (A → B → C) → OnOk r A → OnOk r B → OnOk r C
kept_begins (Ok v) A B C f a b = f a b
kept_begins (Err e) A B C f a b = tt

-- without the equalities nothing came but lemmas
pub returns-in-Err-Wide-clause-begun : goal.returns-in-Err-Wide-clause-begun
returns-in-Err-Wide-clause-begun g c =
    let t = c.args.table.now in
    let u = c.equalities_of_cases.new.table in
    let x = c.args.search.now in
    let b = begun_in g.asked t u x c.args.roots.now c.requires.1.0 c.requires.0 c.requires.1.1 c.equalities_of_cases.new.log c.equalities_of_cases.ensures.derives in
    let stays = rw c.in-Err-Wide.field-0-is at c.in-Err-Wide.ensures.same in
    subst (λ (z : TableView). IsBegunFor g.asked (state z c.grow.new.self)) (sym stays.0) (subst (λ (z : Search). IsBegunFor g.asked (state u z)) (sym stays.1) (begun_for_none g.asked u (record x { log = c.equalities_of_cases.new.log }) b))

-- what was found is still so
pub keep_all-requires-clause-found : goal.keep_all-requires-clause-found
keep_all-requires-clause-found g c =
    let t = c.args.table.now in
    let u = c.equalities_of_cases.new.table in
    let x = c.args.search.now in
    let ids = c.deref-2.result.now in (
      c.args.roots.now,
      subst (All (IsCaseEquality c.grow.new.table c.grow.new.self.log c.args.roots.now)) (sym c.deref-3.ensures.value)
          (all_later g.asked t u x c.args.roots.now c.requires.1.0 c.requires.0 c.requires.1.1 c.equalities_of_cases.new.log c.equalities_of_cases.ensures.derives c.grow.new.table c.grow.new.self ids c.in-Ok.ensures.grows
          c.in_ok-found.found.items c.in_ok-found.ensures.found),
    )

pub keep_all-requires-clause-atoms : goal.keep_all-requires-clause-atoms
keep_all-requires-clause-atoms g c =
    let t = c.args.table.now in
    let u = c.equalities_of_cases.new.table in
    let x = c.args.search.now in
    let ids = c.deref-2.result.now in
    let are : ids ≡ map (λ (z : CaseEquality). z.equality) c.in_ok-found.found.items = c.deref-2.ensures.value ∙ c.in_ok-equalities.ensures ∙ ap (map (λ (z : CaseEquality). z.equality)) c.deref.ensures.value in
    subst (All (IsOverAtomsOf c.grow.new.self.atoms.items)) (sym c.deref-3.ensures.value)
    (all_over g.asked t u x c.args.roots.now c.requires.1.0 c.requires.0 c.requires.1.1 c.equalities_of_cases.new.log c.equalities_of_cases.ensures.derives c.grow.new.table c.grow.new.self ids c.in-Ok.ensures.grows c.ids_are_unique.ensures
    c.in_ok-found.found.items are c.in_ok-found.ensures.found)

pub returns-clause-begun : goal.returns-clause-begun
returns-clause-begun g c =
    let t = c.args.table.now in
    let u = c.equalities_of_cases.new.table in
    let w = c.grow.new.table in
    let x = c.args.search.now in
    let y = c.grow.new.self in
    let z = c.keep_all.new.search in
    let ids = c.deref-2.result.now in
    let found = c.in_ok-found.found.items in
    let are : ids ≡ map (λ (q : CaseEquality). q.equality) found = c.deref-2.ensures.value ∙ c.in_ok-equalities.ensures ∙ ap (map (λ (q : CaseEquality). q.equality)) c.deref.ensures.value in
    let stored = subst (λ (qs : List CaseEquality). OnOk c.keep_all.result (All (IsStored w z) qs)) c.deref-3.ensures.value c.keep_all.ensures.stored in
    kept_begins c.keep_all.result (HasRelated w w y z) (All (IsStored w z) found) (IsBegunFor g.asked (state w z))
    (begun_with g.asked t u x c.args.roots.now c.requires.1.0 c.requires.0 c.requires.1.1 c.equalities_of_cases.new.log c.equalities_of_cases.ensures.derives w y ids c.in-Ok.ensures.grows found are c.in_ok-found.ensures.found z) c.keep_all.ensures.related stored
