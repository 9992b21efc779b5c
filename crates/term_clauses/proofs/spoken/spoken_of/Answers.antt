-- The formulas are listed, the interface equalities first, then equalities come.
use Rattle.std.proofs.Common.{◌≡◌, [], ◌++◌, Bool, List, All, sym, ap, ◌∙◌, subst}
use Rattle.std.proofs.lemmas.List.{map-append}
use Rattle.std.proofs.lemmas.List.Elements.{All-append}
use Rattle.spec_sorts.specs.Terms.{Term}
use Rattle.spec_sorts.specs.WellSorted.{IsWellSorted}
use Rattle.spec_sorts.specs.Subterms.{subterms_of}
use Rattle.spec_sorts.specs.Subsets.{AreAmong}
use Rattle.spec_derivations.specs.Base.{truth_facts, branch_equalities}
use Rattle.term_core.specs.declared.ids.TermId.{TermId}
use Rattle.term_core.specs.Tables.{term_at, AreIn, clause_at}
use Rattle.proof_log.specs.Logs.{IsFormulaIn, AreFormulasIn}
use Rattle.term_clauses.specs.SpokenTerms.{HasMore}
use Rattle.term_clauses.specs.Marks.{marked, AreMarksOf}
use Rattle.term_clauses.proofs.Arguments.{Widens-self}
use Rattle.term_clauses.proofs.Bases.{flat_marked, marked_sorted}
use Rattle.term_clauses.proofs.Speaking.{formulas_there, more_trans, are_spoken}
use Rattle.term_clauses.proofs.spoken.spoken_of.Goals as goal
use Rattle.term_clauses.proofs.spoken.spoken_of.Goals.{In_ok-extend_from_slice, In_ok-marks}

pub returns-in_err-ids-clause-wider : goal.returns-in_err-ids-clause-wider
returns-in_err-ids-clause-wider c = Widens-self c.args.table.now

pub returns-in_err-extend_from_slice-clause-wider : goal.returns-in_err-extend_from_slice-clause-wider
returns-in_err-extend_from_slice-clause-wider c = Widens-self c.args.table.now

pub returns-in_err-marks-clause-wider : goal.returns-in_err-marks-clause-wider
returns-in_err-marks-clause-wider c = Widens-self c.args.table.now

-- what is listed first
are_listed : (c : In_ok-extend_from_slice) → c.extend_from_slice.new.self.items ≡ c.args.interface.now ++ c.args.roots.now
are_listed c = c.in_ok-extend_from_slice.ensures.items ∙ ap (λ (ids : List TermId). ids ++ c.args.roots.now) c.in_ok-ids.ensures.items

-- these are formulas
first_formulas : (c : In_ok-extend_from_slice) → AreFormulasIn c.args.table.now c.extend_from_slice.new.self.items
first_formulas c = subst (AreFormulasIn c.args.table.now) (sym (are_listed c)) (All-append (IsFormulaIn c.args.table.now) c.args.interface.now c.args.roots.now c.requires.interface c.requires.roots)

pub marks_of-requires : goal.marks_of-requires
marks_of-requires c =
    let t = c.args.table.now in
    let first = first_formulas (goal.at.marks_of-requires c).In_ok-extend_from_slice in
    subst (AreIn t) (sym c.deref.ensures.value) (formulas_there t c.extend_from_slice.new.self.items first)

-- the marks are those of their subterms
marks_are : (c : In_ok-marks) → AreMarksOf c.args.table.now c.extend_from_slice.new.self.items c.in_ok-marks.marks.items
marks_are c = subst (λ (ids : List TermId). AreMarksOf c.args.table.now ids c.in_ok-marks.marks.items) c.deref.ensures.value c.in_ok-marks.ensures

pub add_branches-requires-clause-sorted : goal.add_branches-requires-clause-sorted
add_branches-requires-clause-sorted c =
    let t = c.args.table.now in
    let at = goal.at.add_branches-requires-clause-sorted c in
    subst (λ (ms : List Bool). All (IsWellSorted t.symbols []) (marked ms t.terms)) (sym c.deref-2.ensures.value)
    (marked_sorted t c.extend_from_slice.new.self.items c.in_ok-marks.marks.items (first_formulas at.In_ok-extend_from_slice) (marks_are at.In_ok-marks))

pub add_branches-requires-clause-ids : goal.add_branches-requires-clause-ids
add_branches-requires-clause-ids c = first_formulas (goal.at.add_branches-requires-clause-ids c).In_ok-extend_from_slice

pub returns-clause-spoken : goal.returns-clause-spoken
returns-clause-spoken c =
    let at = goal.at.returns-clause-spoken c in
    let t = c.args.table.now in
    let u = c.add_branches.new.table in
    let v = c.add_truth_facts.new.table in
    let roots = c.args.roots.now in
    let interface = c.args.interface.now in
    let first = c.extend_from_slice.new.self.items in
    let some = c.add_branches.new.ids.items in
    let all = c.add_truth_facts.new.ids.items in
    let marks = c.in_ok-marks.marks.items in
    let us = marked marks t.terms in
    let m = marks_are at.In_ok-marks in
    let told : clause_at t first ≡ clause_at t interface ++ clause_at t roots = ap (clause_at t) (are_listed at.In_ok-extend_from_slice) ∙ map-append (term_at t) interface roots in
    let branches : HasMore t u first some (flat_marked branch_equalities marks t.terms) =
    subst (λ (ms : List Bool). HasMore t u first some (flat_marked branch_equalities ms t.terms)) c.deref-2.ensures.value c.in_ok-add_branches.ensures.more in
    let more = more_trans t u v first some all (flat_marked branch_equalities marks t.terms) truth_facts branches c.in_ok-add_truth_facts.ensures.more in
    are_spoken v (clause_at t roots) (clause_at t interface) us all
    (subst (λ (ts : List Term). AreAmong (subterms_of ts) us) told m.each) (subst (λ (ts : List Term). AreAmong us (subterms_of ts)) told m.only) more.formulas
    (more.same ∙ ap (λ (ts : List Term). ts ++ (flat_marked branch_equalities marks t.terms ++ truth_facts)) told)
