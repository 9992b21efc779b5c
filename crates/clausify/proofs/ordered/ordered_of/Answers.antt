-- The terms of any search are listed, then the order facts of its equalities of numbers come.
use Rattle.std.proofs.Common.{[], Bool, List, All, sym, subst}
use Rattle.spec_sorts.specs.WellSorted.{IsWellSorted}
use Rattle.spec_derivations.specs.Orders.{order_facts}
use Rattle.term_core.specs.declared.ids.TermId.{TermId}
use Rattle.term_clauses.specs.SpokenTerms.{problem_in, HasMore}
use Rattle.term_clauses.specs.Marks.{marked, AreMarksOf}
use Rattle.term_clauses.proofs.Bases.{flat_marked, marked_sorted}
use Rattle.clausify.proofs.OrderFacts.{are_ordered}
use Rattle.clausify.proofs.ordered.ordered_of.Goals as goal
use Rattle.clausify.proofs.ordered.ordered_of.Goals.{In_ok-marks}

-- the marks are those of the subterms of what any search speaks of
marks_are : (c : In_ok-marks) → AreMarksOf c.spoken_of.new.table c.in_ok-ids.ids.items c.in_ok-marks.marks.items
marks_are c = subst (λ (ids : List TermId). AreMarksOf c.spoken_of.new.table ids c.in_ok-marks.marks.items) c.deref.ensures.value c.in_ok-marks.ensures

pub add_facts-requires-clause-sorted : goal.add_facts-requires-clause-sorted
add_facts-requires-clause-sorted c =
    let u = c.spoken_of.new.table in
    subst (λ (ms : List Bool). All (IsWellSorted u.symbols []) (marked ms u.terms)) (sym c.deref-2.ensures.value)
    (marked_sorted u c.in_ok-ids.ids.items c.in_ok-marks.marks.items c.in_ok-ids.ensures.spoken.formulas (marks_are (goal.at.add_facts-requires-clause-sorted c).In_ok-marks))

pub returns-clause-ordered : goal.returns-clause-ordered
returns-clause-ordered c =
    let t = c.args.table.now in
    let u = c.spoken_of.new.table in
    let v = c.add_facts.new.table in
    let marks = c.in_ok-marks.marks.items in
    let m = marks_are (goal.at.returns-clause-ordered c).In_ok-marks in
    let some = c.in_ok-ids.ids.items in
    let all = c.add_facts.new.ids.items in
    let more : HasMore u v some all (flat_marked order_facts marks u.terms) =
    subst (λ (ms : List Bool). HasMore u v some all (flat_marked order_facts ms u.terms)) c.deref-2.ensures.value c.in_ok-add_facts.ensures.more in
    are_ordered u v (problem_in t c.args.roots.now c.args.interface.now) (marked marks u.terms) some all c.in_ok-ids.ensures.spoken m.each m.only more
