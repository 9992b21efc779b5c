-- What the search speaks of is put, the marks of known terms are taken away, the terms are assumed, and the clauses of those that
-- are marked still are stated.
use Rattle.std.proofs.Common.{◌≡◌, ◌≤◌, ◌∙◌, ◌++◌, List, [], Bool, length, take, drop, All, sym, subst}
use Rattle.spec_sorts.specs.WellSorted.{IsWellSorted}
use Rattle.spec_sorts.specs.Subsets.{AreAmong}
use Rattle.spec_derivations.specs.Problems.{Problem}
use Rattle.spec_derivations.specs.Orders.{whole_terms, whole_clauses_of}
use Rattle.term_core.specs.declared.ids.TermId.{TermId}
use Rattle.term_core.specs.Tables.{clause_at}
use Rattle.term_core.proofs.TermsExtend.{AreIn-kept, clause_at-kept}
use Rattle.proof_log.specs.declared.premises.StepId.{StepId}
use Rattle.proof_log.specs.Logs.{IsLogOf}
use Rattle.clausify.specs.HavingClauses.{HasClausesOf}
use Rattle.clausify.specs.Unmarking.{Unmarks}
use Rattle.spec_causes.specs.Checks.{IsOverflowAmong}
use Rattle.clausify.proofs.Overflowing.{passed_on, among_more}
use Rattle.term_clauses.specs.Growth.{Grows, AreAllMade}
use Rattle.term_clauses.specs.Stating.{StatesClauses}
use Rattle.term_clauses.specs.Marks.{marked, AreMarksOf, AreMarked}
use Rattle.term_clauses.specs.SpokenTerms.{problem_in}
use Rattle.term_clauses.proofs.Growing.{Grows-wider, Grows-trans, Grows-weaker}
use Rattle.term_clauses.proofs.Bases.{flat_marked, marked_sorted}
use Rattle.clausify.proofs.Bases.{alone, AreMarksOfNew, marks_of_new, has_clauses_of, are_new_terms, Says-none}
use Rattle.clausify.proofs.Unmarking.{written_back, left_have}
use Rattle.term_clauses.proofs.Speaking.{formulas_kept}
use Rattle.term_clauses.proofs.Making.{Makes-trans, all_made}
use Rattle.clausify.proofs.roots.stated_of.Goals as goal
use Rattle.clausify.proofs.roots.stated_of.Goals.{After-ordered_of, After-state_marked, After-unmark}

-- the log is in the wider table
still : (c : After-ordered_of) → IsLogOf c.ordered_of.new.table c.args.log.now
still c = c.logs_hold_in_grown_tables.ensures.right c.args.table.now c.ordered_of.new.table c.args.log.now c.requires.log c.ordered_of.ensures.wider.terms

-- and nothing came into it
wide : (c : After-ordered_of) → Grows c.args.roots.now c.args.table.now c.ordered_of.new.table c.args.log.now c.args.log.now
wide c = Grows-wider c.args.roots.now c.args.table.now c.ordered_of.new.table c.args.log.now c.ordered_of.ensures.wider (still c)

pub returns-in_err-ordered-clause-grows : goal.returns-in_err-ordered-clause-grows
returns-in_err-ordered-clause-grows c = wide (goal.at.returns-in_err-ordered-clause-grows c).After-ordered_of

pub returns-in_err-marks-clause-grows : goal.returns-in_err-marks-clause-grows
returns-in_err-marks-clause-grows c = wide (goal.at.returns-in_err-marks-clause-grows c).After-ordered_of

pub assume_each-requires-clause-roots : goal.assume_each-requires-clause-roots
assume_each-requires-clause-roots c = formulas_kept c.args.table.now c.ordered_of.new.table c.ordered_of.ensures.wider c.args.roots.now c.requires.roots

pub assume_each-requires-clause-log : goal.assume_each-requires-clause-log
assume_each-requires-clause-log c = still (goal.at.assume_each-requires-clause-log c).After-ordered_of

-- the marks were those of the subterms of what the search speaks of
marks_were : (c : After-unmark) → AreMarksOf c.ordered_of.new.table c.in_ok-ordered.ordered.items c.in_ok-marks.marks.items
marks_were c = subst (λ (ids : List TermId). AreMarksOf c.ordered_of.new.table ids c.in_ok-marks.marks.items) c.deref.ensures.value c.in_ok-marks.ensures

-- those of known terms went
left : (c : After-unmark) → Unmarks c.in_ok-marks.marks.items c.args.known.now c.unmark.new.marks
left c = subst (λ (ms : List Bool). Unmarks ms c.args.known.now c.unmark.new.marks) c.deref_mut.ensures.value c.unmark.ensures

-- what is left stands in their place
written : (c : After-unmark) → take c.in_ok-marks.marks.len (c.unmark.new.marks ++ drop (length c.unmark.new.marks) c.in_ok-marks.marks.items) ≡ c.unmark.new.marks
written c = written_back c.unmark.new.marks c.in_ok-marks.marks.items c.in_ok-marks.marks.len (sym (c.unmark.ensures.length ∙ c.deref_mut.ensures.len))

-- and so it is those of the new terms
new_marks : (c : After-unmark) → AreMarksOfNew c.ordered_of.new.table (problem_in c.args.table.now c.args.roots.now c.args.interface.now) c.args.known.now c.unmark.new.marks
new_marks c = marks_of_new c.ordered_of.new.table (problem_in c.args.table.now c.args.roots.now c.args.interface.now) c.in_ok-ordered.ordered.items c.args.known.now c.in_ok-marks.marks.items c.unmark.new.marks c.in_ok-ordered.ensures.ordered (marks_were c) (left c)

-- which are well sorted
sorted_marks : (c : After-unmark) → All (IsWellSorted c.ordered_of.new.table.symbols []) (marked c.unmark.new.marks c.ordered_of.new.table.terms)
sorted_marks c =
    let u = c.ordered_of.new.table in
    let marks = c.in_ok-marks.marks.items in
    left_have (IsWellSorted u.symbols []) marks c.unmark.new.marks c.args.known.now u.terms (marks_were c).short (left c)
    (marked_sorted u c.in_ok-ordered.ordered.items marks c.in_ok-ordered.ensures.ordered.formulas (marks_were c))

pub state_marked-requires-clause-short : goal.state_marked-requires-clause-short
state_marked-requires-clause-short c =
    let at = goal.at.state_marked-requires-clause-short c in
    subst (λ (ms : List Bool). length ms ≤ length c.ordered_of.new.table.terms) (sym (c.deref-2.ensures.value ∙ written at.After-unmark)) (new_marks at.After-unmark).short

pub state_marked-requires-clause-sorted : goal.state_marked-requires-clause-sorted
state_marked-requires-clause-sorted c =
    let at = goal.at.state_marked-requires-clause-sorted c in
    let u = c.ordered_of.new.table in
    subst (λ (ms : List Bool). All (IsWellSorted u.symbols []) (marked ms u.terms)) (sym (c.deref-2.ensures.value ∙ written at.After-unmark)) (sorted_marks at.After-unmark)

-- all together
all_grow : (c : After-state_marked) → IsLogOf c.ordered_of.new.table c.args.log.now → Grows c.args.roots.now c.args.table.now c.state_marked.new.table c.args.log.now c.state_marked.new.log
all_grow c right =
    let t = c.args.table.now in
    let u = c.ordered_of.new.table in
    let v = c.state_marked.new.table in
    let roots = c.args.roots.now in
    let a = c.args.log.now in
    let b = c.assume_each.new.log in
    let d = c.state_marked.new.log in
    Grows-trans roots t u v a a d (Grows-wider roots t u a c.ordered_of.ensures.wider right)
    (Grows-trans roots u u v a b d c.assume_each.ensures.grows (Grows-weaker roots u v b d c.state_marked.ensures.grows))

pub returns-in_err-state_marked-clause-grows : goal.returns-in_err-state_marked-clause-grows
returns-in_err-state_marked-clause-grows c =
    let at = goal.at.returns-in_err-state_marked-clause-grows c in
    all_grow at.After-state_marked (still at.After-ordered_of)

pub returns-in_err-state_marked-clause-wide : goal.returns-in_err-state_marked-clause-wide
returns-in_err-state_marked-clause-wide c =
    let at = goal.at.returns-in_err-state_marked-clause-wide c in
    let u = c.ordered_of.new.table in
    let p : Problem = problem_in c.args.table.now c.args.roots.now c.args.interface.now in
    let marks = c.deref-2.result.now in
    let only = subst (λ (ms : List Bool). AreAmong (marked ms u.terms) (whole_terms p)) (sym (c.deref-2.ensures.value ∙ written at.After-unmark)) (new_marks at.After-unmark).only in
    passed_on (IsOverflowAmong (marked marks u.terms)) (IsOverflowAmong (whole_terms p)) c.from_residual-in_err-state_marked.result c.in_err-state_marked.field-0.0 c.from_residual-in_err-state_marked.ensures.1 (among_more (marked marks u.terms) (whole_terms p) only) c.in_err-state_marked.ensures.wide

pub returns-in_err-terms-clause-grows : goal.returns-in_err-terms-clause-grows
returns-in_err-terms-clause-grows c =
    let at = goal.at.returns-in_err-terms-clause-grows c in
    all_grow at.After-state_marked (still at.After-ordered_of)

pub returns-clause-grows : goal.returns-clause-grows
returns-clause-grows c =
    let at = goal.at.returns-clause-grows c in
    all_grow at.After-state_marked (still at.After-ordered_of)

pub returns-clause-clauses : goal.returns-clause-clauses
returns-clause-clauses c =
    let at = goal.at.returns-clause-clauses c in
    let t = c.args.table.now in
    let u = c.ordered_of.new.table in
    let v = c.state_marked.new.table in
    let g = c.state_marked.ensures.grows in
    let log = c.state_marked.new.log in
    let roots = c.args.roots.now in
    let marks = c.unmark.new.marks in
    let ids = c.in_ok-terms.terms.items in
    let steps = c.state_marked.new.steps.items in
    let units = alone (clause_at u roots) in
    let formulas = formulas_kept t u c.ordered_of.ensures.wider roots c.requires.roots in
    let none = Says-none u c.args.log.now c.new-steps.result.items c.new-steps.ensures.items in
    let assumed : StatesClauses u c.assume_each.new.log c.assume_each.new.steps.items units = c.in_ok-assume_each.ensures.tells.says [] none in
    let stated : StatesClauses v log steps (units ++ flat_marked whole_clauses_of marks u.terms) =
    subst (λ (ms : List Bool). StatesClauses v log steps (units ++ flat_marked whole_clauses_of ms u.terms)) (c.deref-2.ensures.value ∙ written at.After-unmark) (c.in_ok-state_marked.ensures.tells.says units assumed) in
    let listed = subst (λ (ms : List Bool). AreMarked ms ids) (c.deref-3.ensures.value ∙ written at.After-unmark) c.in_ok-terms.ensures in
    subst (λ (ss : List StepId). HasClausesOf v log roots ids ss) (sym c.from.ensures)
    (has_clauses_of u v (record { terms = g.table; declared = g.declared }) log roots ids marks steps (new_marks at.After-unmark).short listed (clause_at-kept u v g.table roots (λ k d lt. (formulas k d lt).0)) stated)

pub returns-clause-terms : goal.returns-clause-terms
returns-clause-terms c =
    let at = goal.at.returns-clause-terms c in
    let t = c.args.table.now in
    let u = c.ordered_of.new.table in
    let v = c.state_marked.new.table in
    let g = c.state_marked.ensures.grows in
    let known = c.args.known.now in
    let marks = c.unmark.new.marks in
    let ids = c.in_ok-terms.terms.items in
    let listed = subst (λ (ms : List Bool). AreMarked ms ids) (c.deref-3.ensures.value ∙ written at.After-unmark) c.in_ok-terms.ensures in
    are_new_terms u v (record { terms = g.table; declared = g.declared }) (problem_in t c.args.roots.now c.args.interface.now) known ids marks c.ids_are_unique.ensures (AreIn-kept t u c.ordered_of.ensures.wider.terms known c.requires.known) (new_marks at.After-unmark) (sorted_marks at.After-unmark) listed

pub returns-clause-made : goal.returns-clause-made
returns-clause-made c =
    let old = c.args.log.now in
    let log = c.state_marked.new.log in
    let none = c.new-steps.result.items in
    let some = c.assume_each.new.steps.items in
    let steps = c.state_marked.new.steps.items in
    let made = Makes-trans old c.assume_each.new.log log none some steps c.in_ok-assume_each.ensures.tells.made c.in_ok-state_marked.ensures.tells.made in
    subst (λ (ss : List StepId). AreAllMade old log ss) (sym c.from.ensures) (all_made old log none steps c.new-steps.ensures.items made)
