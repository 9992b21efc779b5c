-- The literals up to here came up.
use Rattle.std.proofs.Common.{◌≡◌, ◌+◌, ◌≤◌, ℕ, length, take, Contains}
use Rattle.spec_sorts.specs.Literals.{literals_of}
use Rattle.term_core.specs.declared.ids.Lit.{Lit}
use Rattle.term_core.specs.Tables.{IsIn, clause_at, literal_at}
use Rattle.conflict_learn.specs.Analyses.{MarksVariables, IsBefore, AreSorted}
use Rattle.conflict_learn.proofs.meeting.meet_all.Given as goal

abbrev pub invariant-loop-id : goal.invariant-loop-id
invariant-loop-id l = record {
  size : length l.seen.marks.items ≡ l.trail.vars;
  bound : l.seen.many ≤ l.fn.seen.many + l.id-index;
  marks : MarksVariables l.table (literals_of (clause_at l.table (take l.id-index l.clause))) l.fn.seen.marks.items l.seen.marks.items;
  sorts : (k : ℕ) → ((m : Lit) → IsIn l.table m.term → Contains (literals_of (clause_at l.table l.clause)) (literal_at l.table m) → IsBefore l.trail k l.fn.seen.marks.items m) → AreSorted l.trail l.level k l.fn.seen → AreSorted l.trail l.level k l.seen;
}
