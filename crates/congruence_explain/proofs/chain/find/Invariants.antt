-- Of the clauses after this one, more are left.
use Rattle.std.proofs.Common.{List, drop, Contains}
use Rattle.term_core.specs.declared.ids.Lit.{Lit}
use Rattle.clause_literals.specs.Literals.{lists}
use Rattle.clause_literals.specs.Statuses.{IsUnresolved}
use Rattle.congruence_explain.proofs.chain.find.Given as goal

abbrev pub invariant-waiting : goal.invariant-waiting
invariant-waiting l = (c : List Lit) → Contains (drop l.at (lists l.waiting)) c → IsUnresolved l.held c
