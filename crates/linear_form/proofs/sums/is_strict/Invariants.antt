-- All parts are strict where those are that are left.
use Rattle.std.proofs.Common.{◌≡◌, drop}
use Rattle.term_core.specs.Tables.{TableView}
use Rattle.spec_arithmetic.specs.Contradictions.{is_strict}
use Rattle.linear_form.specs.Sums.{parts_meant}
use Rattle.linear_form.proofs.sums.is_strict.Given as goal

abbrev pub invariant-loop-part : goal.invariant-loop-part
invariant-loop-part l = record { same : (t : TableView) → is_strict (parts_meant t l.parts) ≡ is_strict (parts_meant t (drop l.part-index l.parts)) }
