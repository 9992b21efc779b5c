-- One clause more is marked, or is no assume that is printed.
use Rattle.std.proofs.Common.{◌≡◌, ◌<◌, ◌+◌, ◌-◌, length, sym, subst, arith}
use Rattle.spec_sorts.specs.Subterms.{has_term}
use Rattle.alethe_writer.specs.Assumes.{SaysWhether}
use Rattle.alethe_writer.proofs.Assuming.{From, marked_from, from_end, named_inside}
use Rattle.alethe_writer.proofs.assumes.mark_assumed.Goals as goal

pub clauses-init : goal.clauses-init
clauses-init c = record {
  within = omega (arith, c.steps_len-number.ensures);
  so_far = subst (λ ts. SaysWhether c.args.table.now (has_term ts) c.args.marks.now) (sym (from_end c.args.table.now c.args.log.now c.args.plan.now.inferences _ (omega (arith, c.steps_len-number.ensures)))) c.requires.none;
}

pub clauses-preserved : goal.clauses-preserved
clauses-preserved c =
    let t = c.args.table.now in
    let log = c.args.log.now in
    let numbers = c.args.plan.now.inferences in
    let n = c.clauses.number - 1 in
    let next : c.clauses.number ≡ n + 1 = omega (arith, c.clauses-test.true) in
    let low : n < length numbers = omega (arith, c.clauses-test.true, c.clauses.invariant.within) in
    let there : n < length log = omega (arith, low, c.requires.fits.inferences) in
    record {
      within = omega (arith, c.clauses.invariant.within);
      so_far = marked_from t c.ids_are_unique.ensures log numbers n c.is_printed_assume-printed.result c.clauses.marks c.mark_clause.new.marks (named_inside t log c.requires.log n there) there low c.is_printed_assume-printed.ensures c.mark_clause.ensures
          (subst (λ k. SaysWhether t (has_term (From t log numbers k)) c.clauses.marks) next c.clauses.invariant.so_far);
    }

pub returns : goal.returns
returns c =
    let t = c.args.table.now in
    let end : c.clauses.number ≡ 0 = omega (arith, c.clauses-test.false) in
    subst (λ k. SaysWhether t (has_term (From t c.args.log.now c.args.plan.now.inferences k)) c.clauses.marks) end c.clauses.invariant.so_far
