-- One clause after the other.
use Rattle.std.proofs.Common.{◌≡◌, ◌<◌, ◌+◌, suc, length, All, sym, subst, arith}
use Rattle.std.proofs.lemmas.List.{length-map}
use Rattle.proof_log.specs.declared.premises.StepId.{StepId}
use Rattle.proof_log.specs.Logs.{premises_in}
use Rattle.proof_log.specs.Keeping.{step_of}
use Rattle.proof_log.specs.Entries.{logged_of, log_of}
use Rattle.proof_log.specs.Moving.{Marked, with_marks, IsMoving}
use Rattle.proof_log.proofs.Moving.{moving_on, moving_begun}
use Rattle.proof_log.proofs.keeping.move_all.Goals as goal

pub clauses-init : goal.clauses-init
clauses-init c =
    let es = c.args.entries.now.items in
    record { moving = moving_begun c.args.from (with_marks (log_of es) c.args.marks.now.items) c.requires.earlier (omega (arith, c.requires.from, length-map es logged_of)); since = omega arith }

pub move_one-to-requires-clause-premises : goal.move_one-to-requires-clause-premises
move_one-to-requires-clause-premises c =
    let es = c.args.entries.now.items in
    let m = c.clauses.invariant.moving in
    let k = c.clauses.k in
    let lt : k < length (log_of es) = omega (arith, c.clauses-test.true, c.len-k-end.ensures, c.args.entries.now.ok.0, length-map es logged_of) in
    subst (λ l. All (λ (p : StepId). p.0 < length c.clauses.marks.items) (premises_in l)) (sym (m.rest (step_of k) (omega arith)))
    (λ j d low. omega (arith, c.requires.earlier k lt j d low, lt, m.size_noted, c.requires.size, length-map es logged_of))

pub clauses-preserved : goal.clauses-preserved
clauses-preserved c =
    let es = c.args.entries.now.items in
    let old : Marked = with_marks (log_of es) c.args.marks.now.items in
    let now : Marked = with_marks (log_of c.clauses.entries.items) c.clauses.marks.items in
    let next : Marked = with_marks (log_of c.move_one-to.new.entries.items) c.move_one-to.new.marks.items in
    let i = c.clauses.invariant in
    let k = c.clauses.k in
    let up : suc k ≡ k + 1 = omega arith in
    let lt : k < length (log_of es) = omega (arith, c.clauses-test.true, c.len-k-end.ensures, c.args.entries.now.ok.0, length-map es logged_of) in
    let sized : length c.args.marks.now.items ≡ length (log_of es) = omega (arith, c.requires.size, length-map es logged_of) in
    record {
      moving = subst (λ n. IsMoving c.args.from old n c.move_one-to.result next) up
          (moving_on c.args.from old k c.clauses.to now next c.move_one-to.result c.requires.earlier c.requires.closed i.since lt sized i.moving c.move_one-to.ensures);
      since = omega (arith, i.since);
    }
