-- What was marked was moved, and the names say where.
use Rattle.std.proofs.Common.{◌≡◌, List, length, take, sym, ap, ◌∙◌, subst, arith, length-take}
use Rattle.std.proofs.lemmas.List.{length-map, take-map}
use Rattle.proof_log.specs.declared.premises.StepId.{StepId}
use Rattle.proof_log.specs.Logs.{Logged}
use Rattle.proof_log.specs.Entries.{logged_of, log_of}
use Rattle.proof_log.specs.Keeping.{IsKeeping}
use Rattle.proof_log.specs.Moving.{Marked, with_marks, IsMoving}
use Rattle.proof_log.proofs.Staying.{keeping}
use Rattle.proof_log.proofs.keeping.keep_derivations.Goals as goal

pub returns-clause-keeps : goal.returns-clause-keeps
returns-clause-keeps c =
    let es = c.args.entries.now.items in
    let names = c.args.names.now in
    let n : length (log_of es) ≡ length es = length-map es logged_of in
    let named = c.mark_names.new.marks.items in
    let old : Marked = with_marks (log_of es) c.mark_derivations.new.marks.items in
    let m = c.move_all-to in
    let now : Marked = with_marks (log_of m.new.entries.items) m.new.marks.items in
    let moving : IsMoving c.args.from old (length (log_of es)) m.result now = subst (λ k. IsMoving c.args.from old k m.result now) (sym n) m.ensures in
    let new : log_of c.truncate.new.self.items ≡ take m.result now.log = ap log_of c.truncate.ensures.items ∙ sym (take-map logged_of m.result m.new.entries.items) in
    subst (λ (l : List Logged). IsKeeping (log_of es) c.args.from names l c.rename_all.new.steps) (sym new)
    (subst (λ (l : List StepId). IsKeeping (log_of es) c.args.from names (take m.result now.log) l) (sym c.rename_all.ensures)
    (keeping c.args.from old names named m.result now c.requires.earlier (omega (arith, c.mark_names.ensures.size, c.requires.size, n)) c.requires.names
    (λ s up low h. c.mark_names.ensures.marked s up (omega (arith, low, n, c.requires.size)) h)
    c.mark_names.ensures.each
    c.mark_derivations.ensures.kept c.mark_derivations.ensures.comes c.mark_derivations.ensures.closed moving))

pub returns-clause-size : goal.returns-clause-size
returns-clause-size c =
    let m = c.move_all-to in
    omega (
      arith,
      ap length c.truncate.ensures.items,
      ap length c.truncate-2.ensures.items,
      length-take m.result m.new.entries.items,
      length-take m.result m.new.marks.items,
      m.ensures.size_now,
      m.ensures.size_noted,
      length-map m.new.entries.items logged_of,
      length-map c.args.entries.now.items logged_of,
      c.mark_derivations.ensures.size,
      c.mark_names.ensures.size,
      c.requires.size,
    )

pub returns-clause-fewer : goal.returns-clause-fewer
returns-clause-fewer c =
    let m = c.move_all-to in
    omega (arith, ap length c.truncate.ensures.items, length-take m.result m.new.entries.items, m.ensures.size_now, length-map m.new.entries.items logged_of, length-map c.args.entries.now.items logged_of)
