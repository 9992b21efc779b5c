-- The way back to a mark.
use Rattle.std.proofs.Common.{◌≡◌, ◌<◌, ◌≤◌, ◌-◌, ℕ, length, take, get_or, refl, ap, sym, subst, ◌∙◌, arith}
use Rattle.std.proofs.Math.Seq.{take-length}
use Rattle.proof_log.specs.Theories.{TheoryView, no_mark, at_mark}
use Rattle.simplex_check.proofs.KeptFirst.{keeps_back}
use Rattle.simplex.specs.declared.starts.Start.{Start}
use Rattle.simplex.specs.Views.{SimplexView, SimplexFits, IsOf, start_of, slack_count}
use Rattle.simplex.proofs.Fitting.{start_there, within, fits_back, of_fewer, gone_is, as_many}
use Rattle.simplex.proofs.simplex.Simplex.back.Goals as goal

pub back-requires : goal.back-requires
back-requires c =
    let s = c.self.inside in
    let v : SimplexView = record {
      theory = s.literals;
      atoms = s.atoms;
      assignment = s.assignment;
      bounds = s.bounds;
      starts = s.starts.items;
    } in
    let f : SimplexFits v = c.self.invariant.0 in
    let m = c.marks_are_prefixes.ensures in
    let there : c.args.marks ≤ length s.literals.marks = subst (λ (x : SimplexView). c.args.marks ≤ length x.theory.marks) (sym c.self.view_is) c.requires.there in
    let kept : ℕ = c.len.result - c.args.marks in
    let count = as_many v f in
    let lt : kept < length s.literals.marks = omega (arith, there, c.if-marks-gt0.true, c.len.ensures, count) in
    let is : c.index-start.result.now ≡ start_of s.atoms.slack_list s.literals (get_or s.literals.marks kept no_mark) =
    c.index-start.ensures ∙ start_there v f m kept lt c.index-start.result.now in
    subst (λ (x : Start). x.bounds ≤ length s.bounds.held) (sym is) (within v f m kept lt)

pub invariant_of-self : goal.invariant_of-self
invariant_of-self c =
    let s = c.self.inside in
    let v : SimplexView = record {
      theory = s.literals;
      atoms = s.atoms;
      assignment = s.assignment;
      bounds = s.bounds;
      starts = s.starts.items;
    } in
    let f : SimplexFits v = c.self.invariant.0 in
    let m = c.marks_are_prefixes.ensures in
    let there : c.args.marks ≤ length s.literals.marks = subst (λ (x : SimplexView). c.args.marks ≤ length x.theory.marks) (sym c.self.view_is) c.requires.there in
    let kept : ℕ = c.len.result - c.args.marks in
    let count = as_many v f in
    let lt : kept < length s.literals.marks = omega (arith, there, c.if-marks-gt0.true, c.len.ensures, count) in
    let is : c.index-start.result.now ≡ start_of s.atoms.slack_list s.literals (get_or s.literals.marks kept no_mark) =
    c.index-start.ensures ∙ start_there v f m kept lt c.index-start.result.now in
    let gone : c.back-then-marks-gt0.new.self ≡ at_mark s.literals kept =
    c.back-then-marks-gt0.ensures ∙ gone_is s.literals c.args.marks kept (omega (arith, c.if-marks-gt0.true)) (omega (arith, c.len.ensures, count)) in (
      subst (λ (x : SimplexView). SimplexFits x)
          (λ i. record { theory = sym gone i; atoms = s.atoms; assignment = s.assignment; bounds = c.back.new.self; starts = sym c.truncate.ensures.items i })
          (fits_back v f m kept lt c.back.new.self (c.back.ensures.held ∙ ap (λ (x : Start). take x.bounds s.bounds.held) is) c.back.ensures.variables c.back.ensures.room),
      ap (λ (x : Start). x.slack_list) is ∙ ap (λ (x : TheoryView). slack_count s.atoms.slack_list x.watched) (sym gone),
      keeps_back s.kept c.index-start.result.now.bounds c.min-self-inside.result s.bounds.held c.back.new.self.held s.assignment.values c.back.ensures.held
          (subst (λ (x : Start). x.bounds ≤ length s.bounds.held) (sym is) (within v f m kept lt)) (omega (arith, c.min-self-inside.ensures)) (omega (arith, c.min-self-inside.ensures)) c.self.invariant.2,
    )

pub returns-then-marks-gt0-clause-with : goal.returns-then-marks-gt0-clause-with
returns-then-marks-gt0-clause-with c t =
    let s = c.self.inside in
    let v : SimplexView = record {
      theory = s.literals;
      atoms = s.atoms;
      assignment = s.assignment;
      bounds = s.bounds;
      starts = s.starts.items;
    } in
    let f : SimplexFits v = c.self.invariant.0 in
    let m = c.marks_are_prefixes.ensures in
    let there : c.args.marks ≤ length s.literals.marks = subst (λ (x : SimplexView). c.args.marks ≤ length x.theory.marks) (sym c.self.view_is) c.requires.there in
    let kept : ℕ = c.len.result - c.args.marks in
    let count = as_many v f in
    let lt : kept < length s.literals.marks = omega (arith, there, c.if-marks-gt0.true, c.len.ensures, count) in
    let is : c.index-start.result.now ≡ start_of s.atoms.slack_list s.literals (get_or s.literals.marks kept no_mark) =
    c.index-start.ensures ∙ start_there v f m kept lt c.index-start.result.now in
    let gone : c.back-then-marks-gt0.new.self ≡ at_mark s.literals kept =
    c.back-then-marks-gt0.ensures ∙ gone_is s.literals c.args.marks kept (omega (arith, c.if-marks-gt0.true)) (omega (arith, c.len.ensures, count)) in
    let w : SimplexView = record { theory = c.back-then-marks-gt0.new.self; atoms = s.atoms; assignment = s.assignment; bounds = c.back.new.self; starts = c.truncate.new.self.items } in
    subst (λ (x : SimplexView). IsOf x t → IsOf w t) c.self.view_is
    (of_fewer t v w refl refl c.back.ensures.variables (get_or s.literals.marks kept no_mark).watched (ap (λ (x : TheoryView). x.watched) gone))

pub returns-then-marks-gt0-clause-bounds : goal.returns-then-marks-gt0-clause-bounds
returns-then-marks-gt0-clause-bounds c = (c.index-start.result.now.bounds, c.back.ensures.held ∙ ap (λ (x : SimplexView). take c.index-start.result.now.bounds x.bounds.held) c.self.view_is)

pub returns-else-marks-gt0-clause-bounds : goal.returns-else-marks-gt0-clause-bounds
returns-else-marks-gt0-clause-bounds c = (length c.args.self.now.bounds.held, sym (take-length c.args.self.now.bounds.held))
