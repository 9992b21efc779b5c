use Rattle.std.proofs.Common.{inl, inr, sym, ap, ◌∙◌}
use Rattle.simplex_check.specs.Suspects.{is_among}
use Rattle.simplex_check.proofs.Suspecting.{among_kept, among_added, among_only}
use Rattle.simplex_check.proofs.suspects.Suspects.add.Goals as goal

pub returns-in_err-insert-clause-kept : goal.returns-in_err-insert-clause-kept
returns-in_err-insert-clause-kept c = λ z m. ap (is_among z) c.in_err-insert.ensures.err ∙ ap (λ ys. is_among z ys) c.self.view_is ∙ m

pub returns-clause-kept : goal.returns-clause-kept
returns-clause-kept c = λ z m. ap (is_among z) c.in_ok-insert.ensures.keys ∙ among_kept c.self.inside.variables.keys c.args.y z (ap (λ ys. is_among z ys) c.self.view_is ∙ m)

pub returns-clause-added : goal.returns-clause-added
returns-clause-added c = ap (is_among c.args.y) c.in_ok-insert.ensures.keys ∙ among_added c.self.inside.variables.keys c.args.y

pub returns-in_err-insert-clause-only : goal.returns-in_err-insert-clause-only
returns-in_err-insert-clause-only c = λ z m. inl (sym (ap (is_among z) c.in_err-insert.ensures.err ∙ ap (λ ys. is_among z ys) c.self.view_is) ∙ m)

pub returns-clause-only : goal.returns-clause-only
returns-clause-only c = λ z m. elim (among_only c.self.inside.variables.keys c.args.y z (sym (ap (is_among z) c.in_ok-insert.ensures.keys) ∙ m)) [
  | inl h ↦ inl (sym (ap (λ ys. is_among z ys) c.self.view_is) ∙ h)
  | inr e ↦ inr e
]
