-- One that is live is among them.
use Rattle.std.proofs.Common.{◌∷◌, ◌++◌, [], sym, ap, ◌∙◌}
use Rattle.spec_arithmetic.specs.Signs.{is_zero}
use Rattle.ratio128.specs.declared.ratio.Ratio.{Ratio}
use Rattle.ratio128.specs.Meant.{fraction}
use Rattle.term_core.specs.declared.ids.TermId.{TermId}
use Rattle.linear_form.specs.Entries.{live}
use Rattle.linear_form.proofs.Indexes.{live_none}
use Rattle.linear_form.proofs.Steps.{live_taken}
use Rattle.linear_form.proofs.FormSteps.{some_live}
use Rattle.linear_form.proofs.form.are_dead.Goals as goal

pub returns-then-not-is_zero : goal.returns-then-not-is_zero
returns-then-not-is_zero c e =
    some_live c.args.entries.now c.entries.at c.index-entries-at.result c.entries-test.true c.index-entries-at.is
    (ap (λ (r : TermId × Ratio). is_zero (fraction r.1)) c.index-entries-at.is ∙ sym c.if-not-is_zero.ensures) e

pub entries-preserved : goal.entries-preserved
entries-preserved c =
    let p = c.index-entries-at.result in
    record {
      dead = live_taken c.args.entries.now c.entries.at p c.entries-test.true c.index-entries-at.is ∙ ap (λ l. l ++ live (p ∷ [])) c.entries.invariant.dead
          ∙ live_none p.0 p.1 (ap (λ (r : TermId × Ratio). is_zero (fraction r.1)) c.index-entries-at.is ∙ sym c.if-not-is_zero.ensures);
    }
