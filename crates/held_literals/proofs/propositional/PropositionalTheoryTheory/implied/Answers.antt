-- Nothing came.
use Rattle.std.proofs.Common.{refl, sym, subst, arith}
use Rattle.proof_log.specs.Logs.{AreStepsOf}
use Rattle.proof_log.specs.Theories.{Derived, terms_watched}
use Rattle.proof_log.proofs.Composed.{lemmas_none}
use Rattle.held_literals.proofs.propositional.PropositionalTheoryTheory.implied.Goals as goal

pub returns : goal.returns
returns c =
    let now : Derived = record { table = c.args.table.now; log = c.args.log.now } in (
      record {
        with = tt;
        same = refl;
        derives = lemmas_none (terms_watched now.table c.args.self.now) now c.requires.log;
        came = λ ts n es came. came;
        agrees = λ ts ls agrees. agrees;
      },
      subst (AreStepsOf now.log) (sym c.new.ensures.items) (λ k d lt. absurd (omega (arith, lt))),
    )
