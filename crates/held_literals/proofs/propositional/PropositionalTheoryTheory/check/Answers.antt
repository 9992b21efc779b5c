-- Nothing came.
use Rattle.std.proofs.Common.{refl, rules}
use Rattle.proof_log.specs.Theories.{Derived, terms_watched}
use Rattle.proof_log.proofs.Composed.{lemmas_none}
use Rattle.held_literals.proofs.propositional.PropositionalTheoryTheory.check.Goals as goal

pub returns : goal.returns
returns c =
    let now : Derived = record { table = c.args.table.now; log = c.args.log.now } in
    record {
      with = tt;
      same = refl;
      budget = search rules;
      checks = (tt, lemmas_none (terms_watched now.table c.args.self.now) now c.requires.log);
      came = λ ts n h. h;
      stops = tt;
    }
