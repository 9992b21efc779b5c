-- Where memory runs out before, nothing came.
use Rattle.std.proofs.Common.{refl}
use Rattle.proof_log.specs.Theories.{terms_watched}
use Rattle.simplex.proofs.Hinting.{nothing_came}
use Rattle.simplex.proofs.simplex.Simplex.implied.Goals as goal

pub returns-in_err-rows-clause-derives : goal.returns-in_err-rows-clause-derives
returns-in_err-rows-clause-derives c =
    let t = c.args.table.now in
    nothing_came (terms_watched t c.args.self.now.theory) t t c.args.log.now c.args.log.now c.requires.log refl refl

pub returns-in_err-hints-clause-derives : goal.returns-in_err-hints-clause-derives
returns-in_err-hints-clause-derives c =
    let t = c.args.table.now in
    nothing_came (terms_watched t c.args.self.now.theory) t t c.args.log.now c.args.log.now c.requires.log refl refl
