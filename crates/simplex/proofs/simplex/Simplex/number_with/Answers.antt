-- The term has a value in the table, or its variable's number.
use Rattle.std.proofs.Common.{IfOk, IfErr, subst}
use Rattle.ratio128.specs.Meant.{overflow}
use Rattle.tableau.specs.Numbers.{number_of}
use Rattle.simplex.specs.Numbers.{IsNumberWith, OverflowsNumberWith}
use Rattle.simplex.proofs.simplex.Simplex.number_with.Goals as goal

pub returns-in-None-clause-number : goal.returns-in-None-clause-number
returns-in-None-clause-number c =
    subst (λ o. IfOk c.number_at.result (λ q. IsNumberWith (number_of c.args.e) c.args.self.now c.args.id o (number_of q))) c.in-None.ensures.value c.number_at.ensures.number

pub returns-in-None-clause-wide : goal.returns-in-None-clause-wide
returns-in-None-clause-wide c =
    subst (λ o. IfErr c.number_at.result (λ w. OverflowsNumberWith (number_of c.args.e) c.args.self.now o (overflow w))) c.in-None.ensures.value c.number_at.ensures.wide

pub returns-in-Some-clause-number : goal.returns-in-Some-clause-number
returns-in-Some-clause-number c =
    subst (λ o. IfOk c.value_at.result (λ q. IsNumberWith (number_of c.args.e) c.args.self.now c.args.id o (number_of q))) c.in-Some.ensures.value c.value_at.ensures.exact

pub returns-in-Some-clause-wide : goal.returns-in-Some-clause-wide
returns-in-Some-clause-wide c =
    subst (λ o. IfErr c.value_at.result (λ w. OverflowsNumberWith (number_of c.args.e) c.args.self.now o (overflow w))) c.in-Some.ensures.value c.value_at.ensures.wide
