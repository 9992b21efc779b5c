-- Without atoms nothing comes.
use Rattle.spec_causes.proofs.Silent.{reaches_nothing, nothing_overflows, stopped_on_nothing}
use Rattle.spec_causes.proofs.laws.nothing_comes_of_no_numbers.Goals as goal

pub returns-clause-reached : goal.returns-clause-reached
returns-clause-reached c = λ ts silent n es s h. (reaches_nothing ts silent n es s h).1

pub returns-clause-may_overflow : goal.returns-clause-may_overflow
returns-clause-may_overflow c = λ ts silent unshared n es s h o w. nothing_overflows ts silent unshared s (reaches_nothing ts silent n es s h).0 o w

pub returns-clause-stopped : goal.returns-clause-stopped
returns-clause-stopped c = λ ts silent n es s h.
    let at = stopped_on_nothing ts silent n es s h in
    (at.1, λ unshared o w. nothing_overflows ts silent unshared s at.0 o w)
