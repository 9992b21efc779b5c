-- Terms that are too many.
use Rattle.std.proofs.Common.{◌<◌, ◌*◌, ◌-◌, sym, ◌∙◌, subst}
use Rattle.sort_check.proofs.distinct.are_too_many.Goals as goal

pub returns-in-Ok-clause-alike : goal.returns-in-Ok-clause-alike
returns-in-Ok-clause-alike c = λ yes. sym c.have_one_sort.ensures ∙ c.if-not-have_one_sort.false

pub returns-in-Ok-clause-many : goal.returns-in-Ok-clause-many
returns-in-Ok-clause-many c = λ yes. subst (λ n. c.args.limit < n * n - n) c.in-Ok.ensures (c.pass.ensures yes)
