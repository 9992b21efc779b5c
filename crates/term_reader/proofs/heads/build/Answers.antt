use Rattle.std.proofs.Common.{subst}
use Rattle.term_reader.specs.Heads.{TakesArguments}
use Rattle.term_reader.proofs.Taken.{xor_folds, implies_folds, equal_alike, distinct_alike, minus_numbers, divide_folds, less_alike, at_most_alike, greater_alike, at_least_alike}
use Rattle.term_reader.proofs.heads.build.Goals as goal

pub put_left-requires-clause-folds : goal.put_left-requires-clause-folds
put_left-requires-clause-folds c = xor_folds c.args.table.now c.args.ids.now (subst (λ h. TakesArguments c.args.table.now h c.args.ids.now) c.in-Xor.is c.requires)

pub put_right-requires-clause-folds : goal.put_right-requires-clause-folds
put_right-requires-clause-folds c = implies_folds c.args.table.now c.args.ids.now (subst (λ h. TakesArguments c.args.table.now h c.args.ids.now) c.in-Implies.is c.requires)

pub put_neighbours-requires-clause-alike : goal.put_neighbours-requires-clause-alike
put_neighbours-requires-clause-alike c = equal_alike c.args.table.now c.args.ids.now (subst (λ h. TakesArguments c.args.table.now h c.args.ids.now) c.in-Equal.is c.requires)

pub put_distinct-requires-clause-alike : goal.put_distinct-requires-clause-alike
put_distinct-requires-clause-alike c = distinct_alike c.args.table.now c.args.ids.now (subst (λ h. TakesArguments c.args.table.now h c.args.ids.now) c.in-Distinct.is c.requires)

pub put_differences-requires-clause-numbers : goal.put_differences-requires-clause-numbers
put_differences-requires-clause-numbers c = minus_numbers c.args.table.now c.args.ids.now (subst (λ h. TakesArguments c.args.table.now h c.args.ids.now) c.in-Minus.is c.requires)

pub put_left-requires-in-Divide-clause-folds : goal.put_left-requires-in-Divide-clause-folds
put_left-requires-in-Divide-clause-folds c = divide_folds c.args.table.now c.args.ids.now (subst (λ h. TakesArguments c.args.table.now h c.args.ids.now) c.in-Divide.is c.requires)

pub put_neighbours-requires-in-Less-clause-alike : goal.put_neighbours-requires-in-Less-clause-alike
put_neighbours-requires-in-Less-clause-alike c = less_alike c.args.table.now c.args.ids.now (subst (λ h. TakesArguments c.args.table.now h c.args.ids.now) c.in-Less.is c.requires)

pub put_neighbours-requires-in-AtMost-clause-alike : goal.put_neighbours-requires-in-AtMost-clause-alike
put_neighbours-requires-in-AtMost-clause-alike c = at_most_alike c.args.table.now c.args.ids.now (subst (λ h. TakesArguments c.args.table.now h c.args.ids.now) c.in-AtMost.is c.requires)

pub put_neighbours-requires-in-Greater-clause-alike : goal.put_neighbours-requires-in-Greater-clause-alike
put_neighbours-requires-in-Greater-clause-alike c = greater_alike c.args.table.now c.args.ids.now (subst (λ h. TakesArguments c.args.table.now h c.args.ids.now) c.in-Greater.is c.requires)

pub put_neighbours-requires-in-AtLeast-clause-alike : goal.put_neighbours-requires-in-AtLeast-clause-alike
put_neighbours-requires-in-AtLeast-clause-alike c = at_least_alike c.args.table.now c.args.ids.now (subst (λ h. TakesArguments c.args.table.now h c.args.ids.now) c.in-AtLeast.is c.requires)
