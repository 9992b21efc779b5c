use Rattle.std.proofs.Common.{arith, ◌≢◌, length, ap, sym}
use Rattle.std.proofs.lemmas.Bool.Decides.{nat_tests}
use Rattle.std.proofs.lemmas.List.{take_rest}
use Rattle.smt_sexpr.proofs.Flat.{split_is, split_none, first_alone}
use Rattle.smt_sexpr.proofs.items.split.Goals as goal

pub returns-then-is_empty-clause-first : goal.returns-then-is_empty-clause-first
returns-then-is_empty-clause-first c = split_none c.args.trees.text.now c.args.trees.items.now (grind (arith, nat_tests, c.if-is_empty.ensures))

pub returns-clause-first : goal.returns-clause-first
returns-clause-first c =
    let filled : 0 ≢ length c.args.trees.items.now = grind (arith, nat_tests, c.if-is_empty.ensures) in
    rw (c.first_len-n.ensures.count, take_rest) (split_is c.args.trees.text.now c.args.trees.items.now (λ e. absurd (filled (sym (ap length e)))))

pub returns-clause-alone : goal.returns-clause-alone
returns-clause-alone c =
    let filled : 0 ≢ length c.args.trees.items.now = grind (arith, nat_tests, c.if-is_empty.ensures) in
    rw c.first_len-n.ensures.count (first_alone c.args.trees.text.now c.args.trees.items.now (λ e. absurd (filled (sym (ap length e)))))
