-- The marks are of the terms that are used once.
use Rattle.std.proofs.Common.{List, subst, ap, ◌∙◌, length}
use Rattle.alethe_writer.specs.declared.uses.Uses.{Uses}
use Rattle.alethe_writer.specs.Uses.{AreUsedOnce}
use Rattle.alethe_writer.proofs.Counts.{single_are}
use Rattle.alethe_writer.proofs.uses.single_of.Goals as goal

pub mark_single-requires-clause-as_many_uses : goal.mark_single-requires-clause-as_many_uses
mark_single-requires-clause-as_many_uses c = ap length c.deref.ensures.value ∙ c.in_ok-uses.ensures.as_many

pub returns : goal.returns
returns c = single_are c.args.table.now c.args.log.now c.args.support.now c.args.printed.now c.in_ok-single.single.items c.in_ok-uses.uses.items c.in_ok-uses.ensures (subst (λ (us : List Uses). AreUsedOnce c.args.table.now c.args.printed.now us c.in_ok-single.single.items) c.deref.ensures.value c.in_ok-single.ensures)
