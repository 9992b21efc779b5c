-- The uses are handed back as they were counted.
use Rattle.std.proofs.Common.{sym, ◌∙◌, subst}
use Rattle.alethe_writer.specs.Uses.{AreUses}
use Rattle.alethe_writer.proofs.Closing.{written_back}
use Rattle.alethe_writer.proofs.uses.uses_of.Goals as goal

pub returns : goal.returns
returns c = subst (AreUses c.args.table.now c.args.log.now c.args.support.now c.args.printed.now) (sym (written_back c.count_uses.new.uses c.in_ok-uses.uses.items c.in_ok-uses.uses.len (sym (c.count_uses.ensures.as_many ∙ c.deref_mut.ensures.len)))) c.count_uses.ensures.uses
