-- The shelf and the sink are known.
use Rattle.std.proofs.Common.{refl, subst}
use Rattle.world_io.specs.Memory.{text_named, seen_sink}
use Rattle.smt_top.specs.Arguments.{asked}
use Rattle.smt_top.specs.RunMeans.{RunMeans}
use Rattle.smt_top.proofs.InMemory.{ends_in_memory, fault_counted}
use Rattle.smt_top.proofs.in_memory.run_in_memory.Goals as goal

pub returns-clause-ends : goal.returns-clause-ends
returns-clause-ends c = ends_in_memory c.args.shelf.now.texts c.args.out.now c.run.new.out c.run.result (asked c.args.arguments.now) c.run.ensures.ends (c.run.ensures.found (λ s. refl))

pub returns-clause-write_fault : goal.returns-clause-write_fault
returns-clause-write_fault c = λ e.
    fault_counted (asked c.args.arguments.now) (text_named c.args.shelf.now.texts) (seen_sink c.args.out.now) (seen_sink c.run.new.out)
    (subst (λ s. RunMeans s (asked c.args.arguments.now) (text_named c.args.shelf.now.texts) (seen_sink c.args.out.now) (seen_sink c.run.new.out)) e c.run.ensures.ends)
