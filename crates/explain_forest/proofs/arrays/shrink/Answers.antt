-- The oldest terms are as they were.
use Rattle.std.proofs.Common.{take, sym, subst}
use Rattle.explain_forest.specs.Kept.{ArraysShow}
use Rattle.explain_forest.proofs.Showing.{shows-fewer}
use Rattle.explain_forest.proofs.arrays.shrink.Goals as goal

pub returns-clause-shows : goal.returns-clause-shows
returns-clause-shows c = λ edges apart s.
    subst (λ ps. ArraysShow ps c.truncate-2.new.self.items edges) (sym c.truncate.ensures.items) (subst (λ ss. ArraysShow (take c.args.terms c.args.parents.now.items) ss edges) (sym c.truncate-2.ensures.items)
    (shows-fewer c.args.parents.now.items c.args.stamps.now.items edges c.args.terms c.requires apart s))
