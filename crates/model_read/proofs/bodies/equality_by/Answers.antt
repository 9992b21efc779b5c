-- The two sides of an equality.
use Rattle.std.proofs.Common.{sym, subst}
use Rattle.spec_text.specs.Bytes.{Name}
use Rattle.spec_sorts.specs.Terms.{Sort}
use Rattle.spec_sorts.specs.Values.{Value}
use Rattle.spec_model_files.specs.Faults.{ReadModel}
use Rattle.term_core.specs.Symbols.{sort_meant}
use Rattle.term_walks.specs.Valuations.{value_meant}
use Rattle.model_read.specs.Shapes.{pair_view}
use Rattle.model_read.specs.Values.{GivesAs}
use Rattle.model_read.proofs.BodyTexts.{equality_named, equality_unnamed}
use Rattle.model_read.proofs.bodies.equality_by.Goals as goal

pub returns-in-Ok-clause-reads : goal.returns-in-Ok-clause-reads
returns-in-Ok-clause-reads c g m =
    let p : Name × Sort = (c.args.name.now, sort_meant c.args.table.now.sorts c.args.sort) in
    subst (λ (r : ReadModel Value). GivesAs (value_meant c.args.table.now.sorts) c.value.result r) (sym (equality_named g p (pair_view c.args.sides) (sym c.in-Ok.ensures))) (c.value.ensures.reads g m)

pub returns-in-Err-clause-reads : goal.returns-in-Err-clause-reads
returns-in-Err-clause-reads c g m = equality_unnamed g (c.args.name.now, sort_meant c.args.table.now.sorts c.args.sort) (pair_view c.args.sides) _ (sym c.in-Err.ensures)
