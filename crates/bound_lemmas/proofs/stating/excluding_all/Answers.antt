-- Where there is no step nothing came.
use Rattle.bound_lemmas.proofs.Reasons.{nothing_came, wide_is_no_memory, shape_is_no_memory, no_contradiction_is_no_memory}
use Rattle.bound_lemmas.proofs.stating.excluding_all.Goals as goal

pub returns-in-Err-Wide-clause-derives : goal.returns-in-Err-Wide-clause-derives
returns-in-Err-Wide-clause-derives g c =
    nothing_came g.terms (record { table = c.args.table.now; log = c.args.log.now }) (record { table = c.refute.new.table; log = c.refute.new.log })
    c.requires.0 c.in-Err-Wide.ensures.same.0 c.in-Err-Wide.ensures.same.1

pub returns-in-Err-Shape-clause-derives : goal.returns-in-Err-Shape-clause-derives
returns-in-Err-Shape-clause-derives g c =
    nothing_came g.terms (record { table = c.args.table.now; log = c.args.log.now }) (record { table = c.refute.new.table; log = c.refute.new.log })
    c.requires.0 c.in-Err-Shape.ensures.same.0 c.in-Err-Shape.ensures.same.1

pub returns-in-Err-NoContradiction-clause-derives : goal.returns-in-Err-NoContradiction-clause-derives
returns-in-Err-NoContradiction-clause-derives g c =
    nothing_came g.terms (record { table = c.args.table.now; log = c.args.log.now }) (record { table = c.refute.new.table; log = c.refute.new.log })
    c.requires.0 c.in-Err-NoContradiction.ensures.same.0 c.in-Err-NoContradiction.ensures.same.1

pub returns-in-Err-Wide-clause-none : goal.returns-in-Err-Wide-clause-none
returns-in-Err-Wide-clause-none g c = (
  c.in-Err-Wide.ensures.same.0,
  c.in-Err-Wide.ensures.same.1,
  record {
    fault = c.in-Err-Wide.field-0;
    not_memory = wide_is_no_memory c.in-Err-Wide.field-0 c.in-Err-Wide.field-0-0 c.in-Err-Wide.field-0-is;
    judges = c.in-Err-Wide.ensures.fault;
  },
)

pub returns-in-Err-Shape-clause-none : goal.returns-in-Err-Shape-clause-none
returns-in-Err-Shape-clause-none g c = (
  c.in-Err-Shape.ensures.same.0,
  c.in-Err-Shape.ensures.same.1,
  record {
    fault = c.in-Err-Shape.field-0;
    not_memory = shape_is_no_memory c.in-Err-Shape.field-0 c.in-Err-Shape.field-0-is;
    judges = c.in-Err-Shape.ensures.fault;
  },
)

pub returns-in-Err-NoContradiction-clause-none : goal.returns-in-Err-NoContradiction-clause-none
returns-in-Err-NoContradiction-clause-none g c = (
  c.in-Err-NoContradiction.ensures.same.0,
  c.in-Err-NoContradiction.ensures.same.1,
  record {
    fault = c.in-Err-NoContradiction.field-0;
    not_memory = no_contradiction_is_no_memory c.in-Err-NoContradiction.field-0 c.in-Err-NoContradiction.field-0-is;
    judges = c.in-Err-NoContradiction.ensures.fault;
  },
)
