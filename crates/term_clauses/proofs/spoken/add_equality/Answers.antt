-- The equality is put, and its number comes last.
use Rattle.term_clauses.specs.Choices.{equality_at}
use Rattle.term_clauses.proofs.Choosing.{equality_in}
use Rattle.term_clauses.proofs.Speaking.{more_pushed}
use Rattle.term_clauses.proofs.spoken.add_equality.Goals as goal

pub returns-clause-more : goal.returns-clause-more
returns-clause-more c =
    let t = c.args.table.now in
    let u = c.equality.new.table in
    let means = c.in_ok-equal.ensures.means in
    more_pushed t u c.equality.ensures.wider c.args.ids.now.items c.push.new.self.items c.in_ok-equal.equal (equality_at t c.args.a c.args.b) c.requires.ids c.in_ok-push.ensures.items
    (equality_in t u c.equality.ensures.wider c.args.a c.args.b c.in_ok-equal.equal c.requires.sides means.0 means.1) means.1
