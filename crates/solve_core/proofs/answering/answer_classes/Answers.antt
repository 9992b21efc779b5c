-- From the beginning to an answer, where no term is a number.
use Rattle.std.proofs.Common.{refl}
use Rattle.term_core.proofs.TermsExtend.{Extends-trans}
use Rattle.solve_core.proofs.SearchNumbers.{plain_later}
use Rattle.solve_core.proofs.SearchRelated.{begun_for_wider}
use Rattle.solve_core.proofs.answering.answer_classes.Goals as goal

pub search_classes-requires : goal.search_classes-requires
search_classes-requires g c =
    let t = c.args.table.now in
    let u = c.truth_values.new.table in
    let x = c.args.search.now in
    let e = c.truth_values.ensures in
    let b = c.requires.0 in
    let laws = c.logs_hold_in_grown_tables.ensures in (
      begun_for_wider g.asked t u e.grown e.declared x (laws.right t u x.log b.begun.ready.right e.grown) (laws.same t u x.log b.begun.ready.right e.grown) b,
      (plain_later t u e.grown x x b.begun.ready refl c.requires.1, (c.in_ok-theory.ensures.empty, c.in_ok-theory.ensures.with)),
    )

pub returns-clause-grown : goal.returns-clause-grown
returns-clause-grown g c = Extends-trans c.args.table.now c.truth_values.new.table c.search_classes.new.table c.truth_values.ensures.grown c.search_classes.ensures.grown
