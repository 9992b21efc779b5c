-- One equality more is denied.
use Rattle.std.proofs.Common.{get_or, sym, subst}
use Rattle.std.proofs.lemmas.List.Elements.{All-nil}
use Rattle.term_clauses.proofs.Arguments.{Widens-self, Widens-trans}
use Rattle.case_equalities.specs.Stating.{IsMade, AreMade}
use Rattle.case_equalities.proofs.Batches.{made_kept, all_made_kept, made_more}
use Rattle.case_equalities.proofs.casing.chain_clause.Goals as goal

pub equalities-init : goal.equalities-init
equalities-init g c = record {
  wider = Widens-self c.args.table.now;
  made = subst (AreMade g.batch c.args.table.now) (sym c.new-clause.ensures.items) (All-nil (IsMade g.batch c.args.table.now));
}

pub denial-requires : goal.denial-requires
denial-requires g c =
    let start = g.batch.start.table in
    let items = c.deref-id-items.result.now in
    let made = subst (AreMade g.batch start) (sym c.deref-id-items.ensures.value) c.requires.0.equalities in
    made_kept g.batch start c.equalities.table (Widens-trans start c.args.table.now c.equalities.table c.requires.1.0 c.equalities.invariant.wider) (get_or items c.equalities.id-index (record { 0 = 0 }))
    (made c.equalities.id-index (record { 0 = 0 }) c.equalities-test.true)

pub returns-in_err-denied-clause-wider : goal.returns-in_err-denied-clause-wider
returns-in_err-denied-clause-wider g c = Widens-trans c.args.table.now c.equalities.table c.denial.new.table c.equalities.invariant.wider c.denial.ensures.wider

pub equalities-preserved : goal.equalities-preserved
equalities-preserved g c = record {
  wider = Widens-trans c.args.table.now c.equalities.table c.denial.new.table c.equalities.invariant.wider c.denial.ensures.wider;
  made = made_more g.batch c.denial.new.table c.equalities.clause.items c.push.new.self.items c.in_ok-denied.denied c.in_ok-push.ensures.items
      (all_made_kept g.batch c.equalities.table c.denial.new.table c.denial.ensures.wider c.equalities.clause.items c.equalities.invariant.made) c.in_ok-denied.ensures.means.0;
}

pub returns-clause-made : goal.returns-clause-made
returns-clause-made g c =
    made_more g.batch c.equalities.table c.equalities.clause.items c.push-2.new.self.items c.args.equality c.in_ok-push-2.ensures.items c.equalities.invariant.made
    (made_kept g.batch c.args.table.now c.equalities.table c.equalities.invariant.wider c.args.equality c.requires.1.1)
