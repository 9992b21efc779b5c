-- One lead more.
use Rattle.std.proofs.Common.{List, sym, subst}
use Rattle.std.specs.Prelude.{All}
use Rattle.std.proofs.lemmas.List.Elements.{All-nil, All-push}
use Rattle.term_core.specs.declared.ids.TermId.{TermId}
use Rattle.proof_log.specs.Theories.{derived}
use Rattle.case_equalities.specs.declared.equalities.CaseEquality.{CaseEquality}
use Rattle.case_equalities.specs.Leads.{IsLeadOver, IsCaseEquality}
use Rattle.case_equalities.specs.Stating.{batch_of}
use Rattle.case_equalities.proofs.Batches.{goes_none, goes_after, some_is}
use Rattle.case_equalities.proofs.Leading.{found_kept}
use Rattle.case_equalities.proofs.stating.state_all.Goals as goal

pub leads-init : goal.leads-init
leads-init g c =
    let found = IsCaseEquality c.args.table.now c.args.log.now g.origin.roots in
    record { goes = goes_none (batch_of g.origin) (derived c.args.table.now c.args.log.now) c.requires.0; found = subst (All found) (sym c.new-found.ensures.items) (All-nil found) }

pub state-requires : goal.state-requires
state-requires g c = (
  c.leads.invariant.goes.derives,
  (c.requires.1.1.0, subst (IsLeadOver g.origin.start.table g.origin.roots) (sym c.lead-item.is) (c.requires.1.1.1 c.leads.lead-index c.lead-item.result c.leads-test.true)),
)

pub returns-in_err-equality-clause-goes : goal.returns-in_err-equality-clause-goes
returns-in_err-equality-clause-goes g c =
    goes_after (batch_of g.origin) (derived c.args.table.now c.args.log.now) (derived c.leads.table c.leads.log) (derived c.state.new.table c.state.new.log) c.leads.invariant.goes c.state.ensures.goes

pub returns-in_err-push-clause-goes : goal.returns-in_err-push-clause-goes
returns-in_err-push-clause-goes g c =
    goes_after (batch_of g.origin) (derived c.args.table.now c.args.log.now) (derived c.leads.table c.leads.log) (derived c.state.new.table c.state.new.log) c.leads.invariant.goes c.state.ensures.goes

pub leads-preserved-in_default : goal.leads-preserved-in_default
leads-preserved-in_default g c =
    let b = batch_of g.origin in
    let old = derived c.leads.table c.leads.log in
    let new = derived c.state.new.table c.state.new.log in
    record {
      goes = goes_after b (derived c.args.table.now c.args.log.now) old new c.leads.invariant.goes c.state.ensures.goes;
      found = found_kept g.origin old new c.leads.invariant.goes.derives c.requires.1.1.0 c.state.ensures.goes c.leads.found.items c.leads.invariant.found;
    }

pub leads-preserved : goal.leads-preserved
leads-preserved g c =
    let b = batch_of g.origin in
    let old = derived c.leads.table c.leads.log in
    let new = derived c.state.new.table c.state.new.log in
    let found = IsCaseEquality new.table new.log g.origin.roots in
    record {
      goes = goes_after b (derived c.args.table.now c.args.log.now) old new c.leads.invariant.goes c.state.ensures.goes;
      found = subst (All found) (sym {A = List CaseEquality} c.in_ok-push.ensures.items)
          (All-push found c.leads.found.items c.in-Some.equality (found_kept g.origin old new c.leads.invariant.goes.derives c.requires.1.1.0 c.state.ensures.goes c.leads.found.items c.leads.invariant.found)
          (some_is found c.in_ok-equality.field-0 c.in-Some.equality c.in-Some.is c.in_ok-equality.ensures.found));
    }

pub returns-clause-found : goal.returns-clause-found
returns-clause-found g c = subst (λ (rs : List TermId). All (IsCaseEquality c.leads.table c.leads.log rs) c.leads.found.items) c.requires.1.0 c.leads.invariant.found
