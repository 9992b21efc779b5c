-- One literal more.
use Rattle.std.proofs.Common.{◌∙◌, [], refl, sym, subst}
use Rattle.std.proofs.lemmas.List.Elements.{All-nil}
use Rattle.term_core.proofs.TermsExtend.{Extends-self, Extends-trans}
use Rattle.proof_log.specs.Logs.{IsFormulaIn}
use Rattle.conflict_learn.specs.Analyses.{StateAll}
use Rattle.conflict_learn.proofs.Stating.{bare_kept, states_more}
use Rattle.conflict_learn.proofs.stated.terms_of.Goals as goal

pub loop-l-init : goal.loop-l-init
loop-l-init c = record {
  grown = Extends-self c.args.table.now;
  declared = refl;
  states = subst (StateAll c.args.table.now []) (sym c.new-terms.ensures.items) (All-nil (IsFormulaIn c.args.table.now), refl);
}

pub term_of-requires : goal.term_of-requires
term_of-requires c = bare_kept c.args.table.now c.loop-l.table (record { terms = c.loop-l.invariant.grown; declared = c.loop-l.invariant.declared }) _ (c.requires c.loop-l.l-index _ c.loop-l-test.true)

pub returns-in_err-term-clause-grown : goal.returns-in_err-term-clause-grown
returns-in_err-term-clause-grown c = Extends-trans _ _ _ c.loop-l.invariant.grown c.term_of.ensures.grown

pub loop-l-preserved : goal.loop-l-preserved
loop-l-preserved c = record {
  grown = Extends-trans _ _ _ c.loop-l.invariant.grown c.term_of.ensures.grown;
  declared = c.term_of.ensures.declared ∙ c.loop-l.invariant.declared;
  states = rw c.in_ok-push.ensures.items (states_more c.args.table.now c.loop-l.table c.term_of.new.table c.args.clause.now c.loop-l.l-index _ c.loop-l.terms.items c.in_ok-term.term c.loop-l-test.true c.loop-l.invariant.grown (record { terms = c.term_of.ensures.grown; declared = c.term_of.ensures.declared })
      (c.requires c.loop-l.l-index _ c.loop-l-test.true).there c.loop-l.invariant.states c.in_ok-term.ensures.states);
}
