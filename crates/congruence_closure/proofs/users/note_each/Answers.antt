-- Each turn notes one more.
use Rattle.std.proofs.Common.{subst, arith, get_or}
use Rattle.std.proofs.lemmas.List.{take_all, get_or_default}
use Rattle.congruence_closure.specs.Tables.{lists, HaveNoted}
use Rattle.congruence_closure.proofs.Places.{noted_more}
use Rattle.congruence_closure.proofs.users.note_each.Goals as goal

pub terms-preserved : goal.terms-preserved
terms-preserved c = (
  λ t i there. c.in_ok-note.ensures.kept t i (c.in_ok-grow_lists.ensures.kept t i (c.terms.invariant.0 t i there)),
  noted_more c.args.terms.now c.terms.t-index c.args.place (lists c.terms.all.items) (lists c.grow_lists.new.all.items) (lists c.note.new.all.items) (get_or c.args.terms.now c.terms.t-index (record { 0 = 0 }))
      (omega arith) (get_or_default c.args.terms.now c.terms.t-index (record { 0 = 0 }) (get_or c.args.terms.now c.terms.t-index (record { 0 = 0 })) (omega arith)) c.terms.invariant.1 c.in_ok-grow_lists.ensures.kept c.in_ok-note.ensures.kept c.in_ok-note.ensures.ok,
)

pub returns-in_err-note-clause-kept : goal.returns-in_err-note-clause-kept
returns-in_err-note-clause-kept c = λ t i there. c.in_err-note.ensures.kept t i (c.in_ok-grow_lists.ensures.kept t i (c.terms.invariant.0 t i there))

pub returns-clause-ok : goal.returns-clause-ok
returns-clause-ok c = subst (λ ts. HaveNoted ts c.args.place (lists c.terms.all.items)) (take_all c.terms.t-index c.args.terms.now (omega arith)) c.terms.invariant.1
