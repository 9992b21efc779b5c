-- The users of a class of one term are the term's. Else the users of one member more are put, and those of all members are those of the class.
use Rattle.std.proofs.Common.{List, sym, subst, arith}
use Rattle.term_core.specs.declared.ids.TermId.{TermId}
use Rattle.class_table.specs.Classes.{AreMembers}
use Rattle.congruence_closure.proofs.Queues.{queued_more, queued_all, queued_one}
use Rattle.congruence_closure.proofs.saturating.queue_users.Goals as goal

pub returns-then-size_of-eq1 : goal.returns-then-size_of-eq1
returns-then-size_of-eq1 c = record {
  put = (
    c.users_of.result.now,
    c.in_ok-extend_from_slice.ensures.items,
    queued_one c.args.listing.now c.args.classes.now.numbers c.args.t c.users_of.result.now (omega (arith, c.if-size_of-eq1.true, c.size_of.ensures)) (omega (arith, c.requires)) c.users_of.ensures,
  );
}

pub members-preserved : goal.members-preserved
members-preserved c = queued_more c.args.listing.now c.args.pending.now.items c.members.pending.items c.extend_from_slice-in-members.new.self.items c.users_of-in-members.result.now c.deref-m-items.result.now c.members.m-index
    (record { 0 = 0 }) (omega arith) c.members.invariant c.users_of-in-members.ensures c.in_ok-extend_from_slice-2.ensures.items

pub returns : goal.returns
returns c =
    let are = subst (λ (xs : List TermId). AreMembers c.args.classes.now.numbers c.args.t xs) (sym c.deref-m-items.ensures.value) c.in_ok-members.ensures in
    record {
      put = (
        c.members.invariant.more,
        c.members.invariant.is,
        queued_all c.args.listing.now c.args.classes.now.numbers c.args.t c.args.pending.now.items c.members.pending.items c.deref-m-items.result.now c.members.m-index c.members-test.false are c.members.invariant,
      );
    }
