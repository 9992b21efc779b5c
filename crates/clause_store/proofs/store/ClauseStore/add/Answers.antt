-- The parts fit together with a clause more, which has room for its number.
use Rattle.std.proofs.Common.{◌∙◌, None, length, sym, ap, arith}
use Rattle.std.proofs.lemmas.List.{length_push}
use Rattle.clause_store.proofs.Entering.{attached_with, quiet_with, attached_before, quiet_before}
use Rattle.clause_store.proofs.store.ClauseStore.add.Goals as goal

pub invariant_of-self-in-Ok : goal.invariant_of-self-in-Ok
invariant_of-self-in-Ok c =
    let p = c.self.inside.parts in
    let kept = c.self.invariant.fits in
    let more = c.in-Ok.ensures.ok in
    record {
      fits = record {
        watched = c.add.ensures.watched;
        attached = attached_with p.watched c.add.new.self _ kept.watched more p.attached p.short.items kept.attached;
        quiet_at = quiet_with p.watched c.add.new.self _ kept.watched more p.attached p.short.items kept.attached p.quiet_at.items _ p.seen.items kept.quiet_at;
      };
      room = omega (arith, ap length c.push_reserved.ensures.items, length_push c.reserve.new.self.items None, ap length c.reserve.ensures.items, c.self.invariant.room, ap length more.entries, length_push p.watched.entries.items (record { literals = c.in_ok-literals.literals; step = c.args.step }));
    }

pub invariant_of-self-in-Err : goal.invariant_of-self-in-Err
invariant_of-self-in-Err c =
    let p = c.self.inside.parts in
    let kept = c.self.invariant.fits in
    let same = c.in-Err.ensures.err in
    record {
      fits = record {
        watched = c.add.ensures.watched;
        attached = attached_before p.watched c.add.new.self p.attached p.short.items same kept.attached;
        quiet_at = quiet_before p.watched c.add.new.self p.quiet_at.items p.attached _ p.seen.items same kept.quiet_at;
      };
      room = ap length c.reserve.ensures.items ∙ c.self.invariant.room ∙ sym (ap length same.entries);
    }
