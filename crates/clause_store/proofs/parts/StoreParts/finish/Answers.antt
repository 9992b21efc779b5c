-- What holds is what was seen.
use Rattle.std.proofs.Common.{arith}
use Rattle.clause_store.proofs.Working.{quiet_seen, quiet_at_all}
use Rattle.clause_store.proofs.parts.StoreParts.finish.Goals as goal

pub returns-in_err-see-clause-kept : goal.returns-in_err-see-clause-kept
returns-in_err-see-clause-kept c =
    let w = c.requires.work in
    record { watched = w.watched; attached = w.attached; quiet_at = quiet_seen c.args.self.now.quiet_at.items c.args.self.now.attached c.args.self.now.watched.pairs.items c.args.trail.now.propagated c.args.trail.now.literals c.see.new.seen.items w.quiet_at c.see.ensures.within c.see.ensures.same }

pub note-requires-clause-most : goal.note-requires-clause-most
note-requires-clause-most c r i = omega (arith, c.requires.work.quiet_at.within r i, c.is_sound.ensures.propagated, c.len.ensures)

pub returns-in_err-note-clause-kept : goal.returns-in_err-note-clause-kept
returns-in_err-note-clause-kept c =
    let w = c.requires.work in
    record {
      watched = w.watched;
      attached = w.attached;
      quiet_at = quiet_at_all c.note.new.quiet_at.items c.args.self.now.quiet_at.items c.args.self.now.attached c.args.self.now.watched.pairs.items c.args.trail.now.propagated _ c.args.trail.now.literals c.see.new.seen.items
          c.in_ok-see.ensures.ok c.len.ensures w.quiet_at c.is_sound.ensures.propagated c.note.ensures.rising c.note.ensures.each c.requires.were_quiet;
    }

pub returns-clause-kept : goal.returns-clause-kept
returns-clause-kept c =
    let w = c.requires.work in
    record {
      watched = w.watched;
      attached = w.attached;
      quiet_at = quiet_at_all c.note.new.quiet_at.items c.args.self.now.quiet_at.items c.args.self.now.attached c.args.self.now.watched.pairs.items c.args.trail.now.propagated _ c.args.trail.now.literals c.see.new.seen.items
          c.in_ok-see.ensures.ok c.len.ensures w.quiet_at c.is_sound.ensures.propagated c.note.ensures.rising c.note.ensures.each c.requires.were_quiet;
    }
