-- Nothing is left before a text is begun.
use Rattle.std.proofs.Common.{ℕ, List, map, ap, sym, arith}
use Rattle.world_io.specs.Memory.{bytes_of_entry, ShelfState}
use Rattle.world_io.proofs.Places.{text_at-past}
use Rattle.world_io.proofs.memory.MemShelf.new.Goals as goal

pub returns-clause-state : goal.returns-clause-state
returns-clause-state c =
    let with_left : List ℕ → ShelfState = λ left. record { texts = map bytes_of_entry c.args.texts.items; left = left; most = c.args.most; failing = c.args.failing.items; calls = 0; faults = 0 } in
    ap with_left (sym (text_at-past c.args.texts.items c.len-current.result (omega (arith, c.args.texts.ok.0))))
