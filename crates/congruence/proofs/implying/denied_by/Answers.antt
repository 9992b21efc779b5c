-- A listed term is one over the symbols.
use Rattle.congruence.proofs.Shown.{term_at_place}
use Rattle.congruence.proofs.implying.denied_by.Goals as goal

pub is_atom-requires : goal.is_atom-requires
is_atom-requires c = term_at_place c.args.table.now c.args.closure.now c.requires.over c.args.t c.in_ok-_place._place c.in_ok-_place.ensures
