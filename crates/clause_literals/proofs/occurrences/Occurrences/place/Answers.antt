-- That the literal has a list.
use Rattle.std.proofs.Common.{sym, ◌∙◌, refl}
use Rattle.clause_literals.proofs.Once.{once}
use Rattle.clause_literals.proofs.Noting.{last_of, same_as, stored_at, placed_new, placed_old}
use Rattle.clause_literals.proofs.occurrences.Occurrences.place.Goals as goal

pub returns-then-is_new : goal.returns-then-is_new
returns-then-is_new c = placed_new c.args.self.now _ c.args.l c.in-Ok.index c.requires (last_of c.args.self.now.literals.keys _ c.args.l (sym c.if-is_new.true ∙ c.in-Ok.ensures.added) c.in-Ok.ensures.keys) (once _ c.insert_full.ensures.unique) c.new.result c.new.ensures.items c.in_ok-push.ensures.items (stored_at _ c.args.l c.in-Ok.index c.in-Ok.ensures.stored)

pub returns : goal.returns
returns c = placed_old c.args.self.now _ c.args.l c.in-Ok.index c.requires (same_as c.args.self.now.literals.keys _ c.args.l (sym c.if-is_new.false ∙ c.in-Ok.ensures.added) c.in-Ok.ensures.keys) refl (stored_at _ c.args.l c.in-Ok.index c.in-Ok.ensures.stored)
