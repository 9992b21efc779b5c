-- What stays fits together, and nothing was seen.
use Rattle.std.proofs.Common.{length, get_or, ap, arith}
use Rattle.std.proofs.lemmas.List.Elements.{Contains-get_or}
use Rattle.clause_store.proofs.Stored.{clause_count}
use Rattle.clause_store.proofs.Places.{numbered_count}
use Rattle.clause_store.proofs.Kept.{fits_kept}
use Rattle.clause_store.proofs.parts.StoreParts.keep.Goals as goal

pub count_kept-self-requires : goal.count_kept-self-requires
count_kept-self-requires c = omega (arith, c.requires.fits.attached.within, clause_count c.args.self.now.watched.entries.items, c.requires.count)

pub renumber-requires : goal.renumber-requires
renumber-requires c i d lt =
    let p = c.args.self.now in
    let a = c.requires.fits.attached in
    omega (arith, (a.only (get_or p.short.items i d) (Contains-get_or p.short.items i d lt)).0, a.within, clause_count p.watched.entries.items, c.requires.count, ap length c.requires.numbers, numbered_count c.args.kept.now 0)

pub returns-clause-fits : goal.returns-clause-fits
returns-clause-fits c = fits_kept c.args.kept.now c.args.self.now _ c.requires.fits c.requires.count c.keep.ensures.watched c.keep.ensures.entries c.keep.ensures.pairs c.count_kept-self.ensures (rw c.requires.numbers at c.renumber.ensures) c.clear-2.ensures.items
