-- A number is of no declared sort.
use Rattle.search_model.proofs.rows.default_of.Goals as goal

pub returns-in-Real-clause-named : goal.returns-in-Real-clause-named
returns-in-Real-clause-named c sorts there = c.zero.ensures.named sorts
