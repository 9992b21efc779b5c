-- What a search only adds to: its log, its clauses, and what it speaks of.
use Rattle.std.specs.Prelude.{◌≡◌, List, ◌++◌}
use Rattle.search_loop.specs.declared.search.Search.{Search}

-- more may come after the elements of a list
abbrev pub IsFrontOf : {X : Type 0} → List X → List X → Type 0
IsFrontOf {X} old new = (more : List X) × (new ≡ old ++ more)

-- What a search has derived, and what it spoke of, is there still, in front: what came since comes after it.
pub record Appends (old new : Search) : Type 0 where
  -- the steps of the log
  pub log : IsFrontOf old.log new.log
  -- the clauses of the store, and their steps
  pub clauses : IsFrontOf old.store.clauses new.store.clauses
  pub steps : IsFrontOf old.store.steps new.store.steps
  -- the terms, and the atoms among them
  pub terms : IsFrontOf old.terms.items new.terms.items
  pub atoms : IsFrontOf old.atoms.items new.atoms.items
