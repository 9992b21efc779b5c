-- What comes of clauses between neighbouring bounds, which come where a search begins or grows.
use Rattle.std.specs.Prelude.{◌≡◌}
use Rattle.term_core.specs.Tables.{TableView}
use Rattle.search_loop.specs.declared.search.Search.{Search}
use Rattle.search_loop.specs.Search.{SearchFits}
use Rattle.search_loop.specs.Rounds.{Continues}

-- A search goes on, for the same problem and over the same atoms.
pub record HasRelated (t u : TableView) (x y : Search) : Type 0 where
  -- it is for the same terms
  pub continues : Continues t u x y
  -- it fits together
  pub ready : SearchFits u y
  -- nothing else is changed but its log and its clauses
  pub same : y ≡ record x { log = y.log; store = y.store }
