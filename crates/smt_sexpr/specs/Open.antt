-- What was read up to here of an s-expression: the lists that are open, and what is in each.
use Rattle.std.specs.Prelude.{◌≡◌, ℕ, List, [], ◌∷◌, ◌++◌, length, ⊤}
use Rattle.spec_text.specs.Lexemes.{Lexeme, opens}
use Rattle.spec_text.specs.Trees.{Tree, Trees, list, none, more, spelled_all}
use Rattle.smt_sexpr.specs.declared.items.Item.{Item}
use Rattle.smt_sexpr.specs.declared.items.Item.TheVariants as items
use Rattle.smt_sexpr.specs.Means.{flat_all}

-- Whole trees at the top, or in a list that began at an offset.
pub data Context : Type 0 where
  top : Trees → Context
  inside : Context → ℕ → Trees → Context

-- one tree more at the end of others
abbrev pub add : Trees → Tree → Trees
add none t = more t none
add (more u us) t = more u (add us t)

-- one tree more in the innermost list
abbrev pub push : Context → Tree → Context
push (top rows) t = top (add rows t)
push (inside outer at rows) t = inside outer at (add rows t)

-- the innermost list ends
abbrev pub closed : Context → ℕ → Context
closed (top rows) end = top rows
closed (inside outer at rows) end = push outer (list at rows end)

-- the lexemes up to here; an open list's has no end yet
abbrev pub spelled_in : Context → List (ℕ × Lexeme)
spelled_in (top rows) = spelled_all rows
spelled_in (inside outer at rows) = spelled_in outer ++ (at, opens) ∷ spelled_all rows

-- the items up to here; an open list's has no end and no number yet
abbrev pub flat_in : Context → List Item
flat_in (top rows) = flat_all rows
flat_in (inside outer at rows) = flat_in outer ++ items.List at 0 0 ∷ flat_all rows

-- where the open lists' items are, the innermost last
abbrev pub open_in : Context → List ℕ
open_in (top rows) = []
open_in (inside outer at rows) = open_in outer ++ length (flat_in outer) ∷ []

-- nothing is whole at the top
abbrev pub IsUnfinished : Context → Type 0
IsUnfinished (top none) = ⊤
IsUnfinished (top (more t ts)) = ⊥
IsUnfinished (inside outer at rows) = IsUnfinished outer

-- items and open places are those of the context
pub record HoldsContext (context : Context) (its : List Item) (open_at : List ℕ) : Type 0 where
  -- the items are the context's
  pub items_are : its ≡ flat_in context
  -- and so are the places of the open lists' items
  pub open_are : open_at ≡ open_in context
