-- Whether bound names occur free in what is left of a text. Source: SMT-LIB 2.6, section 3.6.
use Rattle.std.specs.Prelude.{◌≡◌, ℕ, ◌+◌, ◌<◌, Bool, true, false, ◌||◌, List, [], ◌∷◌, map, take, reverse, Result, Ok}
use Rattle.std.specs.Prelude.{Err}
use Rattle.spec_text.specs.Bytes.{Name, among}
use Rattle.spec_text.specs.Trees.{Trees}
use Rattle.spec_sorts.specs.Forms.{Form, malformed, reserved, applies, binds, annotates}
use Rattle.spec_reading.specs.Names.{names_bound, without, mentions, any_mentions, first_mentions, let_mentions}
use Rattle.spec_reading.specs.Names.{binding_mentions}
use Rattle.smt_sexpr.specs.Items.{trees_meant, tree_meant}
use Rattle.term_core.specs.declared.ids.TermId.{TermId}
use Rattle.no_memory.specs.declared.NoMemory.{NoMemory}
use Rattle.term_reader.specs.NameStacks.{newest}
use Rattle.sort_check.specs.declared.mentions.Left.{Left}
use Rattle.sort_check.specs.declared.mentions.Left.TheVariants.{Terms, Values, Body, Back}
use Rattle.sort_check.specs.declared.mentions.NameSearch.{NameSearch}
use Rattle.sort_check.specs.Bindings.{BindingsView}
use Rattle.sort_check.specs.Walks.{size, sizes}

-- the bound names, the newest first
abbrev pub names_of : BindingsView → List Name
names_of v = map (λ (p : Name × TermId). p.0) (newest v.names v.terms)

-- one of the names occurs free in a list with these arguments, by its form
abbrev pub form_mentions : List Name → Trees → Form → Bool
form_mentions ns us malformed = false
form_mentions ns us (reserved place) = false
form_mentions ns us (applies place n) = among ns n || any_mentions ns us
form_mentions ns us binds = let_mentions ns us
form_mentions ns us annotates = first_mentions ns us

-- How far a text is searched.
pub record Rest : Type 0 where
  -- the names that the text itself binds there, oldest first
  pub inner : List Name
  -- what is left, in the order in which it is looked at
  pub left : List Left

-- a search of the code
abbrev pub rest_of : NameSearch → Rest
rest_of s = record { inner = s.inner; left = reverse s.left.items }

-- what is looked at next, before the rest
abbrev pub with_next : Left → Rest → Rest
with_next l r = record { inner = r.inner; left = l ∷ r.left }

-- one of the names occurs free in what is left, where the text itself binds some
abbrev pub left_mentions : List Name → List Name → List Left → Bool
left_mentions ns inner [] = false
left_mentions ns inner (Terms ts ∷ ls) = any_mentions (without ns inner) (trees_meant ts) || left_mentions ns inner ls
left_mentions ns inner (Values ts ∷ ls) = binding_mentions (without ns inner) (trees_meant ts)
    || left_mentions ns inner ls
left_mentions ns inner (Body ts body ∷ ls) = mentions (without (without ns inner) (names_bound (trees_meant ts)))
    (tree_meant body) || left_mentions ns inner ls
left_mentions ns inner (Back n ∷ ls) = left_mentions ns (take n inner) ls

-- the same of a rest
abbrev pub rest_mentions : List Name → Rest → Bool
rest_mentions ns r = left_mentions ns r.inner r.left

-- how much is left to look at
abbrev pub left_size : List Left → ℕ
left_size [] = 0
left_size (Terms ts ∷ ls) = 1 + (sizes (trees_meant ts) + left_size ls)
left_size (Values ts ∷ ls) = 1 + (sizes (trees_meant ts) + left_size ls)
left_size (Body ts body ∷ ls) = 3 + (size (tree_meant body) + left_size ls)
left_size (Back n ∷ ls) = 1 + left_size ls

-- one of the names is found, or whether one occurs free follows from what is left, of which there is less than so much
abbrev pub FindsName : List Name → Bool → ℕ → Rest → Result Bool NoMemory → Type 0
FindsName ns all most r (Ok true) = all ≡ true
FindsName ns all most r (Ok false) = (all ≡ rest_mentions ns r) × (left_size r.left < most)
FindsName ns all most r (Err e) = Unit {0}
