-- Lists of which another has all members.
use Rattle.std.proofs.Common.{List, ◌++◌, inl, inr}
use Rattle.std.specs.Prelude.{flat_map}
use Rattle.std.proofs.lemmas.List.Elements.{Contains-append_left, Contains-append_right, Contains-append_cases}
use Rattle.spec_text.proofs.Members.{from_flat, in_flat}
use Rattle.spec_proofs.specs.Resolution.{IsWithin}

module _ {X : Type 0} where
  -- two lists, one after the other
  pub within_append : (ws bs cs ds : List X) → IsWithin ws cs → IsWithin bs ds → IsWithin (ws ++ bs) (cs ++ ds)
  within_append ws bs cs ds f g x x_in = elim (Contains-append_cases ws bs x x_in) [
    | inl h ↦ Contains-append_left cs ds x (f x h)
    | inr h ↦ Contains-append_right cs ds x (g x h)
  ]

  -- in either order
  pub within_swapped : (ws bs : List X) → IsWithin (ws ++ bs) (bs ++ ws)
  within_swapped ws bs x x_in = elim (Contains-append_cases ws bs x x_in) [
    | inl h ↦ Contains-append_right bs ws x h
    | inr h ↦ Contains-append_left bs ws x h
  ]

  -- what they give
  pub within_flat : {Y : Type 0} (f : X → List Y) (xs ys : List X) → IsWithin xs ys → IsWithin (flat_map f xs) (flat_map f ys)
  within_flat f xs ys among y y_in = let x = from_flat f xs y y_in in in_flat f ys x.0 y (among x.0 x.1) x.2
