-- How many arguments a head takes, and that the literals of a scheme are of arguments that are there.
use Rattle.std.proofs.Common.{◌≡◌, ℕ, ◌≤◌, true, List, [], ◌∷◌, length, map, refl, ◌∙◌, arith}
use Rattle.std.proofs.lemmas.List.{length-map}
use Rattle.spec_sorts.specs.Terms.{Sort, Truth, Not, Xor, Implies, sort_of}
use Rattle.spec_sorts.proofs.General.{equal_takes}
use Rattle.spec_proofs.specs.declared.Rest.{Rest}
use Rattle.spec_proofs.specs.declared.Rest.TheVariants.{One, Two}
use Rattle.term_core.specs.declared.nodes.Head.{Head as NodeHead}
use Rattle.term_core.specs.declared.nodes.Head.TheVariants as heads
use Rattle.term_core.specs.Tables.{TableView, term_at, clause_at, head_meant, takes, Shape, ShapeFits}
use Rattle.term_core.proofs.FactsOfNodes.{ite_long}
use Rattle.rule_bool.specs.Schemes.{arity, HasPlaces, IsStating}

pub not_takes : (ss : List Sort) → takes Not ss ≡ true → length ss ≡ 1
not_takes (Truth ∷ []) e = refl
not_takes _ e = cc

xor_takes : (ss : List Sort) → takes Xor ss ≡ true → length ss ≡ 2
xor_takes (Truth ∷ Truth ∷ []) e = refl
xor_takes _ e = cc

implies_takes : (ss : List Sort) → takes Implies ss ≡ true → length ss ≡ 2
implies_takes (Truth ∷ Truth ∷ []) e = refl
implies_takes _ e = cc

-- a head has at least so many arguments
least : (t : TableView) (h : NodeHead) (ss : List Sort) → takes (head_meant t h) ss ≡ true → arity h ≤ length ss
least t heads.Not ss e = omega (arith, not_takes ss e)
least t heads.Xor ss e = omega (arith, xor_takes ss e)
least t heads.Implies ss e = omega (arith, implies_takes ss e)
least t heads.Equal ss e = omega (arith, equal_takes ss e)
least t heads.Ite ss e = omega (arith, ite_long ss e)
least t _ ss e = omega arith

-- places that are there are there among more
more_places : (n m : ℕ) (r : Rest) → n ≤ m → HasPlaces n r → HasPlaces m r
more_places n m (One x) le h = omega (arith, le, h)
more_places n m (Two x y) le h = (omega (arith, le, h.0), omega (arith, le, h.1))
more_places n m _ le h = tt

-- the places of a scheme are there among the arguments of its head
pub places_there : (t : TableView) (s : Shape) (r : Rest) → ShapeFits t s → HasPlaces (arity s.head) r → HasPlaces (length s.arguments) r
places_there t s r fits places =
    let count : length (map sort_of (clause_at t s.arguments)) ≡ length s.arguments = length-map (clause_at t s.arguments) sort_of ∙ length-map s.arguments (term_at t) in
    more_places (arity s.head) (length s.arguments) r (omega (arith, count, least t s.head (map sort_of (clause_at t s.arguments)) fits.sorts)) places

-- what a scheme of a head names is there
pub stating_places : (h : NodeHead) (r : Rest) → IsStating h r → HasPlaces (arity h) r
stating_places heads.True r form = form
stating_places heads.False r form = form
stating_places heads.Not r form = form
stating_places heads.And r form = form
stating_places heads.Or r form = form
stating_places heads.Xor r form = form
stating_places heads.Implies r form = form
stating_places heads.Equal r form = form
stating_places heads.Ite r form = form
stating_places _ r form = absurd form
