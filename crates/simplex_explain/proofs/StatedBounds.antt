-- Bounds of held literals are stated by literals that are held.
use Rattle.std.proofs.Common.{◌≡◌, ℕ, inl, inr, Bool, true, false, not, List, [], ◌∷◌, All, Contains, Option, Some, None, refl, sym, ◌∙◌, ap, subst}
use Rattle.std.proofs.lemmas.List.Elements.{All-weaker, All-contains_itself, Contains-append_left, Contains-append_right, Contains-append_cases}
use Rattle.spec_text.proofs.Members.{first, later, cases, none as no_member, only, to_image, from_image}
use Rattle.spec_simplex.specs.Constraints.{Relation, below, at_most, equals, at_least, above}
use Rattle.term_core.specs.declared.ids.Lit.{Lit}
use Rattle.simplex_bounds.specs.declared.bounds.Bound.{Bound}
use Rattle.simplex_bounds.specs.declared.bounds.Side.{Side}
use Rattle.simplex_bounds.specs.declared.bounds.Side.TheVariants.{Lower, Upper}
use Rattle.simplex_atoms.specs.declared.slack.Slack.{Slack}
use Rattle.simplex_atoms.specs.Slacks.{slack_in}
use Rattle.simplex_atoms.specs.Limits.{Limit, limit_of, limit_on, limits_where, limits_by, side_by}
use Rattle.simplex_explain.specs.Stops.{IsStatedBound, AreStated}
use Rattle.simplex_explain.specs.Stated.{stated_at, stated_by, all_stated, AreBoundsOf}

-- what holds of each item holds of all
pub all_from : {A : Type 0} (P : A → Type 0) (xs : List A) → ((x : A) → Contains xs x → P x) → All P xs
all_from P xs h = All-weaker (Contains xs) P h xs (All-contains_itself xs)

-- the bound of a place on a side is one of its literal
on_literal : (slack : Slack) (l : Lit) (side : Side) (strict : Bool) (x : Limit) → Contains (limit_on slack l side strict ∷ []) x → x.literal ≡ l
on_literal slack l side strict x c = ap (λ (y : Limit). y.literal) (sym (only (limit_on slack l side strict) x c))

where_literal : (r : Option Relation) (up : Bool) (slack : Slack) (l : Lit) (x : Limit) → Contains (limits_where r up slack l) x → x.literal ≡ l
where_literal (Some below) up slack l x c = on_literal slack l (side_by up) true x c
where_literal (Some at_most) up slack l x c = on_literal slack l (side_by up) false x c
where_literal (Some at_least) up slack l x c = on_literal slack l (side_by (not up)) false x c
where_literal (Some above) up slack l x c = on_literal slack l (side_by (not up)) true x c
where_literal (Some equals) up slack l x c = elim (cases (limit_on slack l Lower false) (limit_on slack l Upper false ∷ []) x c) [
  | inl e ↦ ap (λ (y : Limit). y.literal) (sym e)
  | inr d ↦ on_literal slack l Upper false x d
]
where_literal None up slack l x c = absurd (no_member x c)

-- A literal that is held states a bound.
pub record Origin (slack_list : List (ℕ × Slack)) (held : List Lit) (x : Limit) : Type 0 where
  pub slack : Slack
  pub there : slack_in slack_list x.literal.term ≡ Some slack
  pub states : Contains (limits_by slack x.literal) x
  pub held_is : Contains held x.literal

-- a bound that a literal states has it as its literal
own_origin : (slack_list : List (ℕ × Slack)) (held : List Lit) (l : Lit) (x : Limit) → Contains held l → Contains (stated_by slack_list l) x → Origin slack_list held x
own_origin slack_list held l x h c = by (slack_in slack_list l.term) refl c
  where
    of : (slack : Slack) → slack_in slack_list l.term ≡ Some slack → Contains (limits_by slack l) x → l ≡ x.literal → Origin slack_list held x
    of slack e d same = record {
      slack = slack;
      there = ap (λ (m : Lit). slack_in slack_list m.term) (sym same) ∙ e;
      states = subst (λ (m : Lit). Contains (limits_by slack m) x) same d;
      held_is = subst (Contains held) same h;
    }

    by : (o : Option Slack) → slack_in slack_list l.term ≡ o → Contains (stated_at o l) x → Origin slack_list held x
    by None e d = absurd (no_member x d)
    by (Some slack) e d = of slack e d (sym (where_literal _ _ slack l x d))

-- so has each bound that literals state
origin : (slack_list : List (ℕ × Slack)) (held ls : List Lit) (x : Limit) → ((l : Lit) → Contains ls l → Contains held l) → Contains (all_stated slack_list ls) x → Origin slack_list held x
origin slack_list held [] x h c = absurd (no_member x c)
origin slack_list held (l ∷ ls) x h c = elim (Contains-append_cases (stated_by slack_list l) (all_stated slack_list ls) x c) [
  | inl d ↦ own_origin slack_list held l x (h l (first l ls)) d
  | inr d ↦ origin slack_list held ls x (λ m i. h m (later l ls m i)) d
]

pub bound_origin : (slack_list : List (ℕ × Slack)) (held : List Lit) (bounds : List Bound) → AreBoundsOf slack_list held bounds → (b : Bound) → Contains bounds b → Origin slack_list held (limit_of b)
bound_origin slack_list held bounds are b c = origin slack_list held held (limit_of b) (λ l i. i) (subst (λ (xs : List Limit). Contains xs (limit_of b)) are (to_image limit_of bounds b c))

pub bounds_stated : (slack_list : List (ℕ × Slack)) (held : List Lit) (bounds : List Bound) → AreBoundsOf slack_list held bounds → AreStated slack_list bounds
bounds_stated slack_list held bounds are = all_from (IsStatedBound slack_list) bounds (λ b c. let o = bound_origin slack_list held bounds are b c in record { slack = o.slack; there = o.there; states = o.states })

pub literals_held : (slack_list : List (ℕ × Slack)) (held : List Lit) (bounds : List Bound) → AreBoundsOf slack_list held bounds → (b : Bound) → Contains bounds b → Contains held b.literal
literals_held slack_list held bounds are b c = (bound_origin slack_list held bounds are b c).held_is

-- what a held literal states is stated
stated_in : (slack_list : List (ℕ × Slack)) (held : List Lit) (l : Lit) (x : Limit) → Contains held l → Contains (stated_by slack_list l) x → Contains (all_stated slack_list held) x
stated_in slack_list [] l x h c = absurd (no_member l h)
stated_in slack_list (m ∷ ms) l x h c = elim (cases m ms l h) [
  | inl e ↦ Contains-append_left (stated_by slack_list m) (all_stated slack_list ms) x (subst (λ (n : Lit). Contains (stated_by slack_list n) x) (sym e) c)
  | inr i ↦ Contains-append_right (stated_by slack_list m) (all_stated slack_list ms) x (stated_in slack_list ms l x i c)
]

-- and it is held as a bound
pub held_as_bound : (slack_list : List (ℕ × Slack)) (held : List Lit) (bounds : List Bound) → AreBoundsOf slack_list held bounds → (l : Lit) → Contains held l
    → (slack : Slack) → slack_in slack_list l.term ≡ Some slack → (x : Limit) → Contains (limits_by slack l) x → (b : Bound) × Contains bounds b × (limit_of b ≡ x)
held_as_bound slack_list held bounds are l h slack e x c =
    from_image limit_of bounds x (subst (λ (xs : List Limit). Contains xs x) (sym are)
    (stated_in slack_list held l x h (subst (λ (o : Option Slack). Contains (stated_at o l) x) (sym e) c)))
