-- What truths that meet the clauses of a term say of it, one head after the other.
use Rattle.std.proofs.Common.{◌≡◌, Bool, true, false, not, ◌&&◌, ◌||◌, cond, List, [], ◌∷◌, map, Contains, refl, sym, ap, ap₂, ◌∙◌, if◌then◌else◌, subst, arith}
use Rattle.std.specs.Prelude.{slice_index_or}
use Rattle.std.specs.List.{list_any}
use Rattle.spec_text.proofs.Members.{first, later, to_image, in_flat}
use Rattle.spec_sorts.specs.Terms.{Head, Term, no_term, negated}
use Rattle.spec_sorts.specs.Values.{truth, all_true, any_true, different, same_value}
use Rattle.spec_sorts.specs.Literals.{Clause, literal_of}
use Rattle.spec_sorts.specs.Subsets.{arguments_of}
use Rattle.spec_proofs.specs.declared.ArgumentLiteral.{ArgumentLiteral}
use Rattle.spec_proofs.specs.declared.Rest.TheVariants.{Nothing, One, Two, AnyOne, Each}
use Rattle.spec_rules.specs.Schemes.{Scheme, schemes, signed_term, side_of, rests_of, is_formula_of, clauses_by}
use Rattle.spec_rules.specs.Truths.{Truths, term_true_by}
use Rattle.spec_rules.proofs.Resolution.{complement_true}
use Rattle.spec_derivations.specs.Base.{clauses_of}
use Rattle.spec_derivations.specs.Models.{value_by}

-- a truth, or the other one
abbrev pub sign : Bool → Bool → Bool
sign p b = cond p b (not b)

module _ (v : Truths) where
  -- a negation has the other truth
  pub negated_true : (t : Term) → term_true_by v (negated t) ≡ not (term_true_by v t)
  unfolding literal_of
  negated_true t = complement_true v (literal_of t)

  pub signed_true : (p : Bool) (t : Term) → term_true_by v (signed_term p t) ≡ sign p (term_true_by v t)
  signed_true true t = refl
  signed_true false t = negated_true t

module _ (v : Truths) (t : Term) (met : (c : Clause) → Contains (clauses_of t) c → list_any (term_true_by v) c ≡ true) where
  -- a clause that the term gives by a scheme
  pub by_scheme : (s : Scheme) → Contains schemes s → is_formula_of s.head t ≡ true → (rest : Clause) → Contains (rests_of s.rest (arguments_of t)) rest → sign s.positive (term_true_by v t) || list_any (term_true_by v) rest ≡ true
  by_scheme s s_in formula rest rest_in =
      let before : Clause → Clause = λ ls. signed_term s.positive t ∷ ls in
      let given : Contains (clauses_by s t) (before rest) = subst (λ b. Contains (if b then map before (rests_of s.rest (arguments_of t)) else []) (before rest)) (sym formula) (to_image before (rests_of s.rest (arguments_of t)) rest rest_in) in
      ap (λ b. b || list_any (term_true_by v) rest) (sym (signed_true v s.positive t)) ∙ met (before rest) (in_flat (λ x. clauses_by x t) schemes s (before rest) s_in given)

  -- nothing after the term
  pub alone : (h : Head) (p : Bool) → Contains schemes (record { head = h; positive = p; rest = Nothing }) → is_formula_of h t ≡ true → sign p (term_true_by v t) || false ≡ true
  alone h p s_in formula = by_scheme (record { head = h; positive = p; rest = Nothing }) s_in formula [] (first [] [])

  -- one argument after it
  pub with_one : (h : Head) (p : Bool) (x : ArgumentLiteral) → Contains schemes (record { head = h; positive = p; rest = One x }) → is_formula_of h t ≡ true → sign p (term_true_by v t) || (sign x.positive (term_true_by v (slice_index_or (arguments_of t) x.place no_term)) || false) ≡ true
  with_one h p x s_in formula =
      let u = slice_index_or (arguments_of t) x.place no_term in
      ap (λ b. sign p (term_true_by v t) || (b || false)) (sym (signed_true v x.positive u)) ∙ by_scheme (record { head = h; positive = p; rest = One x }) s_in formula (side_of (arguments_of t) x ∷ []) (first (side_of (arguments_of t) x ∷ []) [])

  -- two arguments after it
  pub with_two : (h : Head) (p : Bool) (x y : ArgumentLiteral) → Contains schemes (record { head = h; positive = p; rest = Two x y }) → is_formula_of h t ≡ true → sign p (term_true_by v t) || (sign x.positive (term_true_by v (slice_index_or (arguments_of t) x.place no_term)) || (sign y.positive (term_true_by v (slice_index_or (arguments_of t) y.place no_term)) || false)) ≡ true
  with_two h p x y s_in formula =
      let u = slice_index_or (arguments_of t) x.place no_term in
      let w = slice_index_or (arguments_of t) y.place no_term in
      let ls = side_of (arguments_of t) x ∷ side_of (arguments_of t) y ∷ [] in
      ap₂ (λ b c. sign p (term_true_by v t) || (b || (c || false))) (sym (signed_true v x.positive u)) (sym (signed_true v y.positive w)) ∙ by_scheme (record { head = h; positive = p; rest = Two x y }) s_in formula ls (first ls [])

  -- any one argument after it
  pub with_any : (h : Head) (p q : Bool) → Contains schemes (record { head = h; positive = p; rest = AnyOne q }) → is_formula_of h t ≡ true → (u : Term) → Contains (arguments_of t) u → sign p (term_true_by v t) || (sign q (term_true_by v u) || false) ≡ true
  with_any h p q s_in formula u u_in = ap (λ b. sign p (term_true_by v t) || (b || false)) (sym (signed_true v q u)) ∙ by_scheme (record { head = h; positive = p; rest = AnyOne q }) s_in formula (signed_term q u ∷ []) (to_image (λ w. signed_term q w ∷ []) (arguments_of t) u u_in)

  -- each argument after it
  pub with_each : (h : Head) (p q : Bool) → Contains schemes (record { head = h; positive = p; rest = Each q }) → is_formula_of h t ≡ true → sign p (term_true_by v t) || list_any (term_true_by v) (map (signed_term q) (arguments_of t)) ≡ true
  with_each h p q s_in formula = by_scheme (record { head = h; positive = p; rest = Each q }) s_in formula (map (signed_term q) (arguments_of t)) (first (map (signed_term q) (arguments_of t)) [])

-- what the clauses of a head say, by cases on truths
pub xor_by : (p a b : Bool) → not p || (a || (b || false)) ≡ true → not p || (not a || (not b || false)) ≡ true → p || (a || (not b || false)) ≡ true → p || (not a || (b || false)) ≡ true → p ≡ different a b
xor_by p a b e f g h = grind (arith, e, f, g, h)

pub implies_by : (p a b : Bool) → not p || (not a || (b || false)) ≡ true → p || (a || false) ≡ true → p || (not b || false) ≡ true → p ≡ not a || b
implies_by p a b e f g = grind (arith, e, f, g)

pub equal_by : (p a b : Bool) → not p || (a || (not b || false)) ≡ true → not p || (not a || (b || false)) ≡ true → p || (not a || (not b || false)) ≡ true → p || (a || (b || false)) ≡ true → p ≡ same_value (truth a) (truth b)
equal_by p true b e f g h = grind (arith, e, f, g, h)
equal_by p false b e f g h = grind (arith, e, f, g, h)

pub ite_by : (p c a b : Bool) → not p || (c || (b || false)) ≡ true → not p || (not c || (a || false)) ≡ true → p || (c || (not b || false)) ≡ true → p || (not c || (not a || false)) ≡ true → truth p ≡ (if c then truth a else truth b)
ite_by p true a b e f g h = ap truth (grind (arith, e, f, g, h))
ite_by p false a b e f g h = ap truth (grind (arith, e, f, g, h))

-- the same of all arguments
module _ (v : Truths) where
  pub none_false : (us : List Term) → list_any (term_true_by v) (map (signed_term false) us) ≡ not (all_true (map (value_by v) us))
  none_false [] = refl
  none_false (u ∷ us) = ap₂ (λ a b. a || b) (negated_true v u) (none_false us) ∙ go (term_true_by v u) (all_true (map (value_by v) us))
    where
      go : (a b : Bool) → not a || not b ≡ not (a && b)
      go a b = grind arith

  pub one_true : (us : List Term) → list_any (term_true_by v) (map (signed_term true) us) ≡ any_true (map (value_by v) us)
  one_true [] = refl
  one_true (u ∷ us) = ap (λ b. term_true_by v u || b) (one_true us)

  pub all_follow : (p : Bool) (us : List Term) → ((u : Term) → Contains us u → not p || (term_true_by v u || false) ≡ true) → not p || all_true (map (value_by v) us) ≡ true
  all_follow p [] each = grind arith
  all_follow p (u ∷ us) each =
      let e : not p || (term_true_by v u || false) ≡ true = each u (first u us) in
      let f : not p || all_true (map (value_by v) us) ≡ true = all_follow p us (λ w h. each w (later u us w h)) in
      go (term_true_by v u) (all_true (map (value_by v) us)) e f
    where
      go : (a b : Bool) → not p || (a || false) ≡ true → not p || b ≡ true → not p || (a && b) ≡ true
      go a b e f = grind (arith, e, f)

  pub all_lead : (p : Bool) (us : List Term) → ((u : Term) → Contains us u → p || (not (term_true_by v u) || false) ≡ true) → p || not (any_true (map (value_by v) us)) ≡ true
  all_lead p [] each = grind arith
  all_lead p (u ∷ us) each =
      let e : p || (not (term_true_by v u) || false) ≡ true = each u (first u us) in
      let f : p || not (any_true (map (value_by v) us)) ≡ true = all_lead p us (λ w h. each w (later u us w h)) in
      go (term_true_by v u) (any_true (map (value_by v) us)) e f
    where
      go : (a b : Bool) → p || (not a || false) ≡ true → p || not b ≡ true → p || not (a || b) ≡ true
      go a b e f = grind (arith, e, f)

pub same_truth : (p q : Bool) → not p || q ≡ true → p || not q ≡ true → p ≡ q
same_truth p q e f = grind (arith, e, f)
