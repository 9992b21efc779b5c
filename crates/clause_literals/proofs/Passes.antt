-- Passes over all premises, clause by clause.
use Rattle.std.proofs.Common.{◌≡◌, ℕ, ◌+◌, ◌-◌, ◌<◌, ◌≤◌, drop, Bool, true, false, List, [], ◌∷◌, ◌++◌, length, get_or, Contains, ◌⊎◌, inl, inr, sym, ap, ◌∙◌, subst, arith, zero, suc}
use Rattle.std.specs.Prelude.{Vec}
use Rattle.std.specs.declared.alloc.Global.{Global}
use Rattle.std.proofs.lemmas.List.{drop_more, length-map, get_or-map, length_push}
use Rattle.spec_text.proofs.Members.{cases}
use Rattle.term_core.specs.declared.ids.Lit.{Lit}
use Rattle.clause_literals.specs.declared.scan.Pass.TheVariants.{Same}
use Rattle.clause_literals.specs.Literals.{lists}
use Rattle.clause_literals.specs.Statuses.{IsFalsified, IsUnit, IsUnresolved, IsSatisfied, PropagatesNothing}
use Rattle.clause_literals.specs.Propagation.{LeadsToConflict, Advances}
use Rattle.clause_literals.specs.Scanning.{Scans, Moves}
use Rattle.clause_literals.specs.declared.status.ClauseStatus.{ClauseStatus}
use Rattle.clause_literals.specs.declared.status.ClauseStatus.TheVariants.{Unresolved, Satisfied}
use Rattle.clause_literals.proofs.Advancing.{advances_one, advances_on, refuted_by, refuted_on}

-- what a pass has come to, by whether a literal was added
abbrev pub SoFar : List (List Lit) → List (List Lit) → List Lit → List Lit → Bool → Type 0
SoFar premises seen old new true = Advances premises old new × (length old < length new)
SoFar premises seen old new false = (new ≡ old) × ((c : List Lit) → Contains seen c → PropagatesNothing new c)

-- a pass that comes to a false clause
pub to_false : (premises seen : List (List Lit)) (old mid c : List Lit) (b : Bool) → SoFar premises seen old mid b → Contains premises c → IsFalsified mid c → LeadsToConflict premises old
to_false premises seen old mid c true m c_in f = refuted_on premises old mid m.0 (refuted_by premises mid c c_in f)
to_false premises seen old mid c false m c_in f = subst (λ (h : List Lit). LeadsToConflict premises h) m.0 (refuted_by premises mid c c_in f)

-- to a unit clause
pub to_unit : (premises seen : List (List Lit)) (old mid new c : List Lit) (l : Lit) (b : Bool) → SoFar premises seen old mid b → Contains premises c → IsUnit mid c l → new ≡ mid ++ l ∷ [] → Advances premises old new × (length old < length new)
to_unit premises seen old mid new c l true m c_in u e =
    let a = subst (λ (h : List Lit). Advances premises mid h) (sym e) (advances_one premises mid c l c_in u) in
    (advances_on premises old mid new m.0 a, omega (arith, m.1, ap length e, length_push mid l))
to_unit premises seen old mid new c l false m c_in u e =
    let a = subst (λ (h : List Lit). Advances premises mid h) (sym e) (advances_one premises mid c l c_in u) in
    (subst (λ (h : List Lit). Advances premises h new) m.0 a, omega (arith, ap length m.0, ap length e, length_push mid l))

-- to one from which nothing follows
pub to_inert : (premises seen more : List (List Lit)) (old mid new c : List Lit) (b : Bool) → SoFar premises seen old mid b → new ≡ mid → PropagatesNothing mid c → more ≡ c ∷ seen → SoFar premises more old new b
to_inert premises seen more old mid new c true m e s each = subst (λ (h : List Lit). Advances premises old h × (length old < length h)) (sym e) m
to_inert premises seen more old mid new c false m e s each = (e ∙ m.0, λ d i. subst (λ (h : List Lit). PropagatesNothing h d) (sym e) (elim (cases c seen d (subst (λ (cs : List (List Lit)). Contains cs d) each i)) [ inl is ↦ subst (λ (x : List Lit). PropagatesNothing mid x) is s | inr was ↦ m.1 d was ]))

abbrev to_items : Vec Lit Global → List Lit
to_items w = w.items

-- the clause before those after
module _ (vs : List (Vec Lit Global)) (n : ℕ) (v : Vec Lit Global) (some : 0 < n) (within : n ≤ length vs) (e : v ≡ get_or vs (n - 1) v) where
  last : get_or (lists vs) (n - 1) v.items ≡ v.items
  last = get_or-map to_items vs (n - 1) v v.items (omega (arith, some, within)) ∙ ap to_items (sym e)

  pub before : Contains (lists vs) v.items
  before = (n - 1, rw length-map (omega (arith, some, within)), last)

  pub behind : drop (n - 1) (lists vs) ≡ v.items ∷ drop n (lists vs)
  behind =
      let next : (n - 1) + 1 ≡ n = omega (arith, some) in
      drop_more (lists vs) (n - 1) v.items (rw length-map (omega (arith, some, within))) ∙ (λ j. last j ∷ drop (next j) (lists vs))

-- a pass that has ended, with nothing added
pub ended : (premises : List (List Lit)) (n : ℕ) (old new : List Lit) → n ≤ 0 → SoFar premises (drop n premises) old new false → Moves premises premises old new Same
ended premises zero old new l m = m
ended premises (suc n) old new l m = absurd (omega (arith, l))

-- an open or a true clause
pub is_inert : (c old new : List Lit) (f : ClauseStatus) → (f ≡ Unresolved) ⊎ (f ≡ Satisfied) → Scans c old new f → PropagatesNothing old c × (new ≡ old)
is_inert c old new f (inl e) s = let t : IsUnresolved old c × (new ≡ old) = let P : ClauseStatus → Type 0 = Scans c old new in subst P e s in (inr t.0, t.1)
is_inert c old new f (inr e) s = let t : IsSatisfied old c × (new ≡ old) = let P : ClauseStatus → Type 0 = Scans c old new in subst P e s in (inl t.0, t.1)
