-- Equalities whose orders leave the bound on numbers, among more terms.
use Rattle.std.proofs.Common.{◌≡◌, ◌∷◌, [], List, Contains, inl, inr, sym, subst}
use Rattle.std.specs.Prelude.{Result, Ok, Err, IfErr}
use Rattle.std.specs.Result.{IsErrAnd}
use Rattle.std.proofs.lemmas.Result.{IfErr-weaker}
use Rattle.spec_text.proofs.Members.{first, only}
use Rattle.spec_numbers.specs.Fractions.{Fraction, one_fraction, opposite}
use Rattle.spec_numbers.specs.Bounds.{Overflow}
use Rattle.ratio128.specs.Meant.{fraction}
use Rattle.spec_sorts.specs.Terms.{Equal, Term, pair, negated}
use Rattle.spec_sorts.specs.Subsets.{AreAmong}
use Rattle.spec_arithmetic.specs.Contradictions.{wide, la_generic}
use Rattle.ratio128.specs.declared.ratio.Ratio.{Ratio}
use Rattle.term_core.specs.declared.ids.TermId.{TermId}
use Rattle.term_core.specs.Tables.{TableView, term_at}
use Rattle.clausify.specs.declared.sides.Sides.{Sides}
use Rattle.clausify.specs.declared.stop.ClauseStop.{ClauseStop}
use Rattle.clausify.specs.declared.stop.ClauseStop.TheVariants as stops
use Rattle.clausify.specs.Orders.{order_at, AreSidesOf, order_clause, arguments_by}
use Rattle.clausify.specs.Overflows.{OnClauseOverflow}
use Rattle.spec_causes.specs.Checks.{LeavesOrder, IsOverflowAmong}

on_wide : (P Q : Overflow → Type 0) → ((o : Overflow) → P o → Q o) → (s : ClauseStop) → OnClauseOverflow P s → OnClauseOverflow Q s
on_wide P Q f (stops.Wide w) h = f _ h
on_wide P Q f stops.Memory h = tt

-- what a fault says, where that follows
pub wide_weaker : {A : Type 0} (r : Result A ClauseStop) (P Q : Overflow → Type 0) → ((o : Overflow) → P o → Q o) → IfErr r (OnClauseOverflow P) → IfErr r (OnClauseOverflow Q)
wide_weaker r P Q f h = IfErr-weaker r (OnClauseOverflow P) (OnClauseOverflow Q) (on_wide P Q f) h

-- and so what one that is passed on says
pub passed_on : {A : Type 0} (P Q : Overflow → Type 0) (r : Result A ClauseStop) (s : ClauseStop) → IsErrAnd r (λ y. y ≡ s) → ((o : Overflow) → P o → Q o) → OnClauseOverflow P s → IfErr r (OnClauseOverflow Q)
passed_on P Q (Ok a) s is f h = tt
passed_on P Q (Err y) s is f h = subst (OnClauseOverflow Q) (sym is) (on_wide P Q f s h)

-- an equality among terms is one among more
pub among_more : (ts us : List Term) → AreAmong ts us → (o : Overflow) → IsOverflowAmong ts o → IsOverflowAmong us o
among_more ts us among o h = record { left = h.left; right = h.right; there = among (pair Equal h.left h.right) h.there; leaves = h.leaves }

-- and a term alone among those that have it
pub alone_among : (t : Term) (us : List Term) → Contains us t → (o : Overflow) → IsOverflowAmong (t ∷ []) o → IsOverflowAmong us o
alone_among t us there = among_more (t ∷ []) us (λ u u_in. subst (Contains us) (only t u u_in) there)

module _ (t : TableView) (id : TermId) (x : Sides) (is : AreSidesOf t (term_at t id) x) where
  -- a clause of its orders
  clause_leaves : (a b : TermId) (w : Ratio) (f : Fraction) → fraction w ≡ f → (o : Overflow) → la_generic (order_clause t id a b) (arguments_by w) ≡ Err (wide o)
      → LeavesOrder (term_at t x.left) (term_at t x.right) (order_at t a b ∷ []) f o
  clause_leaves a b w f weight o leaves =
      subst (λ (g : Fraction). LeavesOrder (term_at t x.left) (term_at t x.right) (order_at t a b ∷ []) g o) weight
      (subst (λ (e : Term). la_generic (negated e ∷ order_at t a b ∷ []) (arguments_by w) ≡ Err (wide o)) is.means leaves)

  equality_there : Contains (term_at t id ∷ []) (pair Equal (term_at t x.left) (term_at t x.right))
  equality_there = subst (Contains (term_at t id ∷ [])) is.means (first (term_at t id) [])

  -- the one
  pub forth_leaves : (w : Ratio) → fraction w ≡ one_fraction → (o : Overflow) → la_generic (order_clause t id x.left x.right) (arguments_by w) ≡ Err (wide o) → IsOverflowAmong (term_at t id ∷ []) o
  forth_leaves w weight o leaves = record {
    left = term_at t x.left;
    right = term_at t x.right;
    there = equality_there;
    leaves = inl (clause_leaves x.left x.right w one_fraction weight o leaves);
  }

  -- or the other
  pub back_leaves : (w : Ratio) → fraction w ≡ opposite one_fraction → (o : Overflow) → la_generic (order_clause t id x.right x.left) (arguments_by w) ≡ Err (wide o) → IsOverflowAmong (term_at t id ∷ []) o
  back_leaves w weight o leaves = record {
    left = term_at t x.left;
    right = term_at t x.right;
    there = equality_there;
    leaves = inr (clause_leaves x.right x.left w (opposite one_fraction) weight o leaves);
  }
