-- Entries for the variables of a form.
use Rattle.std.proofs.Common.{◌≡◌, ℕ, ◌+◌, ◌<◌, List, [], ◌∷◌, ◌++◌, length, map, take, get_or, Option, None, refl, sym, ◌∙◌, ap, subst, add-one}
use Rattle.std.specs.Prelude.{All}
use Rattle.std.proofs.Math.Seq.{take-suc}
use Rattle.std.proofs.Math.ListN.{get_or-map}
use Rattle.std.proofs.lemmas.List.Elements.{All-nil, All-cons, All-head, All-tail, All-get_or}
use Rattle.spec_numbers.specs.Fractions.{Fraction, plus, times}
use Rattle.spec_sorts.specs.Terms.{Term}
use Rattle.spec_arithmetic.specs.Forms.{variables_value}
use Rattle.spec_tableaux.specs.Spaces.{as_space}
use Rattle.spec_tableaux.specs.Rows.{sum_of}
use Rattle.spec_tableaux.specs.SolvedForms.{AllVariables}
use Rattle.spec_tableaux.specs.Numbers.{Number, numbers, fractions}
use Rattle.spec_causes.specs.TermTableau.{owner_in, AreEntriesOf}
use Rattle.ratio128.specs.declared.ratio.Ratio.{Ratio}
use Rattle.ratio128.specs.Meant.{fraction}
use Rattle.term_core.specs.declared.ids.TermId.{TermId}
use Rattle.term_core.specs.Tables.{TableView, term_at, IsIn}
use Rattle.linear_form.specs.Meant.{FormView, pair_meant, AreVariablesOf}
use Rattle.linear_form.specs.Entries.{pair_view}
use Rattle.tableau.specs.declared.entries.Entry.{Entry}
use Rattle.tableau.specs.Entries.{entries_of}
use Rattle.simplex_atoms.specs.Owners.{owner_at, AreOwned}
use Rattle.simplex_atoms.specs.Watching.{IsNumbered, EntriesAreNumbered}
use Rattle.simplex_atoms.specs.TermTableauViews.{owner_meant}
use Rattle.simplex_atoms.proofs.Owning.{owner_kept, owner_below}

pub numbered_kept : (os more : List (Option TermId)) (es : List Entry) (xs : List (TermId × Ratio)) → EntriesAreNumbered os es xs → EntriesAreNumbered (os ++ more) es xs
numbered_kept os more [] [] h = tt
numbered_kept os more (e ∷ es) (x ∷ xs) h =
    (record { owner = owner_kept os more e.variable x.0 h.0.owner; coefficient = h.0.coefficient }, numbered_kept os more es xs h.1)
numbered_kept os more [] (x ∷ xs) h = h
numbered_kept os more (e ∷ es) [] h = h

pub numbered_more : (os : List (Option TermId)) (es : List Entry) (xs : List (TermId × Ratio)) (e : Entry) (x : TermId × Ratio) → EntriesAreNumbered os es xs → IsNumbered os e x
    → EntriesAreNumbered os (es ++ e ∷ []) (xs ++ x ∷ [])
numbered_more os [] [] e x h k = (k, tt)
numbered_more os (f ∷ es) (y ∷ xs) e x h k = (h.0, numbered_more os es xs e x h.1 k)
numbered_more os [] (y ∷ xs) e x h k = absurd h
numbered_more os (f ∷ es) [] e x h k = absurd h

-- one more of a list
pub taken : {A : Type 0} (xs : List A) (i : ℕ) (x : A) → i < length xs → x ≡ get_or xs i x → take (i + 1) xs ≡ take i xs ++ x ∷ []
taken xs i x lt e = ap (λ n. take n xs) (add-one i) ∙ take-suc xs i x lt ∙ ap (λ y. take i xs ++ y ∷ []) (sym e)

-- the variables of entries are there
pub numbered_over : (os : List (Option TermId)) (n : ℕ) (es : List Entry) (xs : List (TermId × Ratio)) → length os ≡ n → EntriesAreNumbered os es xs → AllVariables (λ y. y < n) (entries_of es)
numbered_over os n [] [] e h = tt
numbered_over os n (f ∷ es) (x ∷ xs) e h = (subst (λ m. f.variable < m) e (owner_below os f.variable x.0 h.0.owner), numbered_over os n es xs e h.1)
numbered_over os n [] (x ∷ xs) e h = absurd h
numbered_over os n (f ∷ es) [] e h = absurd h

-- the sum of entries is the value of the variables
pub numbered_value : (t : TableView) (os : List (Option TermId)) (n : Term → Number) (v : ℕ → Number) (es : List Entry) (xs : List (TermId × Ratio)) → EntriesAreNumbered os es xs → AreOwned t os n v
    → variables_value (λ u. (n u).fraction) (map (pair_meant t) (map pair_view xs)) ≡ (sum_of (as_space numbers) v (entries_of es)).fraction
unfolding numbers fractions variables_value
numbered_value t os n v [] [] h o = refl
numbered_value t os n v (e ∷ es) (x ∷ xs) h o =
    let rest = numbered_value t os n v es xs h.1 o in
    let owned : v e.variable ≡ n (term_at t x.0) = o e.variable x.0 h.0.owner in
    λ i. plus (times (fraction (sym h.0.coefficient i)) (sym owned i).fraction) (rest i)
numbered_value t os n v [] (x ∷ xs) h o = absurd h
numbered_value t os n v (e ∷ es) [] h o = absurd h

-- the term of a variable, as a table means it
pub owner_mapped : (t : TableView) (os : List (Option TermId)) (y : ℕ) → owner_in (map (owner_meant t) os) y ≡ owner_meant t (owner_at os y)
owner_mapped t os y = get_or-map (owner_meant t) os y None

-- so entries are those of the variables
pub numbered_entries : (t : TableView) (os : List (Option TermId)) (es : List Entry) (xs : List (TermId × Ratio)) → EntriesAreNumbered os es xs
    → AreEntriesOf (map (owner_meant t) os) (entries_of es) (map (pair_meant t) (map pair_view xs))
numbered_entries t os [] [] h = tt
numbered_entries t os (e ∷ es) (x ∷ xs) h =
    (record { owner = owner_mapped t os e.variable ∙ ap (owner_meant t) h.0.owner; coefficient = ap fraction h.0.coefficient }, numbered_entries t os es xs h.1)
numbered_entries t os [] (x ∷ xs) h = absurd h
numbered_entries t os (e ∷ es) [] h = absurd h

-- no entries yet
pub numbered_none : (os : List (Option TermId)) (es : List Entry) (xs : List (TermId × Ratio)) → es ≡ [] → EntriesAreNumbered os es (take 0 xs)
numbered_none os es xs e = subst (λ l. EntriesAreNumbered os l (take 0 xs)) (sym e) (by xs)
  where
    by : (xs : List (TermId × Ratio)) → EntriesAreNumbered os [] (take 0 xs)
    by [] = tt
    by (x ∷ xs) = tt

-- one entry more
pub numbered_step : (os us : List (Option TermId)) (es fs : List Entry) (xs : List (TermId × Ratio)) (i : ℕ) (x : TermId × Ratio) (e : Entry) (more : List (Option TermId)) → us ≡ os ++ more
    → EntriesAreNumbered os es (take i xs) → IsNumbered us e x → i < length xs → x ≡ get_or xs i x → fs ≡ es ++ e ∷ [] → EntriesAreNumbered us fs (take (i + 1) xs)
numbered_step os us es fs xs i x e more grows h k lt is pushed =
    let kept : EntriesAreNumbered us es (take i xs) = subst (λ l. EntriesAreNumbered l es (take i xs)) (sym grows) (numbered_kept os more es (take i xs) h) in
    subst (EntriesAreNumbered us fs) (sym (taken xs i x lt is)) (subst (λ l. EntriesAreNumbered us l (take i xs ++ x ∷ [])) (sym pushed) (numbered_more us es (take i xs) e x kept k))

-- the term of one of the variables is of the table
pub is_at : (t : TableView) (xs : List (TermId × Ratio)) (i : ℕ) (x : TermId × Ratio) → i < length xs → x ≡ get_or xs i x → All (λ (p : TermId × Ratio). IsIn t p.0) xs → IsIn t x.0
is_at t xs i x lt is all = subst (λ (p : TermId × Ratio). IsIn t p.0) (sym is) (All-get_or (λ (p : TermId × Ratio). IsIn t p.0) xs i x lt all)

-- and of those of a form
pub are_in : (t : TableView) (xs : List (TermId × Ratio)) (f : FormView) → map pair_view xs ≡ f.variables → AreVariablesOf t f → All (λ (p : TermId × Ratio). IsIn t p.0) xs
are_in t xs f vs all = All-unmap xs (subst (λ (l : List (TermId × Fraction)). All (λ (p : TermId × Fraction). IsIn t p.0) l) (sym vs) all)
  where
    All-unmap : (xs : List (TermId × Ratio)) → All (λ (p : TermId × Fraction). IsIn t p.0) (map pair_view xs) → All (λ (p : TermId × Ratio). IsIn t p.0) xs
    All-unmap [] h = All-nil (λ (p : TermId × Ratio). IsIn t p.0)
    All-unmap (x ∷ xs) h =
        All-cons (λ (p : TermId × Ratio). IsIn t p.0) x xs (All-head (λ (p : TermId × Fraction). IsIn t p.0) (pair_view x) (map pair_view xs) h)
        (All-unmap xs (All-tail (λ (p : TermId × Fraction). IsIn t p.0) (pair_view x) (map pair_view xs) h))

-- the variables of a form, as they are lent
pub variables_as : (lent xs : List (TermId × Ratio)) (f : FormView) → lent ≡ xs → map pair_view xs ≡ f.variables → map pair_view lent ≡ f.variables
variables_as lent xs f e h = ap (λ (l : List (TermId × Ratio)). map pair_view l) e ∙ h
