-- The rows that an exchange changes.
use Rattle.std.proofs.Common.{◌≡◌, ℕ, zero, suc, ◌<◌, ◌==◌, Bool, true, false, cond, List, [], ◌∷◌, ◌++◌, append_assoc, length, set, get_or, Contains, refl, sym, ap, ◌∙◌, subst, arith}
use Rattle.std.proofs.lemmas.List.{map-append, length-map, length-set}
use Rattle.std.proofs.lemmas.List.Elements.{Contains-get_or, Contains-append_right}
use Rattle.spec_numbers.specs.Bounds.{Overflow}
use Rattle.spec_tableaux.specs.Rows.{Entry, Row as Equation, Pivot, coefficient_of, exchanged_row}
use Rattle.spec_tableaux.specs.SolvedForms.{IsTidy, AllVariables, AreTidy, AllRowVariables}
use Rattle.spec_tableaux.specs.Numbers.{Number, numbers}
use Rattle.tableau.specs.declared.entries.Row.{Row}
use Rattle.tableau.specs.declared.pivots.RowChange.{RowChange}
use Rattle.tableau.specs.Entries.{row_meant, rows_of}
use Rattle.tableau.specs.Views.{row_at, no_row}
use Rattle.tableau.specs.Pivots.{NewRow, OverflowsRow, OverflowsOther, change_meant, changes_meant, changes_in, stays, with_changes, AllNumbers}

-- the row of a number
pub meant_at : (rows : List Row) (k : ℕ) (r : Row) → k < length rows → r ≡ get_or rows k r → row_meant r ≡ row_at (rows_of rows) k
meant_at [] k r l e = absurd (omega arith)
meant_at (x ∷ rows) zero r l e = ap row_meant e
meant_at (x ∷ rows) (suc k) r l e = meant_at rows k r (omega arith) e

pub tidy_at : (rs : List (Equation Number)) (k : ℕ) → k < length rs → AreTidy numbers rs → IsTidy numbers 0 (row_at rs k).entries
tidy_at [] k l t = absurd (omega arith)
tidy_at (r ∷ rs) zero l t = t.0
tidy_at (r ∷ rs) (suc k) l t = tidy_at rs k (omega arith) t.1

pub over_at : (p : ℕ → Type 0) (rs : List (Equation Number)) (k : ℕ) → k < length rs → AllRowVariables p rs → AllVariables p (row_at rs k).entries
over_at p [] k l t = absurd (omega arith)
over_at p (r ∷ rs) zero l t = t.0
over_at p (r ∷ rs) (suc k) l t = over_at p rs k (omega arith) t.1

pub low_meant : (rows : List Row) (k : ℕ) → k < length rows → k < length (rows_of rows)
low_meant rows k l = subst (λ n. k < n) (sym (length-map rows row_meant)) l

module _ (rows : List Row) (k : ℕ) (r : Row) (es : List (Entry Number)) (low : k < length rows) (at : r ≡ get_or rows k r) (same : es ≡ (row_meant r).entries) where
  pub entries_at : es ≡ (row_at (rows_of rows) k).entries
  entries_at = same ∙ ap (λ (q : Equation Number). q.entries) (meant_at rows k r low at)

  pub tidy_there : AreTidy numbers (rows_of rows) → IsTidy numbers 0 es
  tidy_there t = subst (IsTidy numbers 0) (sym entries_at) (tidy_at (rows_of rows) k (low_meant rows k low) t)

  pub over_there : (p : ℕ → Type 0) → AllRowVariables p (rows_of rows) → AllVariables p es
  over_there p t = subst (AllVariables p) (sym entries_at) (over_at p (rows_of rows) k (low_meant rows k low) t)

  -- an overflow in a row
  pub other_overflows : (p : Pivot Number) (c : Number) → (r.basic == p.leaving) ≡ false → c ≡ coefficient_of numbers p.entering (row_meant r).entries → (o : Overflow) → OverflowsRow p c es o → OverflowsOther p (rows_of rows) o
  other_overflows p c n e o s = record {
    row = row_meant r;
    other = (subst (Contains (rows_of rows)) (sym (meant_at rows k r low at)) (Contains-get_or (rows_of rows) k no_row (low_meant rows k low)), n);
    wide = subst (λ z. OverflowsRow p z (row_meant r).entries o) e (subst (λ z. OverflowsRow p c z o) same s);
  }

-- the changes of the first number, and those of the others
pub changes_first : (p : Pivot Number) (rs : List (Equation Number)) (k : ℕ) (more : List ℕ) → changes_in p rs (k ∷ more) ≡ changes_in p rs (k ∷ []) ++ changes_in p rs more
changes_first p rs k more = by (stays p (row_at rs k))
  where
    by : (b : Bool) → cond b (changes_in p rs more) (record { number = k; row = exchanged_row numbers p (row_at rs k) } ∷ changes_in p rs more)
        ≡ cond b [] (record { number = k; row = exchanged_row numbers p (row_at rs k) } ∷ []) ++ changes_in p rs more
    by true = refl
    by false = refl

pub changes_step : (p : Pivot Number) (rs : List (Equation Number)) (k : ℕ) (left more : List ℕ) (old new whole : List NewRow) → left ≡ k ∷ more → new ≡ old ++ changes_in p rs (k ∷ []) → old ++ changes_in p rs left ≡ whole → new ++ changes_in p rs more ≡ whole
changes_step p rs k left more old new whole g e h =
    ap (λ z. z ++ changes_in p rs more) e ∙ append_assoc old (changes_in p rs (k ∷ [])) (changes_in p rs more)
    ∙ ap (λ z. old ++ z) (sym (changes_first p rs k more)) ∙ ap (λ z. old ++ changes_in p rs z) (sym g) ∙ h

pub number_first : (left more : List ℕ) (k : ℕ) → left ≡ k ∷ more → Contains left k
number_first left more k e = subst (λ (z : List ℕ). Contains z k) (sym e) (0, omega arith, refl)

pub number_later : (left more : List ℕ) (k n : ℕ) → left ≡ k ∷ more → Contains more n → Contains left n
number_later left more k n e c = subst (λ (z : List ℕ). Contains z n) (sym e) (Contains-append_right (k ∷ []) more n c)

-- the last change is put in its place first
pub changes_last : (rs : List (Equation Number)) (cs : List NewRow) (c : NewRow) → with_changes rs (cs ++ c ∷ []) ≡ with_changes (set rs c.number c.row) cs
changes_last rs [] c = refl
changes_last rs (d ∷ cs) c = ap (λ z. set z d.number d.row) (changes_last rs cs c)

numbered_last : (p : ℕ → Type 0) (cs : List NewRow) (c : NewRow) → AllNumbers p (cs ++ c ∷ []) → AllNumbers p cs × p c.number
numbered_last p [] c h = (tt, h.0)
numbered_last p (d ∷ cs) c h = let k = numbered_last p cs c h.1 in ((h.0, k.0), k.1)

rows_set : (rows : List Row) (k : ℕ) (r : Row) → rows_of (set rows k r) ≡ set (rows_of rows) k (row_meant r)
rows_set [] k r = refl
rows_set (x ∷ rows) zero r = refl
rows_set (x ∷ rows) (suc k) r = ap (λ z. row_meant x ∷ z) (rows_set rows k r)

module _ (p : ℕ → Type 0) (left rest : List RowChange) (c : RowChange) (split : left ≡ rest ++ c ∷ []) where
  meant : changes_meant left ≡ changes_meant rest ++ change_meant c ∷ []
  meant = ap changes_meant split ∙ map-append change_meant rest (c ∷ [])

  pub popped : AllNumbers p (changes_meant left) → AllNumbers p (changes_meant rest) × p c.number
  popped h = numbered_last p (changes_meant rest) (change_meant c) (subst (AllNumbers p) meant h)

  pub put_one : (rows new : List Row) (whole : List (Equation Number)) → new ≡ set rows c.number c.row → with_changes (rows_of rows) (changes_meant left) ≡ whole → with_changes (rows_of new) (changes_meant rest) ≡ whole
  put_one rows new whole e h =
      ap (λ z. with_changes (rows_of z) (changes_meant rest)) e ∙ ap (λ z. with_changes z (changes_meant rest)) (rows_set rows c.number c.row)
      ∙ sym (changes_last (rows_of rows) (changes_meant rest) (change_meant c)) ∙ ap (with_changes (rows_of rows)) (sym meant) ∙ h

pub numbered_same : (old new : List Row) (k : ℕ) (r : Row) (cs : List NewRow) → new ≡ set old k r → AllNumbers (λ n. n < length old) cs → AllNumbers (λ n. n < length new) cs
numbered_same old new k r cs e h = subst (λ m. AllNumbers (λ n. n < m) cs) (sym (ap length e ∙ length-set old k r)) h
