use Rattle.std.proofs.Common.{rules, ◌≡◌, ◌<◌, ◌∷◌, length, get_or, ap, sym, ◌∙◌, subst}
use Rattle.spec_tableaux.specs.Rows.{Row as Equation}
use Rattle.spec_tableaux.specs.Numbers.{Number}
use Rattle.spec_tableaux.specs.SolvedForms.{AllVariables}
use Rattle.tableau.specs.Entries.{entries_of, row_meant, rows_of}
use Rattle.tableau.specs.Views.{row_at}
use Rattle.tableau.specs.Pivots.{change_meant, changes_meant}
use Rattle.tableau.specs.Kept.{AreOverColumns, IsNoted}
use Rattle.tableau.proofs.Changing.{meant_at, low_meant}
use Rattle.tableau.proofs.Noting.{noted_more, change_grown, one_change, numbered_first, columns_first}
use Rattle.tableau.proofs.columns.note_changes.Goals as goal

pub note_row-requires-clause-over : goal.note_row-requires-clause-over
note_row-requires-clause-over c =
    let some : c.loop-change.rest.now ≡ c.in-Some.change.now ∷ c.in-Some.more.now = search rules in
    subst (AllVariables (λ y. y < length c.loop-change.columns.items)) (sym (ap entries_of c.deref-in-Some.ensures.value))
    (columns_first (length c.loop-change.columns.items) (changes_meant c.loop-change.rest.now) (changes_meant c.in-Some.more.now) (change_meant c.in-Some.change.now) (ap changes_meant some) c.loop-change.invariant.low).0

pub returns-in_err-note_row-clause-grown : goal.returns-in_err-note_row-clause-grown
returns-in_err-note_row-clause-grown c =
    let some : c.loop-change.rest.now ≡ c.in-Some.change.now ∷ c.in-Some.more.now = search rules in
    change_grown (changes_meant c.args.made.now) (changes_meant c.loop-change.rest.now) (changes_meant c.in-Some.more.now) (change_meant c.in-Some.change.now) c.args.columns.now.items c.loop-change.columns.items c.note_row.new.columns.items
    (ap changes_meant some) c.loop-change.invariant.numbered c.loop-change.invariant.grown c.note_row.ensures.grown

pub loop-change-preserved : goal.loop-change-preserved
loop-change-preserved c =
    let some : c.loop-change.rest.now ≡ c.in-Some.change.now ∷ c.in-Some.more.now = search rules in
    let i = c.loop-change.invariant in
    record {
      low = subst (λ n. AreOverColumns n (changes_meant c.in-Some.more.now)) (sym c.note_row.ensures.grown.count)
          (columns_first (length c.loop-change.columns.items) (changes_meant c.loop-change.rest.now) (changes_meant c.in-Some.more.now) (change_meant c.in-Some.change.now) (ap changes_meant some) i.low).1;
      known = λ k l. noted_more (λ k. k ≡ c.in-Some.change.now.number) c.loop-change.columns.items c.note_row.new.columns.items k (row_at (rows_of c.args.rows.now) k).entries c.note_row.ensures.grown (i.known k l);
      within = (numbered_first (λ k. k < length c.args.rows.now) (changes_meant c.loop-change.rest.now) (changes_meant c.in-Some.more.now) (change_meant c.in-Some.change.now) (ap changes_meant some) i.within).1;
      numbered = λ n h. (numbered_first (λ k. k < n) (changes_meant c.loop-change.rest.now) (changes_meant c.in-Some.more.now) (change_meant c.in-Some.change.now) (ap changes_meant some) (i.numbered n h)).1;
      grown = change_grown (changes_meant c.args.made.now) (changes_meant c.loop-change.rest.now) (changes_meant c.in-Some.more.now) (change_meant c.in-Some.change.now) c.args.columns.now.items c.loop-change.columns.items c.note_row.new.columns.items
          (ap changes_meant some) i.numbered i.grown c.note_row.ensures.grown;
      noted = one_change (λ k. k ≡ c.in-Some.change.now.number) c.loop-change.columns.items c.note_row.new.columns.items (changes_meant c.args.made.now) (changes_meant c.loop-change.rest.now) (changes_meant c.in-Some.more.now) (change_meant c.in-Some.change.now)
          (ap changes_meant some) c.note_row.ensures.grown
          (subst (IsNoted c.note_row.new.columns.items c.in-Some.change.now.number) (ap entries_of c.deref-in-Some.ensures.value) c.in_ok-note_row.ensures.noted) i.noted;
    }

pub note_row-requires-clause-known : goal.note_row-requires-clause-known
note_row-requires-clause-known c =
    let some : c.loop-change.rest.now ≡ c.in-Some.change.now ∷ c.in-Some.more.now = search rules in
    let i = c.loop-change.invariant in
    let rows = c.args.rows.now in
    let k = c.in-Some.change.now.number in
    let r = c.index-rows-change.result in
    let low = (numbered_first (λ k. k < length rows) (changes_meant c.loop-change.rest.now) (changes_meant c.in-Some.more.now) (change_meant c.in-Some.change.now) (ap changes_meant some) i.within).0 in
    let is : row_meant (get_or rows k r) ≡ row_at (rows_of rows) k = ap row_meant (sym c.index-rows-change.is) ∙ meant_at rows k r low c.index-rows-change.is in
    subst (λ es. IsNoted c.loop-change.columns.items k (entries_of es)) (sym c.deref.ensures.value)
    (subst (λ (e : Equation Number). IsNoted c.loop-change.columns.items k e.entries) (sym is) (i.known k (low_meant rows k low)))
