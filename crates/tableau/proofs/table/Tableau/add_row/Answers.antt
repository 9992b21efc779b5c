use Rattle.std.proofs.Common.{rules, ◌≡◌, ◌<◌, ◌++◌, ◌∷◌, [], Some, length, refl, sym, ap, subst, ◌∙◌, arith}
use Rattle.std.proofs.lemmas.List.{map-append}
use Rattle.spec_tableaux.specs.Rows.{flattened}
use Rattle.spec_tableaux.specs.SolvedForms.{AllVariables}
use Rattle.spec_tableaux.specs.Numbers.{numbers}
use Rattle.tableau.specs.Entries.{entries_of, row_meant, rows_of}
use Rattle.tableau.specs.Views.{TableauView}
use Rattle.tableau.specs.Kept.{HasGrown, IsNoted}
use Rattle.tableau.proofs.Adding.{kept_back, made_below, kept_row}
use Rattle.tableau.proofs.Telling.{not_err}
use Rattle.tableau.proofs.table.Tableau.add_row.Goals as goal

pub flattened-requires-clause-low : goal.flattened-requires-clause-low
flattened-requires-clause-low c = subst (λ n. AllVariables (λ y. y < n) (entries_of c.args.entries.now)) (sym (ap length c.deref-2.ensures.value ∙ ap (λ (t : TableauView). t.variables) c.self.view_is)) c.requires

pub note_row-requires-clause-over : goal.note_row-requires-clause-over
note_row-requires-clause-over c =
    let i = c.self.inside in
    let is : entries_of c.in_ok-made.made.items ≡ flattened numbers (rows_of i.rows.items) [] (entries_of c.args.entries.now) = c.in_ok-made.ensures.ok ∙ ap (λ z. flattened numbers (rows_of z) [] (entries_of c.args.entries.now)) c.deref.ensures.value in
    let low : AllVariables (λ y. y < length i.places.items) (entries_of c.args.entries.now) = subst (λ n. AllVariables (λ y. y < n) (entries_of c.args.entries.now)) (sym (ap (λ (t : TableauView). t.variables) c.self.view_is)) c.requires in
    subst (λ n. AllVariables (λ y. y < n) (entries_of c.deref-3.result.now)) (sym (ap length c.in_ok-reserve_one.ensures.columns)) (subst (λ z. AllVariables (λ y. y < length i.columns.items) (entries_of z)) (sym c.deref-3.ensures.value)
    (made_below i c.self.invariant (length i.rows.items) (length i.places.items) (entries_of c.args.entries.now) (entries_of c.in_ok-made.made.items) refl refl low is))

pub invariant_of-self-then-is_err : goal.invariant_of-self-then-is_err
invariant_of-self-then-is_err c =
    let i = c.self.inside in
    let last : c.len-number.result ≡ length i.rows.items = let k = c.len-number.ensures in omega arith in
    kept_back i c.self.invariant c.len-number.result last c.note_row.new.columns.items
    (subst (λ z. HasGrown (λ k. k ≡ c.len-number.result) z c.note_row.new.columns.items) c.in_ok-reserve_one.ensures.columns c.note_row.ensures.grown)
    _ c.in_ok-reserve_one.ensures.listed c.in_ok-reserve_one.ensures.rows c.in_ok-reserve_one.ensures.places c.forget.ensures

pub push_reserved-requires-4 : goal.push_reserved-requires-4
push_reserved-requires-4 c = let a = c.note_row.ensures.len in let b = c.note_row.ensures.capacity in let r = c.in_ok-reserve_one.ensures.columns_room in omega (arith, a, b, r)

pub invariant_of-self-2 : goal.invariant_of-self-2
invariant_of-self-2 c =
    let i = c.self.inside in
    let is : entries_of c.in_ok-made.made.items ≡ flattened numbers (rows_of i.rows.items) [] (entries_of c.args.entries.now) = c.in_ok-made.ensures.ok ∙ ap (λ z. flattened numbers (rows_of z) [] (entries_of c.args.entries.now)) c.deref.ensures.value in
    let low : AllVariables (λ y. y < length i.places.items) (entries_of c.args.entries.now) = subst (λ n. AllVariables (λ y. y < n) (entries_of c.args.entries.now)) (sym (ap (λ (t : TableauView). t.variables) c.self.view_is)) c.requires in
    let last : c.len-number.result ≡ length i.rows.items = let k = c.len-number.ensures in omega arith in
    let new : c.len-basic.result ≡ length i.places.items = let k = c.len-basic.ensures in omega arith in
    let copy : c.in_ok-copy.copy.items ≡ c.args.entries.now = search rules in
    kept_row i c.self.invariant c.len-number.result c.len-basic.result (entries_of c.args.entries.now) (entries_of c.in_ok-made.made.items) last new low is c.note_row.new.columns.items
    (subst (λ z. HasGrown (λ k. k ≡ c.len-number.result) z c.note_row.new.columns.items) c.in_ok-reserve_one.ensures.columns c.note_row.ensures.grown)
    (subst (λ z. IsNoted c.note_row.new.columns.items c.len-number.result (entries_of z)) c.deref-3.ensures.value
    (not_err c.note_row.result (IsNoted c.note_row.new.columns.items c.len-number.result (entries_of c.deref-3.result.now)) (sym c.is_err.ensures.value ∙ c.if-is_err.false) c.note_row.ensures.noted))
    _ (ap rows_of c.push_reserved.ensures.items ∙ map-append row_meant c.reserve_one.new.listed.items _
    ∙ (λ k. rows_of (c.in_ok-reserve_one.ensures.listed k) ++ record { basic = c.len-basic.result; entries = entries_of (copy k) } ∷ []))
    (ap rows_of c.push_reserved-2.ensures.items ∙ map-append row_meant c.reserve_one.new.rows.items _
    ∙ (λ k. rows_of (c.in_ok-reserve_one.ensures.rows k) ++ record { basic = c.len-basic.result; entries = entries_of c.in_ok-made.made.items } ∷ []))
    (c.push_reserved-3.ensures.items ∙ ap (λ z. z ++ Some c.len-number.result ∷ []) c.in_ok-reserve_one.ensures.places)
    (c.push_reserved-4.ensures.items ∙ ap (λ z. c.note_row.new.columns.items ++ z ∷ []) c.new.ensures)
