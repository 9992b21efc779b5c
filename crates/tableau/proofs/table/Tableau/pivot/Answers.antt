use Rattle.std.proofs.Common.{◌∙◌, List, [], ap, sym, subst, refl, set, length, ◌<◌, arith}
use Rattle.std.proofs.lemmas.List.{get_or_default}
use Rattle.tableau.specs.Entries.{rows_of}
use Rattle.tableau.specs.Kept.{AreOverColumns, AreNoted, RowsAreNoted}
use Rattle.tableau.specs.declared.entries.Row.{Row as CodeRow}
use Rattle.tableau.proofs.Changing.{tidy_at}
use Rattle.tableau.proofs.Noting.{rows_known}
use Rattle.tableau.specs.Pivots.{changes_meant, exchange_changes, AllNumbers}
use Rattle.tableau.proofs.Exchanged.{Leaving, x_low, within_items, made_over, made_numbered, kept_still, entering_mid, kept_after, view_after, solutions_kept}
use Rattle.tableau.proofs.table.Tableau.pivot.Goals as goal

pub changes-requires-clause-column : goal.changes-requires-clause-column
changes-requires-clause-column c =
    let i = c.self.inside in
    let w : Leaving i c.args.self.now c.args.leaving c.args.entering c.in-Some.number = record { is = c.self.view_is; kept = c.self.invariant; pivot = c.requires; at = c.in-Some.ensures.place; there = c.in-Some.ensures.row } in
    within_items i c.args.self.now c.args.leaving c.args.entering c.in-Some.number w c.as_slice.result.now
    (c.as_slice.ensures.same ∙ c.index.ensures ∙ get_or_default i.columns.items c.args.entering c.index.result.now [] (x_low i c.args.self.now c.args.leaving c.args.entering c.in-Some.number w))
    c.deref.result.now c.deref.ensures.value

pub note_changes-requires-clause-over : goal.note_changes-requires-clause-over
note_changes-requires-clause-over c =
    let i = c.self.inside in
    let w : Leaving i c.args.self.now c.args.leaving c.args.entering c.in-Some.number = record { is = c.self.view_is; kept = c.self.invariant; pivot = c.requires; at = c.in-Some.ensures.place; there = c.in-Some.ensures.row } in
    subst (λ z. AreOverColumns (length i.columns.items) (changes_meant z)) (sym c.deref-3.ensures.value)
    (made_over i c.args.self.now c.args.leaving c.args.entering c.in-Some.number w c.as_slice.result.now
    (c.as_slice.ensures.same ∙ c.index.ensures ∙ get_or_default i.columns.items c.args.entering c.index.result.now [] (x_low i c.args.self.now c.args.leaving c.args.entering c.in-Some.number w))
    (changes_meant c.in_ok-made.made.items) (c.in_ok-made.ensures.ok ∙ ap (λ z. exchange_changes (rows_of z) c.as_slice.result.now c.in-Some.number c.args.leaving c.args.entering) c.deref.ensures.value))

pub invariant_of-self : goal.invariant_of-self
invariant_of-self c =
    let i = c.self.inside in
    let w : Leaving i c.args.self.now c.args.leaving c.args.entering c.in-Some.number = record { is = c.self.view_is; kept = c.self.invariant; pivot = c.requires; at = c.in-Some.ensures.place; there = c.in-Some.ensures.row } in
    kept_still i c.args.self.now c.args.leaving c.args.entering c.in-Some.number w c.as_slice.result.now
    (c.as_slice.ensures.same ∙ c.index.ensures ∙ get_or_default i.columns.items c.args.entering c.index.result.now [] (x_low i c.args.self.now c.args.leaving c.args.entering c.in-Some.number w))
    (changes_meant c.in_ok-made.made.items) (c.in_ok-made.ensures.ok ∙ ap (λ z. exchange_changes (rows_of z) c.as_slice.result.now c.in-Some.number c.args.leaving c.args.entering) c.deref.ensures.value)
    c.note_changes.new.columns.items (λ n h. c.note_changes.ensures.grown n (subst (λ z. AllNumbers (λ k. k < n) (changes_meant z)) (sym c.deref-3.ensures.value) h)) _ refl refl refl refl

pub note_changes-requires-clause-known : goal.note_changes-requires-clause-known
note_changes-requires-clause-known c =
    let i = c.self.inside in
    subst (λ z. RowsAreNoted i.columns.items (rows_of z)) (sym c.deref-2.ensures.value)
    (rows_known (rows_of i.rows.items) i.columns.items (λ k l. tidy_at (rows_of i.rows.items) k l c.self.invariant.rows.solved.tidy) c.self.invariant.columns)

pub note_changes-requires-clause-numbered : goal.note_changes-requires-clause-numbered
note_changes-requires-clause-numbered c =
    let i = c.self.inside in
    let w : Leaving i c.args.self.now c.args.leaving c.args.entering c.in-Some.number = record { is = c.self.view_is; kept = c.self.invariant; pivot = c.requires; at = c.in-Some.ensures.place; there = c.in-Some.ensures.row } in
    subst (λ (rs : List CodeRow). AllNumbers (λ k. k < length rs) (changes_meant c.deref-3.result.now)) (sym c.deref-2.ensures.value)
    (subst (λ z. AllNumbers (λ k. k < length i.rows.items) (changes_meant z)) (sym c.deref-3.ensures.value)
    (made_numbered i c.args.self.now c.args.leaving c.args.entering c.in-Some.number w c.as_slice.result.now
    (c.as_slice.ensures.same ∙ c.index.ensures ∙ get_or_default i.columns.items c.args.entering c.index.result.now [] (x_low i c.args.self.now c.args.leaving c.args.entering c.in-Some.number w))
    (changes_meant c.in_ok-made.made.items) (c.in_ok-made.ensures.ok ∙ ap (λ z. exchange_changes (rows_of z) c.as_slice.result.now c.in-Some.number c.args.leaving c.args.entering) c.deref.ensures.value)))

pub put_changes-requires : goal.put_changes-requires
put_changes-requires c =
    let i = c.self.inside in
    let w : Leaving i c.args.self.now c.args.leaving c.args.entering c.in-Some.number = record { is = c.self.view_is; kept = c.self.invariant; pivot = c.requires; at = c.in-Some.ensures.place; there = c.in-Some.ensures.row } in
    made_numbered i c.args.self.now c.args.leaving c.args.entering c.in-Some.number w c.as_slice.result.now
    (c.as_slice.ensures.same ∙ c.index.ensures ∙ get_or_default i.columns.items c.args.entering c.index.result.now [] (x_low i c.args.self.now c.args.leaving c.args.entering c.in-Some.number w))
    (changes_meant c.in_ok-made.made.items) (c.in_ok-made.ensures.ok ∙ ap (λ z. exchange_changes (rows_of z) c.as_slice.result.now c.in-Some.number c.args.leaving c.args.entering) c.deref.ensures.value)

pub index_mut-requires-3 : goal.index_mut-requires-3
index_mut-requires-3 c =
    let i = c.self.inside in
    let w : Leaving i c.args.self.now c.args.leaving c.args.entering c.in-Some.number = record { is = c.self.view_is; kept = c.self.invariant; pivot = c.requires; at = c.in-Some.ensures.place; there = c.in-Some.ensures.row } in
    let low = entering_mid i c.args.self.now c.args.leaving c.args.entering c.in-Some.number w c.as_slice.result.now
    (c.as_slice.ensures.same ∙ c.index.ensures ∙ get_or_default i.columns.items c.args.entering c.index.result.now [] (x_low i c.args.self.now c.args.leaving c.args.entering c.in-Some.number w))
    (changes_meant c.in_ok-made.made.items) (c.in_ok-made.ensures.ok ∙ ap (λ z. exchange_changes (rows_of z) c.as_slice.result.now c.in-Some.number c.args.leaving c.args.entering) c.deref.ensures.value)
    c.note_changes.new.columns.items (λ n h. c.note_changes.ensures.grown n (subst (λ z. AllNumbers (λ k. k < n) (changes_meant z)) (sym c.deref-3.ensures.value) h)) in
    omega (arith, low)

pub invariant_of-self-2 : goal.invariant_of-self-2
invariant_of-self-2 c =
    let i = c.self.inside in
    let w : Leaving i c.args.self.now c.args.leaving c.args.entering c.in-Some.number = record { is = c.self.view_is; kept = c.self.invariant; pivot = c.requires; at = c.in-Some.ensures.place; there = c.in-Some.ensures.row } in
    kept_after i c.args.self.now c.args.leaving c.args.entering c.in-Some.number w c.as_slice.result.now
    (c.as_slice.ensures.same ∙ c.index.ensures ∙ get_or_default i.columns.items c.args.entering c.index.result.now [] (x_low i c.args.self.now c.args.leaving c.args.entering c.in-Some.number w))
    (changes_meant c.in_ok-made.made.items) (c.in_ok-made.ensures.ok ∙ ap (λ z. exchange_changes (rows_of z) c.as_slice.result.now c.in-Some.number c.args.leaving c.args.entering) c.deref.ensures.value)
    c.note_changes.new.columns.items (λ n h. c.note_changes.ensures.grown n (subst (λ z. AllNumbers (λ k. k < n) (changes_meant z)) (sym c.deref-3.ensures.value) h))
    (subst (λ z. AreNoted c.note_changes.new.columns.items (changes_meant z)) c.deref-3.ensures.value c.in_ok-note_changes.ensures.noted)
    c.put_changes.new.rows.items c.put_changes.ensures _ refl refl refl (ap (set c.note_changes.new.columns.items c.args.entering) c.clear.ensures)

pub returns-clause-ok : goal.returns-clause-ok
returns-clause-ok c =
    let i = c.self.inside in
    let w : Leaving i c.args.self.now c.args.leaving c.args.entering c.in-Some.number = record { is = c.self.view_is; kept = c.self.invariant; pivot = c.requires; at = c.in-Some.ensures.place; there = c.in-Some.ensures.row } in
    view_after i c.args.self.now c.args.leaving c.args.entering c.in-Some.number w c.as_slice.result.now
    (c.as_slice.ensures.same ∙ c.index.ensures ∙ get_or_default i.columns.items c.args.entering c.index.result.now [] (x_low i c.args.self.now c.args.leaving c.args.entering c.in-Some.number w))
    (changes_meant c.in_ok-made.made.items) (c.in_ok-made.ensures.ok ∙ ap (λ z. exchange_changes (rows_of z) c.as_slice.result.now c.in-Some.number c.args.leaving c.args.entering) c.deref.ensures.value)
    c.note_changes.new.columns.items (λ n h. c.note_changes.ensures.grown n (subst (λ z. AllNumbers (λ k. k < n) (changes_meant z)) (sym c.deref-3.ensures.value) h))
    (subst (λ z. AreNoted c.note_changes.new.columns.items (changes_meant z)) c.deref-3.ensures.value c.in_ok-note_changes.ensures.noted)
    c.put_changes.new.rows.items c.put_changes.ensures _ refl

pub returns-clause-keeps : goal.returns-clause-keeps
returns-clause-keeps c =
    let i = c.self.inside in
    let w : Leaving i c.args.self.now c.args.leaving c.args.entering c.in-Some.number = record { is = c.self.view_is; kept = c.self.invariant; pivot = c.requires; at = c.in-Some.ensures.place; there = c.in-Some.ensures.row } in
    solutions_kept i c.args.self.now c.args.leaving c.args.entering c.in-Some.number w c.as_slice.result.now
    (c.as_slice.ensures.same ∙ c.index.ensures ∙ get_or_default i.columns.items c.args.entering c.index.result.now [] (x_low i c.args.self.now c.args.leaving c.args.entering c.in-Some.number w))
    (changes_meant c.in_ok-made.made.items) (c.in_ok-made.ensures.ok ∙ ap (λ z. exchange_changes (rows_of z) c.as_slice.result.now c.in-Some.number c.args.leaving c.args.entering) c.deref.ensures.value)
    c.note_changes.new.columns.items (λ n h. c.note_changes.ensures.grown n (subst (λ z. AllNumbers (λ k. k < n) (changes_meant z)) (sym c.deref-3.ensures.value) h))
    (subst (λ z. AreNoted c.note_changes.new.columns.items (changes_meant z)) c.deref-3.ensures.value c.in_ok-note_changes.ensures.noted)
    c.put_changes.new.rows.items c.put_changes.ensures
