-- A sum comes: there is room for it.
use Rattle.std.proofs.Common.{◌<◌, ◌∷◌, subst, sym}
use Rattle.std.specs.Prelude.{IsPermutation}
use Rattle.std.proofs.lemmas.Bool.{false≢true}
use Rattle.simplex_atoms.specs.Sums.{SumsView, key_meant, sums_meant, IsNew}
use Rattle.simplex_atoms.proofs.Adding.{kept_more}
use Rattle.simplex_atoms.proofs.sums.Sums.add.Goals.{in-Ok, in-Err}
use Rattle.simplex_atoms.proofs.sums.Sums.add.Goals as goal

pub returns : goal.returns
returns c =
    let key = c.args.key in
    let old = c.self.inside.multiples.entries in
    let new = c.insert.new.self.entries in
    let free : IsNew (sums_meant old) (key_meant key) = subst (λ (v : SumsView). IsNew v.list (key_meant key)) (sym c.self.view_is) c.requires.is_new in
    subst (λ (v : SumsView). IsPermutation (record { entries = key_meant key; variable = c.args.variable; opposite = key.opposite } ∷ v.list) (sums_meant new)) c.self.view_is
    (elim c.match-insert.branch [
      | in-Ok w ↦ kept_more key.entries (record { variable = c.args.variable; opposite = key.opposite }) old new w.in-Ok.field-0 w.in-Ok.ensures.old w.in-Ok.ensures.entries free
      | in-Err w ↦ absurd (false≢true (w.in-Err.ensures.succeeds (subst (λ (v : SumsView). 0 < v.room) (sym c.self.view_is) c.requires.room)))
    ])
