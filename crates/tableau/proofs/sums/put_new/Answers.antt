use Rattle.std.proofs.Common.{◌≡◌, ◌==◌, false, sym, ◌∙◌, subst}
use Rattle.spec_tableaux.specs.SolvedForms.{AllVariables}
use Rattle.tableau.specs.Numbers.{number_of}
use Rattle.tableau.specs.Entries.{entries_of}
use Rattle.tableau.proofs.Putting.{PutsAt, put_nothing}
use Rattle.tableau.proofs.sums.put_new.Goals as goal

pub place_of-place-requires : goal.place_of-place-requires
place_of-place-requires c = subst (λ es. AllVariables (λ y. (y == c.args.x) ≡ false) (entries_of es)) (sym c.deref.ensures.value) c.requires

pub returns-then-is_zero : goal.returns-then-is_zero
returns-then-is_zero c =
    put_nothing c.args.entries.now.items c.place_of-place.result c.args.x (number_of c.args.c) (sym c.is_zero.ensures ∙ c.if-is_zero.true)
    (subst (λ es. PutsAt es c.args.x c.place_of-place.result) c.deref.ensures.value c.place_of-place.ensures.place)
