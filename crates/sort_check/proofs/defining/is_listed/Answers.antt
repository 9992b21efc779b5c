-- Whether a name is one of those of parameters.
use Rattle.std.proofs.Common.{◌≡◌, Bool, true, false, ◌||◌, refl, sym}
use Rattle.spec_sorts.specs.Theory.{is_of_theory}
use Rattle.spec_text.specs.Bytes.{among}
use Rattle.sort_check.proofs.Binding.{is_among}
use Rattle.sort_check.proofs.defining.is_listed.Goals as goal

second_true : (a b : Bool) → true ≡ b → true ≡ (a || b)
second_true true b h = refl
second_true false b h = h

pub returns-in-Some-find : goal.returns-in-Some-find
returns-in-Some-find c =
    let k = c.in-Some-find.ensures in
    second_true (is_of_theory c.args.name.now) (among c.args.names.now c.args.name.now) (sym (is_among c.args.names.now c.args.name.now c.in-Some-find.field-0 k.inside k.same))
