-- The first names are of the first keys.
use Rattle.std.proofs.Common.{◌≡◌, [], List, ℕ, Vec, Global, map, take, sym, ap, ◌∙◌, subst}
use Rattle.std.proofs.lemmas.List.{take-map}
use Rattle.term_core.specs.NameLists.{HaveNoTwice}
use Rattle.term_core.proofs.NamesApart.{AreApart-take}
use Rattle.term_core.proofs.name_table.NameTable.cut.Goals as goal

abbrev items : Vec ℕ Global → List ℕ
items v = v.items

fewer : (c : goal.After-truncate) → map items c.truncate.new.self.keys ≡ take c.args.len (map items c.self.inside.set.keys)
fewer c = ap (map items) c.truncate.ensures.keys ∙ sym (take-map items c.args.len c.self.inside.set.keys)

pub invariant_of-self : goal.invariant_of-self
invariant_of-self c = subst HaveNoTwice (sym (fewer c)) (AreApart-take [] (map items c.self.inside.set.keys) c.args.len c.self.invariant)

pub returns : goal.returns
returns c = fewer c ∙ ap (take c.args.len) c.self.view_is
