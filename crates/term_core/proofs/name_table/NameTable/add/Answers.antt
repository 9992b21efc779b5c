-- A new name's copy is last, and no name is there twice.
use Rattle.std.proofs.Common.{◌≡◌, false, ◌++◌, ◌∷◌, [], List, ℕ, Vec, Global, map, sym, ap, ◌∙◌, subst}
use Rattle.spec_text.specs.Bytes.{among}
use Rattle.term_core.specs.NameLists.{HaveNoTwice}
use Rattle.term_core.proofs.NamesApart.{pushed, HaveNoTwice-push}
use Rattle.term_core.proofs.name_table.NameTable.add.Goals as goal

abbrev items : Vec ℕ Global → List ℕ
items v = v.items

absent : (c : goal.In_ok-insert) → among (map items c.self.inside.set.keys) c.args.name.now ≡ false
absent c = ap (λ ns. among ns c.args.name.now) c.self.view_is ∙ c.requires

last : (c : goal.In_ok-insert) → map items c.insert.new.self.keys ≡ map items c.self.inside.set.keys ++ c.args.name.now ∷ []
last c = pushed items _ _ _ _ (absent c) (c.in_ok-copy.ensures.items_if_clones_equal (λ x y e. e)) c.in_ok-insert.ensures.keys

pub invariant_of-self-2 : goal.invariant_of-self-2
invariant_of-self-2 c = subst HaveNoTwice (sym (last c)) (HaveNoTwice-push _ _ c.self.invariant (absent c))

pub returns-clause-added : goal.returns-clause-added
returns-clause-added c = last c ∙ ap (λ ns. ns ++ c.args.name.now ∷ []) c.self.view_is
