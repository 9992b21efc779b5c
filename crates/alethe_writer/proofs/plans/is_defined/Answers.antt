-- A term is defined where it is marked, has arguments, and is not in place.
use Rattle.std.proofs.Common.{◌≡◌, ◌≢◌, ℕ, Bool, true, false, ◌&&◌, sym, ◌∙◌, refl, arith}
use Rattle.std.specs.Prelude.{nat_eq}
use Rattle.std.proofs.lemmas.Bool.{false≢true}
use Rattle.std.proofs.lemmas.Bool.Decides.{nat_tests}
use Rattle.alethe_writer.proofs.TermNumbers.{definition_there}
use Rattle.alethe_writer.proofs.plans.is_defined.Goals as goal

none : (a b : Bool) → a ≡ false → false ≡ a && b
none true b e = absurd (false≢true (sym e))
none false b e = refl

placed : (a b : Bool) (n : ℕ) → (n ≡ 0 → ⊥) → false ≡ a && (b && nat_eq n 0)
placed false b n f = refl
placed true false n f = refl
placed true true n f = let e : nat_eq n 0 ≡ false = grind (arith, nat_tests, f) in sym e

one : (a b r : Bool) (n : ℕ) → a ≡ true → n ≡ 0 → r ≡ b → r ≡ a && (b && nat_eq n 0)
one true true r n e f g = let h : nat_eq n 0 ≡ true = grind (arith, nat_tests, f) in g ∙ sym h
one true false r n e f g = g
one false b r n e f g = absurd (false≢true e)

pub returns-then-not-printed-number : goal.returns-then-not-printed-number
returns-then-not-printed-number c = none _ _ c.if-not-printed-number.true ∙ sym (definition_there c.args.table.now c.args.printed.now c.args.heights.now c.args.number c.requires.as_many c.requires.as_many_heights c.requires.there)

pub returns-then-heights-number-ne0 : goal.returns-then-heights-number-ne0
returns-then-heights-number-ne0 c = placed _ _ _ c.if-heights-number-ne0.true ∙ sym (definition_there c.args.table.now c.args.printed.now c.args.heights.now c.args.number c.requires.as_many c.requires.as_many_heights c.requires.there)

pub returns : goal.returns
returns c = one _ _ c.has_arguments.result _ c.if-not-printed-number.false c.if-heights-number-ne0.false c.has_arguments.ensures ∙ sym (definition_there c.args.table.now c.args.printed.now c.args.heights.now c.args.number c.requires.as_many c.requires.as_many_heights c.requires.there)
