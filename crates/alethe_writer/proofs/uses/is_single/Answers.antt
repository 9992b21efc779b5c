-- A term may be in place where all three hold.
use Rattle.std.proofs.Common.{◌≡◌, Bool, true, false, ◌&&◌, sym, ◌∙◌, refl}
use Rattle.std.proofs.lemmas.Bool.{false≢true}
use Rattle.alethe_writer.proofs.uses.is_single.Goals as goal

first : (a b : Bool) → a ≡ false → false ≡ a && b
first true b e = absurd (false≢true (sym e))
first false b e = refl

last : (a b c : Bool) → c ≡ false → false ≡ a && (b && c)
last true true c e = sym e
last true false c e = refl
last false b c e = refl

both : (a b c r : Bool) → a ≡ true → c ≡ true → r ≡ b → r ≡ a && (b && c)
both true true true r e f g = g
both true false true r e f g = g
both true b false r e f g = absurd (false≢true f)
both false b c r e f g = absurd (false≢true e)

pub returns-then-not-printed : goal.returns-then-not-printed
returns-then-not-printed c = first _ _ c.if-not-printed.true

pub returns-then-not-is_once : goal.returns-then-not-is_once
returns-then-not-is_once c = last _ _ _ (sym c.is_once.ensures ∙ c.if-not-is_once.true)

pub returns : goal.returns
returns c = both _ _ _ c.has_arguments.result c.if-not-printed.false (sym c.is_once.ensures ∙ c.if-not-is_once.false) c.has_arguments.ensures
