-- The entry that has the name is the first.
use Rattle.std.proofs.Common.{◌≡◌, ◌<◌, ◌∙◌, sym, length, ap, arith}
use Rattle.std.specs.Str.{bytes_eq}
use Rattle.std.specs.Prelude.{string_bytes, Some, true}
use Rattle.world_io.proofs.Places.{named_at, text_at-is}
use Rattle.world_io.proofs.memory.place_of.Goals as goal

pub returns-then-eq : goal.returns-then-eq
returns-then-eq c =
    let here : c.loop-k.k < length c.args.texts.now = omega arith in
    let t = c.index-texts-k.result in
    let named : bytes_eq (string_bytes t.0) c.args.name.now ≡ true = rw (← c.as_str.ensures.value) (sym c.if-eq.ensures) in
    (here, sym c.loop-k.invariant ∙ named_at _ _ t _ here c.index-texts-k.is named ∙ ap (λ x. Some x) (text_at-is _ _ t here c.index-texts-k.is))
