-- The shelf holds the text, and no call of it fails.
use Rattle.std.proofs.Common.{◌<◌, ℕ, List, Option, IsSome, refl, sym, subst}
use Rattle.spec_sessions.specs.Responses.{solve}
use Rattle.world_io.specs.Memory.{text_named}
use Rattle.smt_top.specs.Generated.{usual_limits}
use Rattle.smt_top.proofs.GoingOn.{nothing_done, ends_as_text}
use Rattle.smt_top.proofs.goes_on.run_in_pieces.Goals as goal

pub returns-in_default : goal.returns-in_default
returns-in_default g c = nothing_done c.answers_say_what_is_so.ensures.whole c.answers_say_what_is_so.ensures.begun (λ text at. c.each_text_is_read.ensures text at 0) usual_limits solve c.args.text.now (g.K.Sink.state c.args.out.now)

pub returns : goal.returns
returns g c =
    let held = c.in-Ok.ensures.held in
    let some = subst (λ (m : ℕ). 0 < m) (sym c.in-Ok.ensures.sound.1) c.requires in
    let read = c.run_with_retries.ensures.read (c.in-Ok.ensures.sound.0, some) (subst (λ (t : Option (List ℕ)). IsSome t) (sym held) refl) in
    ends_as_text c.answers_say_what_is_so.ensures.whole c.answers_say_what_is_so.ensures.begun (λ text at. c.each_text_is_read.ensures text at 0) usual_limits solve c.args.text.now (text_named c.in-Ok.shelf.texts) held
    (g.K.Sink.state c.args.out.now) (g.K.Sink.state c.run_with_retries.new.out) c.run_with_retries.result read c.run_with_retries.ensures.ends
