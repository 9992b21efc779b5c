-- The number in decimal, between its word and the end.
use Rattle.std.proofs.Common.{[], ◌++◌, ap, ◌∙◌}
use Rattle.std.specs.Prelude.{codes}
use Rattle.world_io.proofs.Sending.{sends_same}
use Rattle.smt_reply.proofs.sending.send_levels.Goals as goal

pub returns : goal.returns
returns g c = sends_same _ _ c.write_pieces.result _ _ (ap (λ d. codes "(:assertion-stack-levels " ++ (d ++ (codes ")\n" ++ []))) (c.as_bytes.ensures.value ∙ c.format.ensures.text)) c.write_pieces.ensures
