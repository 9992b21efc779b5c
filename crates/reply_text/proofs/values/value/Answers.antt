-- A truth value by its letters.
use Rattle.std.proofs.Common.{sym, ap, ◌∙◌}
use Rattle.spec_models.specs.Values.{value_text}
use Rattle.term_walks.specs.Valuations.{value_meant}
use Rattle.world_io.proofs.Sending.{sends_same}
use Rattle.reply_text.proofs.values.value.Goals as goal

pub returns-in-Bool : goal.returns-in-Bool
returns-in-Bool g c = λ sorts named. sends_same _ _ c.write_all.result _ _ (c.letters.ensures sorts ∙ ap (λ v. value_text (value_meant sorts v)) (sym c.in-Bool.is)) c.write_all.ensures
