-- Under an interpretation that the tables represent the text is the model's.
use Rattle.world_io.proofs.Sending.{sends_same}
use Rattle.model_text.proofs.Loops.{text_meant}
use Rattle.model_text.proofs.models.send.Goals as goal

pub returns : goal.returns
returns g c = λ i represents. sends_same _ _ _ _ _ (text_meant c.args.table.now c.args.interp.now i c.requires represents) (rw c.symbols.ensures at c.write_model.ensures)
