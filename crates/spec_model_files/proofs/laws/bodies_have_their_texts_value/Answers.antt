-- Each text has the value of its parts.
use Rattle.std.specs.Prelude.{[], refl}
use Rattle.spec_model_files.proofs.Meaning.{number_means, table_means}
use Rattle.spec_model_files.proofs.laws.bodies_have_their_texts_value.Goals as goal

pub returns-clause-number : goal.returns-clause-number
returns-clause-number c = λ t x e m. number_means m [] (λ n h. refl) t x e

pub returns-clause-body : goal.returns-clause-body
returns-clause-body c = table_means
