-- An interpretation by the names of a signature, whose symbols have tables by the values of listed terms.
use Rattle.std.proofs.Common.{false, List, [], Option, ap}
use Rattle.std.specs.Prelude.{Some}
use Rattle.spec_sorts.specs.Terms.{Term}
use Rattle.spec_sorts.specs.Values.{truth, Table, Interpretation}
use Rattle.spec_sorts.specs.Signatures.{Known, declared, Signature, known_as, symbols_in}
use Rattle.spec_reading.specs.Agreement.{AreSound}
use Rattle.spec_checking.proofs.Models.{found}
use Rattle.spec_valuations.specs.Tables.{Valuation, table_of, IsModelBy}

-- the table of a name, where it is a declared symbol's
abbrev table_known : Valuation → List Term → Option Known → Table
table_known v terms (Some (declared f)) = table_of v f terms
table_known v terms o = record { rows = []; default = truth false }

-- each name has its table
abbrev pub model_by : Signature → Valuation → List Term → Interpretation
model_by s v terms = record { table = λ n. table_known v terms (known_as s n) }

-- the declared symbols have theirs
pub named : (s : Signature) (v : Valuation) (terms : List Term) → AreSound s → IsModelBy (model_by s v terms) v (symbols_in s) terms
named s v terms sound f f_in = ap (table_known v terms) (found [] s sound f f_in)
