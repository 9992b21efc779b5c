-- Readers of the same text at the same place are one.
use Rattle.std.proofs.Common.{◌≡◌, ℕ, List}
use Rattle.std.proofs.Props.{props}
use Rattle.spec_text.specs.declared.Place.{Place}
use Rattle.spec_text.specs.Places.{IsPlaceOf}
use Rattle.spec_text.specs.Readings.{kept}
use Rattle.smt_sexpr.specs.Limited.{whole_of}
use Rattle.model_read.specs.declared.reader.Reader.{Reader}

place_prop : (text : List ℕ) (at : Place) → (p q : IsPlaceOf text at) → p ≡ q
place_prop text at = hlevel props

-- what is not changed
pub unchanged : (r : Reader) (inside : IsPlaceOf (kept (whole_of r.text)) r.at) → (record { text = r.text; at = r.at; inside = inside }) ≡ r
unchanged r inside i = record { text = r.text; at = r.at; inside = place_prop (kept (whole_of r.text)) r.at inside r.inside i }
