-- The arguments are those of the row.
use Rattle.std.proofs.Common.{◌≡◌, subst}
use Rattle.spec_sorts.specs.Values.{same_values}
use Rattle.term_walks.specs.Valuations.{values_meant, AreNamed}
use Rattle.term_walks.proofs.values.ValueRow.fits.Goals as goal

pub returns : goal.returns
returns c sorts apart here there =
    subst (λ l. AreNamed sorts l → c.are_same.result ≡ same_values (values_meant sorts l) (values_meant sorts c.args.arguments.now)) c.as_slice.ensures.value (λ h. c.are_same.ensures sorts apart h there) here
