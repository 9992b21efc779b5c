-- What a proof unfolds to compute readings of texts that are written out.
use Rattle.std.specs.Prelude.{⊤}
use Rattle.spec_text.specs.Lexemes.{lexemes, first_piece, string_body}
use Rattle.spec_text.specs.Answers.{◌>>=◌, require}
use Rattle.spec_sorts.specs.Written.{built}
use Rattle.spec_numbers.specs.Fractions.{gcd}
use Rattle.spec_sorts.specs.Numerals.{literal_value}
use Rattle.spec_sorts.specs.Terms.{sort_of, same_term, filled}
use Rattle.spec_sorts.specs.Theory.{is_constant, is_divisor, is_zero_divisor}
use Rattle.spec_reading.specs.Names.{mentions}
use Rattle.spec_reading.specs.Sorts.{sorts_in}
use Rattle.spec_reading.specs.Reading.{made_by, reading}
use Rattle.spec_reading.specs.Definitions.{parameters_in, definitions_in}
use Rattle.spec_sorts.specs.Subterms.{with_subterms}

-- what is read of a text, and what is counted of it
unfoldable pub reading_on_literals : ⊤
unfolding lexemes first_piece string_body ◌>>=◌ require built gcd literal_value sort_of same_term filled is_constant
    is_divisor is_zero_divisor mentions sorts_in made_by reading parameters_in definitions_in with_subterms
reading_on_literals = tt
