-- By recursion on the term.
use Rattle.spec_arithmetic.proofs.FormTerms.{form_term_value}
use Rattle.spec_arithmetic.proofs.laws.forms_have_their_terms_value.Goals as goal

pub returns : goal.returns
returns c = λ symbols i t f interprets w s e. form_term_value symbols i t f interprets (record { term = w; sort = s }) e
