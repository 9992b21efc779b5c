-- Truths of terms, apart from interpretations: what is below negations is true or not, as one likes.
use Rattle.std.specs.Prelude.{Bool, not, if◌then◌else◌}
use Rattle.spec_sorts.specs.Terms.{Term}
use Rattle.spec_sorts.specs.Literals.{Literal, literal_of}

-- which terms are true; of a negation it is not asked
abbrev pub Truths : Type 0
Truths = Term → Bool

-- the literal is true: its term is, or is not where it is meant negatively
abbrev pub literal_true : Truths → Literal → Bool
literal_true v l = if l.positive then v l.atom else not (v l.atom)

-- the term is true: its literal is
abbrev pub term_true_by : Truths → Term → Bool
term_true_by v t = literal_true v (literal_of t)
