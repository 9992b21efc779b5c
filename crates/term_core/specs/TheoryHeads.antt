-- The heads of theories Core and Reals by their names. Source: SMT-LIB 2.6, theories Core and Reals.
use Rattle.std.specs.Prelude.{Option, Some, None, codes}
use Rattle.spec_text.specs.Bytes.{Name}
use Rattle.spec_sorts.specs.Terms.{True, False, Not, And, Or, Xor, Implies, Equal, Ite, Minus, Plus, Times, Divide}
use Rattle.spec_sorts.specs.Terms.{Less, AtMost, no_term}
use Rattle.spec_sorts.specs.HeadNames.{head_name}
use Rattle.spec_sorts.specs.Theory.{Rule, look_up, theory, exactly, alike}
use Rattle.term_core.specs.declared.theory_heads.TheoryHead.{TheoryHead}
use Rattle.term_core.specs.declared.theory_heads.TheoryHead.TheVariants as theory_heads

-- the name that a head is written by
abbrev pub theory_name : TheoryHead → Name
theory_name theory_heads.True = head_name True
theory_name theory_heads.False = head_name False
theory_name theory_heads.Not = head_name Not
theory_name theory_heads.And = head_name And
theory_name theory_heads.Or = head_name Or
theory_name theory_heads.Xor = head_name Xor
theory_name theory_heads.Implies = head_name Implies
theory_name theory_heads.Equal = head_name Equal
theory_name theory_heads.Distinct = codes "distinct"
theory_name theory_heads.Ite = head_name Ite
theory_name theory_heads.Minus = head_name Minus
theory_name theory_heads.Plus = head_name Plus
theory_name theory_heads.Times = head_name Times
theory_name theory_heads.Divide = head_name Divide
theory_name theory_heads.Less = head_name Less
theory_name theory_heads.AtMost = head_name AtMost
theory_name theory_heads.Greater = codes ">"
theory_name theory_heads.AtLeast = codes ">="

-- a rule that there is
abbrev pub rule_there : Option Rule → Rule
rule_there (Some r) = r
rule_there None = exactly 0 alike (λ ts. no_term)

-- how a head is read: what the theories have for its name
unfoldable pub rule_of : TheoryHead → Rule
rule_of h = rule_there (look_up theory (theory_name h))
