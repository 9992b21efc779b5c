-- The names of heads. Source: SMT-LIB 2.6, theories Core and Reals.
use Rattle.std.specs.Prelude.{[], codes}
use Rattle.spec_text.specs.Bytes.{Name}
use Rattle.spec_sorts.specs.Terms.{Head, True, False, Not, And, Or, Xor, Implies, Equal, Ite, Minus, Plus, Times}
use Rattle.spec_sorts.specs.Terms.{Divide, Less, AtMost, Literal, Apply, Parameter}

-- what a head is called; a number and a parameter have no name
abbrev pub head_name : Head → Name
head_name True = codes "true"
head_name False = codes "false"
head_name Not = codes "not"
head_name And = codes "and"
head_name Or = codes "or"
head_name Xor = codes "xor"
head_name Implies = codes "=>"
head_name Equal = codes "="
head_name Ite = codes "ite"
head_name Minus = codes "-"
head_name Plus = codes "+"
head_name Times = codes "*"
head_name Divide = codes "/"
head_name Less = codes "<"
head_name AtMost = codes "<="
head_name (Literal q) = []
head_name (Apply s) = s.name
head_name (Parameter k s) = []
