-- The lines of responses. Source: SMT-LIB 2.6, sections 3.9 and 4.1.8; the texts of errors and of reasons are own.
use Rattle.std.specs.Prelude.{ℕ, List, [], ◌∷◌, ◌++◌, codes, decimal}
use Rattle.spec_text.specs.Bytes.{Name}
use Rattle.spec_text.specs.Trees.{Tree}
use Rattle.spec_text.specs.Printed.{printed}
use Rattle.spec_numbers.specs.Bounds.{Overflow}
use Rattle.spec_numbers.specs.declared.Op.{Op}
use Rattle.spec_numbers.specs.declared.Op.TheVariants.{Add, Sub, Mul, Div}
use Rattle.spec_models.specs.declared.ResponseWord.{ResponseWord}
use Rattle.spec_models.specs.declared.ResponseWord.TheVariants.{Success, Unsupported, Sat, Unsat, Unknown}
use Rattle.spec_models.specs.Values.{in_list, word_tree, numeral_tree, fraction_tree}

-- an error with its line and column, both from 1, and its name
abbrev pub error_text : ℕ → ℕ → List ℕ → List ℕ
error_text line column name =
    codes "(error \"" ++ decimal line ++ codes ":" ++ decimal column ++ codes ": " ++ name ++ codes "\")\n"

-- a response of one word
abbrev pub word_of : ResponseWord → List ℕ
word_of Success = codes "success"
word_of Unsupported = codes "unsupported"
word_of Sat = codes "sat"
word_of Unsat = codes "unsat"
word_of Unknown = codes "unknown"

-- its line
abbrev pub word_line : ResponseWord → List ℕ
word_line w = word_of w ++ 10 ∷ []

-- Why a check was answered `unknown`.
pub data Reason : Type 0 where
  -- so many conflicts were learned from, which is their limit
  conflicts : ℕ → Reason
  -- an operation of linear arithmetic on these fractions leaves the bound
  overflow : Overflow → Reason

-- an operation as a word
abbrev pub operation_word : Op → Name
operation_word Add = codes "add"
operation_word Sub = codes "sub"
operation_word Mul = codes "mul"
operation_word Div = codes "div"

-- an overflow: the operation, its left operand and its right one, as models print fractions
abbrev pub overflow_tree : Overflow → Tree
overflow_tree o = in_list (word_tree (codes "overflow") ∷ word_tree (operation_word o.op) ∷ fraction_tree o.left
    ∷ fraction_tree o.right ∷ [])

-- a word before a number
abbrev pub count_tree : Name → ℕ → Tree
count_tree what n = in_list (word_tree what ∷ numeral_tree n ∷ [])

-- a reason as an s-expression
abbrev pub reason_tree : Reason → Tree
reason_tree (conflicts n) = count_tree (codes "conflicts") n
reason_tree (overflow o) = overflow_tree o

-- what is printed of a reason
abbrev pub reason_text : Reason → List ℕ
reason_text r = printed (reason_tree r)

-- the line of a reason alone
abbrev pub reason_line : Reason → List ℕ
reason_line r = reason_text r ++ 10 ∷ []

-- and that of a reason under its keyword
abbrev pub reason_info : Reason → List ℕ
reason_info r = codes "(:reason-unknown " ++ reason_text r ++ codes ")\n"
