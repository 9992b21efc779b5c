-- How the number of a text is read without recursion: what is still to be done, and in how many steps.
use Rattle.std.specs.Prelude.{◌≡◌, ℕ, ◌+◌, ◌<◌, List, [], ◌∷◌}
use Rattle.spec_text.specs.Shapes.{Word}
use Rattle.spec_text.specs.Trees.{Tree, Trees, atom, list, none, more}
use Rattle.smt_sexpr.specs.Items.{tree_meant}
use Rattle.linear_form.specs.Coefficients.{coefficient_meant}
use Rattle.spec_arithmetic.specs.Contradictions.{Coefficient}
use Rattle.spec_arithmetic.specs.Coefficients.{opposite_coefficient, quotient_coefficient, coefficient_of}
use Rattle.alethe_reader.specs.declared.coefficients.OpenedNumber.{OpenedNumber}
use Rattle.alethe_reader.specs.declared.coefficients.OpenedNumber.TheVariants as openings
use Rattle.alethe_reader.specs.declared.coefficients.Pending.{Pending}
use Rattle.alethe_reader.specs.declared.coefficients.Pending.TheVariants as pendings
use Rattle.alethe_reader.specs.declared.coefficients.Here.{Here}
use Rattle.alethe_reader.specs.declared.coefficients.Here.TheVariants as places

-- in how many steps it is read, at most
abbrev mutual
  -- one text
  pub steps : Tree → ℕ
  steps (atom at k n) = 1
  steps (list at ts end) = 2 + steps_of_all ts

  -- texts, one after the other
  pub steps_of_all : Trees → ℕ
  steps_of_all none = 0
  steps_of_all (more t ts) = steps t + steps_of_all ts

-- a word, and what follows it
abbrev pub with_word : Word → Trees → Trees
with_word w ts = more (atom w.at w.kind w.bytes) ts

-- the number that an opened text writes
abbrev pub opened_number : OpenedNumber → Coefficient
opened_number (openings.Number c) = coefficient_meant c
opened_number (openings.Opposite t) = opposite_coefficient (coefficient_of (tree_meant t))
opened_number (openings.Quotient t d) =
    quotient_coefficient (coefficient_of (tree_meant t)) (coefficient_of (tree_meant d))

-- and in how many steps what is left of it is read
abbrev pub opened_steps : OpenedNumber → ℕ
opened_steps (openings.Number c) = 0
opened_steps (openings.Opposite t) = 1 + steps (tree_meant t)
opened_steps (openings.Quotient t d) = 2 + steps (tree_meant t) + steps (tree_meant d)

-- what becomes of a number
abbrev pub resumed_by : Pending → Coefficient → Coefficient
resumed_by pendings.Negate c = opposite_coefficient c
resumed_by (pendings.DivideBy d) c = quotient_coefficient c (coefficient_of (tree_meant d))
resumed_by (pendings.Divide q) c = quotient_coefficient (coefficient_meant q) c

-- what becomes of it at last: the outermost comes first
abbrev pub resumed : List Pending → Coefficient → Coefficient
resumed [] c = c
resumed (p ∷ ps) c = resumed_by p (resumed ps c)

-- in how many steps
abbrev pub pending_steps : Pending → ℕ
pending_steps pendings.Negate = 1
pending_steps (pendings.DivideBy d) = 2 + steps (tree_meant d)
pending_steps (pendings.Divide q) = 1

-- of all that is pending
abbrev pub all_steps : List Pending → ℕ
all_steps [] = 0
all_steps (p ∷ ps) = pending_steps p + all_steps ps

-- the number that is read here, before what is pending
abbrev pub number_here : Here → Coefficient
number_here (places.Text t) = coefficient_of (tree_meant t)
number_here (places.Read c) = coefficient_meant c

-- in how many steps
abbrev pub steps_here : Here → ℕ
steps_here (places.Text t) = steps (tree_meant t)
steps_here (places.Read c) = 0

-- A step from a place to the next one.
pub record Resumes (before : List Pending) (here : Coefficient) (count : ℕ) (after : List Pending)
    (next : Here) : Type 0 where
  -- the whole stays the same
  pub same : resumed after (number_here next) ≡ resumed before here
  -- and fewer steps are left
  pub fewer : all_steps after + steps_here next < all_steps before + count
