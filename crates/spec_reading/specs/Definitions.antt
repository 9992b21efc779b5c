-- Definitions of functions: their parameters and bodies. Source: SMT-LIB 2.6, section 4.2.3; the order of faults is
-- own.
use Rattle.std.specs.Prelude.{ℕ, suc, Some, List, [], ◌∷◌, ◌++◌, Ok}
use Rattle.spec_text.specs.Bytes.{Name}
use Rattle.spec_text.specs.Shapes.{Word}
use Rattle.spec_text.specs.Answers.{Answer, ◌>>=◌}
use Rattle.spec_text.specs.Trees.{Tree, Trees, atom, list, none, more}
use Rattle.spec_sorts.specs.Terms.{Sort, Parameter, of}
use Rattle.spec_sorts.specs.Signatures.{Definition, Signature}
use Rattle.spec_reading.specs.Names.{Setting, new_name, is_in_list, is_function}
use Rattle.spec_reading.specs.Sorts.{sort_in}
use Rattle.spec_reading.specs.Reading.{Bound, reading_of_sort}

-- the parameters of a text after some names: each name before its sort
unfoldable pub parameters_in : Setting → Signature → List Name → Trees → Answer (List (Name × Sort))
parameters_in w s names (more (list at (more (atom x k n) (more t none)) end) rest) =
    new_name w (is_in_list names) (record { at = x; kind = k; bytes = n }) >>= λ name.
    sort_in s t >>= λ sort.
    parameters_in w s (names ++ name ∷ []) rest >>= λ ps.
    Ok ((name, sort) ∷ ps)
parameters_in w s names ts = Ok []

-- parameters, the first of which has this number, each as a term
abbrev pub bound_parameters : ℕ → List (Name × Sort) → Bound
bound_parameters k [] = []
bound_parameters k (p ∷ ps) = (p.0, of (Parameter k p.1) []) ∷ bound_parameters (suc k) ps

-- The parts of the definition of a function, as they are written.
pub record Parts : Type 0 where
  -- its name
  pub name : Word
  -- its parameters: lists of a name and a sort
  pub parameters : Trees
  -- the sort of its body
  pub result : Tree
  -- what it stands for
  pub body : Tree

-- what definitions a definition makes: those of `:named` in its body, in their order, and itself after them
unfoldable pub definitions_in : Setting → Signature → Parts → Answer (List Definition)
definitions_in w s d =
    new_name w (is_function s) d.name >>= λ n.
    parameters_in w s [] d.parameters >>= λ ps.
    sort_in s d.result >>= λ result.
    reading_of_sort (record w { own = Some n }) s (bound_parameters 0 ps) result d.body >>= λ r.
    Ok (r.made ++ record { name = n; parameters = ps; result = result; body = d.body; term = r.term } ∷ [])
