-- What the parts of a command of a proof are read as is what texts are read as under the setting of a proof, where there is room.
use Rattle.std.proofs.Common.{◌≡◌, ℕ, List, [], ◌∷◌, ◌++◌, Some, refl}
use Rattle.std.specs.Prelude.{Ok}
use Rattle.spec_text.specs.Trees.{Tree, Trees, none, more}
use Rattle.spec_text.specs.Answers.{◌>>=◌}
use Rattle.spec_sorts.specs.Terms.{Truth, Term}
use Rattle.spec_sorts.specs.Signatures.{Signature, with_definitions}
use Rattle.spec_reading.specs.Names.{proof}
use Rattle.spec_reading.specs.Reading.{reading_of_sort}
use Rattle.spec_reading.specs.Definitions.{Parts, definitions_in}
use Rattle.spec_commands.specs.Stack.{terms_defined}
use Rattle.spec_checking.specs.Reading.{room, literals_in, roomy_literals, roomy_formula, roomy_definitions}
use Rattle.sort_check.specs.Reads as parser
use Rattle.sort_check.specs.Reads.{Room, within, all_of_sort, roomy_reading, roomy_readings}

-- the literals are read the same
literals_same : (s : Signature) (ts : Trees) → all_of_sort proof s Truth ts ≡ literals_in s ts
unfolding literals_in all_of_sort
literals_same s none = refl
literals_same s (more t ts) = λ i. reading_of_sort proof s [] Truth t >>= λ r. literals_same (with_definitions s r.made) ts i >>= λ rs. Ok (record { made = r.made ++ rs.made; terms = r.term ∷ rs.terms })

module _ (limit at : ℕ) (s : Signature) where
  abbrev limited : Room
  limited = record { limit = Some limit; at = at }

  room_same : (r : Signature) (us : List Term) → within limited r us ≡ room (Some limit) at r us
  room_same r us = refl

  pub literals_roomy : (ts : Trees) → roomy_readings limited proof s Truth ts ≡ roomy_literals (Some limit) at s ts
  unfolding roomy_readings roomy_literals
  literals_roomy ts = λ i. literals_same s ts i >>= λ r. room_same (with_definitions s r.made) r.terms i >>= λ fits. Ok r

  pub formula_roomy : (t : Tree) → roomy_reading limited proof s Truth t ≡ roomy_formula (Some limit) at s t
  unfolding roomy_reading roomy_formula
  formula_roomy t = λ i. reading_of_sort proof s [] Truth t >>= λ r. room_same (with_definitions s r.made) (r.term ∷ []) i >>= λ fits. Ok r

  pub definitions_roomy : (d : Parts) → parser.roomy_definitions limited proof s d ≡ roomy_definitions (Some limit) at s d
  unfolding parser.roomy_definitions roomy_definitions
  definitions_roomy d = λ i. definitions_in proof s d >>= λ ds. room_same (with_definitions s ds) (terms_defined ds) i >>= λ fits. Ok ds
