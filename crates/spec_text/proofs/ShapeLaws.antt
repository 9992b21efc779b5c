-- What shapes of trees have, where each of their steps gives it.
use Rattle.std.proofs.Common.{ℕ, Option, Some, None}
use Rattle.spec_text.specs.Shapes.{◌>>=◌, Word, first_word, only_tree}
use Rattle.spec_text.specs.Trees.{Trees, atom, list, none, more}
use Rattle.spec_text.specs.Offsets.{AllOffsets, AllOffsetsOf}

-- what there is has a property
abbrev pub Holds : {A : Type 0} → (A → Type 0) → Option A → Type 0
Holds Q None = Unit {0}
Holds Q (Some a) = Q a

-- and so it is in two steps, where it is in each
pub holds_in_turn : {A B : Type 0} (Q : A → Type 0) (R : B → Type 0) (o : Option A) (f : A → Option B) → Holds Q o → ((a : A) → Q a → Holds R (f a)) → Holds R (o >>= f)
holds_in_turn Q R None f h g = tt
holds_in_turn Q R (Some a) f h g = g a h

-- the one tree of trees has what all of them have
pub tree_is_within : (P : ℕ → Type 0) (ts : Trees) → AllOffsetsOf P ts → Holds (AllOffsets P) (only_tree ts)
tree_is_within P none h = tt
tree_is_within P (more t none) h = h.0
tree_is_within P (more t (more u us)) h = tt

module _ (P : ℕ → Type 0) where
  -- a word, and what follows it
  abbrev pub PrefixWithin : Word × Trees → Type 0
  PrefixWithin x = P x.0.at × AllOffsetsOf P x.1

  pub word_is_within : (ts : Trees) → AllOffsetsOf P ts → Holds PrefixWithin (first_word ts)
  word_is_within none h = tt
  word_is_within (more (atom at k bytes) ts) h = h
  word_is_within (more (list at us end) ts) h = tt
