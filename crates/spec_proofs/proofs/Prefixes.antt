-- A text is read by its prefix.
use Rattle.std.proofs.Common.{◌≡◌, ◌+◌, ℕ, List, length, take, nat_lt, Option, subst, arith, length-take}
use Rattle.std.proofs.lemmas.Bool.Decides.{nat_tests}
use Rattle.std.proofs.lemmas.List.{take-take}
use Rattle.spec_text.specs.Lexemes.{lexemes}
use Rattle.spec_text.specs.Trees.{Trees}
use Rattle.spec_text.specs.Faults.{Located}
use Rattle.spec_text.specs.Readings.{AreTrees, EndsTrees, text_limit, prefix, limited, IsReadUpTo}

-- of a prefix the same bytes are kept
pub same_kept : (n : ℕ) (text : List ℕ) → take n (take (n + 1) text) ≡ take n text
same_kept n text = take-take n (n + 1) text (omega arith)

-- and it has more bytes exactly where the whole text has
pub same_long : (n : ℕ) (text : List ℕ) → nat_lt n (length (take (n + 1) text)) ≡ nat_lt n (length text)
same_long n text = grind (arith, nat_tests, length-take (n + 1) text)

-- a script is read by its prefix
pub read_by : (text : List ℕ) (ts : Trees) (found : Option Located) → IsReadUpTo (prefix text) ts found → IsReadUpTo text ts found
read_by text ts found r = record {
  rest = r.rest;
  trees = subst (λ bytes. AreTrees (lexemes 0 0 bytes) ts r.rest) (same_kept text_limit text) r.trees;
  stop = r.stop;
  stops = subst (λ bytes. EndsTrees (length bytes) r.rest r.stop) (same_kept text_limit text) r.stops;
  is = subst (λ long. found ≡ limited long r.stop) (same_long text_limit text) r.is;
}
