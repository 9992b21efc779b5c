-- Terms that can be read back from a proof, whole: what is read has to be linear, and its numbers decimals. Signatures
-- whose definitions stand for such terms. Source: SMT-LIB 2.6, section 3.1 and theory Reals; what is linear is own.
use Rattle.std.specs.Prelude.{All}
use Rattle.spec_sorts.specs.Terms.{Term, Terms, app, nil, cons}
use Rattle.spec_sorts.specs.Signatures.{Declaration, of_sort, of_function, declared, defined, Signature}
use Rattle.spec_arithmetic.specs.Numbers.{IsLinear}
use Rattle.spec_commands.specs.Stack.{Stack}
use Rattle.spec_commands.specs.Kept.{AtEachLevel}
use Rattle.spec_proof_texts.specs.Printable.{HasText}

unfoldable mutual
  -- each number in a term is a decimal
  pub HasDecimals : Term → Type 0
  HasDecimals (app h ts) = HasText h × HaveDecimals ts

  -- and in terms
  pub HaveDecimals : Terms → Type 0
  HaveDecimals nil = Unit {0}
  HaveDecimals (cons t ts) = HasDecimals t × HaveDecimals ts

-- a term that is readable with all its subterms: it is linear, and its numbers are decimals
abbrev pub IsReadableWhole : Term → Type 0
IsReadableWhole t = IsLinear t × HasDecimals t

-- a definition stands for such a term; of a sort and of a declared symbol nothing is asked
abbrev pub IsReadableDeclaration : Declaration → Type 0
IsReadableDeclaration (of_sort n s) = Unit {0}
IsReadableDeclaration (of_function (declared f)) = Unit {0}
IsReadableDeclaration (of_function (defined d)) = IsReadableWhole d.term

-- each definition of a signature stands for such a term
abbrev pub AreReadable : Signature → Type 0
AreReadable s = All IsReadableDeclaration s

-- the definitions of a stack do so, up to each level
abbrev pub HaveReadableDefinitions : Stack → Type 0
HaveReadableDefinitions s = AtEachLevel (λ g assertions. AreReadable g) s
