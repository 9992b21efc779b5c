-- What shows that a check has no model: the printed proof of an empty clause. Source: Alethe specification, proofs as
-- lists of commands.
use Rattle.std.specs.Prelude.{◌≡◌, ℕ, List, []}
use Rattle.spec_sorts.specs.Terms.{Term}
use Rattle.spec_commands.specs.Stack.{signature_of, terms_asserted}
use Rattle.spec_commands.specs.Checks.{Check, asked}
use Rattle.spec_derivations.specs.Derivations.{Derivation, conclusion_at, IsDerivation, IsDerivedFrom}
use Rattle.spec_proof_texts.specs.Lines.{Line, proof_text}
use Rattle.spec_proof_texts.specs.Plans.{Plan, lines_of, IsPlan}
use Rattle.spec_proof_texts.specs.Printable.{ArePrintable, AllConcludeOver}

-- The text is the proof of an empty clause that is derived from what the check asks about: each term with arguments
-- that it needs is
-- defined once, before its first use, and of the clauses those that the empty one depends on are printed, each after
-- its premises.
pub record IsProofOf (c : Check) (text : List ℕ) : Type 0 where
  -- terms, each after its arguments
  pub terms : List Term
  -- clauses of these terms
  pub derivation : Derivation
  pub over : AllConcludeOver terms derivation
  -- each follows from those before it
  pub right : IsDerivation derivation
  -- the number of one that is derived from what is asked
  pub number : ℕ
  pub derived : IsDerivedFrom (terms_asserted (asked c)) derivation number
  -- it is empty
  pub empty : conclusion_at derivation number ≡ []
  -- the terms that it needs can be printed
  pub printable : ArePrintable (signature_of c.stack) terms derivation number
  -- which of the terms and of the clauses are printed for it, and under which numbers
  pub plan : Plan
  pub planned : IsPlan terms derivation number plan
  -- the text is that of their lines
  pub written : text ≡ proof_text (lines_of terms derivation plan)

-- the lines of a proof
abbrev pub lines_in : (c : Check) (text : List ℕ) → IsProofOf c text → List Line
lines_in c text p = lines_of p.terms p.derivation p.plan
