-- Commands leave definitions that stand for terms that can be read back whole, and what is asserted is such terms.
use Rattle.std.proofs.Common.{◌≡◌, ℕ, List, [], ◌∷◌, ◌++◌, map, All, Some, subst}
use Rattle.std.specs.Prelude.{Ok}
use Rattle.std.proofs.lemmas.List.Elements.{All-weaker}
use Rattle.spec_text.specs.Trees.{Tree, Trees}
use Rattle.spec_sorts.specs.Terms.{Declared}
use Rattle.spec_sorts.specs.Signatures.{of_sort, of_function, declared, Signature}
use Rattle.spec_sorts.specs.Signatures as signatures
use Rattle.spec_reading.specs.Names.{script}
use Rattle.spec_commands.specs.Commands.{Command, DeclareSort, DefineSort, DeclareFun, DefineFun, Assert}
use Rattle.spec_commands.specs.Stack.{Assertion, Stack, Taken, signature_of, assertions_of, step}
use Rattle.spec_commands.specs.Checks.{Check, current_at}
use Rattle.spec_commands.specs.Kept.{IsAsserted, AreSoundNames, AtEachLevel, IsSoundStack}
use Rattle.spec_commands.proofs.Kept.{sound_here}
use Rattle.spec_commands.proofs.Carried.{Property, IsCarried, step_carried, current_carried}
use Rattle.spec_proof_texts.specs.Readable.{IsReadableWhole, IsReadableDeclaration}
use Rattle.spec_proof_texts.proofs.Readings.{Good, append_each, ReadDecimals, text_readable, definition_readable}

-- the definitions of a signature stand for such terms
abbrev pub GoodNames : Property
GoodNames g assertions = Good g

-- and those of a stack, up to each level
abbrev pub GoodStack : Stack → Type 0
GoodStack s = AtEachLevel GoodNames s

-- the first part of a signature
first_part : (s t : Signature) → Good (s ++ t) → Good s
first_part [] t h = tt
first_part (d ∷ ds) t h = (h.0, first_part ds t h.1)

module _ (decimal : ReadDecimals) where
  -- what was read with names of the signature
  asserted_readable : (limit : ℕ) (s : Signature) (a : Assertion) → Good s → IsAsserted limit s a → IsReadableWhole a.term
  asserted_readable limit s a h w =
      let r = w.read in
      let made = first_part (signatures.with_definitions r.before r.found.made) r.after (subst Good r.names h) in
      let before = first_part r.before (map signatures.definition r.found.made) made in
      subst IsReadableWhole r.same (text_readable decimal script r.before [] a.text r.found r.read before tt).0

  -- so is each assertion
  pub sound_readable : (limit : ℕ) (g : Signature) (assertions : List Assertion) → AreSoundNames limit g assertions → Good g → All (λ (a : Assertion). IsReadableWhole a.term) assertions
  sound_readable limit g assertions k h = All-weaker (IsAsserted limit g) (λ (a : Assertion). IsReadableWhole a.term) (λ a w. asserted_readable limit g a h w) assertions k.assertions_read

  -- and each that is kept
  pub kept_readable : (limit : ℕ) (s : Stack) → IsSoundStack limit s → Good (signature_of s) → All (λ (a : Assertion). IsReadableWhole a.term) (assertions_of s)
  kept_readable limit s k h = sound_readable limit (signature_of s) (assertions_of s) (sound_here limit s k) h

  module _ (limit : ℕ) where
    -- each command adds such definitions
    command_good : (c : Command) → IsCarried limit GoodNames GoodNames c
    command_good (DeclareSort x) = λ g assertions n e h. append_each IsReadableDeclaration g (of_sort n (Declared n) ∷ []) h (tt, tt)
    command_good (DefineSort x t) = λ g assertions n sort e f h. append_each IsReadableDeclaration g (of_sort n sort ∷ []) h (tt, tt)
    command_good (DeclareFun x ts t) = λ g assertions f e is_parameters is_result h. append_each IsReadableDeclaration g (of_function (declared f) ∷ []) h (tt, tt)
    command_good (DefineFun p) = λ g assertions ds e h. definition_readable decimal script g p ds e h
    command_good (Assert t) = λ g assertions r read sorted room h. (text_readable decimal script g [] t r read h tt).1
    command_good c = tt

    -- what a command leaves
    pub step_good : (s : Stack) (t : Tree) (d : Taken) → step limit s t ≡ Ok d → GoodStack s → GoodStack d.stack
    step_good s t d e h = step_carried limit GoodNames (λ g front more k. k) tt command_good s t d e h

    -- and what is at a check
    pub current_good : (s : Stack) (k : ℕ) (ts : Trees) (c : Check) → current_at limit s k ts ≡ Some c → GoodStack s → GoodStack c.stack
    current_good s k ts c e h = current_carried GoodStack limit step_good s k ts c e h
