-- What the answers of checks mean. Source: SMT-LIB 2.6, section 4.2.5; that the text of a proof, or of a model, means
-- so much is own.
use Rattle.std.specs.Prelude.{◌≡◌, ℕ, suc, List, [], ◌∷◌, ◌++◌, None, All}
use Rattle.spec_text.specs.Trees.{Trees, list, none, more, IsRead}
use Rattle.spec_sorts.specs.Values.{Interpretation, Interprets}
use Rattle.spec_sorts.specs.Signatures.{Signature, symbols_in}
use Rattle.spec_commands.specs.Stack.{Assertion, terms_asserted, signature_of}
use Rattle.spec_commands.specs.Kept.{IsAsserted, IsSoundStack}
use Rattle.spec_commands.specs.Checks.{Check, term_limit, IsTrueAssertion, IsCurrent, MakesTrue, HasNoModel}
use Rattle.spec_proofs.specs.Texts.{IsWholeText}
use Rattle.spec_models.specs.declared.ResponseWord.TheVariants.{Unsat}
use Rattle.spec_models.specs.Replies.{word_line}
use Rattle.spec_models.specs.Models.{model_text}
use Rattle.spec_models.specs.Meaning.{DefineAll}
use Rattle.spec_checking.specs.Commands.{known_at}
use Rattle.spec_checking.specs.Good.{AreGood, IsGood}
use Rattle.spec_checking.specs.Accepted.{IsAccepted}
use Rattle.spec_proof_texts.specs.ReadBack.{HaveScriptNames, known_before}
use Rattle.spec_checking.specs.Limits.{IsWithinLimits, LeaveRoom}
use Rattle.spec_sessions.specs.Evidence.{Limits, Found, model, proof, spent, overflowed, Checked}
use Rattle.spec_sessions.specs.Evidence.{IsModelOf, Justifies}
use Rattle.spec_sessions.specs.Cores.{asked_by_core, asked_by_assumptions}

-- What commands leave for a check under a limit on terms and names.
pub record IsKeptCheck (limit : ℕ) (c : Check) : Type 0 where
  -- commands left its stack
  pub stack : IsSoundStack limit c.stack
  -- what it assumes was read, too
  pub assumptions : All (IsAsserted limit (signature_of c.stack)) c.assumptions
  -- its names can be printed, up to each level
  pub names : HaveScriptNames c.stack

-- What a model means, by what makes an interpretation a model, under a signature.
pub record ModelMeans (IsModel : Interpretation → Type 0) (g : Signature) (i : Interpretation) : Type 0 where
  -- it is one
  pub is_model : IsModel i
  -- the definitions in its text
  pub definitions : Trees
  -- where the list of them ends
  pub end : ℕ
  -- the whole text is read as this list
  pub read : IsRead (model_text i (symbols_in g)) (more (list 0 definitions end) none)
  -- they define each declared symbol, in their order, as it is in the model
  pub define : DefineAll i g (symbols_in g) definitions
  -- so the text alone says enough: whatever tables of the right sorts have the values that it defines are a model, too
  pub each : (j : Interpretation) → Interprets j (symbols_in g) → DefineAll j g (symbols_in g) definitions → IsModel j

-- Some of what a check asks about is refuted by the text of a proof.
pub record IsRefutedBy (c : Check) (p : List ℕ) (some : List Assertion) : Type 0 where
  -- no interpretation makes all of it true
  pub no_model : (i : Interpretation) → Interprets i (symbols_in (signature_of c.stack))
      → All (IsTrueAssertion i (signature_of c.stack)) some → ⊥
  -- the commands of the text
  pub commands : Trees
  -- the whole text is these commands, and nothing else
  pub read : IsWholeText p commands
  -- they are a good proof from this alone, whatever the limits of the checker are
  pub good : AreGood None (known_before (signature_of c.stack) (terms_asserted some)) commands

-- What the text of a proof means of the named assertions of a check, and of its assumptions.
pub record CoreMeans (c : Check) (p : List ℕ) : Type 0 where
  -- what is asked without the named assertions that are not of the core is refuted
  pub core : IsRefutedBy c p (asked_by_core c p)
  -- so is what is asked without the assumptions that the proof does not rest on
  pub assumptions : IsRefutedBy c p (asked_by_assumptions c p)

-- What the text of a proof means of a check of what commands left.
pub record RefutationMeans (c : Check) (p : List ℕ) : Type 0 where
  -- no interpretation is a model, however long the proof is
  pub no_model : (i : Interpretation) → IsModelOf c i → ⊥
  -- the commands of the text
  pub commands : Trees
  -- the whole text is these commands, and nothing else
  pub read : IsWholeText p commands
  -- they are a good proof of what is current at the check, whatever the limits of the checker are
  pub good : AreGood None (known_at c) commands
  -- the core and the assumptions suffice
  pub cores : CoreMeans c p

-- what was found means this of a check; that it was given up, for whatever cause, means nothing of what is asked
abbrev pub MeansAt : Check → Found → Type 0
MeansAt c (model i) = ModelMeans (IsModelOf c) (signature_of c.stack) i
MeansAt c (proof p) = RefutationMeans c p
MeansAt c (spent n d learned) = Unit {0}
MeansAt c (overflowed o kept) = Unit {0}

-- What the text of a proof means of the k-th check of a text that is run under a limit on terms and names.
pub record ProofMeans (limit : ℕ) (text : List ℕ) (k : ℕ) (p : List ℕ) : Type 0 where
  -- no interpretation makes true what is asked there, however long the proof is
  pub no_model : HasNoModel limit text k
  -- it is good of that check, whatever the limits of the checker are
  pub good : IsGood limit text k p
  -- it is accepted of that check, if it and the script leave room and the limit is that of the checker
  pub accepted : limit ≡ term_limit → LeaveRoom text p → IsAccepted text k p
  -- so it is after the line of the answer
  pub answered : limit ≡ term_limit → LeaveRoom text (word_line Unsat ++ p) → IsAccepted text k (word_line Unsat ++ p)
  -- and of whatever length, where it is within the limits of the checker
  pub within : (g : IsGood term_limit text k p) → IsWithinLimits text k p g → IsAccepted text k p

-- what was found means this of the core of a check
abbrev pub CoresMean : Check → Found → Type 0
CoresMean c (proof p) = CoreMeans c p
CoresMean c _ = Unit {0}

-- what was found means this of the k-th check of a text
abbrev pub FindingMeans : Limits → (text : List ℕ) → ℕ → Check → Found → Type 0
FindingMeans limits text k c (model i) = ModelMeans (λ j. MakesTrue limits.terms j text k) (signature_of c.stack) i
FindingMeans limits text k c (proof p) = ProofMeans limits.terms text k p
FindingMeans limits text k c (spent n d learned) = Unit {0}
FindingMeans limits text k c (overflowed o kept) = Unit {0}

-- What the answer of the k-th check of a text, from 1, says, with all that this means.
pub record AnswerSays (limits : Limits) (text : List ℕ) (k : ℕ) (c : Checked) : Type 0 where
  -- the text has this check, and this is current there
  pub current : IsCurrent limits.terms text k c.check
  -- what was found shows of it what it should
  pub shown : Justifies limits c.check c.found
  -- which means this
  pub means : FindingMeans limits text k c.check c.found
  -- and this of the core and of the assumptions
  pub cores : CoresMean c.check c.found

-- each of the checks says so of its own; the first of all has the number k + 1
abbrev pub AllSay : Limits → List ℕ → ℕ → List Checked → Type 0
AllSay limits text k [] = Unit {0}
AllSay limits text k (c ∷ cs) = AnswerSays limits text (suc k) c × AllSay limits text (suc k) cs
