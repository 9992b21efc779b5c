-- The fault of a model file is in it, or at its end.
use Rattle.std.proofs.Common.{◌≡◌, ◌≤◌, ◌<◌, ℕ, Bool, true, false, cond, List, [], ◌∷◌, ◌++◌, length, Option, Some, None, inl, inr, refl, sym, ◌∙◌, subst, append_assoc, length-take, arith}
use Rattle.std.specs.Prelude.{codes, Err}
use Rattle.std.proofs.lemmas.Bool.Decides.{nat_tests}
use Rattle.spec_text.specs.Lexemes.{Lexeme, blank, opens, closes, word, wrong, lexemes, lexemes_from}
use Rattle.spec_text.specs.Trees.{Trees, atom, none, more, spelled_all}
use Rattle.spec_text.specs.Offsets.{AllOffsetsOf, weaker_offsets_of}
use Rattle.spec_text.specs.Faults.{Located, first_fault}
use Rattle.spec_text.specs.Readings.{IsBroken, text_limit, kept, is_long, is_of_end, too_long, at_limit}
use Rattle.spec_text.proofs.AnswerLaws.{own_offset}
use Rattle.spec_text.proofs.ShapeLaws.{Holds}
use Rattle.spec_sorts.specs.Signatures.{Signature}
use Rattle.spec_proofs.specs.Texts.{Ending, complete, broken, left_over, EndsBehind, EndsList}
use Rattle.spec_model_files.specs.Faults.{is_of_script, ModelFault}
use Rattle.spec_model_files.specs.Values.{is_named}
use Rattle.spec_model_files.specs.Definitions.{definitions_read}
use Rattle.spec_model_files.specs.Texts.{behind_sat, ModelEnding, ends, no_list, AreDefinitions, model_lexemes, unless_long, ending_fault}
use Rattle.spec_model_files.specs.Verdicts.{unless_fault, read_to_end, IsModelReading}
use Rattle.spec_model_files.proofs.Offsets.{IsFaultWithin, in_turn, definitions_within}

-- that trees are in their text, and first faults
abbrev pub TreesLaw : Type 0
TreesLaw = (text : List ℕ) (at : ℕ) (earlier rest : List (ℕ × Lexeme)) (ts : Trees) → lexemes_from text at ≡ earlier ++ (spelled_all ts ++ rest) → AllOffsetsOf (λ n. (at ≤ n) × (n < length text)) ts

abbrev pub FaultsLaw : Type 0
FaultsLaw = (text : List ℕ) (at n : ℕ) (earlier rest : List (ℕ × Lexeme)) (f : Located) → lexemes_from text at ≡ earlier ++ rest → first_fault (length text) n rest ≡ Some f → f.offset ≤ length text

-- some lexemes are the last of others
abbrev EndsWith : List (ℕ × Lexeme) → List (ℕ × Lexeme) → Type 0
EndsWith all xs = (earlier : List (ℕ × Lexeme)) × (all ≡ earlier ++ xs)

-- what comes after others
behind : (all front xs : List (ℕ × Lexeme)) → EndsWith all (front ++ xs) → EndsWith all xs
behind all front xs h = (h.0 ++ front, h.1 ∙ sym (append_assoc h.0 front xs))

-- the lexemes after the word
behind_word : (xs : List (ℕ × Lexeme)) → EndsWith xs (behind_sat xs)
behind_word [] = ([], refl)
behind_word ((at, blank) ∷ xs) = ([], refl)
behind_word ((at, opens) ∷ xs) = ([], refl)
behind_word ((at, closes) ∷ xs) = ([], refl)
behind_word ((at, wrong f) ∷ xs) = ([], refl)
behind_word ((at, word k n) ∷ xs) = go (is_named (codes "sat") k n)
  where
    go : (b : Bool) → EndsWith ((at, word k n) ∷ xs) (cond b xs ((at, word k n) ∷ xs))
    go true = ((at, word k n) ∷ [], refl)
    go false = ([], refl)

module _ (trees_law : TreesLaw) (faults_law : FaultsLaw) (text : List ℕ) where
  -- an offset of the text, or its end
  abbrev IsIn : ℕ → Type 0
  IsIn n = n ≤ length text

  kept_within : length (kept text) ≤ length text
  kept_within = omega (arith, length-take text_limit text)

  -- the lexemes that are kept
  abbrev all : List (ℕ × Lexeme)
  all = lexemes 0 0 (kept text)

  trees_in : (ts : Trees) (rest : List (ℕ × Lexeme)) → EndsWith all (spelled_all ts ++ rest) → AllOffsetsOf IsIn ts
  trees_in ts rest h = weaker_offsets_of (λ n. (0 ≤ n) × (n < length (kept text))) IsIn (λ n p. omega (arith, p.1, kept_within)) ts (trees_law (kept text) 0 h.0 rest ts h.1)

  fault_in : (n : ℕ) (rest : List (ℕ × Lexeme)) (f : Located) → EndsWith all rest → IsBroken (length (kept text)) n rest f → IsIn f.offset
  fault_in n rest f h b = omega (arith, faults_law (kept text) 0 n h.0 rest f h.1 b.fault, kept_within)

  -- the offset of an ending
  abbrev EndingIn : Ending → Type 0
  EndingIn complete = Unit {0}
  EndingIn (broken f) = IsIn f.offset
  EndingIn (left_over at) = IsIn at

  behind_in : (after : List (ℕ × Lexeme)) (e : Ending) → EndsWith all after → EndsBehind (length (kept text)) after e → EndingIn e
  behind_in after complete h x = tt
  behind_in after (broken f) h x = fault_in 0 after f h x
  behind_in after (left_over at) h x =
      let inside = trees_in (more x.0 none) x.1 (subst (EndsWith all) x.2 h) in
      subst IsIn x.3 (own_offset IsIn x.0 inside.0)

  list_in : (rest : List (ℕ × Lexeme)) (e : Ending) → EndsWith all rest → EndsList (length (kept text)) rest e → EndingIn e
  list_in rest e h (inl x) = behind_in x.1 e (behind all ((x.0, closes) ∷ []) x.1 (subst (EndsWith all) x.2 h)) x.3
  list_in rest e h (inr x) = subst EndingIn (sym x.2) (fault_in 1 rest x.0 h x.1)

  -- and of a file's
  abbrev FileEndingIn : ModelEnding → Type 0
  FileEndingIn (ends e) = EndingIn e
  FileEndingIn no_list = Unit {0}

  -- the offsets of definitions, and of their ending
  abbrev RowIn : Trees → ModelEnding → Type 0
  RowIn ts e = AllOffsetsOf IsIn ts × FileEndingIn e

  without_list : (ts : Trees) (e f : ModelEnding) → ts ≡ none → e ≡ f → FileEndingIn f → RowIn ts e
  without_list ts e f a b h = (subst (AllOffsetsOf IsIn) (sym a) tt, subst FileEndingIn (sym b) h)

  row_in : (xs : List (ℕ × Lexeme)) (ts : Trees) (e : ModelEnding) → EndsWith all xs → AreDefinitions (length (kept text)) xs ts e → RowIn ts e
  row_in [] ts e h x = without_list ts e no_list x.0 x.1 tt
  row_in ((at, opens) ∷ xs) ts e h (f, x, is) =
      let here = subst (EndsWith all) x.4 (behind all ((x.0, opens) ∷ []) x.1 (subst (EndsWith all) x.3 h)) in
      (trees_in ts x.2 here, subst FileEndingIn (sym is) (list_in x.2 f (behind all (spelled_all ts) x.2 here) x.5))
  row_in ((at, word k n) ∷ xs) ts e h x = without_list ts e (ends (left_over at)) x.0 x.1 (trees_in (more (atom at k n) none) xs h).0
  row_in ((at, blank) ∷ xs) ts e h x = without_list ts e (ends (broken x.1)) x.0 x.3 (fault_in 0 ((at, blank) ∷ xs) x.1 h x.2)
  row_in ((at, closes) ∷ xs) ts e h x = without_list ts e (ends (broken x.1)) x.0 x.3 (fault_in 0 ((at, closes) ∷ xs) x.1 h x.2)
  row_in ((at, wrong w) ∷ xs) ts e h x = without_list ts e (ends (broken x.1)) x.0 x.3 (fault_in 0 ((at, wrong w) ∷ xs) x.1 h x.2)

  -- a fault of the file, in it
  abbrev IsFileFault : ModelFault → Type 0
  IsFileFault f = IsIn f.offset × (is_of_script f.kind ≡ false)

  -- the limit lies in a text that is longer
  limit_in : is_long text ≡ true → IsIn text_limit
  limit_in e = grind (arith, nat_tests)

  at_limit_in : (long : Bool) (f : Located) → (long ≡ true → IsIn text_limit) → IsIn f.offset → IsIn (at_limit long f).offset
  at_limit_in false f limit h = h
  at_limit_in true f limit h = go (is_of_end f.fault)
    where
      go : (b : Bool) → IsIn (cond b too_long f).offset
      go true = limit refl
      go false = h

  long_in : (long : Bool) (other : Option ModelFault) → (long ≡ true → IsIn text_limit) → Holds IsFileFault other → Holds IsFileFault (unless_long long other)
  long_in true other limit h = (limit refl, refl)
  long_in false other limit h = h

  ending_in : (long : Bool) (e : ModelEnding) → (long ≡ true → IsIn text_limit) → FileEndingIn e → Holds IsFileFault (ending_fault (length text) long e)
  ending_in long (ends complete) limit h = long_in long None limit tt
  ending_in long (ends (broken f)) limit h = (at_limit_in long f limit h, refl)
  ending_in long (ends (left_over at)) limit h = (h, refl)
  ending_in long no_list limit h = long_in long _ limit (omega arith, refl)

  unless_in : {A : Type 0} (o : Option ModelFault) (a : A) → Holds IsFileFault o → IsFaultWithin IsIn (unless_fault o a)
  unless_in None a h = tt
  unless_in (Some f) a h = h

  pub reading_in : (g : Signature) (f : ModelFault) → IsModelReading g text (Err f) → IsFileFault f
  unfolding read_to_end
  reading_in g f r =
      let inside = row_in (model_lexemes text) r.definitions r.ending (behind_word all) r.read in
      let ending = ending_fault (length text) (is_long text) r.ending in
      subst (IsFaultWithin IsIn) (sym r.is)
      (in_turn IsIn (definitions_read g [] r.definitions) (λ ds. unless_fault ending ds) (definitions_within IsIn g [] r.definitions inside.0) λ ds. unless_in ending ds (ending_in (is_long text) r.ending limit_in inside.1))
