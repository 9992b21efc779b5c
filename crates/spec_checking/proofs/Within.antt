-- Each fault of a verdict is in the proof's text, or at its end.
use Rattle.std.proofs.Common.{◌≡◌, ◌≤◌, ◌<◌, ℕ, Bool, true, false, cond, List, [], ◌∷◌, ◌++◌, length, Some, inl, inr, refl, sym, ◌∙◌, subst, append_assoc, length-take, arith}
use Rattle.std.specs.Prelude.{codes}
use Rattle.std.specs.Str.{bytes_eq}
use Rattle.std.proofs.lemmas.Bool.Decides.{nat_tests}
use Rattle.spec_text.specs.Lexemes.{Lexeme, blank, opens, closes, word, wrong, lexemes, lexemes_from}
use Rattle.spec_text.specs.Trees.{Trees, none, more, spelled_all}
use Rattle.spec_text.specs.Shapes.{is_symbol}
use Rattle.spec_text.specs.Offsets.{AllOffsetsOf, weaker_offsets_of}
use Rattle.spec_text.specs.Faults.{Located, first_fault}
use Rattle.spec_text.specs.Readings.{IsBroken, text_limit, kept, is_long, is_of_end, too_long, at_limit}
use Rattle.spec_text.proofs.AnswerLaws.{own_offset}
use Rattle.spec_text.proofs.ShapeLaws.{Holds}
use Rattle.spec_commands.specs.Checks.{Check, term_limit}
use Rattle.spec_proofs.specs.Faults.{Fault}
use Rattle.spec_checking.specs.Commands.{known_at}
use Rattle.spec_proofs.specs.Texts.{behind_unsat, begins_listed, Ending, complete, broken, left_over, EndsRow, EndsBehind, EndsList, AreCommands, proof_lexemes, ending_fault}
use Rattle.spec_checking.specs.Accepted.{IsJudged, IsVerdict, no_such_check}
use Rattle.spec_checking.proofs.Offsets.{first_within}

-- that trees are in their text, and first faults
abbrev pub TreesLaw : Type 0
TreesLaw = (text : List ℕ) (at : ℕ) (earlier rest : List (ℕ × Lexeme)) (ts : Trees) → lexemes_from text at ≡ earlier ++ (spelled_all ts ++ rest) → AllOffsetsOf (λ n. (at ≤ n) × (n < length text)) ts

abbrev pub FaultsLaw : Type 0
FaultsLaw = (text : List ℕ) (at n : ℕ) (earlier rest : List (ℕ × Lexeme)) (f : Located) → lexemes_from text at ≡ earlier ++ rest → first_fault (length text) n rest ≡ Some f → f.offset ≤ length text

-- some lexemes are the last of others
abbrev EndsWith : List (ℕ × Lexeme) → List (ℕ × Lexeme) → Type 0
EndsWith all xs = (earlier : List (ℕ × Lexeme)) × (all ≡ earlier ++ xs)

-- what comes after one of them, or after several
behind_one : (all : List (ℕ × Lexeme)) (x : ℕ × Lexeme) (xs : List (ℕ × Lexeme)) → EndsWith all (x ∷ xs) → EndsWith all xs
behind_one all x xs h = (h.0 ++ x ∷ [], h.1 ∙ sym (append_assoc h.0 (x ∷ []) xs))

behind_all : (all front xs : List (ℕ × Lexeme)) → EndsWith all (front ++ xs) → EndsWith all xs
behind_all all front xs h = (h.0 ++ front, h.1 ∙ sym (append_assoc h.0 front xs))

-- the lexemes after the word
behind_word : (xs : List (ℕ × Lexeme)) → EndsWith xs (behind_unsat xs)
behind_word [] = ([], refl)
behind_word ((at, blank) ∷ xs) = ([], refl)
behind_word ((at, opens) ∷ xs) = ([], refl)
behind_word ((at, closes) ∷ xs) = ([], refl)
behind_word ((at, wrong f) ∷ xs) = ([], refl)
behind_word ((at, word k n) ∷ xs) = go (is_symbol k) (bytes_eq n (codes "unsat"))
  where
    go : (a b : Bool) → EndsWith ((at, word k n) ∷ xs) (cond a (cond b xs ((at, word k n) ∷ xs)) ((at, word k n) ∷ xs))
    go true true = ((at, word k n) ∷ [], refl)
    go true false = ([], refl)
    go false b = ([], refl)

module _ (trees_law : TreesLaw) (faults_law : FaultsLaw) (text : List ℕ) where
  -- an offset of the text, or its end
  abbrev IsIn : ℕ → Type 0
  IsIn n = n ≤ length text

  kept_within : length (kept text) ≤ length text
  kept_within = omega (arith, length-take text_limit text)

  -- the lexemes that are kept
  abbrev all : List (ℕ × Lexeme)
  all = lexemes 0 0 (kept text)

  trees_in : (ts : Trees) (rest : List (ℕ × Lexeme)) → EndsWith all (spelled_all ts ++ rest) → AllOffsetsOf IsIn ts
  trees_in ts rest h = weaker_offsets_of (λ n. (0 ≤ n) × (n < length (kept text))) IsIn (λ n p. omega (arith, p.1, kept_within)) ts (trees_law (kept text) 0 h.0 rest ts h.1)

  fault_in : (n : ℕ) (rest : List (ℕ × Lexeme)) (f : Located) → EndsWith all rest → IsBroken (length (kept text)) n rest f → IsIn f.offset
  fault_in n rest f h b = omega (arith, faults_law (kept text) 0 n h.0 rest f h.1 b.fault, kept_within)

  -- the offset of an ending
  abbrev EndingIn : Ending → Type 0
  EndingIn complete = Unit {0}
  EndingIn (broken f) = IsIn f.offset
  EndingIn (left_over at) = IsIn at

  row_in : (rest : List (ℕ × Lexeme)) (e : Ending) → EndsWith all rest → EndsRow (length (kept text)) rest e → EndingIn e
  row_in rest complete h x = tt
  row_in rest (broken f) h x = fault_in 0 rest f h x
  row_in rest (left_over at) h x = absurd x

  behind_in : (after : List (ℕ × Lexeme)) (e : Ending) → EndsWith all after → EndsBehind (length (kept text)) after e → EndingIn e
  behind_in after complete h x = tt
  behind_in after (broken f) h x = fault_in 0 after f h x
  behind_in after (left_over at) h x =
      let t = x.0 in
      let inside = trees_in (more t none) x.1 (subst (EndsWith all) x.2 h) in
      subst IsIn x.3 (own_offset IsIn t inside.0)

  list_in : (rest : List (ℕ × Lexeme)) (e : Ending) → EndsWith all rest → EndsList (length (kept text)) rest e → EndingIn e
  list_in rest e h (inl x) = behind_in x.1 e (behind_one all (x.0, closes) x.1 (subst (EndsWith all) x.2 h)) x.3
  list_in rest e h (inr x) = subst EndingIn (sym x.2) (fault_in 1 rest x.0 h x.1)

  commands_in : (listed : Bool) (xs : List (ℕ × Lexeme)) (ts : Trees) (e : Ending) → EndsWith all xs → AreCommands listed (length (kept text)) xs ts e → AllOffsetsOf IsIn ts × EndingIn e
  commands_in false xs ts e h x =
      let here = subst (EndsWith all) x.1 h in
      (trees_in ts x.0 here, row_in x.0 e (behind_all all (spelled_all ts) x.0 here) x.2)
  commands_in true xs ts e h x =
      let here = subst (EndsWith all) x.4 (behind_one all (x.0, opens) x.1 (subst (EndsWith all) x.3 h)) in
      (trees_in ts x.2 here, list_in x.2 e (behind_all all (spelled_all ts) x.2 here) x.5)

  -- the limit lies in a text that is longer
  limit_in : is_long text ≡ true → IsIn text_limit
  limit_in e = grind (arith, nat_tests)

  at_limit_in : (long : Bool) (f : Located) → (long ≡ true → IsIn text_limit) → IsIn f.offset → IsIn (at_limit long f).offset
  at_limit_in false f limit h = h
  at_limit_in true f limit h = go (is_of_end f.fault)
    where
      go : (b : Bool) → IsIn (cond b too_long f).offset
      go true = limit refl
      go false = h

  ending_in : (long : Bool) (e : Ending) → (long ≡ true → IsIn text_limit) → EndingIn e → Holds (λ (f : Fault). IsIn f.offset) (ending_fault long e)
  ending_in true complete limit h = limit refl
  ending_in false complete limit h = tt
  ending_in long (broken f) limit h = at_limit_in long f limit h
  ending_in long (left_over at) limit h = h

  pub judged_in : (c : Check) (f : Fault) → IsJudged c text (Some f) → IsIn f.offset
  judged_in c f j =
      let inside = commands_in (begins_listed (proof_lexemes text)) (proof_lexemes text) j.commands j.ending (behind_word all) j.read in
      first_within IsIn (Some term_limit) (known_at c) (length text) (ending_fault (is_long text) j.ending) j.commands f (omega arith) (ending_in (is_long text) j.ending limit_in inside.1) inside.0 j.fault

  pub verdict_in : (script : List ℕ) (k : ℕ) (f : Fault) → IsVerdict script k text (Some f) → IsIn f.offset
  verdict_in script k f (inl x) = judged_in x.0 f x.2
  verdict_in script k f (inr x) = let is : no_such_check ≡ f = let same : Some f ≡ Some no_such_check = x.1 in cc in subst (λ (y : Fault). IsIn y.offset) is (omega arith)
