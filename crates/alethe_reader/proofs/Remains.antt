-- What ends the commands of a proof, and that something does.
use Rattle.std.proofs.Common.{◌≡◌, ℕ, Bool, true, false, Option, Some, None, List, [], ◌∷◌, ◌++◌, length, inl, inr, refl, sym, ap, ◌∙◌, subst, arith, append_assoc}
use Rattle.std.specs.Prelude.{◌↔◌, Result, Ok, Err, IsErrAnd, option_map}
use Rattle.spec_text.specs.declared.Place.{Place}
use Rattle.spec_text.specs.Lexemes.{Lexeme, blank, opens, closes, word, wrong, lexemes, lexemes_from}
use Rattle.spec_text.specs.Trees.{Trees, none, more, spelled, spelled_all, offset_of}
use Rattle.spec_text.specs.Faults.{Located}
use Rattle.spec_text.specs.Readings.{AreTrees, StopsAt, kept, is_long, limited}
use Rattle.spec_text.proofs.Blanks.{HasNoBlank}
use Rattle.spec_text.proofs.Parsing.{each_parsed}
use Rattle.spec_proofs.specs.declared.ProofKind.TheVariants.{BadShape}
use Rattle.spec_proofs.specs.Faults.{Fault, fault_at, text_fault}
use Rattle.spec_proofs.specs.Texts.{Ending, complete, broken, left_over, EndsRow, EndsBehind, EndsList, AreCommands, behind_unsat, begins_listed, IsProofText, ending_fault}
use Rattle.smt_lexer.specs.declared.Refusal.{Refusal}
use Rattle.smt_sexpr.specs.declared.sexpr.Sexpr.{Sexpr}
use Rattle.smt_sexpr.specs.Items.{tree_of}
use Rattle.smt_sexpr.specs.Reads.{ReadsSexpr, Closes}
use Rattle.smt_sexpr.specs.Limited.{refusal_meant, StopsIn, IsStopped}
use Rattle.alethe_reader.specs.declared.errors.LocatedFault.{LocatedFault}
use Rattle.alethe_reader.specs.declared.errors.CommandError.{CommandError}
use Rattle.alethe_reader.specs.declared.errors.CommandError.TheVariants as errors
use Rattle.alethe_reader.specs.declared.reader.Reader.{Reader}
use Rattle.alethe_reader.specs.Endings.{lists_round, EndsIn, AreLeft, IsEnding, EndsHere, FollowsCommands, Leaves}
use Rattle.alethe_reader.specs.Reads.{located_view}
use Rattle.alethe_reader.specs.Remaining.{text_of, ReadsOn}
use Rattle.alethe_reader.proofs.Rows.{nothing_first, read_first, left_behind}

-- what ends commands, by what stops the bytes that are read
abbrev ending_of : Option Located → Ending
ending_of None = complete
ending_of (Some f) = broken f

limited_is : (long : Bool) (stop : Option Located) → option_map text_fault (limited long stop) ≡ ending_fault long (ending_of stop)
limited_is long (Some f) = refl
limited_is true None = refl
limited_is false None = refl

-- the fault of the whole text
is_fault : (text : List ℕ) (stop : Option Located) (r : Refusal) (found : LocatedFault) → limited (is_long text) stop ≡ Some (refusal_meant r) → located_view found ≡ text_fault (refusal_meant r) → IsEnding text (ending_of stop) (Some (located_view found))
is_fault text stop r found is e = sym (limited_is (is_long text) stop) ∙ ap (option_map text_fault) is ∙ ap Some (sym e)

-- the whole text ends
is_complete : (text : List ℕ) → is_long text ≡ false → IsEnding text complete None
is_complete text short = ap (λ long. ending_fault long complete) short

stops_row : (end : ℕ) (rest : List (ℕ × Lexeme)) (stop : Option Located) → StopsIn end 0 rest stop → EndsRow end rest (ending_of stop)
stops_row end rest None x = x.1
stops_row end rest (Some f) b = b

stops_list : (end : ℕ) (rest : List (ℕ × Lexeme)) (stop : Option Located) → StopsIn end 1 rest stop → EndsList end rest (ending_of stop)
stops_list end rest None x = let one_is = x.0 in absurd (omega (arith, one_is))
stops_list end rest (Some f) b = inr (f, b, refl)

stops_either : (listed : Bool) (end : ℕ) (rest : List (ℕ × Lexeme)) (stop : Option Located) → StopsIn end (lists_round listed) rest stop → EndsIn listed end rest (ending_of stop)
stops_either false end rest stop s = stops_row end rest stop s
stops_either true end rest stop s = stops_list end rest stop s

-- what ends commands that are in no list is as much after a list
row_behind : (end : ℕ) (rest : List (ℕ × Lexeme)) (e : Ending) → EndsRow end rest e → EndsBehind end rest e
row_behind end rest complete h = h
row_behind end rest (broken f) h = h
row_behind end rest (left_over at) h = absurd h

-- after a list is what cannot be read
pub list_breaks : (text : List ℕ) (xs : List (ℕ × Lexeme)) (r : Refusal) (found : LocatedFault) → IsStopped text 0 xs r → located_view found ≡ text_fault (refusal_meant r) → FollowsCommands text xs (Some (located_view found))
list_breaks text xs r found s e = record {
  ending = ending_of s.stop;
  behind = row_behind (length (kept text)) xs (ending_of s.stop) (stops_row (length (kept text)) xs s.stop s.stops);
  is = is_fault text s.stop r found s.is e;
}

-- or a tree
pub list_goes_on : (text : List ℕ) (from : Place) (s : Sexpr) (after : Place) (at : ℕ) → ReadsSexpr (kept text) from s after → at ≡ offset_of (tree_of s) → FollowsCommands text (lexemes_from (kept text) from.offset) (Some (fault_at at BadShape))
list_goes_on text from s after at r e = record { ending = left_over at; behind = left_behind (kept text) from s after at r e; is = refl }

-- or nothing
pub list_finishes : (text : List ℕ) (xs : List (ℕ × Lexeme)) → xs ≡ [] → is_long text ≡ false → FollowsCommands text xs None
list_finishes text xs nothing short = record { ending = complete; behind = nothing; is = is_complete text short }

module _ (listed : Bool) (text : List ℕ) (xs : List (ℕ × Lexeme)) where
  -- no command is to come
  none_left : (e : Ending) (found : Option Fault) → EndsIn listed (length (kept text)) xs e → IsEnding text e found → EndsHere listed text xs found
  none_left e found h is = record { ending = e; left = record { rest = xs; trees = nothing_first xs; ends = h }; is = is }

  -- but what cannot be read
  pub left_breaks : (r : Refusal) (found : LocatedFault) → IsStopped text (lists_round listed) xs r → located_view found ≡ text_fault (refusal_meant r) → EndsHere listed text xs (Some (located_view found))
  left_breaks r found s e = none_left (ending_of s.stop) (Some (located_view found)) (stops_either listed (length (kept text)) xs s.stop s.stops) (is_fault text s.stop r found s.is e)

-- or the end of the text
pub left_finishes : (listed : Bool) (text : List ℕ) (xs : List (ℕ × Lexeme)) → lists_round listed ≡ 0 → xs ≡ [] → is_long text ≡ false → EndsHere listed text xs None
left_finishes true text xs one_is nothing short = absurd (omega (arith, one_is))
left_finishes false text xs z nothing short = none_left false text xs complete None nothing (is_complete text short)

-- or the end of their list, and this is what follows
pub closes_with : (listed : Bool) (text : List ℕ) (from after : Place) (found : Option Fault) → Closes (kept text) from (lists_round listed) after
    → FollowsCommands text (lexemes_from (kept text) after.offset) found → EndsHere listed text (lexemes_from (kept text) from.offset) found
closes_with true text from after found c h = none_left true text (lexemes_from (kept text) from.offset) h.ending found (inl (c.at, lexemes_from (kept text) after.offset, c.first, h.behind)) h.is
closes_with false text from after found c h = let some = c.some in absurd (omega (arith, some))

closes_wrong : (old new : Reader) → new ≡ old → (after : Place) → Closes (kept (text_of old)) old.at (lists_round old.listed) after → (e : CommandError)
    → Leaves (text_of old) (lexemes_from (kept (text_of old)) after.offset) (Err e) → ReadsOn old (Err e) new
closes_wrong old new same after c errors.Memory h = same
closes_wrong old new same after c (errors.Fault f) h = (same, closes_with old.listed (text_of old) old.at after (Some (located_view f)) c h)

-- that is wrong, or memory ran out
pub closes_stops : (old new : Reader) → new ≡ old → (after : Place) → Closes (kept (text_of old)) old.at (lists_round old.listed) after → (e : CommandError) (r : Result (Option Sexpr) CommandError)
    → Leaves (text_of old) (lexemes_from (kept (text_of old)) after.offset) (Err e) → IsErrAnd r (λ x. x ≡ e) → ReadsOn old r new
closes_stops old new same after c e (Ok s) h is = absurd is
closes_stops old new same after c e (Err x) h is = subst (λ (y : CommandError). ReadsOn old (Err y) new) (sym is) (closes_wrong old new same after c e h)

-- a command was read, and others come after it
pub left_after : (listed : Bool) (text : List ℕ) (from : Place) (s : Sexpr) (after : Place) → ReadsSexpr (kept text) from s after → (ts : Trees) (e : Ending)
    → AreLeft listed (length (kept text)) (lexemes_from (kept text) after.offset) ts e → AreLeft listed (length (kept text)) (lexemes_from (kept text) from.offset) (more (tree_of s) ts) e
left_after listed text from s after r ts e h = record { rest = h.rest; trees = read_first (kept text) from s after r ts h.rest h.trees; ends = h.ends }

-- after lexemes that are no white space come others that are none
not_blank_behind : (x : ℕ × Lexeme) (xs : List (ℕ × Lexeme)) → HasNoBlank (x ∷ xs) → HasNoBlank xs
not_blank_behind (at, blank) xs h = absurd h
not_blank_behind (at, opens) xs h = h
not_blank_behind (at, closes) xs h = h
not_blank_behind (at, word k bytes) xs h = h
not_blank_behind (at, wrong f) xs h = h

none_blank_behind : (xs ys : List (ℕ × Lexeme)) → HasNoBlank (xs ++ ys) → HasNoBlank ys
none_blank_behind [] ys h = h
none_blank_behind (x ∷ xs) ys h = none_blank_behind xs ys (not_blank_behind x (xs ++ ys) h)

-- what stops commands that are in no list ends them
row_ending : (end : ℕ) (rest : List (ℕ × Lexeme)) → StopsAt end 0 rest → (e : Ending) × EndsRow end rest e
row_ending end rest (inl x) = (complete, x.1)
row_ending end rest (inr (inl x)) = absurd (x.0 refl)
row_ending end rest (inr (inr x)) = (broken x.0, x.1)

-- what stops trees after a list, the first of them left over
behind_ending : (end : ℕ) (xs : List (ℕ × Lexeme)) (ts : Trees) (rest : List (ℕ × Lexeme)) → AreTrees xs ts rest → StopsAt end 0 rest → (e : Ending) × EndsBehind end xs e
behind_ending end xs none rest a s = let e = row_ending end rest s in (e.0, subst (λ ys. EndsBehind end ys e.0) (sym a) (row_behind end rest e.0 e.1))
behind_ending end xs (more t us) rest a s =
    let front : AreTrees xs (more t none) (spelled_all us ++ rest) =
    a ∙ append_assoc (spelled t) (spelled_all us) rest ∙ sym (append_assoc (spelled t) [] (spelled_all us ++ rest)) in
    (left_over (offset_of t), (t, spelled_all us ++ rest, front, refl))

-- what stops commands that are in a list ends them
list_ending : (end : ℕ) (rest : List (ℕ × Lexeme)) → HasNoBlank rest → StopsAt end 1 rest → (e : Ending) × EndsList end rest e
list_ending end rest h (inl x) = let zero_is = x.0 in absurd (omega (arith, zero_is))
list_ending end rest h (inr (inl x)) =
    let clean : HasNoBlank x.2 = subst HasNoBlank x.3 h in
    let p = each_parsed end 0 x.2 clean in
    let e = behind_ending end x.2 p.0 p.1 p.2 p.3 in
    (e.0, inl (x.1, x.2, x.3, e.1))
list_ending end rest h (inr (inr x)) = (broken x.0, inr (x.0, x.1, refl))

ending_in : (listed : Bool) (end : ℕ) (rest : List (ℕ × Lexeme)) → HasNoBlank rest → StopsAt end (lists_round listed) rest → (e : Ending) × EndsIn listed end rest e
ending_in false end rest h s = row_ending end rest s
ending_in true end rest h s = list_ending end rest h s

-- from lexemes on there are commands, or none, and something ends them
pub some_left : (listed : Bool) (end : ℕ) (xs : List (ℕ × Lexeme)) → HasNoBlank xs → (ts : Trees) × (e : Ending) × AreLeft listed end xs ts e
some_left listed end xs h =
    let p = each_parsed end (lists_round listed) xs h in
    let e = ending_in listed end p.1 (none_blank_behind (spelled_all p.0) p.1 (subst HasNoBlank p.2 h)) p.3 in
    (p.0, e.0, record { rest = p.1; trees = p.2; ends = e.1 })

-- what is to come from the beginning on are all commands of a text
row_is_all : (end : ℕ) (xs : List (ℕ × Lexeme)) (ts : Trees) (e : Ending) → AreLeft false end xs ts e ↔ AreCommands false end xs ts e
row_is_all end xs ts e = (λ h. (h.rest, h.trees, h.ends), λ h. record { rest = h.0; trees = h.1; ends = h.2 })

list_is_all : (end begin : ℕ) (xs : List (ℕ × Lexeme)) (ts : Trees) (e : Ending) → AreLeft true end xs ts e ↔ AreCommands true end ((begin, opens) ∷ xs) ts e
list_is_all end begin xs ts e = (
  λ h. (begin, xs, h.rest, refl, h.trees, h.ends),
  λ h. record { rest = h.2; trees = subst (λ ys. AreTrees ys ts h.2) (sym (behind_first h.3)) h.4; ends = h.5 },
)
  where
    behind_first : {at : ℕ} {ys : List (ℕ × Lexeme)} → (begin, opens) ∷ xs ≡ (at, opens) ∷ ys → xs ≡ ys
    behind_first e = cc

module _ (text bytes : List ℕ) (from : ℕ) (same : bytes ≡ kept text) (behind : lexemes_from bytes from ≡ behind_unsat (lexemes 0 0 bytes)) (ts : Trees) (e : Ending) where
  -- in a list
  pub text_listed : (inside begin : ℕ) → begins_listed (lexemes_from bytes from) ≡ true → lexemes_from bytes from ≡ (begin, opens) ∷ lexemes_from bytes inside → AreLeft true (length (kept text)) (lexemes_from (kept text) inside) ts e ↔ IsProofText text ts e
  text_listed inside begin listed first =
      subst (λ (b : List ℕ). AreLeft true (length (kept text)) (lexemes_from b inside) ts e ↔ AreCommands (begins_listed (behind_unsat (lexemes 0 0 b))) (length (kept text)) (behind_unsat (lexemes 0 0 b)) ts e) same
      (subst (λ (xs : List (ℕ × Lexeme)). AreLeft true (length (kept text)) (lexemes_from bytes inside) ts e ↔ AreCommands (begins_listed xs) (length (kept text)) xs ts e) behind
      (subst (λ (b : Bool). AreLeft true (length (kept text)) (lexemes_from bytes inside) ts e ↔ AreCommands b (length (kept text)) (lexemes_from bytes from) ts e) (sym listed)
      (subst (λ (xs : List (ℕ × Lexeme)). AreLeft true (length (kept text)) (lexemes_from bytes inside) ts e ↔ AreCommands true (length (kept text)) xs ts e) (sym first)
      (list_is_all (length (kept text)) begin (lexemes_from bytes inside) ts e))))

  -- in no list
  pub text_plain : begins_listed (lexemes_from bytes from) ≡ false → AreLeft false (length (kept text)) (lexemes_from (kept text) from) ts e ↔ IsProofText text ts e
  text_plain listed =
      subst (λ (b : List ℕ). AreLeft false (length (kept text)) (lexemes_from b from) ts e ↔ AreCommands (begins_listed (behind_unsat (lexemes 0 0 b))) (length (kept text)) (behind_unsat (lexemes 0 0 b)) ts e) same
      (subst (λ (xs : List (ℕ × Lexeme)). AreLeft false (length (kept text)) (lexemes_from bytes from) ts e ↔ AreCommands (begins_listed xs) (length (kept text)) xs ts e) behind
      (subst (λ (b : Bool). AreLeft false (length (kept text)) (lexemes_from bytes from) ts e ↔ AreCommands b (length (kept text)) (lexemes_from bytes from) ts e) (sym listed)
      (row_is_all (length (kept text)) (lexemes_from bytes from) ts e)))
