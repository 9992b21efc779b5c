-- What ends the definitions of a model's text, and that something does.
use Rattle.std.proofs.Common.{◌≡◌, ◌≤◌, ℕ, Bool, true, false, Option, Some, None, List, [], ◌∷◌, ◌++◌, length, inl, inr, refl, sym, ap, ◌∙◌, subst, arith, append_assoc}
use Rattle.std.specs.Prelude.{Result, Ok, Err, IsErrAnd}
use Rattle.std.proofs.lemmas.Bool.Decides.{nat_tests}
use Rattle.std.proofs.lemmas.List.{take_all}
use Rattle.spec_text.specs.declared.Place.{Place}
use Rattle.spec_text.specs.Lexemes.{Lexeme, blank, opens, closes, word, wrong, lexemes, lexemes_from}
use Rattle.spec_text.specs.Trees.{Tree, Trees, atom, list, none, more, spelled, spelled_all, offset_of}
use Rattle.spec_text.specs.Faults.{Located, first_fault}
use Rattle.spec_text.specs.Readings.{AreTrees, StopsAt, IsBroken, text_limit, kept, is_long, limited}
use Rattle.spec_text.proofs.Blanks.{HasNoBlank}
use Rattle.spec_text.proofs.Parsing.{each_parsed}
use Rattle.spec_proofs.specs.Texts.{Ending, complete, broken, left_over, EndsBehind, EndsList}
use Rattle.spec_model_files.specs.declared.ModelKind.TheVariants.{BadShape}
use Rattle.spec_model_files.specs.Faults.{ModelFault, model_fault, text_fault}
use Rattle.spec_model_files.specs.Texts.{behind_sat, ends, no_list, AreDefinitions, model_lexemes, IsModelText, ending_fault}
use Rattle.smt_lexer.specs.declared.Refusal.{Refusal}
use Rattle.smt_sexpr.specs.declared.sexpr.Sexpr.{Sexpr}
use Rattle.smt_sexpr.specs.Items.{tree_of}
use Rattle.smt_sexpr.specs.Reads.{ReadsSexpr, Closes}
use Rattle.smt_sexpr.specs.Limited.{refusal_meant, StopsIn, IsStopped}
use Rattle.model_read.specs.declared.errors.LocatedFault.{LocatedFault}
use Rattle.model_read.specs.declared.errors.ReadError.{ReadError}
use Rattle.model_read.specs.declared.errors.ReadError.TheVariants as errors
use Rattle.model_read.specs.declared.reader.Reader.{Reader}
use Rattle.model_read.specs.Answers.{located_view}
use Rattle.model_read.specs.Endings.{AreLeft, IsEnding, EndsHere, FollowsList, Leaves, HasNoOpening, IsNoList, HasNoList}
use Rattle.model_read.specs.Remaining.{text_of, ReadsOn, BeginsText}

-- no tree comes first
nothing_first : (xs : List (ℕ × Lexeme)) → AreTrees xs none xs
nothing_first xs = refl

-- one tree, and then others
read_first : (text : List ℕ) (from : Place) (s : Sexpr) (after : Place) → ReadsSexpr text from s after → (us : Trees) (rest : List (ℕ × Lexeme)) → AreTrees (lexemes_from text after.offset) us rest
    → AreTrees (lexemes_from text from.offset) (more (tree_of s) us) rest
read_first text from s after r us rest h =
    r.is.first ∙ ap (λ zs. spelled (tree_of s) ++ zs) h ∙ sym (append_assoc (spelled (tree_of s)) (spelled_all us) rest)

-- a tree after the list
left_behind : (text : List ℕ) (from : Place) (s : Sexpr) (after : Place) (at : ℕ) → ReadsSexpr text from s after → at ≡ offset_of (tree_of s) → EndsBehind (length text) (lexemes_from text from.offset) (left_over at)
left_behind text from s after at r e =
    (tree_of s, lexemes_from text after.offset, read_first text from s after r none (lexemes_from text after.offset) (nothing_first (lexemes_from text after.offset)), sym e)

-- what ends definitions, by what stops the bytes that are read
abbrev ending_of : Option Located → Ending
ending_of None = complete
ending_of (Some f) = broken f

abbrev limited_fault : Option Located → Option ModelFault
limited_fault None = None
limited_fault (Some f) = Some (text_fault f)

limited_is : (n : ℕ) (long : Bool) (stop : Option Located) → limited_fault (limited long stop) ≡ ending_fault n long (ends (ending_of stop))
limited_is n long (Some f) = refl
limited_is n true None = refl
limited_is n false None = refl

-- the fault of the whole text
is_fault : (text : List ℕ) (stop : Option Located) (r : Refusal) (found : LocatedFault) → limited (is_long text) stop ≡ Some (refusal_meant r) → located_view found ≡ text_fault (refusal_meant r) → IsEnding text (ends (ending_of stop)) (Some (located_view found))
is_fault text stop r found is e = sym (limited_is (length text) (is_long text) stop) ∙ ap limited_fault is ∙ ap (λ (f : ModelFault). Some f) (sym e)

is_complete : (text : List ℕ) → is_long text ≡ false → IsEnding text (ends complete) None
is_complete text short = ap (λ long. ending_fault (length text) long (ends complete)) short

stops_list : (end : ℕ) (rest : List (ℕ × Lexeme)) (stop : Option Located) → StopsIn end 1 rest stop → EndsList end rest (ending_of stop)
stops_list end rest None x = let one_is = x.0 in absurd (omega (arith, one_is))
stops_list end rest (Some f) b = inr (f, b, refl)

stops_behind : (end : ℕ) (rest : List (ℕ × Lexeme)) (stop : Option Located) → StopsIn end 0 rest stop → EndsBehind end rest (ending_of stop)
stops_behind end rest None x = x.1
stops_behind end rest (Some f) b = b

-- after the list is what cannot be read
pub list_breaks : (text : List ℕ) (xs : List (ℕ × Lexeme)) (r : Refusal) (found : LocatedFault) → IsStopped text 0 xs r → located_view found ≡ text_fault (refusal_meant r) → FollowsList text xs (Some (located_view found))
list_breaks text xs r found s e = record {
  ending = ending_of s.stop;
  behind = stops_behind (length (kept text)) xs s.stop s.stops;
  is = is_fault text s.stop r found s.is e;
}

-- or a tree
pub list_goes_on : (text : List ℕ) (from : Place) (s : Sexpr) (after : Place) (at : ℕ) (found : LocatedFault) → ReadsSexpr (kept text) from s after → at ≡ offset_of (tree_of s) → found ≡ record { offset = at; kind = BadShape }
    → FollowsList text (lexemes_from (kept text) from.offset) (Some (located_view found))
list_goes_on text from s after at found r e is = record { ending = left_over at; behind = left_behind (kept text) from s after at r e; is = ap (λ (f : LocatedFault). Some (located_view f)) (sym is) }

-- or nothing
pub list_finishes : (text : List ℕ) (xs : List (ℕ × Lexeme)) → xs ≡ [] → is_long text ≡ false → FollowsList text xs None
list_finishes text xs nothing short = record { ending = complete; behind = nothing; is = is_complete text short }

module _ (text : List ℕ) (xs : List (ℕ × Lexeme)) where
  -- no definition is to come
  none_left : (e : Ending) (found : Option ModelFault) → EndsList (length (kept text)) xs e → IsEnding text (ends e) found → EndsHere text xs found
  none_left e found h is = record { ending = e; left = record { rest = xs; trees = nothing_first xs; after = h }; is = is }

  -- but what cannot be read
  pub left_breaks : (r : Refusal) (found : LocatedFault) → IsStopped text 1 xs r → located_view found ≡ text_fault (refusal_meant r) → EndsHere text xs (Some (located_view found))
  left_breaks r found s e = none_left (ending_of s.stop) (Some (located_view found)) (stops_list (length (kept text)) xs s.stop s.stops) (is_fault text s.stop r found s.is e)

-- or the end of their list, and this is what follows
pub closes_with : (text : List ℕ) (from after : Place) (found : Option ModelFault) → Closes (kept text) from 1 after → FollowsList text (lexemes_from (kept text) after.offset) found → EndsHere text (lexemes_from (kept text) from.offset) found
closes_with text from after found c h = none_left text (lexemes_from (kept text) from.offset) h.ending found (inl (c.at, lexemes_from (kept text) after.offset, c.first, h.behind)) h.is

closes_wrong : (old new : Reader) → new ≡ old → (after : Place) → Closes (kept (text_of old)) old.at 1 after → (e : ReadError) → Leaves (text_of old) (lexemes_from (kept (text_of old)) after.offset) (Err e) → ReadsOn old (Err e) new
closes_wrong old new same after c errors.Memory h = same
closes_wrong old new same after c (errors.Fault f) h = (same, closes_with (text_of old) old.at after (Some (located_view f)) c h)

-- that is wrong, or memory ran out
pub closes_stops : (old new : Reader) → new ≡ old → (after : Place) → Closes (kept (text_of old)) old.at 1 after → (e : ReadError) (r : Result (Option Sexpr) ReadError)
    → Leaves (text_of old) (lexemes_from (kept (text_of old)) after.offset) (Err e) → IsErrAnd r (λ x. x ≡ e) → ReadsOn old r new
closes_stops old new same after c e (Ok s) h is = absurd is
closes_stops old new same after c e (Err x) h is = subst (λ (y : ReadError). ReadsOn old (Err y) new) (sym is) (closes_wrong old new same after c e h)

-- a definition was read, and others come after it
pub left_after : (text : List ℕ) (from : Place) (s : Sexpr) (after : Place) → ReadsSexpr (kept text) from s after → (ts : Trees) (e : Ending) → AreLeft (length (kept text)) (lexemes_from (kept text) after.offset) ts e
    → AreLeft (length (kept text)) (lexemes_from (kept text) from.offset) (more (tree_of s) ts) e
left_after text from s after r ts e h = record { rest = h.rest; trees = read_first (kept text) from s after r ts h.rest h.trees; after = h.after }

-- after lexemes that are no white space come others that are none
not_blank_behind : (x : ℕ × Lexeme) (xs : List (ℕ × Lexeme)) → HasNoBlank (x ∷ xs) → HasNoBlank xs
not_blank_behind (at, blank) xs h = absurd h
not_blank_behind (at, opens) xs h = h
not_blank_behind (at, closes) xs h = h
not_blank_behind (at, word k bytes) xs h = h
not_blank_behind (at, wrong f) xs h = h

none_blank_behind : (xs ys : List (ℕ × Lexeme)) → HasNoBlank (xs ++ ys) → HasNoBlank ys
none_blank_behind [] ys h = h
none_blank_behind (x ∷ xs) ys h = none_blank_behind xs ys (not_blank_behind x (xs ++ ys) h)

-- what stops trees after a list, the first of them left over
behind_ending : (end : ℕ) (xs : List (ℕ × Lexeme)) (ts : Trees) (rest : List (ℕ × Lexeme)) → AreTrees xs ts rest → StopsAt end 0 rest → (e : Ending) × EndsBehind end xs e
behind_ending end xs none rest a (inl x) = (complete, a ∙ x.1)
behind_ending end xs none rest a (inr (inl x)) = absurd (x.0 refl)
behind_ending end xs none rest a (inr (inr x)) = (broken x.0, subst (λ ys. IsBroken end 0 ys x.0) (sym a) x.1)
behind_ending end xs (more t us) rest a s =
    let front : AreTrees xs (more t none) (spelled_all us ++ rest) =
    a ∙ append_assoc (spelled t) (spelled_all us) rest ∙ sym (append_assoc (spelled t) [] (spelled_all us ++ rest)) in
    (left_over (offset_of t), (t, spelled_all us ++ rest, front, refl))

-- what stops definitions in their list ends them
list_ending : (end : ℕ) (rest : List (ℕ × Lexeme)) → HasNoBlank rest → StopsAt end 1 rest → (e : Ending) × EndsList end rest e
list_ending end rest h (inl x) = let zero_is = x.0 in absurd (omega (arith, zero_is))
list_ending end rest h (inr (inl x)) =
    let clean : HasNoBlank x.2 = subst HasNoBlank x.3 h in
    let p = each_parsed end 0 x.2 clean in
    let e = behind_ending end x.2 p.0 p.1 p.2 p.3 in
    (e.0, inl (x.1, x.2, x.3, e.1))
list_ending end rest h (inr (inr x)) = (broken x.0, inr (x.0, x.1, refl))

-- from lexemes on there are definitions, or none, and something ends them
pub some_left : (end : ℕ) (xs : List (ℕ × Lexeme)) → HasNoBlank xs → (ts : Trees) × (e : Ending) × AreLeft end xs ts e
some_left end xs h =
    let p = each_parsed end 1 xs h in
    let e = list_ending end p.1 (none_blank_behind (spelled_all p.0) p.1 (subst HasNoBlank p.2 h)) p.3 in
    (p.0, e.0, record { rest = p.1; trees = p.2; after = e.1 })

-- a text that is no list
module _ (text : List ℕ) (xs : List (ℕ × Lexeme)) (found : LocatedFault) where
  -- by its end
  pub no_list_end : (n : ℕ) → xs ≡ [] → is_long text ≡ false → n ≡ length (kept text) → found ≡ record { offset = n; kind = BadShape } → IsNoList text xs (located_view found)
  no_list_end n nothing short long is =
      let within : length text ≤ text_limit = grind (arith, nat_tests, short) in
      let whole : kept text ≡ text = take_all text_limit text within in
      record {
        ending = no_list;
        none_there = subst (λ (ys : List (ℕ × Lexeme)). AreDefinitions (length (kept text)) ys none no_list) (sym nothing) (refl, refl);
        is = ap (λ b. ending_fault (length text) b no_list) short ∙ ap (λ (k : ℕ). Some (model_fault k BadShape)) (sym (long ∙ ap (λ (b : List ℕ). length b) whole)) ∙ ap (λ (f : LocatedFault). Some (located_view f)) (sym is);
      }

  -- by what cannot be read
  broken_here : (end : ℕ) (ys : List (ℕ × Lexeme)) (f : Located) → HasNoOpening ys → IsBroken end 0 ys f → AreDefinitions end ys none (ends (broken f))
  unfolding first_fault
  broken_here end [] f shut b = absurd (nothing_breaks b.fault)
    where
      nothing_breaks : (let o : Option Located = None in o) ≡ Some f → ⊥
      nothing_breaks e = cc
  broken_here end ((at, opens) ∷ ys) f shut b = absurd (shut at ys refl)
  broken_here end ((at, word k n) ∷ ys) f shut b = absurd (omega (arith, b.no_tree (atom at k n) ys refl))
  broken_here end ((at, blank) ∷ ys) f shut b = (refl, f, b, refl)
  broken_here end ((at, closes) ∷ ys) f shut b = (refl, f, b, refl)
  broken_here end ((at, wrong x) ∷ ys) f shut b = (refl, f, b, refl)

  pub no_list_broken : (r : Refusal) → HasNoOpening xs → IsStopped text 0 xs r → located_view found ≡ text_fault (refusal_meant r) → IsNoList text xs (located_view found)
  no_list_broken r shut s e = go s.stop s.stops s.is
    where
      too_long_is : (long : Bool) → limited long None ≡ Some (refusal_meant r) → ending_fault (length text) long no_list ≡ Some (located_view found)
      too_long_is true h = ap limited_fault h ∙ ap (λ (f : ModelFault). Some f) (sym e)
      too_long_is false h = cc

      go : (stop : Option Located) → StopsIn (length (kept text)) 0 xs stop → limited (is_long text) stop ≡ Some (refusal_meant r) → IsNoList text xs (located_view found)
      go None x h = record {
        ending = no_list;
        none_there = subst (λ (ys : List (ℕ × Lexeme)). AreDefinitions (length (kept text)) ys none no_list) (sym x.1) (refl, refl);
        is = too_long_is (is_long text) h;
      }
      go (Some f) b h = record { ending = ends (broken f); none_there = broken_here (length (kept text)) xs f shut b; is = is_fault text (Some f) r found h e }

-- by a tree that is none
pub no_list_tree : (text : List ℕ) (from : Place) (s : Sexpr) (after : Place) (at : ℕ) (found : LocatedFault) → ReadsSexpr (kept text) from s after → HasNoOpening (lexemes_from (kept text) from.offset) → at ≡ offset_of (tree_of s)
    → found ≡ record { offset = at; kind = BadShape } → IsNoList text (lexemes_from (kept text) from.offset) (located_view found)
no_list_tree text from s after at found r shut e is = record {
  ending = ends (left_over (offset_of (tree_of s)));
  none_there = go (tree_of s) (lexemes_from (kept text) from.offset) (lexemes_from (kept text) after.offset) shut r.is.first;
  is = ap (λ (n : ℕ). Some (model_fault n BadShape)) (sym e) ∙ ap (λ (f : LocatedFault). Some (located_view f)) (sym is);
}
  where
    go : (t : Tree) (xs ys : List (ℕ × Lexeme)) → HasNoOpening xs → xs ≡ spelled t ++ ys → AreDefinitions (length (kept text)) xs none (ends (left_over (offset_of t)))
    go (atom a k n) xs ys shut e = subst (λ (zs : List (ℕ × Lexeme)). AreDefinitions (length (kept text)) zs none (ends (left_over a))) (sym e) (refl, refl)
    go (list a ts b) xs ys shut e = absurd (shut a ((spelled_all ts ++ (b, closes) ∷ []) ++ ys) e)

-- a text begins with its list, or with none
module _ (text bytes : List ℕ) (same : bytes ≡ kept text) (from : ℕ) (behind : lexemes_from bytes from ≡ behind_sat (lexemes 0 0 bytes)) where
  lexemes_are : lexemes_from bytes from ≡ model_lexemes text
  lexemes_are = behind ∙ ap (λ (b : List ℕ). behind_sat (lexemes 0 0 b)) same

  pub text_begins : (inside begin : ℕ) → lexemes_from bytes from ≡ (begin, opens) ∷ lexemes_from bytes inside → (ts : Trees) (e : Ending) → AreLeft (length (kept text)) (lexemes_from (kept text) inside) ts e → IsModelText text ts (ends e)
  text_begins inside begin first ts e h =
      subst (λ (xs : List (ℕ × Lexeme)). AreDefinitions (length (kept text)) xs ts (ends e))
      (ap (λ (b : List ℕ). (begin, opens) ∷ lexemes_from b inside) (sym same) ∙ sym first ∙ lexemes_are)
      (e, (begin, lexemes_from (kept text) inside, h.rest, refl, h.trees, h.after), refl)

  pub text_without : (e : ReadError) → HasNoList text (lexemes_from (kept text) from) e → BeginsText text (Err e)
  text_without (errors.Fault f) h = record {
    ending = h.ending;
    read = subst (λ (xs : List (ℕ × Lexeme)). AreDefinitions (length (kept text)) xs none h.ending) (ap (λ (b : List ℕ). lexemes_from b from) (sym same) ∙ lexemes_are) h.none_there;
    is = h.is;
  }
  text_without errors.Memory h = tt
