-- Names that are given one after the other.
use Rattle.std.proofs.Common.{◌≡◌, Bool, true, false, not, ◌||◌, cond, List, [], ◌∷◌, ◌++◌, length, Option, Some, None, refl, ap, sym, ◌∙◌, subst, arith, append_assoc, append-nil}
use Rattle.std.specs.Prelude.{Ok, Err}
use Rattle.std.proofs.lemmas.List.{map-append, length-append}
use Rattle.std.proofs.lemmas.Bool.{false≢true, not-true}
use Rattle.spec_text.specs.declared.Kind.TheVariants.{Numeral, Decimal, Text, Simple, Quoted, Reserved, Keyword}
use Rattle.spec_text.specs.declared.Fault.TheVariants.{BadShape, Twice}
use Rattle.spec_text.specs.Bytes.{Name}
use Rattle.spec_text.specs.Shapes.{Word}
use Rattle.spec_text.specs.Faults.{Located}
use Rattle.spec_text.specs.Answers.{Answer, ◌>>=◌, require, refused}
use Rattle.spec_text.proofs.AnswerLaws.{answer, went, require_true}
use Rattle.spec_text.specs.Trees.{Tree, Trees, atom, list, none, more}
use Rattle.spec_sorts.specs.Terms.{Term}
use Rattle.spec_sorts.specs.Signatures.{Definition, Known, defined, Signature, known_as, is_some, definition, with_definitions}
use Rattle.spec_sorts.proofs.Signatures.{sort_same}
use Rattle.spec_sorts.specs.Theory.{is_of_theory}
use Rattle.spec_sorts.specs.Forms.{Next, a_keyword, a_value, a_name, is_name, named_words}
use Rattle.spec_reading.specs.Names.{Setting, new_name, is_function, is_own}
use Rattle.spec_reading.specs.Reading.{Annotated, naming, made_by}
use Rattle.spec_reading.proofs.Values.{with_both}
use Rattle.term_core.specs.declared.ids.TermId.{TermId}
use Rattle.term_core.specs.Tables.{TableView}
use Rattle.term_reader.specs.declared.scope.Macro.{Macro}
use Rattle.term_reader.specs.declared.scope.Function.TheVariants.{Defined}
use Rattle.term_reader.specs.Scopes.{ScopeView, IsMacro, SortMeans, sort_under}
use Rattle.term_reader.proofs.OverTable.{function_added}
use Rattle.term_reader.specs.declared.faults.ReadError.{ReadError}
use Rattle.term_reader.specs.declared.faults.ReadError.TheVariants.{Fault, Memory}
use Rattle.term_reader.specs.Names.{located_of}
use Rattle.sort_check.specs.Naming.{NamesMean, HasNamed, wanted_word, or_keyword, next_word, listed_word}
use Rattle.sort_check.specs.Reads.{HasFault}
use Rattle.sort_check.specs.Walks.{AllMean, terms_of_definitions}
use Rattle.sort_check.proofs.Rows.{with_no}

or_false_left : (a b : Bool) → (a || b) ≡ false → a ≡ false
or_false_left true b h = absurd (false≢true (sym h))
or_false_left false b h = refl

or_false_right : (a b : Bool) → (a || b) ≡ false → b ≡ false
or_false_right true b h = absurd (false≢true (sym h))
or_false_right false b h = h

keyword_is : (b : Bool) → a_keyword ≡ or_keyword (cond b (Some a_keyword) None)
keyword_is true = refl
keyword_is false = refl

-- a name is next
words_wanted : (next : Next) (t : Tree) (ts : Trees) (x : Word) → wanted_word next t ≡ Some x → named_words next (more t ts) ≡ x ∷ named_words (next_word next t) ts
words_wanted a_name (atom at k n) ts x e = λ i. is i ∷ named_words (keyword_is (is_name k) i) ts
  where
    is : (let y : Word = record { at = at; kind = k; bytes = n } in y) ≡ x
    is = cc
words_wanted a_name (list at us end) ts x e = cc
words_wanted a_value (atom at k n) ts x e = cc
words_wanted a_value (list at us end) ts x e = cc
words_wanted a_keyword (atom at k n) ts x e = cc
words_wanted a_keyword (list at us end) ts x e = cc

-- no name is next
words_other : (next : Next) (t : Tree) (ts : Trees) → wanted_word next t ≡ None → named_words next (more t ts) ≡ named_words (next_word next t) ts
words_other a_name (atom at k n) ts e = cc
words_other a_name (list at us end) ts e = refl
words_other a_value (atom at Numeral n) ts e = refl
words_other a_value (atom at Decimal n) ts e = refl
words_other a_value (atom at Text n) ts e = refl
words_other a_value (atom at Simple n) ts e = refl
words_other a_value (atom at Quoted n) ts e = refl
words_other a_value (atom at Reserved n) ts e = refl
words_other a_value (atom at Keyword n) ts e = refl
words_other a_value (list at us end) ts e = refl
words_other a_keyword (atom at Numeral n) ts e = refl
words_other a_keyword (atom at Decimal n) ts e = refl
words_other a_keyword (atom at Text n) ts e = refl
words_other a_keyword (atom at Simple n) ts e = refl
words_other a_keyword (atom at Quoted n) ts e = refl
words_other a_keyword (atom at Reserved n) ts e = refl
words_other a_keyword (atom at Keyword n) ts e = refl
words_other a_keyword (list at us end) ts e = refl

-- no trees, no words
pub no_words : (next : Next) → named_words next none ≡ []
no_words a_keyword = refl
no_words a_value = refl
no_words a_name = refl

-- the word that is next, and those after it
pub words_next : (next : Next) (t : Tree) (ts : Trees) → named_words next (more t ts) ≡ listed_word (wanted_word next t) ++ named_words (next_word next t) ts
words_next next t ts = go (wanted_word next t) refl
  where
    go : (o : Option Word) → wanted_word next t ≡ o → named_words next (more t ts) ≡ listed_word o ++ named_words (next_word next t) ts
    go (Some x) e = words_wanted next t ts x e
    go None e = words_other next t ts e

module _ (w : Setting) where
  -- one name, and then the others
  pub made_next : (s : Signature) (t : Annotated) (x : Word) (xs : List Word) → made_by w s t (x ∷ xs)
      ≡ (made_by w s t (x ∷ []) >>= λ ds. made_by w (with_definitions s ds) t xs >>= λ es. Ok (ds ++ es))
  unfolding ◌>>=◌ made_by
  made_next s t x xs = go (new_name w (λ n. is_function s n || is_own w.own n) x)
    where
      go : (a : Answer Name) → (a >>= λ n. require t.may_name t.at BadShape >>= λ may. made_by w (with_definitions s (naming n t ∷ [])) t xs >>= λ ds. Ok (naming n t ∷ ds))
          ≡ ((a >>= λ n. require t.may_name t.at BadShape >>= λ may. Ok (naming n t ∷ [])) >>= λ ds. made_by w (with_definitions s ds) t xs >>= λ es. Ok (ds ++ es))
      go (Err e) = refl
      go (Ok n) = further (require t.may_name t.at BadShape)
        where
          further : (b : Answer (Unit {0})) → (b >>= λ may. made_by w (with_definitions s (naming n t ∷ [])) t xs >>= λ ds. Ok (naming n t ∷ ds))
              ≡ ((b >>= λ may. Ok (naming n t ∷ [])) >>= λ ds. made_by w (with_definitions s ds) t xs >>= λ es. Ok (ds ++ es))
          further (Err e) = refl
          further (Ok u) = refl

  -- a word, if there is one, and then the others
  made_parts : (s : Signature) (t : Annotated) (o : Option Word) (xs : List Word) → made_by w s t (listed_word o ++ xs)
      ≡ (made_by w s t (listed_word o) >>= λ ds. made_by w (with_definitions s ds) t xs >>= λ es. Ok (ds ++ es))
  unfolding ◌>>=◌ made_by
  made_parts s t (Some x) xs = made_next s t x xs
  made_parts s t None xs = go (made_by w s t xs) ∙ ap (λ u. made_by w u t xs >>= λ es. Ok ([] ++ es)) (sym (with_no s))
    where
      go : (b : Answer (List Definition)) → b ≡ (b >>= λ es. Ok ([] ++ es))
      go (Ok es) = refl
      go (Err e) = refl

  -- Names were given, and others are left.
  pub record IsNaming (s : Signature) (a : Annotated) (all left : List Word) (t : TableView) (v : ScopeView) (before ids : List TermId) : Type 0 where
    -- the definitions that they make
    pub made : List Definition
    -- with those that are left they come to all
    pub same : made_by w s a all ≡ (made_by w (with_definitions s made) a left >>= λ es. Ok (made ++ es))
    -- the scope has them
    pub represents : NamesMean t v (with_definitions s made)
    -- and so do the numbers of their terms
    pub named : (us : List Term) → AllMean t before us → AllMean t ids (us ++ terms_of_definitions made)

  pub naming_begins : (s : Signature) (a : Annotated) (all : List Word) (t : TableView) (v : ScopeView) (ids : List TermId) → NamesMean t v s → IsNaming s a all all t v ids ids
  unfolding ◌>>=◌
  naming_begins s a all t v ids h = record {
    made = [];
    same = go (made_by w s a all) ∙ ap (λ x. made_by w x a all >>= λ es. Ok ([] ++ es)) (sym (with_no s));
    represents = subst (NamesMean t v) (sym (with_no s)) h;
    named = λ us k. subst (AllMean t ids) (sym (append-nil us)) k;
  }
    where
      go : (b : Answer (List Definition)) → b ≡ (b >>= λ es. Ok ([] ++ es))
      go (Ok es) = refl
      go (Err e) = refl

  module _ (s : Signature) (a : Annotated) (all : List Word) (o : Option Word) (xs : List Word) (t : TableView) (v : ScopeView) (before ids : List TermId) (h : IsNaming s a all (listed_word o ++ xs) t v before ids) where
    pub naming_goes : (new : ScopeView) (nums : List TermId) → HasNamed t (with_definitions s h.made) new (ids, nums) (made_by w (with_definitions s h.made) a (listed_word o)) → IsNaming s a all xs t new before nums
    unfolding ◌>>=◌
    naming_goes new nums k = record {
      made = h.made ++ k.made;
      same =
          h.same ∙ ap (λ b. b >>= λ es. Ok (h.made ++ es)) (made_parts (with_definitions s h.made) a o xs)
          ∙ ap (λ b. (b >>= λ ds. made_by w (with_definitions (with_definitions s h.made) ds) a xs >>= λ es. Ok (ds ++ es)) >>= λ es. Ok (h.made ++ es)) k.read
          ∙ go (made_by w (with_definitions (with_definitions s h.made) k.made) a xs)
          ∙ ap (λ y. made_by w y a xs >>= λ es. Ok ((h.made ++ k.made) ++ es)) (sym (with_both s h.made k.made));
      represents = subst (NamesMean t new) (sym (with_both s h.made k.made)) k.represents;
      named = λ us all_us. subst (AllMean t nums) (append_assoc us (terms_of_definitions h.made) (terms_of_definitions k.made) ∙ ap (λ ts. us ++ ts) (sym (map-append (λ (d : Definition). d.term) h.made k.made))) (k.named (us ++ terms_of_definitions h.made) (h.named us all_us));
    }
      where
        go : (b : Answer (List Definition)) → ((b >>= λ es. Ok (k.made ++ es)) >>= λ es. Ok (h.made ++ es)) ≡ (b >>= λ es. Ok ((h.made ++ k.made) ++ es))
        go (Ok es) = ap (λ ds. Ok ds) (sym (append_assoc h.made k.made es))
        go (Err e) = refl

    pub naming_fault : (e : Located) → made_by w (with_definitions s h.made) a (listed_word o) ≡ Err e → made_by w s a all ≡ Err e
    unfolding ◌>>=◌
    naming_fault e wrong =
        h.same ∙ ap (λ b. b >>= λ es. Ok (h.made ++ es)) (made_parts (with_definitions s h.made) a o xs)
        ∙ ap (λ b. (b >>= λ ds. made_by w (with_definitions (with_definitions s h.made) ds) a xs >>= λ es. Ok (ds ++ es)) >>= λ es. Ok (h.made ++ es)) wrong

  -- no name is given
  pub none_given : (s : Signature) (a : Annotated) (t : TableView) (v : ScopeView) (ids : List TermId) → NamesMean t v s → HasNamed t s v (ids, ids) (made_by w s a [])
  unfolding made_by
  none_given s a t v ids h = record { made = []; read = refl; represents = subst (NamesMean t v) (sym (with_no s)) h; named = λ us k. subst (AllMean t ids) (sym (append-nil us)) k }

  -- the first fault of the word that is next
  pub naming_stops : (s : Signature) (a : Annotated) (all : List Word) (o : Option Word) (xs : List Word) (t : TableView) (v : ScopeView) (before ids : List TermId) (h : IsNaming s a all (listed_word o ++ xs) t v before ids) (stop : ReadError)
      → HasFault (made_by w (with_definitions s h.made) a (listed_word o)) stop → HasFault (made_by w s a all) stop
  naming_stops s a all o xs t v before ids h (Fault f) e = naming_fault s a all o xs t v before ids h (located_of f) e
  naming_stops s a all o xs t v before ids h Memory e = tt

  pub naming_ends : (s : Signature) (a : Annotated) (all : List Word) (t : TableView) (v : ScopeView) (before ids : List TermId) → IsNaming s a all [] t v before ids → HasNamed t s v (before, ids) (made_by w s a all)
  unfolding ◌>>=◌ made_by
  naming_ends s a all t v before ids h = record { made = h.made; read = h.same ∙ ap (λ ds. Ok ds) (append-nil h.made); represents = h.represents; named = h.named }

-- A new name that is taken is the word's, and was free.
pub record IsFree (x : Word) (n : Name) (taken : Bool) : Type 0 where
  -- it is the word's
  pub same : x.bytes ≡ n
  -- it was free
  pub free : taken ≡ false

pub new_is_free : (w : Setting) (f : Name → Bool) (x : Word) (n : Name) → new_name w f x ≡ Ok n → IsFree x n (f x.bytes)
new_is_free w f x n e =
    let a = went _ _ _ e in
    let b = went _ _ _ a.then in
    record { same = answer (Ok x.bytes) n b.then; free = not-true (f x.bytes) (require_true (not (f x.bytes)) x.at Twice b.first b.was) }

-- the code's test is that of the definition
pub fresh_is : (w : Setting) (f : Name → Bool) (taken : Bool) (x : Word) → taken ≡ f x.bytes → new_name w (λ _. taken) x ≡ new_name w f x
fresh_is w f taken x e = ap (λ b. new_name w (λ _. b) x) e

no_known : (o : Option Known) → is_some o ≡ false → o ≡ None
no_known None e = refl
no_known (Some k) e = absurd (false≢true (sym e))

-- One name for a term.
module _ (w : Setting) (s : Signature) (t : TableView) (a : Annotated) (x : Word) where
  -- whether a name is taken
  abbrev pub is_taken : Name → Bool
  is_taken n = is_function s n || is_own w.own n

  pub not_given : (e : Located) → new_name w is_taken x ≡ Err e → made_by w s a (x ∷ []) ≡ Err e
  unfolding ◌>>=◌ made_by
  not_given e wrong = ap (λ b. b >>= λ n. require a.may_name a.at BadShape >>= λ may. made_by w (with_definitions s (naming n a ∷ [])) a [] >>= λ ds. Ok (naming n a ∷ ds)) wrong

  pub may_not : (n : Name) → new_name w is_taken x ≡ Ok n → a.may_name ≡ false → made_by w s a (x ∷ []) ≡ refused a.at BadShape
  unfolding ◌>>=◌ made_by require
  may_not n e barred =
      ap (λ b. b >>= λ n. require a.may_name a.at BadShape >>= λ may. made_by w (with_definitions s (naming n a ∷ [])) a [] >>= λ ds. Ok (naming n a ∷ ds)) e
      ∙ ap (λ b. require b a.at BadShape >>= λ may. made_by w (with_definitions s (naming n a ∷ [])) a [] >>= λ ds. Ok (naming n a ∷ ds)) barred

  pub is_given : (n : Name) → new_name w is_taken x ≡ Ok n → a.may_name ≡ true → made_by w s a (x ∷ []) ≡ Ok (naming n a ∷ [])
  unfolding ◌>>=◌ made_by require
  is_given n e may =
      ap (λ b. b >>= λ n. require a.may_name a.at BadShape >>= λ may. made_by w (with_definitions s (naming n a ∷ [])) a [] >>= λ ds. Ok (naming n a ∷ ds)) e
      ∙ ap (λ b. require b a.at BadShape >>= λ u. made_by w (with_definitions s (naming n a ∷ [])) a [] >>= λ ds. Ok (naming n a ∷ ds)) may

  pub given_means : (v : ScopeView) → NamesMean t v s → (n : Name) → new_name w is_taken x ≡ Ok n → (m : Macro) → IsMacro t m (naming n a) → length v.names ≡ length v.functions
      → NamesMean t (record v { names = v.names ++ n ∷ []; functions = v.functions ++ Defined m ∷ [] }) (with_definitions s (naming n a ∷ []))
  given_means v h n e m macro long =
      let free = new_is_free w is_taken x n e in
      let none : known_as s n ≡ None = ap (known_as s) (sym free.same) ∙ no_known (known_as s x.bytes) (or_false_right (is_of_theory x.bytes) (is_some (known_as s x.bytes)) (or_false_left (is_function s x.bytes) (is_own w.own x.bytes) free.free)) in
      record {
        sorts = λ k. subst (SortMeans t (sort_under v k)) (sym (sort_same s (defined (naming n a)) k)) (h.sorts k);
        functions = function_added t v s n (Defined m) (defined (naming n a)) long refl h.functions none macro;
        count = omega (arith, h.count, length-append v.names (n ∷ []), length-append s (definition (naming n a) ∷ []));
      }
