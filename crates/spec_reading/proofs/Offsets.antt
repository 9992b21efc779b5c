-- The first fault of a text is at an offset of it.
use Rattle.std.proofs.Common.{◌≡◌, ℕ, Bool, true, false, List, [], ◌∷◌, ◌++◌, length, map, Option, Some, None, cond, subst}
use Rattle.std.specs.Prelude.{Ok, Err, not, ◌||◌, codes, ◌==◌}
use Rattle.std.specs.Str.{bytes_eq}
use Rattle.spec_text.specs.declared.Kind.{Kind}
use Rattle.spec_text.specs.declared.Kind.TheVariants.{Numeral, Decimal, Text, Simple, Quoted, Reserved as word_kind, Keyword}
use Rattle.spec_text.specs.declared.Fault.{Fault}
use Rattle.spec_text.specs.declared.Fault.TheVariants.{BadShape, Twice, Reserved, WrongCount, WrongSort, NumberWide}
use Rattle.spec_text.specs.Bytes.{Name}
use Rattle.spec_text.specs.Faults.{Located}
use Rattle.spec_text.specs.Shapes.{Word}
use Rattle.spec_text.specs.Answers.{require}
use Rattle.spec_text.specs.Trees.{Tree, Trees, atom, list, none, more, offset_of}
use Rattle.spec_text.specs.Offsets.{AllOffsets, AllOffsetsOf, HasOffset, own_offsets}
use Rattle.spec_text.proofs.AnswerLaws.{IsFaultWithin, within_in_turn, require_within, own_offset}
use Rattle.spec_sorts.specs.Numerals.{is_wide}
use Rattle.spec_sorts.specs.Terms.{Sort, Truth, Number, same_sort, same_sorts, Term, sort_of}
use Rattle.spec_sorts.specs.Theory.{look_up, Rule, takes_count, sorts_fit, theory}
use Rattle.spec_sorts.specs.Signatures.{Known, declared, defined, Signature, known_as, sort_as, with_definitions}
use Rattle.spec_sorts.specs.Forms.{Form, malformed, reserved, applies, binds, annotates, word_form, form, is_let, is_annotated, Next, a_keyword, a_name, after_keyword, named_words}
use Rattle.spec_reading.specs.Names.{Setting, is_barred, new_name, is_in_list, is_function, is_own}
use Rattle.spec_reading.specs.Sorts.{sort_found, sort_named, sort_in, sorts_in}
use Rattle.spec_reading.specs.Reading.{Bound, unless, by_rule, with_sorts, sorts_taken, by_known, applied, applied_as, literal, atom_term, Annotated, naming, made_by, annotated_as, reading, readings, let_reading, bindings_reading, annotated_reading, reading_of_sort}
use Rattle.spec_reading.specs.Definitions.{Parts, parameters_in, bound_parameters, definitions_in}
use Rattle.spec_reading.proofs.Values.{by_form}

module _ (P : ℕ → Type 0) where
  -- a new name
  pub name_within : (w : Setting) (taken : Name → Bool) (x : Word) → P x.at → IsFaultWithin P (new_name w taken x)
  name_within w taken x h =
      within_in_turn P (require (not (is_barred w x)) x.at Reserved) _ (require_within P _ x.at Reserved h) λ free.
      within_in_turn P (require (not (taken x.bytes)) x.at Twice) _ (require_within P _ x.at Twice h) λ new. tt

  -- a sort
  found_within : (at : ℕ) (o : Option Sort) → P at → IsFaultWithin P (sort_found at o)
  found_within at (Some s) h = tt
  found_within at None h = h

  named_sort_within : (s : Signature) (at : ℕ) (n : Name) → P at → IsFaultWithin P (sort_named s at n)
  named_sort_within s at n h = go (bytes_eq n (codes "Bool")) (bytes_eq n (codes "Real"))
    where
      go : (is_bool is_real : Bool) → IsFaultWithin P (cond is_bool (Ok Truth) (cond is_real (Ok Number) (sort_found at (sort_as s n))))
      go true r = tt
      go false true = tt
      go false false = found_within at (sort_as s n) h

  pub sort_within : (s : Signature) (t : Tree) → AllOffsets P t → IsFaultWithin P (sort_in s t)
  sort_within s (list at ts end) h = h.0
  sort_within s (atom at Simple n) h = named_sort_within s at n h
  sort_within s (atom at Quoted n) h = named_sort_within s at n h
  sort_within s (atom at word_kind n) h = h
  sort_within s (atom at Numeral n) h = h
  sort_within s (atom at Decimal n) h = h
  sort_within s (atom at Text n) h = h
  sort_within s (atom at Keyword n) h = h

  pub sorts_within : (s : Signature) (ts : Trees) → AllOffsetsOf P ts → IsFaultWithin P (sorts_in s ts)
  unfolding sorts_in
  sorts_within s none h = tt
  sorts_within s (more t ts) h = within_in_turn P (sort_in s t) _ (sort_within s t h.0) λ r. within_in_turn P (sorts_in s ts) _ (sorts_within s ts h.1) λ rs. tt

  -- a name before terms
  rule_within : (r : Rule) (at : ℕ) (ts : List Term) → P at → IsFaultWithin P (by_rule r at ts)
  rule_within r at ts h =
      within_in_turn P (require (takes_count r (length ts)) at WrongCount) _ (require_within P _ at WrongCount h) λ counted.
      within_in_turn P (require (sorts_fit r.takes (map sort_of ts)) at WrongSort) _ (require_within P _ at WrongSort h) λ sorted.
      refused_within (r.fault ts)
    where
      refused_within : (o : Option Fault) → IsFaultWithin P (unless o at (r.reads ts))
      refused_within None = tt
      refused_within (Some f) = h

  sorted_within : (sorts : List Sort) (at : ℕ) (ts : List Term) (t : Term) → P at → IsFaultWithin P (with_sorts sorts at ts t)
  sorted_within sorts at ts t h =
      within_in_turn P (require (length ts == length sorts) at WrongCount) _ (require_within P _ at WrongCount h) λ counted.
      within_in_turn P (require (same_sorts sorts (map sort_of ts)) at WrongSort) _ (require_within P _ at WrongSort h) λ sorted. tt

  known_within : (k : Known) (at : ℕ) (ts : List Term) → P at → IsFaultWithin P (by_known k at ts)
  known_within (declared f) at ts h = sorted_within f.parameters at ts _ h
  known_within (defined d) at ts h = sorted_within (sorts_taken d) at ts _ h

  applied_within : (s : Signature) (b : Bound) (place : ℕ) (n : Name) (at : ℕ) (ts : List Term) → P place → P at → IsFaultWithin P (applied s b place n at ts)
  applied_within s b place n at ts named here = go (look_up b n) (look_up theory n) (known_as s n)
    where
      go : (o : Option Term) (r : Option Rule) (k : Option Known) → IsFaultWithin P (applied_as o r k place at ts)
      go (Some t) r k = sorted_within [] at ts t here
      go None (Some r) k = rule_within r at ts here
      go None None (Some k) = known_within k at ts here
      go None None None = named

  -- an atom
  literal_within : (at : ℕ) (n : List ℕ) → P at → IsFaultWithin P (literal at n)
  literal_within at n h = within_in_turn P (require (not (is_wide n)) at NumberWide) _ (require_within P _ at NumberWide h) λ fits. tt

  atom_within : (s : Signature) (b : Bound) (at : ℕ) (k : Kind) (n : Name) → P at → IsFaultWithin P (atom_term s b at k n)
  atom_within s b at Numeral n h = literal_within at n h
  atom_within s b at Decimal n h = literal_within at n h
  atom_within s b at Text n h = h
  atom_within s b at Keyword n h = h
  atom_within s b at word_kind n h = h
  atom_within s b at Simple n h = applied_within s b at n at [] h h
  atom_within s b at Quoted n h = applied_within s b at n at [] h h

  -- the offset in a form has the property
  abbrev FormWithin : Form → Type 0
  FormWithin (reserved place) = P place
  FormWithin (applies place n) = P place
  FormWithin f = Unit {0}

  either_form : (c : Bool) (f g : Form) → FormWithin f → FormWithin g → FormWithin (cond c f g)
  either_form true f g h k = h
  either_form false f g h k = k

  word_is_within : (at : ℕ) (n : Name) (us : Trees) → P at → FormWithin (word_form at n us)
  word_is_within at n us h =
      either_form (bytes_eq n (codes "let")) _ _ (either_form (is_let us) binds malformed tt tt)
      (either_form (bytes_eq n (codes "!")) _ _ (either_form (is_annotated us) annotates malformed tt tt) h)

  form_within : (head : Tree) (us : Trees) → AllOffsets P head → FormWithin (form head us)
  form_within head none h = tt
  form_within (atom at Numeral n) (more t ts) h = tt
  form_within (atom at Decimal n) (more t ts) h = tt
  form_within (atom at Text n) (more t ts) h = tt
  form_within (atom at Keyword n) (more t ts) h = tt
  form_within (atom at word_kind n) (more t ts) h = word_is_within at n (more t ts) h
  form_within (atom at Simple n) (more t ts) h = h
  form_within (atom at Quoted n) (more t ts) h = h
  form_within (list at us end) (more t ts) h = tt

  -- each word has the property
  abbrev WordsWithin : List Word → Type 0
  WordsWithin [] = Unit {0}
  WordsWithin (x ∷ xs) = P x.at × WordsWithin xs

  words_are_within : (next : Next) (ts : Trees) → AllOffsetsOf P ts → WordsWithin (named_words next ts)
  words_are_within next none h = tt
  words_are_within a_name (more (atom at k n) rest) h = (h.0, words_are_within a_keyword rest h.1)
  words_are_within next (more (atom at Keyword n) rest) h = words_are_within (after_keyword n) rest h.1
  words_are_within next (more t rest) h = words_are_within a_keyword rest h.1

  -- the names of a term's attributes
  made_within : (w : Setting) (s : Signature) (t : Annotated) (xs : List Word) → P t.at → WordsWithin xs → IsFaultWithin P (made_by w s t xs)
  unfolding made_by
  made_within w s t [] here h = tt
  made_within w s t (x ∷ xs) here h =
      within_in_turn P (new_name w (λ n. is_function s n || is_own w.own n) x) _ (name_within w (λ n. is_function s n || is_own w.own n) x h.0) λ n.
      within_in_turn P (require t.may_name t.at BadShape) _ (require_within P _ t.at BadShape here) λ may.
      within_in_turn P (made_by w (with_definitions s (naming n t ∷ [])) t xs) _ (made_within w (with_definitions s (naming n t ∷ [])) t xs here h.1) λ ds. tt

  mutual
    unfolding reading readings let_reading bindings_reading annotated_reading

    -- a text
    pub text_within : (w : Setting) (s : Signature) (b : Bound) (t : Tree) → AllOffsets P t → IsFaultWithin P (reading w s b t)
    text_within w s b (atom at k n) h = within_in_turn P (atom_term s b at k n) _ (atom_within s b at k n h) λ t. tt
    text_within w s b (list at none end) h = h.0
    text_within w s b (list at (more head us) end) h = go (form head us) (form_within head us h.1.0) (texts_within w s b us h.1.1) (let_within w s b at us h.0 h.1.1) (annotated_within w s b at us h.0 h.1.1)
      where
        go : (f : Form) → FormWithin f → IsFaultWithin P (readings w s b us) → IsFaultWithin P (let_reading w s b at us) → IsFaultWithin P (annotated_reading w s b at us) → IsFaultWithin P (by_form w s b at us f)
        go malformed front x y z = h.0
        go (reserved place) front x y z = front
        go (applies place n) front x y z =
            within_in_turn P (readings w s b us) _ x λ r.
            within_in_turn P (applied (with_definitions s r.made) b place n at r.terms) _ (applied_within (with_definitions s r.made) b place n at r.terms front h.0) λ t. tt
        go binds front x y z = y
        go annotates front x y z = z

    -- several texts
    texts_within : (w : Setting) (s : Signature) (b : Bound) (ts : Trees) → AllOffsetsOf P ts → IsFaultWithin P (readings w s b ts)
    texts_within w s b none h = tt
    texts_within w s b (more t ts) h =
        within_in_turn P (reading w s b t) _ (text_within w s b t h.0) λ r.
        within_in_turn P (readings w (with_definitions s r.made) b ts) _ (texts_within w (with_definitions s r.made) b ts h.1) λ rs. tt

    -- bindings and a body
    let_within : (w : Setting) (s : Signature) (b : Bound) (at : ℕ) (ts : Trees) → P at → AllOffsetsOf P ts → IsFaultWithin P (let_reading w s b at ts)
    let_within w s b at (more (list place bindings end) (more body none)) here h =
        within_in_turn P (bindings_reading w s b [] bindings) _ (bindings_within w s b [] bindings h.0.1) λ r.
        within_in_turn P (reading w (with_definitions s r.made) (r.bound ++ b) body) _ (text_within w (with_definitions s r.made) (r.bound ++ b) body h.1.0) λ t. tt
    let_within w s b at _ here h = here

    -- bindings
    bindings_within : (w : Setting) (s : Signature) (b : Bound) (names : List Name) (ts : Trees) → AllOffsetsOf P ts → IsFaultWithin P (bindings_reading w s b names ts)
    bindings_within w s b names (more (list at (more (atom x k n) (more t none)) end) rest) h =
        within_in_turn P (new_name w (is_in_list names) (record { at = x; kind = k; bytes = n })) _ (name_within w (is_in_list names) (record { at = x; kind = k; bytes = n }) h.0.1.0) λ name.
        within_in_turn P (reading w s b t) _ (text_within w s b t h.0.1.1.0) λ r.
        within_in_turn P (bindings_reading w (with_definitions s r.made) b (names ++ name ∷ []) rest) _ (bindings_within w (with_definitions s r.made) b (names ++ name ∷ []) rest h.1) λ rs. tt
    bindings_within w s b names _ h = tt

    -- a term with attributes
    annotated_within : (w : Setting) (s : Signature) (b : Bound) (at : ℕ) (ts : Trees) → P at → AllOffsetsOf P ts → IsFaultWithin P (annotated_reading w s b at ts)
    annotated_within w s b at none here h = here
    annotated_within w s b at (more t attributes) here h =
        within_in_turn P (reading w s b t) _ (text_within w s b t h.0) λ r.
        within_in_turn P (made_by w (with_definitions s r.made) (annotated_as w b at t r.term) (named_words a_keyword attributes)) _ (made_within w (with_definitions s r.made) (annotated_as w b at t r.term) (named_words a_keyword attributes) here (words_are_within a_keyword attributes h.1)) λ ds. tt

  -- a text of a sort
  pub of_sort_within : (w : Setting) (s : Signature) (b : Bound) (sort : Sort) (t : Tree) → AllOffsets P t → IsFaultWithin P (reading_of_sort w s b sort t)
  of_sort_within w s b sort t h =
      within_in_turn P (reading w s b t) _ (text_within w s b t h) λ r.
      within_in_turn P (require (same_sort sort (sort_of r.term)) (offset_of t) WrongSort) _ (require_within P _ (offset_of t) WrongSort (own_offset P t h)) λ fits. tt

  -- parameters
  parameters_within : (w : Setting) (s : Signature) (names : List Name) (ts : Trees) → AllOffsetsOf P ts → IsFaultWithin P (parameters_in w s names ts)
  unfolding parameters_in
  parameters_within w s names (more (list at (more (atom x k n) (more t none)) end) rest) h =
      within_in_turn P (new_name w (is_in_list names) (record { at = x; kind = k; bytes = n })) _ (name_within w (is_in_list names) (record { at = x; kind = k; bytes = n }) h.0.1.0) λ name.
      within_in_turn P (sort_in s t) _ (sort_within s t h.0.1.1.0) λ sort.
      within_in_turn P (parameters_in w s (names ++ name ∷ []) rest) _ (parameters_within w s (names ++ name ∷ []) rest h.1) λ ps. tt
  parameters_within w s names _ h = tt

  -- the parts of a definition have the property
  abbrev pub DefinitionWithin : Parts → Type 0
  DefinitionWithin d = P d.name.at × AllOffsetsOf P d.parameters × AllOffsets P d.result × AllOffsets P d.body

  pub definitions_within : (w : Setting) (s : Signature) (d : Parts) → DefinitionWithin d → IsFaultWithin P (definitions_in w s d)
  unfolding definitions_in
  definitions_within w s d h =
      within_in_turn P (new_name w (is_function s) d.name) _ (name_within w (is_function s) d.name h.0) λ n.
      within_in_turn P (parameters_in w s [] d.parameters) _ (parameters_within w s [] d.parameters h.1) λ ps.
      within_in_turn P (sort_in s d.result) _ (sort_within s d.result h.2) λ result.
      within_in_turn P (reading_of_sort (record w { own = Some n }) s (bound_parameters 0 ps) result d.body) _ (of_sort_within (record w { own = Some n }) s (bound_parameters 0 ps) result d.body h.3) λ r. tt

pub text_fault_within : (w : Setting) (s : Signature) (b : Bound) (t : Tree) (f : Located) → reading w s b t ≡ Err f → HasOffset t f.offset
text_fault_within w s b t f e = subst (IsFaultWithin (HasOffset t)) e (text_within (HasOffset t) w s b t (own_offsets t))

pub sort_fault_within : (s : Signature) (t : Tree) (f : Located) → sort_in s t ≡ Err f → HasOffset t f.offset
sort_fault_within s t f e = subst (IsFaultWithin (HasOffset t)) e (sort_within (HasOffset t) s t (own_offsets t))
