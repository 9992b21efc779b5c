-- The values that texts write: by their forms, and by what fits a sort.
use Rattle.std.proofs.Common.{◌≡◌, ℕ, Bool, true, false, cond, Option, Some, None, refl, sym, ap, ◌∙◌, subst, arith}
use Rattle.std.proofs.lemmas.Bool.Decides.{nat_tests}
use Rattle.std.specs.Prelude.{Ok, Err, codes, nat_lt}
use Rattle.std.specs.Str.{bytes_eq}
use Rattle.spec_text.specs.declared.Kind.{Kind}
use Rattle.spec_text.specs.declared.Kind.TheVariants.{Numeral, Decimal, Text, Simple, Quoted, Reserved, Keyword}
use Rattle.spec_text.specs.Answers.{◌>>=◌}
use Rattle.spec_text.specs.Bytes.{Name}
use Rattle.spec_text.specs.Shapes.{Word, only_if}
use Rattle.spec_text.specs.Trees.{Tree, Trees, atom, list, none, more, offset_of}
use Rattle.spec_sorts.specs.Terms.{Sort, Number, Declared}
use Rattle.spec_sorts.specs.Values.{Value, number, element}
use Rattle.spec_sorts.specs.Signatures.{Signature}
use Rattle.spec_model_files.specs.declared.ModelKind.TheVariants.{BadShape, WrongSort, NumberWide}
use Rattle.spec_model_files.specs.Faults.{ModelFault, ReadModel, wrong, require, found_or}
use Rattle.spec_model_files.specs.Values.{WrittenNumber, Written, written_truth, written_number, written_element, literal_atom, number_read, symbol_read, names_sort, written_atom, element_read, written_in, value_of_sort, element_bound, is_within, value_read}
use Rattle.spec_models.specs.Meaning.{element_number}
use Rattle.smt_sexpr.specs.declared.items.Trees.{Trees as Cursor}
use Rattle.ratio128.specs.declared.ratio.Ratio.{Ratio}
use Rattle.ratio128.specs.Meant.{fraction}
use Rattle.model_read.specs.Numbers.{IsNumber}
use Rattle.model_read.specs.declared.errors.LocatedFault.{LocatedFault}
use Rattle.model_read.specs.declared.errors.ReadError.{ReadError}
use Rattle.model_read.specs.declared.errors.ReadError.TheVariants as errors
use Rattle.model_read.specs.Answers.{located_view, StopsRead}
use Rattle.model_read.specs.Shapes.{WordPair, triple_in, reserved_in}
use Rattle.model_read.specs.Values.{truth_in, IsIndex, IsWrittenElement, sorted_element, reserved_read, fitted}

-- an atom that is no truth value is a literal
abbrev by_truth : Option Bool → ReadModel WrittenNumber → ReadModel Written
by_truth (Some b) r = Ok (written_truth b)
by_truth None r = r >>= λ x. Ok (written_number x)

atom_split : (at : ℕ) (k : Kind) (n : Name) → written_atom at k n ≡ by_truth (truth_in k n) (literal_atom at k n)
unfolding ◌>>=◌
atom_split at Numeral n = refl
atom_split at Decimal n = refl
atom_split at Text n = refl
atom_split at Reserved n = refl
atom_split at Keyword n = refl
atom_split at Simple n = go (bytes_eq n (codes "true")) (bytes_eq n (codes "false"))
  where
    go : (b c : Bool) → cond b (Ok (written_truth true)) (cond c (Ok (written_truth false)) (wrong at BadShape)) ≡ by_truth (cond b (Some true) (cond c (Some false) None)) (wrong at BadShape)
    go true c = refl
    go false true = refl
    go false false = refl
atom_split at Quoted n = go (bytes_eq n (codes "true")) (bytes_eq n (codes "false"))
  where
    go : (b c : Bool) → cond b (Ok (written_truth true)) (cond c (Ok (written_truth false)) (wrong at BadShape)) ≡ by_truth (cond b (Some true) (cond c (Some false) None)) (wrong at BadShape)
    go true c = refl
    go false true = refl
    go false false = refl

module _ (at : ℕ) (k : Kind) (n : Name) where
  pub atom_truth : (b : Bool) → Some b ≡ truth_in k n → written_atom at k n ≡ Ok (written_truth b)
  atom_truth b e = atom_split at k n ∙ ap (λ o. by_truth o (literal_atom at k n)) (sym e)

  pub atom_number : (x : WrittenNumber) → None ≡ truth_in k n → literal_atom at k n ≡ Ok x → written_atom at k n ≡ Ok (written_number x)
  unfolding ◌>>=◌
  atom_number x e h = atom_split at k n ∙ ap (λ o. by_truth o (literal_atom at k n)) (sym e) ∙ ap (by_truth None) h

  pub atom_fails : (f : ModelFault) → None ≡ truth_in k n → literal_atom at k n ≡ Err f → written_atom at k n ≡ Err f
  unfolding ◌>>=◌
  atom_fails f e h = atom_split at k n ∙ ap (λ o. by_truth o (literal_atom at k n)) (sym e) ∙ ap (by_truth None) h

-- an element, by its word and its sort's
module _ (e s : Tree) (w : Word) (word : symbol_read e ≡ Ok w) where
  with_word : element_read e s ≡ (found_or (element_number w.bytes) w.at BadShape >>= λ k. symbol_read s >>= λ sort. Ok (written_element k sort))
  unfolding element_read ◌>>=◌
  with_word = ap (λ r. r >>= λ v. found_or (element_number v.bytes) v.at BadShape >>= λ k. symbol_read s >>= λ sort. Ok (written_element k sort)) word

  pub element_is : (k : ℕ) → element_number w.bytes ≡ Some k → element_read e s ≡ sorted_element k s
  unfolding found_or sorted_element ◌>>=◌
  element_is k h = with_word ∙ ap (λ o. found_or o w.at BadShape >>= λ k. symbol_read s >>= λ sort. Ok (written_element k sort)) h

  pub element_no_number : (f : LocatedFault) → element_number w.bytes ≡ None → f ≡ record { offset = w.at; kind = BadShape } → element_read e s ≡ Err (located_view f)
  unfolding found_or ◌>>=◌
  element_no_number f h is =
      with_word
      ∙ ap (λ o. found_or o w.at BadShape >>= λ k. symbol_read s >>= λ sort. Ok (written_element k sort)) h
      ∙ ap (λ (x : LocatedFault). Err (located_view x)) (sym is)

pub element_no_word : (e s : Tree) (f : ModelFault) → symbol_read e ≡ Err f → element_read e s ≡ Err f
unfolding element_read ◌>>=◌
element_no_word e s f h = ap (λ r. r >>= λ v. found_or (element_number v.bytes) v.at BadShape >>= λ k. symbol_read s >>= λ sort. Ok (written_element k sort)) h

-- the name of its sort
pub sort_named : (k : ℕ) (s : Tree) (v : Word) → symbol_read s ≡ Ok v → sorted_element k s ≡ Ok (written_element k v)
unfolding sorted_element ◌>>=◌
sort_named k s v g = ap (λ r. r >>= λ sort. Ok (written_element k sort)) g

pub sort_unnamed : (k : ℕ) (s : Tree) (f : ModelFault) → symbol_read s ≡ Err f → sorted_element k s ≡ Err f
unfolding sorted_element ◌>>=◌
sort_unnamed k s f g = ap (λ r. r >>= λ sort. Ok (written_element k sort)) g

-- a list that begins with `as`
pub reserved_as : (at : ℕ) (p : WordPair) → bytes_eq p.word.bytes (codes "as") ≡ true → reserved_read at p ≡ element_read p.left p.right
unfolding reserved_read require ◌>>=◌
reserved_as at p h = ap (λ b. require b at BadShape >>= λ head. element_read p.left p.right) h

pub reserved_other : (at : ℕ) (p : WordPair) (f : LocatedFault) → bytes_eq p.word.bytes (codes "as") ≡ false → f ≡ record { offset = at; kind = BadShape } → reserved_read at p ≡ Err (located_view f)
unfolding reserved_read require ◌>>=◌
reserved_other at p f h is = ap (λ b. require b at BadShape >>= λ head. element_read p.left p.right) h ∙ ap (λ (x : LocatedFault). Err (located_view x)) (sym is)

-- a list is an element by its reserved word, or a number
abbrev by_reserved : ℕ → Option WordPair → ReadModel WrittenNumber → ReadModel Written
by_reserved at (Some p) r = reserved_read at p
by_reserved at None r = r >>= λ x. Ok (written_number x)

list_split : (at end : ℕ) (ts : Trees) → written_in (list at ts end) ≡ by_reserved at (reserved_in ts) (number_read (list at ts end))
unfolding written_in reserved_in triple_in reserved_read
list_split at end none = refl
list_split at end (more (list x us y) ts) = refl
list_split at end (more (atom x Reserved w) none) = refl
list_split at end (more (atom x Numeral w) none) = refl
list_split at end (more (atom x Decimal w) none) = refl
list_split at end (more (atom x Text w) none) = refl
list_split at end (more (atom x Simple w) none) = refl
list_split at end (more (atom x Quoted w) none) = refl
list_split at end (more (atom x Keyword w) none) = refl
list_split at end (more (atom x Reserved w) (more t none)) = refl
list_split at end (more (atom x Numeral w) (more t none)) = refl
list_split at end (more (atom x Decimal w) (more t none)) = refl
list_split at end (more (atom x Text w) (more t none)) = refl
list_split at end (more (atom x Simple w) (more t none)) = refl
list_split at end (more (atom x Quoted w) (more t none)) = refl
list_split at end (more (atom x Keyword w) (more t none)) = refl
list_split at end (more (atom x Reserved w) (more t (more s none))) = refl
list_split at end (more (atom x Numeral w) (more t (more s none))) = refl
list_split at end (more (atom x Decimal w) (more t (more s none))) = refl
list_split at end (more (atom x Text w) (more t (more s none))) = refl
list_split at end (more (atom x Simple w) (more t (more s none))) = refl
list_split at end (more (atom x Quoted w) (more t (more s none))) = refl
list_split at end (more (atom x Keyword w) (more t (more s none))) = refl
list_split at end (more (atom x Reserved w) (more t (more s (more u us)))) = refl
list_split at end (more (atom x Numeral w) (more t (more s (more u us)))) = refl
list_split at end (more (atom x Decimal w) (more t (more s (more u us)))) = refl
list_split at end (more (atom x Text w) (more t (more s (more u us)))) = refl
list_split at end (more (atom x Simple w) (more t (more s (more u us)))) = refl
list_split at end (more (atom x Quoted w) (more t (more s (more u us)))) = refl
list_split at end (more (atom x Keyword w) (more t (more s (more u us)))) = refl

module _ (t : Tree) (at end : ℕ) (ts : Trees) (is : list at ts end ≡ t) where
  pub list_reserved : (p : WordPair) → Some p ≡ reserved_in ts → written_in t ≡ reserved_read at p
  list_reserved p e = ap written_in (sym is) ∙ list_split at end ts ∙ ap (λ o. by_reserved at o (number_read (list at ts end))) (sym e)

  pub list_number : (x : WrittenNumber) → None ≡ reserved_in ts → number_read t ≡ Ok x → written_in t ≡ Ok (written_number x)
  unfolding ◌>>=◌
  list_number x e h = ap written_in (sym is) ∙ list_split at end ts ∙ ap (λ o. by_reserved at o (number_read (list at ts end))) (sym e) ∙ ap (by_reserved at None) (ap number_read is ∙ h)

  pub list_fails : (f : ModelFault) → None ≡ reserved_in ts → number_read t ≡ Err f → written_in t ≡ Err f
  unfolding ◌>>=◌
  list_fails f e h = ap written_in (sym is) ∙ list_split at end ts ∙ ap (λ o. by_reserved at o (number_read (list at ts end))) (sym e) ∙ ap (by_reserved at None) (ap number_read is ∙ h)

-- an atom
pub atom_in : (t : Tree) (a at : ℕ) (k : Kind) (n : Name) → a ≡ at → atom at k n ≡ t → written_atom a k n ≡ written_in t
unfolding written_in
atom_in t a at k n same is = ap (λ (m : ℕ). written_atom m k n) same ∙ ap written_in is

-- what fits, by the value of the sort and the bounds
abbrev fits_by : ℕ → Option Value → Bool → ReadModel Value
fits_by at o b = found_or o at WrongSort >>= λ v. require b at NumberWide >>= λ within. Ok v

module _ (g : Signature) (s : Sort) (at : ℕ) (w : Written) where
  pub fits_is : (v : Value) → value_of_sort g s w ≡ Some v → is_within w ≡ true → Ok v ≡ fitted g s at w
  unfolding fitted found_or require ◌>>=◌
  fits_is v e h = sym (λ i. fits_by at (e i) (h i))

  pub fits_wide : (v : Value) (f : LocatedFault) → value_of_sort g s w ≡ Some v → is_within w ≡ false → f ≡ record { offset = at; kind = NumberWide } → Err (located_view f) ≡ fitted g s at w
  unfolding fitted found_or require ◌>>=◌
  fits_wide v f e h is = ap (λ (x : LocatedFault). Err (located_view x)) is ∙ sym (λ i. fits_by at (e i) (h i))

  pub fits_not : (f : LocatedFault) → value_of_sort g s w ≡ None → f ≡ record { offset = at; kind = WrongSort } → Err (located_view f) ≡ fitted g s at w
  unfolding fitted found_or ◌>>=◌
  fits_not f e is = ap (λ (x : LocatedFault). Err (located_view x)) is ∙ sym (ap (λ o. fits_by at o (is_within w)) e)

-- a value is read by its form, and then by what fits
pub value_by : (g : Signature) (s : Sort) (t : Tree) (w : Written) → written_in t ≡ Ok w → value_read g s t ≡ fitted g s (offset_of t) w
unfolding value_read fitted ◌>>=◌
value_by g s t w e = ap (λ r. r >>= λ v. fitted g s (offset_of t) v) e

pub value_fails : (g : Signature) (s : Sort) (t : Tree) (f : ModelFault) → written_in t ≡ Err f → value_read g s t ≡ Err f
unfolding value_read ◌>>=◌
value_fails g s t f e = ap (λ r. r >>= λ v. found_or (value_of_sort g s v) (offset_of t) WrongSort >>= λ x. require (is_within v) (offset_of t) NumberWide >>= λ within. Ok x) e

-- a number within the bounds, and beyond
pub number_within : (g : Signature) (at : ℕ) (n : Option Ratio) (q : Ratio) (x : WrittenNumber) → n ≡ Some q → IsNumber n x → Ok (number (fraction q)) ≡ fitted g Number at (written_number x)
number_within g at n q x e h =
    let here = subst (λ (o : Option Ratio). IsNumber o x) e h in
    ap (λ y. Ok (number y)) here.1 ∙ fits_is g Number at (written_number x) (number x.fraction) refl here.0

pub number_wide : (g : Signature) (at : ℕ) (n : Option Ratio) (x : WrittenNumber) (f : LocatedFault) → n ≡ None → IsNumber n x → f ≡ record { offset = at; kind = NumberWide } → Err (located_view f) ≡ fitted g Number at (written_number x)
number_wide g at n x f e h is =
    let here = subst (λ (o : Option Ratio). IsNumber o x) e h in
    fits_wide g Number at (written_number x) (number x.fraction) f refl here is

-- an element of its sort, or of another
module _ (g : Signature) (n : Name) (at : ℕ) (k : Option ℕ) (sort : Cursor) (w : Written) (h : IsWrittenElement k sort w) where
  of_its_sort : (b : Bool) → names_sort g (Declared n) h.name ≡ b → value_of_sort g (Declared n) w ≡ only_if b (element n h.number)
  of_its_sort b e = ap (value_of_sort g (Declared n)) h.is ∙ ap (λ c. only_if c (element n h.number)) e

  pub element_fits : (i : ℕ) → k ≡ Some i → names_sort g (Declared n) h.name ≡ true → Ok (element n i) ≡ fitted g (Declared n) at w
  element_fits i e named =
      let index = subst (λ (o : Option ℕ). IsIndex o h.number) e h.index in
      let small : nat_lt h.number element_bound ≡ true = grind (arith, nat_tests, index.0) in
      ap (λ m. Ok (element n m)) index.1 ∙ fits_is g (Declared n) at w (element n h.number) (of_its_sort true named) (ap is_within h.is ∙ small)

  pub element_wide : (f : LocatedFault) → k ≡ None → names_sort g (Declared n) h.name ≡ true → f ≡ record { offset = at; kind = NumberWide } → Err (located_view f) ≡ fitted g (Declared n) at w
  element_wide f e named is =
      let index = subst (λ (o : Option ℕ). IsIndex o h.number) e h.index in
      let large : nat_lt h.number element_bound ≡ false = grind (arith, nat_tests, index) in
      fits_wide g (Declared n) at w (element n h.number) f (of_its_sort true named) (ap is_within h.is ∙ large) is

  pub element_other : (f : LocatedFault) → names_sort g (Declared n) h.name ≡ false → f ≡ record { offset = at; kind = WrongSort } → Err (located_view f) ≡ fitted g (Declared n) at w
  element_other f named is = fits_not g (Declared n) at w f (of_its_sort false named) is

-- an element is of no other sort than a declared one
pub element_of_none : (g : Signature) (s : Sort) (at : ℕ) (k : Option ℕ) (sort : Cursor) (w : Written) → IsWrittenElement k sort w → (f : LocatedFault) → ((k : ℕ) (v : Word) → value_of_sort g s (written_element k v) ≡ None)
    → f ≡ record { offset = at; kind = WrongSort } → Err (located_view f) ≡ fitted g s at w
element_of_none g s at k sort w h f other is = fits_not g s at w f (ap (value_of_sort g s) h.is ∙ other h.number h.name) is

-- the reading of a value stops where that of its form does
pub value_stops : (g : Signature) (s : Sort) (t : Tree) (e : ReadError) → StopsRead e (written_in t) → StopsRead e (value_read g s t)
value_stops g s t (errors.Fault f) h = value_fails g s t (located_view f) h
value_stops g s t errors.Memory h = tt

pub list_stops : (t : Tree) (at end : ℕ) (ts : Trees) → list at ts end ≡ t → (e : ReadError) → None ≡ reserved_in ts → StopsRead e (number_read t) → StopsRead e (written_in t)
list_stops t at end ts is (errors.Fault f) none_there h = list_fails t at end ts is (located_view f) none_there h
list_stops t at end ts is errors.Memory none_there h = tt
