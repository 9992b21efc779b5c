-- The numbers that texts write: by their shapes, and by what is pending.
use Rattle.std.proofs.Common.{◌≡◌, ℕ, ◌<◌, Bool, true, false, List, [], ◌∷◌, ◌++◌, Option, Some, None, refl, sym, ap, ◌∙◌, subst, arith}
use Rattle.std.specs.Prelude.{codes, not, ◌&&◌, Result, Ok, Err}
use Rattle.std.specs.Str.{bytes_eq}
use Rattle.std.proofs.lemmas.Bool.{false≢true}
use Rattle.spec_text.specs.declared.Fault.TheVariants.{NumberWide as wide_literal}
use Rattle.spec_text.specs.declared.Kind.{Kind}
use Rattle.spec_text.specs.Faults.{Located}
use Rattle.spec_text.specs.Answers.{◌>>=◌}
use Rattle.spec_text.specs.Answers as answers
use Rattle.spec_text.specs.Bytes.{Name}
use Rattle.spec_text.specs.Shapes.{is_symbol, passes}
use Rattle.spec_text.specs.Shapes as shapes
use Rattle.spec_text.specs.Trees.{Tree, Trees, atom, list, none, more}
use Rattle.spec_numbers.specs.Fractions.{Fraction, zero_fraction, divide}
use Rattle.spec_numbers.specs.Bounds.{Overflow, fits, checked, divided}
use Rattle.spec_sorts.specs.Numerals.{literal_value, is_wide}
use Rattle.spec_sorts.specs.Terms.{Literal, of}
use Rattle.spec_reading.specs.Reading.{literal}
use Rattle.spec_model_files.specs.declared.ModelKind.TheVariants.{BadShape}
use Rattle.spec_model_files.specs.Faults.{ModelFault, ReadModel, wrong, require}
use Rattle.spec_model_files.specs.Values.{WrittenNumber, is_zero, negation, quotient, literal_atom, literal_read, divisor_read, number_read}
use Rattle.smt_sexpr.specs.declared.items.Trees.{Trees as Cursor}
use Rattle.smt_sexpr.specs.Items.{tree_meant}
use Rattle.ratio128.specs.declared.ratio.Ratio.{Ratio}
use Rattle.ratio128.specs.Meant.{fraction}
use Rattle.model_read.specs.declared.errors.LocatedFault.{LocatedFault}
use Rattle.model_read.specs.declared.numbers.Operation.{Operation}
use Rattle.model_read.specs.declared.numbers.Operation.TheVariants as operations
use Rattle.model_read.specs.declared.numbers.OpenedNumber.{OpenedNumber}
use Rattle.model_read.specs.declared.numbers.OpenedNumber.TheVariants as openings
use Rattle.model_read.specs.Answers.{located_view, IsReadAs, Answers}
use Rattle.model_read.specs.Shapes.{negation_in, quotient_in}
use Rattle.model_read.specs.Numbers.{IsNumber, is_zero_within, quotient_by, made_by, made_by_all, OpensAs, IsLeft}

-- a literal that is read
pub literal_within : (n : Name) (q : Fraction) → literal 0 n ≡ Ok (of (Literal q) []) → not (is_wide n) ≡ true
unfolding answers.require ◌>>=◌
literal_within n q e = go (is_wide n) e
  where
    go : (b : Bool) → (answers.require (not b) 0 wide_literal >>= λ fits. Ok (of (Literal (literal_value n)) [])) ≡ Ok (of (Literal q) []) → not b ≡ true
    go true e = cc
    go false e = refl

pub literal_is : (n : Name) (q : Fraction) → literal 0 n ≡ Ok (of (Literal q) []) → q ≡ literal_value n
unfolding answers.require ◌>>=◌
literal_is n q e = go (is_wide n) e
  where
    go : (b : Bool) → (answers.require (not b) 0 wide_literal >>= λ fits. Ok (of (Literal (literal_value n)) [])) ≡ Ok (of (Literal q) []) → q ≡ literal_value n
    go true e = cc
    go false e = cc

-- and one that is not
pub literal_beyond : (n : Name) (l : Located) → literal 0 n ≡ Err l → not (is_wide n) ≡ false
unfolding answers.require ◌>>=◌
literal_beyond n l e = go (is_wide n) e
  where
    go : (b : Bool) → (answers.require (not b) 0 wide_literal >>= λ fits. Ok (of (Literal (literal_value n)) [])) ≡ Err l → not b ≡ false
    go true e = refl
    go false e = cc

-- what passes a test is there
checked_fits : (b : Bool) (x y : Fraction) (o : Overflow) → Ok x ≡ checked b y o → b ≡ true
checked_fits true x y o e = refl
checked_fits false x y o e = cc

checked_is : (b : Bool) (x y : Fraction) (o : Overflow) → Ok x ≡ checked b y o → x ≡ y
checked_is true x y o e = cc
checked_is false x y o e = cc

checked_beyond : (b : Bool) (y : Fraction) (o p : Overflow) → Err p ≡ checked b y o → b ≡ false
checked_beyond true y o p e = cc
checked_beyond false y o p e = refl

-- a divisor is not 0
pub divisor_nonzero : (n : Option Ratio) (d : Ratio) → n ≡ Some d → ((y : WrittenNumber) → IsNumber n y → is_zero_within y ≡ false) → fraction d ≡ zero_fraction → ⊥
divisor_nonzero n d e h z =
    let y : WrittenNumber = record { fraction = fraction d; is_within = true } in
    let here : IsNumber n y = subst (λ (m : Option Ratio). IsNumber m y) (sym e) (refl, refl) in
    false≢true (sym (h y here) ∙ ap (λ (q : Fraction). is_zero q) z)

module _ (n m : Option Ratio) (q d : Ratio) (n_is : n ≡ Some q) (m_is : m ≡ Some d) (x y : WrittenNumber) (hx : IsNumber n x) (hy : IsNumber m y) where
  left_is : IsNumber (Some q) x
  left_is = subst (λ (o : Option Ratio). IsNumber o x) n_is hx

  right_is : IsNumber (Some d) y
  right_is = subst (λ (o : Option Ratio). IsNumber o y) m_is hy

  within_is : (quotient x y).is_within ≡ fits (divide (fraction q) (fraction d))
  within_is i = (left_is.0 i && right_is.0 i) && fits (divide (sym left_is.1 i) (sym right_is.1 i))

  -- the quotient within the bounds
  pub quotient_made : (made : Ratio) → Ok (fraction made) ≡ divided (fraction q) (fraction d) → IsNumber (Some made) (quotient x y)
  unfolding divided
  quotient_made made e = (
    within_is ∙ checked_fits _ _ _ _ e,
    checked_is _ _ _ _ e ∙ (λ i. divide (left_is.1 i) (right_is.1 i)),
  )

  -- and beyond
  pub quotient_beyond : (o : Overflow) → Err o ≡ divided (fraction q) (fraction d) → IsNumber None (quotient x y)
  unfolding divided
  quotient_beyond o e = within_is ∙ checked_beyond _ _ _ _ e

-- what a divisor in a list is, by the text that is negated in it
abbrev by_negation : ℕ → Option Tree → ReadModel WrittenNumber
by_negation at (Some t) = literal_read t >>= λ x. Ok (negation x)
by_negation at None = wrong at BadShape

divisor_split : (at end : ℕ) (ts : Trees) → divisor_read (list at ts end) ≡ by_negation at (negation_in ts)
unfolding divisor_read negation_in require ◌>>=◌
divisor_split at end none = refl
divisor_split at end (more (list x us y) ts) = refl
divisor_split at end (more (atom x k w) none) = refl
divisor_split at end (more (atom x k w) (more t none)) = go (is_symbol k && bytes_eq w (codes "-"))
  where
    go : (b : Bool) → (require b at BadShape >>= λ minus. literal_read t >>= λ y. Ok (negation y)) ≡ by_negation at (shapes.◌>>=◌ (passes b) (λ minus. Some t))
    go true = refl
    go false = refl
divisor_split at end (more (atom x k w) (more t (more u us))) = refl

-- what a number in a list is, by the texts in it
abbrev by_shape : ℕ → Option Tree → Option (Tree × Tree) → ReadModel WrittenNumber
by_shape at (Some t) o = number_read t >>= λ x. Ok (negation x)
by_shape at None (Some p) = number_read p.0 >>= quotient_by at p.1
by_shape at None None = wrong at BadShape

number_split : (at end : ℕ) (ts : Trees) → number_read (list at ts end) ≡ by_shape at (negation_in ts) (quotient_in ts)
unfolding number_read negation_in quotient_in quotient_by require ◌>>=◌
number_split at end none = refl
number_split at end (more (list x us y) ts) = refl
number_split at end (more (atom x k w) none) = refl
number_split at end (more (atom x k w) (more t none)) = go (is_symbol k && bytes_eq w (codes "-"))
  where
    go : (b : Bool) → (require b at BadShape >>= λ minus. number_read t >>= λ y. Ok (negation y)) ≡ by_shape at (shapes.◌>>=◌ (passes b) (λ minus. Some t)) None
    go true = refl
    go false = refl
number_split at end (more (atom x k w) (more t (more d none))) = go (is_symbol k && bytes_eq w (codes "/"))
  where
    go : (b : Bool) → (require b at BadShape >>= λ over. number_read t >>= λ y. divisor_read d >>= λ z. require (not (is_zero_within z)) at BadShape >>= λ nonzero. Ok (quotient y z))
        ≡ by_shape at None (shapes.◌>>=◌ (passes b) (λ over. Some (t, d)))
    go true = refl
    go false = refl
number_split at end (more (atom x k w) (more t (more d (more u us)))) = refl

module _ (at end : ℕ) (ts : Trees) where
  -- the negation of a literal
  pub divisor_is : (t : Tree) (x : WrittenNumber) → Some t ≡ negation_in ts → literal_read t ≡ Ok x → divisor_read (list at ts end) ≡ Ok (negation x)
  unfolding ◌>>=◌
  divisor_is t x e h = divisor_split at end ts ∙ ap (by_negation at) (sym e) ∙ ap (λ r. r >>= λ y. Ok (negation y)) h

  pub divisor_fails : (t : Tree) (f : ModelFault) → Some t ≡ negation_in ts → literal_read t ≡ Err f → divisor_read (list at ts end) ≡ Err f
  unfolding ◌>>=◌
  divisor_fails t f e h = divisor_split at end ts ∙ ap (by_negation at) (sym e) ∙ ap (λ r. r >>= λ y. Ok (negation y)) h

  -- and nothing else in a list
  pub divisor_none : (f : LocatedFault) → None ≡ negation_in ts → f ≡ record { offset = at; kind = BadShape } → divisor_read (list at ts end) ≡ Err (located_view f)
  divisor_none f e h = divisor_split at end ts ∙ ap (by_negation at) (sym e) ∙ ap (λ (g : LocatedFault). Err (located_view g)) (sym h)

  -- a number that is negated
  pub number_negated : (t : Tree) → Some t ≡ negation_in ts → number_read (list at ts end) ≡ (number_read t >>= λ x. Ok (negation x))
  number_negated t e = number_split at end ts ∙ ap (λ o. by_shape at o (quotient_in ts)) (sym e)

  -- a quotient
  pub number_divided : (t d : Tree) → None ≡ negation_in ts → Some (t, d) ≡ quotient_in ts → number_read (list at ts end) ≡ (number_read t >>= quotient_by at d)
  number_divided t d e h = number_split at end ts ∙ ap (λ o. by_shape at o (quotient_in ts)) (sym e) ∙ ap (by_shape at None) (sym h)

  -- and nothing else in a list
  pub number_none : (f : LocatedFault) → None ≡ negation_in ts → None ≡ quotient_in ts → f ≡ record { offset = at; kind = BadShape } → number_read (list at ts end) ≡ Err (located_view f)
  number_none f e h g = number_split at end ts ∙ ap (λ o. by_shape at o (quotient_in ts)) (sym e) ∙ ap (by_shape at None) (sym h) ∙ ap (λ (x : LocatedFault). Err (located_view x)) (sym g)

module _ (at : ℕ) (d : Tree) (x : WrittenNumber) where
  -- the quotient by a divisor that is read
  pub quotient_is : (y : WrittenNumber) → divisor_read d ≡ Ok y → is_zero_within y ≡ false → quotient_by at d x ≡ Ok (quotient x y)
  unfolding quotient_by require ◌>>=◌
  quotient_is y e z = ap (λ r. r >>= λ v. require (not (is_zero_within v)) at BadShape >>= λ nonzero. Ok (quotient x v)) e ∙ ap (λ b. require (not b) at BadShape >>= λ nonzero. Ok (quotient x y)) z

  -- by 0
  pub quotient_by_zero : (y : WrittenNumber) (f : LocatedFault) → divisor_read d ≡ Ok y → is_zero_within y ≡ true → f ≡ record { offset = at; kind = BadShape } → quotient_by at d x ≡ Err (located_view f)
  unfolding quotient_by require ◌>>=◌
  quotient_by_zero y f e z h =
      ap (λ r. r >>= λ v. require (not (is_zero_within v)) at BadShape >>= λ nonzero. Ok (quotient x v)) e
      ∙ ap (λ b. require (not b) at BadShape >>= λ nonzero. Ok (quotient x y)) z
      ∙ ap (λ (g : LocatedFault). Err (located_view g)) (sym h)

  -- and by what is none
  pub quotient_fails : (f : ModelFault) → divisor_read d ≡ Err f → quotient_by at d x ≡ Err f
  unfolding quotient_by ◌>>=◌
  quotient_fails f e = ap (λ r. r >>= λ v. require (not (is_zero_within v)) at BadShape >>= λ nonzero. Ok (quotient x v)) e

-- what is made of a fault is that fault
fails_by : (p : Operation) (f : ModelFault) → made_by p (Err f) ≡ Err f
unfolding ◌>>=◌
fails_by operations.Negate f = refl
fails_by (operations.Divide at d) f = refl

pub fails_by_all : (ps : List Operation) (f : ModelFault) → made_by_all ps (Err f) ≡ Err f
fails_by_all [] f = refl
fails_by_all (p ∷ ps) f = ap (made_by p) (fails_by_all ps f) ∙ fails_by p f

-- what is pending last is done first
pub pending_push : (ps : List Operation) (p : Operation) (r : ReadModel WrittenNumber) → made_by_all (ps ++ p ∷ []) r ≡ made_by_all ps (made_by p r)
pending_push [] p r = refl
pending_push (o ∷ ps) p r = ap (made_by o) (pending_push ps p r)

module _ (whole : ReadModel WrittenNumber) (all left : List Operation) (last : Operation) (n : Option Ratio) (h : IsLeft whole all n) (all_is : all ≡ left ++ last ∷ []) where
  -- what the last operation makes is the number before the others
  last_done : made_by_all left (made_by last (Ok h.number)) ≡ whole
  last_done = sym (pending_push left last (Ok h.number)) ∙ ap (λ ps. made_by_all ps (Ok h.number)) (sym all_is) ∙ h.same

  pub one_done : (next : Option Ratio) → ((x : WrittenNumber) → IsNumber n x → IsReadAs IsNumber next (made_by last (Ok x))) → IsLeft whole left next
  one_done next made = let r = made h.number h.means in record { number = r.value; means = r.means; same = ap (made_by_all left) (sym r.is) ∙ last_done }

  pub one_fails : (f : LocatedFault) → ((x : WrittenNumber) → IsNumber n x → made_by last (Ok x) ≡ Err (located_view f)) → whole ≡ Err (located_view f)
  one_fails f made = sym last_done ∙ ap (made_by_all left) (made h.number h.means) ∙ fails_by_all left (located_view f)

-- nothing is pending
pub none_pending : (whole : ReadModel WrittenNumber) (all : List Operation) (n : Option Ratio) → IsLeft whole all n → all ≡ [] → IsReadAs IsNumber n whole
none_pending whole all n h e = record { value = h.number; is = sym h.same ∙ ap (λ ps. made_by_all ps (Ok h.number)) e; means = h.means }

-- an atom as a divisor, and as a number
pub divisor_atom : (t : Tree) (a at : ℕ) (k : Kind) (n : Name) (r : Result (Option Ratio) LocatedFault) → a ≡ at → atom at k n ≡ t → Answers IsNumber r (literal_atom a k n) → Answers IsNumber r (divisor_read t)
unfolding divisor_read
divisor_atom t a at k n r h e g = subst (λ (u : Tree). Answers IsNumber r (divisor_read u)) e (subst (λ (m : ℕ). Answers IsNumber r (literal_atom m k n)) h g)

pub number_atom : (t : Tree) (a at : ℕ) (k : Kind) (n : Name) → a ≡ at → atom at k n ≡ t → literal_atom a k n ≡ number_read t
unfolding number_read
number_atom t a at k n h e = ap (λ (m : ℕ). literal_atom m k n) h ∙ ap number_read e

-- an opened list is the opened text
pub opens_wider : (t u : Tree) (m n : ℕ) (r : Result OpenedNumber LocatedFault) → OpensAs t m r → t ≡ u → m < n → OpensAs u n r
opens_wider t u m n (Ok (openings.Number q)) h e lt = subst (λ (v : Tree). IsReadAs IsNumber q (number_read v)) e h
opens_wider t u m n (Ok (openings.Made p first)) h e lt = (sym (ap number_read e) ∙ h.0, omega (arith, h.1, lt))
opens_wider t u m n (Err f) h e lt = sym (ap number_read e) ∙ h

-- what operations make of a number that is there
pub negated_ok : (x : WrittenNumber) → made_by operations.Negate (Ok x) ≡ Ok (negation x)
unfolding ◌>>=◌
negated_ok x = refl

pub divided_ok : (at : ℕ) (d : Cursor) (x : WrittenNumber) → made_by (operations.Divide at d) (Ok x) ≡ quotient_by at (tree_meant d) x
unfolding ◌>>=◌
divided_ok at d x = refl

-- an operation more is pending
pub one_pending : (whole r s : ReadModel WrittenNumber) (ps qs : List Operation) (p : Operation) → made_by_all ps r ≡ whole → r ≡ made_by p s → qs ≡ ps ++ p ∷ [] → made_by_all qs s ≡ whole
one_pending whole r s ps qs p h e f = ap (λ os. made_by_all os s) f ∙ pending_push ps p s ∙ ap (made_by_all ps) (sym e) ∙ h
