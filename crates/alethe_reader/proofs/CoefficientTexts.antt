-- The numbers that texts write: by their shapes, and by what is pending.
use Rattle.std.proofs.Common.{rules, ◌≡◌, ◌≢◌, ℕ, ◌+◌, ◌<◌, Bool, true, false, cond, List, [], ◌∷◌, ◌++◌, Some, None, append_assoc, append-nil, refl, sym, ap, ◌∙◌, arith}
use Rattle.std.specs.Prelude.{codes, not, IsTrue, Ok, Err}
use Rattle.std.proofs.lemmas.Bool.{false≢true}
use Rattle.std.proofs.lemmas.List.{map-append}
use Rattle.spec_text.specs.declared.Kind.{Kind}
use Rattle.spec_text.specs.declared.Fault.TheVariants.{NumberWide}
use Rattle.spec_text.specs.Faults.{Located}
use Rattle.spec_text.specs.Answers.{require, ◌>>=◌}
use Rattle.spec_text.specs.Bytes.{Name}
use Rattle.spec_text.specs.Shapes.{first_word}
use Rattle.spec_text.specs.Trees.{Tree, Trees, atom, list, none, more}
use Rattle.spec_numbers.specs.Fractions.{Fraction, IsReduced, zero_fraction}
use Rattle.spec_numbers.proofs.Field.{zero_of}
use Rattle.spec_sorts.specs.Numerals.{literal_value, is_wide}
use Rattle.spec_sorts.specs.Terms.{Literal, of}
use Rattle.spec_reading.specs.Reading.{literal}
use Rattle.spec_arithmetic.specs.Signs.{is_zero}
use Rattle.spec_arithmetic.specs.Contradictions.{Coefficient, given, malformed}
use Rattle.spec_arithmetic.specs.Coefficients.{literal_coefficient, atom_coefficient, opposite_coefficient, quotient_coefficient, is_word_of, coefficient_of, coefficients_of}
use Rattle.spec_arithmetic.proofs.Zero.{zero_num, not_zero}
use Rattle.smt_sexpr.specs.Items.{split_first}
use Rattle.smt_sexpr.proofs.Splitting.{split_end, split_more}
use Rattle.linear_form.specs.declared.coeff.Coeff.{Coeff}
use Rattle.linear_form.specs.Coefficients.{coefficient_meant, coefficients_meant}
use Rattle.alethe_reader.specs.declared.coefficients.Pending.{Pending}
use Rattle.alethe_reader.specs.declared.coefficients.Here.{Here}
use Rattle.alethe_reader.specs.declared.coefficients.Here.TheVariants as places
use Rattle.alethe_reader.specs.Coefficients.{resumed_by, resumed, pending_steps, all_steps, number_here, steps_here, Resumes}

-- a literal that is read
pub literal_given : (n : Name) (q : Fraction) → literal 0 n ≡ Ok (of (Literal q) []) → given q ≡ literal_coefficient n
unfolding require ◌>>=◌
literal_given n q e = go (is_wide n) e
  where
    go : (b : Bool) → (require (not b) 0 NumberWide >>= λ fits. Ok (of (Literal (literal_value n)) [])) ≡ Ok (of (Literal q) []) → given q ≡ cond b malformed (given (literal_value n))
    go true e = cc
    go false e = cc

-- and one that is not
pub literal_malformed : (n : Name) (l : Located) → literal 0 n ≡ Err l → malformed ≡ literal_coefficient n
unfolding require ◌>>=◌
literal_malformed n l e = go (is_wide n) e
  where
    go : (b : Bool) → (require (not b) 0 NumberWide >>= λ fits. Ok (of (Literal (literal_value n)) [])) ≡ Err l → malformed ≡ cond b malformed (given (literal_value n))
    go true e = refl
    go false e = cc

zero_is : is_zero zero_fraction ≡ true
unfolding is_zero
zero_is = refl

-- the test for 0
pub zero_tested : (b : Bool) (x : Fraction) → IsReduced x → (IsTrue b → x ≡ zero_fraction) → (x ≡ zero_fraction → IsTrue b) → b ≡ is_zero x
zero_tested b x r there back = go b (is_zero x) refl there back
  where
    go : (b c : Bool) → is_zero x ≡ c → (IsTrue b → x ≡ zero_fraction) → (x ≡ zero_fraction → IsTrue b) → b ≡ c
    go true true e there back = refl
    go false false e there back = refl
    go true false e there back = absurd (not_zero x e (there (search rules)))
    go false true e there back = absurd (false≢true (back (zero_of x r (zero_num x e))))

-- an atom
pub atom_number : (at : ℕ) (k : Kind) (n : Name) → atom_coefficient k n ≡ coefficient_of (atom at k n)
unfolding coefficient_of
atom_number at k n = refl

-- a list that begins with no word
pub no_word : (ts : Trees) → None ≡ first_word ts → (at end : ℕ) → malformed ≡ coefficient_of (list at ts end)
unfolding coefficient_of
no_word none e at end = refl
no_word (more (atom x k n) ts) e at end = cc
no_word (more (list x us y) ts) e at end = refl

module _ (x : ℕ) (k : Kind) (w : Name) (ts : Trees) where
  -- the list of the word and the trees
  abbrev worded : ℕ → ℕ → Trees → Coefficient
  worded at end us = coefficient_of (list at (more (atom x k w) us) end)

  -- a word alone
  pub word_alone : None ≡ split_first ts → (at end : ℕ) → malformed ≡ coefficient_of (list at (more (atom x k w) ts) end)
  unfolding coefficient_of
  word_alone e at end = ap (worded at end) (sym (split_end ts e))

  -- a word with one text
  pub word_one : (b : Bool) (t : Tree) (us : Trees) → is_word_of (codes "-") k w ≡ b → Some (t, us) ≡ split_first ts → None ≡ split_first us → (at end : ℕ)
      → cond b (opposite_coefficient (coefficient_of t)) malformed ≡ coefficient_of (list at (more (atom x k w) ts) end)
  unfolding coefficient_of
  word_one b t us h e f at end =
      let shape : ts ≡ more t none = split_more ts us t e ∙ ap (more t) (split_end us f) in
      (λ i. cond (sym h i) (opposite_coefficient (coefficient_of t)) malformed) ∙ ap (worded at end) (sym shape)

  -- a word with two
  pub word_two : (b : Bool) (t d : Tree) (us vs : Trees) → is_word_of (codes "/") k w ≡ b → Some (t, us) ≡ split_first ts → Some (d, vs) ≡ split_first us → None ≡ split_first vs → (at end : ℕ)
      → cond b (quotient_coefficient (coefficient_of t) (coefficient_of d)) malformed ≡ coefficient_of (list at (more (atom x k w) ts) end)
  unfolding coefficient_of
  word_two b t d us vs h e f g at end =
      let shape : ts ≡ more t (more d none) = split_more ts us t e ∙ ap (more t) (split_more us vs d f ∙ ap (more d) (split_end vs g)) in
      (λ i. cond (sym h i) (quotient_coefficient (coefficient_of t) (coefficient_of d)) malformed) ∙ ap (worded at end) (sym shape)

  -- a word with more
  pub word_more : (t d u : Tree) (us vs os : Trees) → Some (t, us) ≡ split_first ts → Some (d, vs) ≡ split_first us → Some (u, os) ≡ split_first vs → (at end : ℕ)
      → malformed ≡ coefficient_of (list at (more (atom x k w) ts) end)
  unfolding coefficient_of
  word_more t d u us vs os e f g at end =
      let shape : ts ≡ more t (more d (more u os)) = split_more ts us t e ∙ ap (more t) (split_more us vs d f ∙ ap (more d) (split_more vs os u g)) in
      ap (worded at end) (sym shape)

-- what is pending last is done first
pub resumed_push : (ps : List Pending) (p : Pending) (c : Coefficient) → resumed (ps ++ p ∷ []) c ≡ resumed ps (resumed_by p c)
resumed_push [] p c = refl
resumed_push (o ∷ ps) p c = ap (resumed_by o) (resumed_push ps p c)

pub steps_push : (ps : List Pending) (p : Pending) → all_steps (ps ++ p ∷ []) ≡ all_steps ps + pending_steps p
steps_push [] p = omega arith
steps_push (o ∷ ps) p = omega (arith, steps_push ps p)

-- a step that leaves something more to be done
pub pushes : (ps qs : List Pending) (p : Pending) (next : Here) (c : Coefficient) (n : ℕ) → qs ≡ ps ++ p ∷ [] → resumed_by p (number_here next) ≡ c → pending_steps p + steps_here next < n
    → Resumes ps c n qs next
pushes ps qs p next c n e same less = record {
  same = ap (λ (xs : List Pending). resumed xs (number_here next)) e ∙ resumed_push ps p (number_here next) ∙ ap (resumed ps) same;
  fewer = omega (arith, ap all_steps e, steps_push ps p, less);
}

-- a step by what was pending last
pub pops : (whole : Coefficient) (before ps after : List Pending) (p : Pending) (here next : Here) (k : Coeff) (n : ℕ) → resumed before (number_here here) ≡ whole → here ≡ places.Read k → before ≡ ps ++ p ∷ []
    → Resumes ps (resumed_by p (coefficient_meant k)) n after next → resumed after (number_here next) ≡ whole
pops whole before ps after p here next k n h e f r =
    r.same
    ∙ sym (resumed_push ps p (coefficient_meant k))
    ∙ (λ i. resumed (sym f i) (number_here (sym e i)))
    ∙ h

-- numbers that are read, before the texts that are left
pub one_read : (cs : List Coefficient) (ks ls : List Coeff) (k : Coeff) (t : Tree) (ts us : Trees) → coefficients_meant ks ++ coefficients_of ts ≡ cs → Some (t, us) ≡ split_first ts
    → coefficient_meant k ≡ coefficient_of t → ls ≡ ks ++ k ∷ [] → coefficients_meant ls ++ coefficients_of us ≡ cs
unfolding coefficients_of
one_read cs ks ls k t ts us h e f g =
    ap (λ (xs : List Coeff). coefficients_meant xs ++ coefficients_of us) g
    ∙ ap (λ (xs : List Coefficient). xs ++ coefficients_of us) (map-append coefficient_meant ks (k ∷ []))
    ∙ append_assoc (coefficients_meant ks) (coefficient_meant k ∷ []) (coefficients_of us)
    ∙ ap (λ (c : Coefficient). coefficients_meant ks ++ (c ∷ coefficients_of us)) f
    ∙ ap (λ (x : Trees). coefficients_meant ks ++ coefficients_of x) (sym (split_more ts us t e))
    ∙ h

pub all_read : (cs : List Coefficient) (ks : List Coeff) (ts : Trees) → coefficients_meant ks ++ coefficients_of ts ≡ cs → None ≡ split_first ts → coefficients_meant ks ≡ cs
unfolding coefficients_of
all_read cs ks ts h e = sym (append-nil (coefficients_meant ks)) ∙ ap (λ (x : Trees). coefficients_meant ks ++ coefficients_of x) (sym (split_end ts e)) ∙ h

-- no texts write no numbers
pub none_read : coefficients_meant [] ≡ coefficients_of none
unfolding coefficients_of
none_read = refl
