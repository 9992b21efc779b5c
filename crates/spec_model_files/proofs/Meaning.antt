-- What is read of a body is what its text means.
use Rattle.std.proofs.Common.{◌≡◌, ℕ, Bool, true, false, cond, List, [], ◌∷◌, length, Option, Some, None, refl, sym, ap, ◌∙◌, subst, arith}
use Rattle.std.specs.Prelude.{Ok, Err, not, ◌&&◌, ◌||◌, ◌==◌, codes, nat_eq}
use Rattle.std.specs.Str.{bytes_eq}
use Rattle.std.proofs.Math.Bool.{and-true}
use Rattle.std.proofs.lemmas.Bool.{and_parts, eqb-true, false≢true}
use Rattle.std.proofs.lemmas.Bool.Decides.{Decides-eqb, Decides-like, same_from_decides}
use Rattle.std.proofs.lemmas.Slice.Eq.{bytes_eq-Decides}
use Rattle.spec_text.specs.declared.Kind.{Kind}
use Rattle.spec_text.specs.declared.Kind.TheVariants.{Numeral, Decimal, Text, Simple, Quoted, Reserved, Keyword}
use Rattle.spec_text.specs.Bytes.{Name, among}
use Rattle.spec_text.specs.Shapes.{Word, is_symbol}
use Rattle.spec_text.specs.Answers.{Answer, ◌>>=◌}
use Rattle.spec_text.specs.Trees.{Tree, Trees, atom, list, none, more, offset_of}
use Rattle.spec_text.proofs.AnswerLaws.{answer, went}
use Rattle.spec_text.proofs.General.{bytes_itself}
use Rattle.spec_numbers.specs.Fractions.{divide}
use Rattle.spec_sorts.specs.Lists.{left, neighbours, all_pass}
use Rattle.spec_sorts.specs.Terms.{Sort, Truth, Number, Declared}
use Rattle.spec_sorts.specs.TermValues.{by_numbers}
use Rattle.spec_sorts.specs.Theory.{look_up, is_of_theory}
use Rattle.spec_sorts.specs.Values.{Value, truth, number, element, is_true, same_value, same_values, all_true, chosen, Table, first_fit}
use Rattle.spec_sorts.specs.Signatures.{Signature}
use Rattle.spec_sorts.specs.Meaning.{theory_values, difference, Meaning, Bindings, value_by, name_value, bind}
use Rattle.spec_sorts.proofs.SameTerms.{fractions_decide}
use Rattle.spec_reading.specs.Sorts.{sort_named}
use Rattle.spec_models.specs.Meaning.{element_number, element_of, element_in, element_or, model_value, model_values}
use Rattle.spec_model_files.specs.declared.ModelKind.{ModelKind}
use Rattle.spec_model_files.specs.declared.ModelKind.TheVariants.{BadShape, WrongSort, NumberWide}
use Rattle.spec_model_files.specs.Faults.{ReadModel, wrong, require, found_or}
use Rattle.spec_model_files.specs.Values.{is_named, symbol_read, is_this_sort, names_sort, WrittenNumber, is_zero, literal, negation, quotient, literal_atom, literal_read, divisor_read, number_read, Written, written_truth, written_number, written_element, written_atom, element_read, written_in, value_of_sort, is_within, value_read}
use Rattle.spec_model_files.specs.Bodies.{tree_count, Parameters, parameter_named, equality_read, equalities_read, condition_read, with_row, everywhere, body_read}
use Rattle.spec_model_files.specs.Meaning.{HasOwnSortNames, parameter_names, HaveOwnNames}

-- a test that was passed
test_passed : (b : Bool) (at : ℕ) (k : ModelKind) (u : Unit {0}) → require b at k ≡ Ok u → b ≡ true
unfolding require
test_passed true at k u e = refl
test_passed false at k u e = absurd (answer (require false at k) u e)

was_found : {A : Type 0} (o : Option A) (at : ℕ) (k : ModelKind) (a : A) → found_or o at k ≡ Ok a → o ≡ Some a
unfolding found_or
was_found (Some x) at k a e = ap Some (answer (Ok x) a e)
was_found None at k a e = absurd (answer (found_or None at k) a e)

-- what was read through a test and then
behind : {A : Type 0} (b : Bool) (at : ℕ) (k : ModelKind) (f : Unit {0} → ReadModel A) (a : A) → (require b at k >>= f) ≡ Ok a → (b ≡ true) × (f tt ≡ Ok a)
behind b at k f a e = let x = went (require b at k) f a e in (test_passed b at k x.first x.was, x.then)

same_name : (n m : Name) → bytes_eq n m ≡ true → n ≡ m
same_name n m e = (bytes_eq-Decides n m).0 e

-- the test of values does not ask which comes first
turned : (v w : Value) → same_value v w ≡ same_value w v
turned (truth true) (truth true) = refl
turned (truth true) (truth false) = refl
turned (truth false) (truth true) = refl
turned (truth false) (truth false) = refl
turned (number p) (number q) = same_from_decides _ _ (fractions_decide p q) (Decides-like _ sym sym (fractions_decide q p))
turned (element s j) (element t k) =
    let names : bytes_eq s t ≡ bytes_eq t s = same_from_decides _ _ (bytes_eq-Decides s t) (Decides-like _ sym sym (bytes_eq-Decides t s)) in
    let numbers : nat_eq j k ≡ nat_eq k j = same_from_decides _ _ (Decides-eqb j k) (Decides-like _ sym sym (Decides-eqb k j)) in
    λ i. names i && numbers i
turned (truth true) (number q) = refl
turned (truth false) (number q) = refl
turned (truth true) (element t k) = refl
turned (truth false) (element t k) = refl
turned (number p) (truth true) = refl
turned (number p) (truth false) = refl
turned (number p) (element t k) = refl
turned (element s j) (truth true) = refl
turned (element s j) (truth false) = refl
turned (element s j) (number q) = refl

-- parameters are bound to values, each to that in its place
abbrev AreBound : Bindings → Parameters → List Value → Type 0
AreBound b [] [] = Unit {0}
AreBound b (p ∷ ps) (v ∷ vs) = (look_up b p.0 ≡ Some v) × AreBound b ps vs
AreBound b ps vs = ⊥

module _ (m : Meaning) (b : Bindings) (hidden : (n : Name) → is_of_theory n ≡ true → look_up b n ≡ None) where
  -- a list with a symbol before others is that name at their values
  symbol_list : (at a end : ℕ) (k : Kind) (w : Name) (u : Tree) (us : Trees) → is_symbol k ≡ true → model_value m b (list at (more (atom a k w) (more u us)) end) ≡ name_value m b w (model_values m b (more u us))
  unfolding model_value model_values
  symbol_list at a end Simple w u us e = refl
  symbol_list at a end Quoted w u us e = refl
  symbol_list at a end Numeral w u us e = absurd (false≢true e)
  symbol_list at a end Decimal w u us e = absurd (false≢true e)
  symbol_list at a end Text w u us e = absurd (false≢true e)
  symbol_list at a end Reserved w u us e = absurd (false≢true e)
  symbol_list at a end Keyword w u us e = absurd (false≢true e)

  -- and with a theory's what that gives
  theory_list : (op : Name) (f : List Value → Value) → is_of_theory op ≡ true → look_up theory_values op ≡ Some f → (at a end : ℕ) (k : Kind) (w : Name) (u : Tree) (us : Trees) → is_named op k w ≡ true → model_value m b (list at (more (atom a k w) (more u us)) end) ≡ f (model_values m b (more u us))
  theory_list op f of_theory is at a end k w u us e =
      let both = and_parts (is_symbol k) (bytes_eq w op) e in
      symbol_list at a end k w u us both.0
      ∙ ap (λ n. name_value m b n (model_values m b (more u us))) (same_name w op both.1)
      ∙ (λ i. value_by (hidden op of_theory i) (is i) (m op (model_values m b (more u us))) (model_values m b (more u us)))

  one_value : (t : Tree) (v : Value) → model_value m b t ≡ v → model_values m b (more t none) ≡ v ∷ []
  unfolding model_values
  one_value t v e = ap (λ (x : Value). x ∷ []) e

  two_values : (t u : Tree) (v w : Value) → model_value m b t ≡ v → model_value m b u ≡ w → model_values m b (more t (more u none)) ≡ v ∷ w ∷ []
  unfolding model_values
  two_values t u v w e f = λ i. e i ∷ f i ∷ []

  -- numbers
  literal_atom_means : (at : ℕ) (k : Kind) (n : List ℕ) (x : WrittenNumber) → literal_atom at k n ≡ Ok x → model_value m b (atom at k n) ≡ number x.fraction
  unfolding model_value
  literal_atom_means at Numeral n x e = ap (λ (y : WrittenNumber). number y.fraction) (answer (Ok (literal n)) x e)
  literal_atom_means at Decimal n x e = ap (λ (y : WrittenNumber). number y.fraction) (answer (Ok (literal n)) x e)
  literal_atom_means at Text n x e = absurd (answer _ x e)
  literal_atom_means at Simple n x e = absurd (answer _ x e)
  literal_atom_means at Quoted n x e = absurd (answer _ x e)
  literal_atom_means at Reserved n x e = absurd (answer _ x e)
  literal_atom_means at Keyword n x e = absurd (answer _ x e)

  literal_means : (t : Tree) (x : WrittenNumber) → literal_read t ≡ Ok x → model_value m b t ≡ number x.fraction
  literal_means (atom at k n) x e = literal_atom_means at k n x e
  literal_means (list at ts end) x e = absurd (answer _ x e)

  negation_means : (at a end : ℕ) (k : Kind) (w : Name) (t : Tree) (y x : WrittenNumber) → is_named (codes "-") k w ≡ true → model_value m b t ≡ number y.fraction → negation y ≡ x → model_value m b (list at (more (atom a k w) (more t none)) end) ≡ number x.fraction
  negation_means at a end k w t y x minus inner is =
      theory_list (codes "-") difference refl refl at a end k w t none minus
      ∙ ap difference (one_value t (number y.fraction) inner)
      ∙ ap (λ (z : WrittenNumber). number z.fraction) is

  divisor_means : (t : Tree) (x : WrittenNumber) → divisor_read t ≡ Ok x → model_value m b t ≡ number x.fraction
  unfolding divisor_read
  divisor_means (list at (more (atom a k w) (more t none)) end) x e =
      let p = behind (is_named (codes "-") k w) at BadShape _ x e in
      let q = went (literal_read t) _ x p.1 in
      negation_means at a end k w t q.first x p.0 (literal_means t q.first q.was) (answer (Ok (negation q.first)) x q.then)
  divisor_means (atom at k n) x e = literal_atom_means at k n x e
  divisor_means _ x e = absurd (answer _ x e)

  pub number_means : (t : Tree) (x : WrittenNumber) → number_read t ≡ Ok x → model_value m b t ≡ number x.fraction
  unfolding number_read
  number_means (list at (more (atom a k w) (more t none)) end) x e =
      let p = behind (is_named (codes "-") k w) at BadShape _ x e in
      let q = went (number_read t) _ x p.1 in
      negation_means at a end k w t q.first x p.0 (number_means t q.first q.was) (answer (Ok (negation q.first)) x q.then)
  number_means (list at (more (atom a k w) (more t (more d none))) end) x e =
      let p = behind (is_named (codes "/") k w) at BadShape _ x e in
      let q = went (number_read t) _ x p.1 in
      let r = went (divisor_read d) _ x q.then in
      let s = behind (not (r.first.is_within && is_zero r.first.fraction)) at BadShape _ x r.then in
      theory_list (codes "/") (λ vs. left (truth false) (by_numbers divide) vs) refl refl at a end k w t (more d none) p.0
      ∙ ap (λ vs. left (truth false) (by_numbers divide) vs) (two_values t d (number q.first.fraction) (number r.first.fraction) (number_means t q.first q.was) (divisor_means d r.first r.was))
      ∙ ap (λ (z : WrittenNumber). number z.fraction) (answer (Ok (quotient q.first r.first)) x s.1)
  number_means (atom at k n) x e = literal_atom_means at k n x e
  number_means _ x e = absurd (answer _ x e)

  -- what was written, as a value
  abbrev plain_value : Written → Value
  plain_value (written_truth c) = truth c
  plain_value (written_number x) = number x.fraction
  plain_value (written_element k w) = element w.bytes k

  theory_word : (op : Name) (v : Value) → is_of_theory op ≡ true → look_up theory_values op ≡ Some (λ vs. v) → (at : ℕ) (k : Kind) (w : Name) → is_named op k w ≡ true → model_value m b (atom at k w) ≡ v
  unfolding model_value
  theory_word op v of_theory is at Simple w e = ap (λ n. name_value m b n []) (same_name w op e) ∙ (λ i. value_by (hidden op of_theory i) (is i) (m op []) [])
  theory_word op v of_theory is at Quoted w e = ap (λ n. name_value m b n []) (same_name w op e) ∙ (λ i. value_by (hidden op of_theory i) (is i) (m op []) [])
  theory_word op v of_theory is at Numeral w e = absurd (false≢true e)
  theory_word op v of_theory is at Decimal w e = absurd (false≢true e)
  theory_word op v of_theory is at Text w e = absurd (false≢true e)
  theory_word op v of_theory is at Reserved w e = absurd (false≢true e)
  theory_word op v of_theory is at Keyword w e = absurd (false≢true e)

  truth_means : (at : ℕ) (k : Kind) (n : Name) (w : Written) (t f : Bool) → is_named (codes "true") k n ≡ t → is_named (codes "false") k n ≡ f → cond t (Ok (written_truth true)) (cond f (Ok (written_truth false)) (wrong at BadShape)) ≡ Ok w → model_value m b (atom at k n) ≡ plain_value w
  truth_means at k n w true f x y e = theory_word (codes "true") (truth true) refl refl at k n x ∙ ap plain_value (answer _ w e)
  truth_means at k n w false true x y e = theory_word (codes "false") (truth false) refl refl at k n y ∙ ap plain_value (answer _ w e)
  truth_means at k n w false false x y e = absurd (answer _ w e)

  atom_means : (at : ℕ) (k : Kind) (n : List ℕ) (w : Written) → written_atom at k n ≡ Ok w → model_value m b (atom at k n) ≡ plain_value w
  unfolding model_value
  atom_means at Numeral n w e = ap plain_value (answer (Ok (written_number (literal n))) w e)
  atom_means at Decimal n w e = ap plain_value (answer (Ok (written_number (literal n))) w e)
  atom_means at Simple n w e = truth_means at Simple n w _ _ refl refl e
  atom_means at Quoted n w e = truth_means at Quoted n w _ _ refl refl e
  atom_means at Text n w e = absurd (answer _ w e)
  atom_means at Reserved n w e = absurd (answer _ w e)
  atom_means at Keyword n w e = absurd (answer _ w e)

  -- an element
  list_element : (at a end : ℕ) (e s : Tree) (v : Value) → element_in (atom a Reserved (codes "as")) (more e (more s none)) ≡ Some v → model_value m b (list at (more (atom a Reserved (codes "as")) (more e (more s none))) end) ≡ v
  unfolding model_value
  list_element at a end e s v found = ap (λ o. element_or o (truth false)) found

  element_found : (a : ℕ) (w s : Word) (k : ℕ) → is_symbol w.kind ≡ true → is_symbol s.kind ≡ true → element_number w.bytes ≡ Some k → element_in (atom a Reserved (codes "as")) (more (atom w.at w.kind w.bytes) (more (atom s.at s.kind s.bytes) none)) ≡ Some (element s.bytes k)
  element_found a w s k h j e = λ i. cond (h i && j i) (element_of s.bytes (e i)) None

  word_text : (t : Tree) (w : Word) → symbol_read t ≡ Ok w → (t ≡ atom w.at w.kind w.bytes) × (is_symbol w.kind ≡ true)
  word_text (list at ts end) w e = absurd (answer _ w e)
  word_text (atom at k n) w e = go (is_symbol k) refl e
    where
      go : (c : Bool) → is_symbol k ≡ c → cond c (Ok (record { at = at; kind = k; bytes = n })) (wrong at BadShape) ≡ Ok w → (atom at k n ≡ atom w.at w.kind w.bytes) × (is_symbol w.kind ≡ true)
      go true h x =
          let same = answer (Ok (record { at = at; kind = k; bytes = n })) w x in
          (ap (λ (y : Word). atom y.at y.kind y.bytes) same, subst (λ (y : Word). is_symbol y.kind ≡ true) same h)
      go false h x = absurd (answer (wrong at BadShape) w x)

  element_by : (at a end : ℕ) (n : Name) (e s : Tree) (w sort : Word) (k : ℕ) → bytes_eq n (codes "as") ≡ true → (e ≡ atom w.at w.kind w.bytes) × (is_symbol w.kind ≡ true) → (s ≡ atom sort.at sort.kind sort.bytes) × (is_symbol sort.kind ≡ true) → element_number w.bytes ≡ Some k
      → model_value m b (list at (more (atom a Reserved n) (more e (more s none))) end) ≡ element sort.bytes k
  element_by at a end n e s w sort k head word_is sort_is numbered =
      (λ i. model_value m b (list at (more (atom a Reserved (same_name n (codes "as") head i)) (more (word_is.0 i) (more (sort_is.0 i) none))) end))
      ∙ list_element at a end (atom w.at w.kind w.bytes) (atom sort.at sort.kind sort.bytes) (element sort.bytes k) (element_found a w sort k word_is.1 sort_is.1 numbered)

  element_means : (at a end : ℕ) (n : Name) (e s : Tree) (w : Written) → bytes_eq n (codes "as") ≡ true → element_read e s ≡ Ok w → model_value m b (list at (more (atom a Reserved n) (more e (more s none))) end) ≡ plain_value w
  unfolding element_read
  element_means at a end n e s w head x =
      let p = went (symbol_read e) _ w x in
      let q = went (found_or (element_number p.first.bytes) p.first.at BadShape) _ w p.then in
      let r = went (symbol_read s) _ w q.then in
      element_by at a end n e s p.first r.first q.first head (word_text e p.first p.was) (word_text s r.first r.was) (was_found (element_number p.first.bytes) p.first.at BadShape q.first q.was)
      ∙ ap plain_value (answer (Ok (written_element q.first r.first)) w r.then)

  written_means : (t : Tree) (w : Written) → written_in t ≡ Ok w → model_value m b t ≡ plain_value w
  unfolding written_in
  written_means (atom at k n) w e = atom_means at k n w e
  written_means (list at (more (atom a Reserved n) (more x (more s none))) end) w e =
      let p = behind (bytes_eq n (codes "as")) at BadShape _ w e in
      element_means at a end n x s w p.0 p.1
  written_means _ w e =
      let q = went (number_read _) _ w e in
      number_means _ q.first q.was ∙ ap plain_value (answer (Ok (written_number q.first)) w q.then)

  module _ (g : Signature) (own : HasOwnSortNames g) where
    named_as : (n : Name) (r : Answer Sort) → is_this_sort (Declared n) r ≡ true → r ≡ Ok (Declared n)
    named_as n (Ok Truth) e = absurd (false≢true e)
    named_as n (Ok Number) e = absurd (false≢true e)
    named_as n (Ok (Declared p)) e = ap (λ q. Ok (Declared q)) (sym (same_name n p e))
    named_as n (Err f) e = absurd (false≢true e)

    sort_value : (s : Sort) (w : Written) (v : Value) → value_of_sort g s w ≡ Some v → plain_value w ≡ v
    sort_value Truth (written_truth c) v e = cc
    sort_value Truth (written_number x) v e = cc
    sort_value Truth (written_element k w) v e = cc
    sort_value Number (written_truth c) v e = cc
    sort_value Number (written_number x) v e = cc
    sort_value Number (written_element k w) v e = cc
    sort_value (Declared n) (written_truth c) v e = cc
    sort_value (Declared n) (written_number x) v e = cc
    sort_value (Declared n) (written_element k w) v e = go (names_sort g (Declared n) w) refl e
      where
        go : (c : Bool) → names_sort g (Declared n) w ≡ c → cond c (Some (element n k)) None ≡ Some v → element w.bytes k ≡ v
        go true h x =
            let same : element n k ≡ v = cc in
            ap (λ p. element p k) (own w.at w.bytes n (named_as n (sort_named g w.at w.bytes) h)) ∙ same
        go false h x = cc

    value_means : (s : Sort) (t : Tree) (v : Value) → value_read g s t ≡ Ok v → model_value m b t ≡ v
    unfolding value_read
    value_means s t v e =
        let p = went (written_in t) _ v e in
        let q = went (found_or (value_of_sort g s p.first) (offset_of t) WrongSort) _ v p.then in
        let r = behind (is_within p.first) (offset_of t) NumberWide _ v q.then in
        written_means t p.first p.was
        ∙ sort_value s p.first q.first (was_found (value_of_sort g s p.first) (offset_of t) WrongSort q.first q.was)
        ∙ answer (Ok q.first) v r.1

    -- a parameter is equal to a value
    word_means : (n : Name) (v : Value) → look_up b n ≡ Some v → (t : Tree) (u : Unit {0}) → parameter_named n t ≡ Ok u → model_value m b t ≡ v
    unfolding model_value
    word_means n v bound (list at ts end) u e = absurd (answer _ u e)
    word_means n v bound (atom at k w) u e = by k (and_parts (is_symbol k) (bytes_eq w n) (test_passed (is_named n k w) at BadShape u e))
      where
        value : (x : Name) → x ≡ n → name_value m b x [] ≡ v
        value x same = ap (λ y. name_value m b y []) same ∙ ap (λ o. value_by o (look_up theory_values n) (m n []) []) bound

        by : (j : Kind) → (is_symbol j ≡ true) × (bytes_eq w n ≡ true) → model_value m b (atom at j w) ≡ v
        by Simple h = value w (same_name w n h.1)
        by Quoted h = value w (same_name w n h.1)
        by Numeral h = absurd (false≢true h.0)
        by Decimal h = absurd (false≢true h.0)
        by Text h = absurd (false≢true h.0)
        by Reserved h = absurd (false≢true h.0)
        by Keyword h = absurd (false≢true h.0)

    equality_means : (p : Name × Sort) (v : Value) → look_up b p.0 ≡ Some v → (t : Tree) (a : Value) → equality_read g p t ≡ Ok a → model_value m b t ≡ truth (same_value a v)
    unfolding equality_read
    equality_means p v bound (list at (more (atom x k w) (more t (more u none))) end) a e =
        let q = behind (is_named (codes "=") k w) at BadShape _ a e in
        let r = went (parameter_named p.0 t) _ a q.1 in
        theory_list (codes "=") (λ vs. truth (all_pass same_value (neighbours vs))) refl refl at x end k w t (more u none) q.0
        ∙ ap (λ vs. truth (all_pass same_value (neighbours vs))) (two_values t u v a (word_means p.0 v bound t r.first r.was) (value_means p.1 u a r.then))
        ∙ ap truth (and-true (same_value v a) ∙ turned v a)
    equality_means p v bound (atom at k n) a e = absurd (answer _ a e)
    equality_means p v bound _ a e = absurd (answer _ a e)

    equalities_mean : (ps : Parameters) (ts : Trees) (args vs : List Value) → tree_count ts ≡ length ps → AreBound b ps vs → equalities_read g ps ts ≡ Ok args → all_true (model_values m b ts) ≡ same_values args vs
    unfolding equalities_read model_values
    equalities_mean [] none args [] n h e = ap (λ xs. same_values xs []) (answer (Ok []) args e)
    equalities_mean [] none args (v ∷ vs) n h e = absurd h
    equalities_mean [] (more t ts) args vs n h e = absurd (omega (arith, n))
    equalities_mean (p ∷ ps) none args vs n h e = absurd (omega (arith, n))
    equalities_mean (p ∷ ps) (more t ts) args [] n h e = absurd h
    equalities_mean (p ∷ ps) (more t ts) args (v ∷ vs) n h e =
        let q = went (equality_read g p t) _ args e in
        let r = went (equalities_read g ps ts) _ args q.then in
        (λ i. is_true (equality_means p v h.0 t q.first q.was i) && equalities_mean ps ts r.first vs (omega (arith, n)) h.1 r.was i)
        ∙ ap (λ xs. same_values xs (v ∷ vs)) (answer (Ok (q.first ∷ r.first)) args r.then)

    -- a condition holds where the parameters have the row's arguments
    condition_means : (p : Name × Sort) (ps : Parameters) (t : Tree) (args vs : List Value) → AreBound b (p ∷ ps) vs → condition_read g (p ∷ ps) t ≡ Ok args → is_true (model_value m b t) ≡ same_values args vs
    unfolding condition_read
    condition_means p ps t args [] h e = absurd h
    condition_means p [] t args (v ∷ w ∷ vs) h e = absurd h.1
    condition_means p [] t args (v ∷ []) h e =
        let q = went (equality_read g p t) _ args e in
        ap is_true (equality_means p v h.0 t q.first q.was)
        ∙ sym (and-true (same_value q.first v))
        ∙ ap (λ xs. same_values xs (v ∷ [])) (answer (Ok (q.first ∷ [])) args q.then)
    condition_means p (r ∷ ps) (list at (more (atom a k w) none) end) args (v ∷ vs) h e =
        let q = behind (is_named (codes "and") k w && 0 == length (p ∷ r ∷ ps)) at BadShape _ args e in
        let n : 0 ≡ length (p ∷ r ∷ ps) = eqb-true 0 (length (p ∷ r ∷ ps)) (and_parts (is_named (codes "and") k w) (0 == length (p ∷ r ∷ ps)) q.0).1 in
        absurd (omega (arith, n))
    condition_means p (r ∷ ps) (list at (more (atom a k w) (more u us)) end) args (v ∷ vs) h e =
        let q = behind (is_named (codes "and") k w && tree_count (more u us) == length (p ∷ r ∷ ps)) at BadShape _ args e in
        let both = and_parts (is_named (codes "and") k w) (tree_count (more u us) == length (p ∷ r ∷ ps)) q.0 in
        ap is_true (theory_list (codes "and") (λ xs. truth (all_true xs)) refl refl at a end k w u us both.0)
        ∙ equalities_mean (p ∷ r ∷ ps) (more u us) args (v ∷ vs) (eqb-true (tree_count (more u us)) (length (p ∷ r ∷ ps)) both.1) h q.1
    condition_means p (r ∷ ps) (atom at k n) args (v ∷ vs) h e = absurd (answer _ args e)
    condition_means p (r ∷ ps) (list at none end) args (v ∷ vs) h e = absurd (answer _ args e)
    condition_means p (r ∷ ps) (list at (more (list x xs y) us) end) args (v ∷ vs) h e = absurd (answer _ args e)

    -- and a body has its table's value
    three_values : (t u w : Tree) → model_values m b (more t (more u (more w none))) ≡ model_value m b t ∷ model_value m b u ∷ model_value m b w ∷ []
    unfolding model_values
    three_values t u w = refl

    pub body_means : (ps : Parameters) (s : Sort) (t : Tree) (table : Table) (vs : List Value) → AreBound b ps vs → body_read g ps s t ≡ Ok table → model_value m b t ≡ first_fit table.rows table.default vs
    unfolding body_read
    body_means (p ∷ ps) s (list at (more (atom a k w) (more c (more v (more others none)))) end) table vs h e =
        let q = behind (is_named (codes "ite") k w) at BadShape _ table e in
        let x = went (condition_read g (p ∷ ps) c) _ table q.1 in
        let y = went (value_read g s v) _ table x.then in
        let z = went (body_read g (p ∷ ps) s others) _ table y.then in
        theory_list (codes "ite") (λ xs. chosen xs) refl refl at a end k w c (more v (more others none)) q.0
        ∙ ap (λ xs. chosen xs) (three_values c v others)
        ∙ (λ i. cond (condition_means p ps c x.first vs h x.was i) (value_means s v y.first y.was i) (body_means (p ∷ ps) s others z.first vs h z.was i))
        ∙ ap (λ (t : Table). first_fit t.rows t.default vs) (answer (Ok (with_row x.first y.first z.first)) table z.then)
    body_means ps s _ table vs h e =
        let q = went (value_read g s _) _ table e in
        value_means s _ q.first q.was ∙ ap (λ (t : Table). first_fit t.rows t.default vs) (answer (Ok (everywhere q.first)) table q.then)

-- parameters with names of their own are bound to the values in their places
none_hidden : (ps : Parameters) (vs : List Value) → HaveOwnNames ps → (n : Name) → is_of_theory n ≡ true → look_up (bind ps vs) n ≡ None
none_hidden [] vs h n e = refl
none_hidden (p ∷ ps) [] h n e = refl
none_hidden (p ∷ ps) (v ∷ vs) h n e = go (bytes_eq p.0 n) (bytes_eq-Decides p.0 n).0 (none_hidden ps vs h.2 n e)
  where
    go : (c : Bool) → (c ≡ true → p.0 ≡ n) → look_up (bind ps vs) n ≡ None → cond c (Some v) (look_up (bind ps vs) n) ≡ None
    go true same rest = absurd (false≢true (sym h.0 ∙ ap is_of_theory (same refl) ∙ e))
    go false same rest = rest

one_more : (n : Name) (v : Value) (b : Bindings) (ps : Parameters) (vs : List Value) → among (parameter_names ps) n ≡ false → AreBound b ps vs → AreBound ((n, v) ∷ b) ps vs
one_more n v b [] [] e h = tt
one_more n v b [] (w ∷ vs) e h = absurd h
one_more n v b (p ∷ ps) [] e h = absurd h
one_more n v b (p ∷ ps) (w ∷ vs) e h = go (bytes_eq p.0 n) (bytes_eq-Decides p.0 n).1 (bytes_eq n p.0) (bytes_eq-Decides n p.0).0 e (λ f. one_more n v b ps vs f h.1)
  where
    go : (c : Bool) → (p.0 ≡ n → c ≡ true) → (d : Bool) → (d ≡ true → n ≡ p.0) → (c || among (parameter_names ps) n) ≡ false → (among (parameter_names ps) n ≡ false → AreBound ((n, v) ∷ b) ps vs) → (cond d (Some v) (look_up b p.0) ≡ Some w) × AreBound ((n, v) ∷ b) ps vs
    go true x d y f rest = cc
    go false x true y f rest = absurd (false≢true (x (sym (y refl))))
    go false x false y f rest = (h.0, rest f)

all_bound : (ps : Parameters) (vs : List Value) → HaveOwnNames ps → length vs ≡ length ps → AreBound (bind ps vs) ps vs
all_bound [] [] h e = tt
all_bound [] (v ∷ vs) h e = absurd (omega (arith, e))
all_bound (p ∷ ps) [] h e = absurd (omega (arith, e))
all_bound (p ∷ ps) (v ∷ vs) h e = (
  ap (λ c. cond c (Some v) (look_up (bind ps vs) p.0)) (bytes_itself p.0),
  one_more p.0 v (bind ps vs) ps vs h.1 (all_bound ps vs h.2 (omega (arith, e))),
)

pub table_means : (g : Signature) (ps : Parameters) (s : Sort) (t : Tree) (table : Table) → HasOwnSortNames g → HaveOwnNames ps → body_read g ps s t ≡ Ok table → (m : Meaning) (vs : List Value) → length vs ≡ length ps → model_value m (bind ps vs) t ≡ first_fit table.rows table.default vs
table_means g ps s t table own names e m vs n = body_means m (bind ps vs) (none_hidden ps vs names) g own ps s t table vs (all_bound ps vs names n) e
