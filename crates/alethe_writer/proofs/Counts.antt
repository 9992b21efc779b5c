-- How often terms are used, as the uses of their numbers are counted.
use Rattle.std.proofs.Common.{◌≡◌, ◌≤◌, ◌<◌, ℕ, zero, suc, ◌+◌, inl, inr, Bool, true, false, cond, ◌&&◌, List, [], ◌∷◌, ◌++◌, length, drop, get_or, refl, sym, ap, ◌∙◌, subst, arith}
use Rattle.std.specs.Prelude.{◌⊎◌, nat_eq, MatchBool}
use Rattle.std.specs.List.{slice_set}
use Rattle.std.proofs.lemmas.Bool.{cases_eq, false≢true}
use Rattle.std.proofs.lemmas.Bool.Decides.{nat_tests}
use Rattle.std.proofs.lemmas.List.{drop_more, drop_all, get_or-set_same, get_or-set_other, length-set}
use Rattle.std.proofs.lemmas.Option.{get_or_from_slice_get, slice_get_within}
use Rattle.spec_sorts.specs.Terms.{Term, no_term, same_term}
use Rattle.spec_sorts.specs.Subsets.{arguments_of}
use Rattle.spec_sorts.proofs.SameTerms.{terms_decide}
use Rattle.spec_sorts.proofs.General.{list_of-terms_of}
use Rattle.spec_derivations.specs.Derivations.{conclusion}
use Rattle.spec_proof_texts.specs.Plans.{times_among, times_in_clauses, times_in_terms, is_compound, AreSingle}
use Rattle.term_core.specs.declared.ids.TermId.{TermId}
use Rattle.term_core.specs.Tables.{TableView, Shape, shape_term, term_at, clause_at, IsIn, AreIn, AreDifferent}
use Rattle.proof_log.specs.Logs.{Logged, assumed, stepped, named, no_logged, inference_of, derivation_in}
use Rattle.alethe_writer.specs.declared.uses.Uses.{Uses}
use Rattle.alethe_writer.specs.declared.uses.Uses.TheVariants.{Never, Once, Often}
use Rattle.alethe_writer.specs.Uses.{one_use_more, uses_more, times_of, CountsUses, CountsTerms, times_printed, AreUses, AreUsedOnce, is_once}
use Rattle.alethe_writer.proofs.Counted.{log_left}
use Rattle.alethe_writer.proofs.Heights.{get_before, get_last}

uses_add : (a b : ℕ) (u : Uses) → uses_more a (uses_more b u) ≡ uses_more (b + a) u
uses_add zero b u = let e : b ≡ b + zero = omega arith in ap (λ n. uses_more n u) e
uses_add (suc a) b u = let e : suc (b + a) ≡ b + suc a = omega arith in ap one_use_more (uses_add a b u) ∙ ap (λ n. uses_more n u) e

-- a number more after others
times_push : (ids : List TermId) (id : TermId) (k : ℕ) → times_of (ids ++ id ∷ []) k ≡ cond (nat_eq id.0 k) (suc (times_of ids k)) (times_of ids k)
times_push [] id k = refl
times_push (j ∷ ids) id k = go (nat_eq j.0 k) (nat_eq id.0 k) (times_push ids id k)
  where
    go : (a b : Bool) → times_of (ids ++ id ∷ []) k ≡ cond b (suc (times_of ids k)) (times_of ids k) → cond a (suc (times_of (ids ++ id ∷ []) k)) (times_of (ids ++ id ∷ []) k) ≡ cond b (suc (cond a (suc (times_of ids k)) (times_of ids k))) (cond a (suc (times_of ids k)) (times_of ids k))
    go true true e = ap suc e
    go true false e = ap suc e
    go false true e = e
    go false false e = e

pub counts_none : (old : List Uses) → CountsUses old [] old
counts_none old = record { same_length = refl; counted = λ k. refl }

pub counts_one : (old mid : List Uses) (ids : List TermId) (id : TermId) (u : Uses) → id.0 < length mid → u ≡ one_use_more (get_or mid id.0 Never) → CountsUses old ids mid → CountsUses old (ids ++ id ∷ []) (slice_set mid id.0 u)
counts_one old mid ids id u lt is m = record {
  same_length = length-set mid id.0 u ∙ m.same_length;
  counted = λ k. elim (cases_eq k id.0) [
    | inl same ↦ by k (nat_eq id.0 k) refl (inl same)
    | inr differ ↦ by k (nat_eq id.0 k) refl (inr differ)
  ];
}
  where
    by : (k : ℕ) (b : Bool) → nat_eq id.0 k ≡ b → (k ≡ id.0) ⊎ (k ≡ id.0 → ⊥) → get_or (slice_set mid id.0 u) k Never ≡ uses_more (times_of (ids ++ id ∷ []) k) (get_or old k Never)
    by k true e (inl same) =
        subst (λ i. get_or (slice_set mid id.0 u) i Never ≡ u) (sym same) (get_or-set_same mid id.0 u Never lt) ∙ is ∙ ap (λ i. one_use_more (get_or mid i Never)) (sym same) ∙ ap one_use_more (m.counted k)
        ∙ ap (λ n. uses_more n (get_or old k Never)) (sym (times_push ids id k ∙ ap (λ b. cond b (suc (times_of ids k)) (times_of ids k)) e))
    by k false e (inl same) = absurd (grind (arith, nat_tests, e, same))
    by k true e (inr differ) = absurd (grind (arith, nat_tests, e, differ))
    by k false e (inr differ) =
        get_or-set_other mid id.0 k u Never differ ∙ m.counted k
        ∙ ap (λ n. uses_more n (get_or old k Never)) (sym (times_push ids id k ∙ ap (λ b. cond b (suc (times_of ids k)) (times_of ids k)) e))

-- a number of a table is used as often as its term
same_times : (t : TableView) → AreDifferent t.terms → (ids : List TermId) → AreIn t ids → (k : ℕ) → k < length t.terms → times_of ids k ≡ times_among (clause_at t ids) (get_or t.terms k no_term)
same_times t apart [] all k lt = refl
same_times t apart (id ∷ ids) all k lt = go (nat_eq id.0 k) refl (same_term (term_at t id) (get_or t.terms k no_term)) refl (same_times t apart ids (λ i d l. all (suc i) d (omega (arith, l))) k lt)
  where
    one : (i : TermId) → IsIn t id
    one i = all 0 id (omega arith)

    go : (a : Bool) → nat_eq id.0 k ≡ a → (b : Bool) → same_term (term_at t id) (get_or t.terms k no_term) ≡ b → times_of ids k ≡ times_among (clause_at t ids) (get_or t.terms k no_term) → cond a (suc (times_of ids k)) (times_of ids k) ≡ cond b (suc (times_among (clause_at t ids) (get_or t.terms k no_term))) (times_among (clause_at t ids) (get_or t.terms k no_term))
    go true e true f rest = ap suc rest
    go false e false f rest = rest
    go true e false f rest =
        let same : id.0 ≡ k = grind (arith, nat_tests, e) in
        absurd (false≢true (sym f ∙ (terms_decide (term_at t id) (get_or t.terms k no_term)).1 (ap (λ i. get_or t.terms i no_term) same)))
    go false e true f rest =
        let same : id.0 ≡ k = apart id.0 k (one id) lt ((terms_decide (term_at t id) (get_or t.terms k no_term)).0 f) in
        absurd (grind (arith, nat_tests, e, same))

-- What is counted up to a place, and what is to come.
pub record IsCounting (t : TableView) (whole rest : Term → ℕ) (old now : List Uses) : Type 0 where
  pub same_length : length now ≡ length old
  pub so_far : (k : ℕ) → k < length t.terms → uses_more (rest (get_or t.terms k no_term)) (get_or now k Never) ≡ uses_more (whole (get_or t.terms k no_term)) (get_or old k Never)

pub counting_start : (t : TableView) (whole : Term → ℕ) (old : List Uses) → IsCounting t whole whole old old
counting_start t whole old = record { same_length = refl; so_far = λ k lt. refl }

pub counting_end : (t : TableView) (whole rest : Term → ℕ) (old now : List Uses) → ((u : Term) → rest u ≡ 0) → IsCounting t whole rest old now → CountsTerms t whole old now
counting_end t whole rest old now none h = record {
  same_length = h.same_length;
  counted = λ k lt. ap (λ n. uses_more n (get_or now k Never)) (sym (none (get_or t.terms k no_term))) ∙ h.so_far k lt;
}

counting_skip : (t : TableView) (whole rest later : Term → ℕ) (old now : List Uses) → ((u : Term) → rest u ≡ later u) → IsCounting t whole rest old now → IsCounting t whole later old now
counting_skip t whole rest later old now same h = record {
  same_length = h.same_length;
  so_far = λ k lt. ap (λ n. uses_more n (get_or now k Never)) (sym (same (get_or t.terms k no_term))) ∙ h.so_far k lt;
}

counting_more : (t : TableView) → AreDifferent t.terms → (whole rest later : Term → ℕ) (ids : List TermId) (old mid now : List Uses) → AreIn t ids → ((u : Term) → rest u ≡ times_among (clause_at t ids) u + later u) → CountsUses mid ids now → IsCounting t whole rest old mid → IsCounting t whole later old now
counting_more t apart whole rest later ids old mid now there same m h = record {
  same_length = m.same_length ∙ h.same_length;
  so_far = λ k lt.
      let u = get_or t.terms k no_term in
      let n : ℕ = times_among (clause_at t ids) u in
      ap (λ x. uses_more (later u) x) (m.counted k ∙ ap (λ i. uses_more i (get_or mid k Never)) (same_times t apart ids there k lt))
      ∙ uses_add (later u) n (get_or mid k Never)
      ∙ ap (λ i. uses_more i (get_or mid k Never)) (sym (same u))
      ∙ h.so_far k lt;
}

-- a clause more, marked or not
conclusion_is : (t : TableView) (l : Logged) → conclusion (inference_of t l) ≡ clause_at t (named l)
conclusion_is t (assumed id) = refl
conclusion_is t (stepped r ps qs c) = refl

clause_front : (t : TableView) (log : List Logged) (support : List Bool) (n : ℕ) (b : Bool) (u : Term) → n < length support → length support ≤ length log → get_or support n false ≡ b → times_in_clauses (drop n support) (drop n (derivation_in t log)) u ≡ times_in_clauses (b ∷ drop (n + 1) support) (inference_of t (get_or log n no_logged) ∷ drop (n + 1) (derivation_in t log)) u
clause_front t log support n b u lt short is =
    let marks : drop n support ≡ b ∷ drop (n + 1) support = drop_more support n false lt ∙ ap (λ c. c ∷ drop (n + 1) support) is in
    let rest = log_left t log n (omega (arith, lt, short)) in
    λ i. times_in_clauses (marks i) (rest i) u

pub clauses_skip : (t : TableView) (log : List Logged) (support : List Bool) (n : ℕ) (whole : Term → ℕ) (old now : List Uses) → n < length support → length support ≤ length log → get_or support n false ≡ false → IsCounting t whole (times_in_clauses (drop n support) (drop n (derivation_in t log))) old now → IsCounting t whole (times_in_clauses (drop (n + 1) support) (drop (n + 1) (derivation_in t log))) old now
clauses_skip t log support n whole old now lt short is h = counting_skip t whole _ _ old now (λ u. clause_front t log support n false u lt short is) h

pub clauses_more : (t : TableView) (log : List Logged) (support : List Bool) (n : ℕ) (whole : Term → ℕ) (old mid now : List Uses) → AreDifferent t.terms → n < length support → length support ≤ length log → get_or support n false ≡ true → AreIn t (named (get_or log n no_logged)) → CountsUses mid (named (get_or log n no_logged)) now → IsCounting t whole (times_in_clauses (drop n support) (drop n (derivation_in t log))) old mid → IsCounting t whole (times_in_clauses (drop (n + 1) support) (drop (n + 1) (derivation_in t log))) old now
clauses_more t log support n whole old mid now apart lt short is there m h =
    counting_more t apart whole _ _ (named (get_or log n no_logged)) old mid now there (λ u. clause_front t log support n true u lt short is ∙ ap (λ c. times_among c u + times_in_clauses (drop (n + 1) support) (drop (n + 1) (derivation_in t log)) u) (conclusion_is t (get_or log n no_logged))) m h

-- one of both
pub clauses_either : (t : TableView) (log : List Logged) (support : List Bool) (n : ℕ) (whole : Term → ℕ) (old mid now : List Uses) (b : Bool) → AreDifferent t.terms → n < length support → length support ≤ length log → get_or support n false ≡ b → AreIn t (named (get_or log n no_logged)) → MatchBool b (CountsUses mid (named (get_or log n no_logged)) now) (now ≡ mid) → IsCounting t whole (times_in_clauses (drop n support) (drop n (derivation_in t log))) old mid → IsCounting t whole (times_in_clauses (drop (n + 1) support) (drop (n + 1) (derivation_in t log))) old now
clauses_either t log support n whole old mid now true apart lt short is there m h = clauses_more t log support n whole old mid now apart lt short is there m h
clauses_either t log support n whole old mid now false apart lt short is there m h = subst (IsCounting t whole (times_in_clauses (drop (n + 1) support) (drop (n + 1) (derivation_in t log))) old) (sym m) (clauses_skip t log support n whole old mid lt short is h)

pub clauses_end : (t : TableView) (log : List Logged) (support : List Bool) (n : ℕ) (whole : Term → ℕ) (old now : List Uses) → length support ≤ n → IsCounting t whole (times_in_clauses (drop n support) (drop n (derivation_in t log))) old now → CountsTerms t whole old now
clauses_end t log support n whole old now le h = counting_end t whole _ old now (λ u. ap (λ bs. times_in_clauses bs (drop n (derivation_in t log)) u) (drop_all n support le) ∙ nothing (drop n (derivation_in t log)) u) h
  where
    nothing : (d : _) (u : Term) → times_in_clauses [] d u ≡ 0
    nothing [] u = refl
    nothing (x ∷ xs) u = refl

-- a term more, marked or not
term_front : (terms : List Term) (printed : List Bool) (n : ℕ) (b : Bool) (u : Term) → n < length printed → length printed ≡ length terms → get_or printed n false ≡ b → times_in_terms (drop n printed) (drop n terms) u ≡ times_in_terms (b ∷ drop (n + 1) printed) (get_or terms n no_term ∷ drop (n + 1) terms) u
term_front terms printed n b u lt as_many is =
    let marks : drop n printed ≡ b ∷ drop (n + 1) printed = drop_more printed n false lt ∙ ap (λ c. c ∷ drop (n + 1) printed) is in
    let rest = drop_more terms n no_term (omega (arith, lt, as_many)) in
    λ i. times_in_terms (marks i) (rest i) u

terms_skip : (t : TableView) (printed : List Bool) (n : ℕ) (whole : Term → ℕ) (old now : List Uses) → n < length printed → length printed ≡ length t.terms → get_or printed n false ≡ false → IsCounting t whole (times_in_terms (drop n printed) (drop n t.terms)) old now → IsCounting t whole (times_in_terms (drop (n + 1) printed) (drop (n + 1) t.terms)) old now
terms_skip t printed n whole old now lt as_many is h = counting_skip t whole _ _ old now (λ u. term_front t.terms printed n false u lt as_many is) h

-- the arguments of a term are counted as those of its node
pub arguments_counted : (t : TableView) (id : TermId) (s : Shape) (old new : List Uses) → AreDifferent t.terms → term_at t id ≡ shape_term t s → AreIn t s.arguments → CountsUses old s.arguments new → CountsTerms t (times_among (arguments_of (term_at t id))) old new
arguments_counted t id s old new apart means there m =
    let args : arguments_of (term_at t id) ≡ clause_at t s.arguments = ap arguments_of means ∙ list_of-terms_of (clause_at t s.arguments) in
    record {
      same_length = m.same_length;
      counted = λ k lt.
          m.counted k ∙ ap (λ i. uses_more i (get_or old k Never)) (same_times t apart s.arguments there k lt ∙ ap (λ us. times_among us (get_or t.terms k no_term)) (sym args));
    }

terms_more : (t : TableView) (printed : List Bool) (n : ℕ) (whole : Term → ℕ) (old mid now : List Uses) → n < length printed → length printed ≡ length t.terms → get_or printed n false ≡ true → CountsTerms t (times_among (arguments_of (get_or t.terms n no_term))) mid now → IsCounting t whole (times_in_terms (drop n printed) (drop n t.terms)) old mid → IsCounting t whole (times_in_terms (drop (n + 1) printed) (drop (n + 1) t.terms)) old now
terms_more t printed n whole old mid now lt as_many is m h = record {
  same_length = m.same_length ∙ h.same_length;
  so_far = λ k l.
      let u = get_or t.terms k no_term in
      let a : ℕ = times_among (arguments_of (get_or t.terms n no_term)) u in
      let later : ℕ = times_in_terms (drop (n + 1) printed) (drop (n + 1) t.terms) u in
      ap (uses_more later) (m.counted k l) ∙ uses_add later a (get_or mid k Never)
      ∙ ap (λ i. uses_more i (get_or mid k Never)) (sym (term_front t.terms printed n true u lt as_many is))
      ∙ h.so_far k l;
}

pub terms_either : (t : TableView) (printed : List Bool) (n : ℕ) (whole : Term → ℕ) (old mid now : List Uses) (b : Bool) → n < length printed → length printed ≡ length t.terms → get_or printed n false ≡ b → MatchBool b (CountsTerms t (times_among (arguments_of (get_or t.terms n no_term))) mid now) (now ≡ mid) → IsCounting t whole (times_in_terms (drop n printed) (drop n t.terms)) old mid → IsCounting t whole (times_in_terms (drop (n + 1) printed) (drop (n + 1) t.terms)) old now
terms_either t printed n whole old mid now true lt as_many is m h = terms_more t printed n whole old mid now lt as_many is m h
terms_either t printed n whole old mid now false lt as_many is m h = subst (IsCounting t whole (times_in_terms (drop (n + 1) printed) (drop (n + 1) t.terms)) old) (sym m) (terms_skip t printed n whole old mid lt as_many is h)

pub terms_end : (t : TableView) (printed : List Bool) (n : ℕ) (whole : Term → ℕ) (old now : List Uses) → length printed ≤ n → IsCounting t whole (times_in_terms (drop n printed) (drop n t.terms)) old now → CountsTerms t whole old now
terms_end t printed n whole old now le h = counting_end t whole _ old now (λ u. ap (λ bs. times_in_terms bs (drop n t.terms) u) (drop_all n printed le) ∙ nothing (drop n t.terms) u) h
  where
    nothing : (ts : List Term) (u : Term) → times_in_terms [] ts u ≡ 0
    nothing [] u = refl
    nothing (x ∷ xs) u = refl

-- both
pub uses_counted : (t : TableView) (log : List Logged) (support printed : List Bool) (old mid now : List Uses) → length old ≡ length t.terms → ((k : ℕ) → get_or old k Never ≡ Never) → CountsTerms t (times_in_clauses support (derivation_in t log)) old mid → CountsTerms t (times_in_terms printed t.terms) mid now → AreUses t log support printed now
uses_counted t log support printed old mid now as_many none a b = record {
  as_many = b.same_length ∙ a.same_length ∙ as_many;
  each = λ k lt.
      let u = get_or t.terms k no_term in
      b.counted k lt ∙ ap (uses_more (times_in_terms printed t.terms u)) (a.counted k lt ∙ ap (uses_more (times_in_clauses support (derivation_in t log) u)) (none k))
      ∙ uses_add (times_in_terms printed t.terms u) (times_in_clauses support (derivation_in t log) u) Never;
}

-- a term is used once where it is counted so
once_is : (n : ℕ) → is_once (uses_more n Never) ≡ nat_eq n 1
once_is zero = refl
once_is (suc zero) = refl
once_is (suc (suc n)) =
    let more : nat_eq (suc (suc n)) 1 ≡ false = grind (arith, nat_tests) in
    go (uses_more n Never) ∙ sym more
  where
    go : (u : Uses) → is_once (one_use_more (one_use_more u)) ≡ false
    go Never = refl
    go Once = refl
    go Often = refl

pub single_are : (t : TableView) (log : List Logged) (support printed single : List Bool) (uses : List Uses) → AreUses t log support printed uses → AreUsedOnce t printed uses single → AreSingle t.terms (derivation_in t log) support printed single
single_are t log support printed single uses are once = record {
  as_many = once.as_many;
  each = λ k u at.
      let lt = slice_get_within t.terms k u at in
      let is : get_or t.terms k no_term ≡ u = get_or_from_slice_get t.terms k u no_term at in
      once.each k lt ∙ ap (λ x. get_or printed k false && (is_compound (get_or t.terms k no_term) && x)) (ap is_once (are.each k lt) ∙ once_is (times_printed t log support printed (get_or t.terms k no_term)))
      ∙ ap (λ x. get_or printed k false && (is_compound x && nat_eq (times_printed t log support printed x) 1)) is;
}

-- one mark more
pub marked_more : (wanted : ℕ → Bool) (xs : List Bool) (n : ℕ) (y : Bool) → length xs ≡ n → y ≡ wanted n → ((k : ℕ) → k < n → get_or xs k false ≡ wanted k) → (k : ℕ) → k < n + 1 → get_or (xs ++ y ∷ []) k false ≡ wanted k
marked_more wanted xs n y as_many is h k lt = elim (cases_eq k n) [
  | inl same ↦ ap (λ i. get_or (xs ++ y ∷ []) i false) (same ∙ sym as_many) ∙ get_last xs y false ∙ is ∙ ap wanted (sym same)
  | inr differ ↦ let less : k < n = grind (arith, lt, differ) in get_before xs y false k (omega (arith, less, as_many)) ∙ h k less
]
