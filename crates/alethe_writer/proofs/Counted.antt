-- Numbers that are given one after the other.
use Rattle.std.proofs.Common.{◌≡◌, ℕ, suc, ◌+◌, ◌<◌, ◌≤◌, Bool, true, false, List, [], ◌∷◌, ◌++◌, length, get_or, drop, Option, refl, sym, ap, ◌∙◌, append_assoc, append-nil, arith}
use Rattle.std.proofs.lemmas.List.{drop_more, drop_all, length-map, get_or-map}
use Rattle.spec_derivations.specs.Derivations.{Derivation, «assumption», by_rule, no_inference}
use Rattle.spec_proof_texts.specs.Plans.{counted, counted_inferences}
use Rattle.term_core.specs.Tables.{TableView}
use Rattle.proof_log.specs.Logs.{Logged, assumed, stepped, no_logged, inference_of, derivation_in}
use Rattle.alethe_writer.specs.Counting.{IsNextNumber, IsNextOf}

counted_one : (n m : ℕ) (b : Bool) (o : Option ℕ) (bs : List Bool) → IsNextNumber n b o m → counted n (b ∷ bs) ≡ o ∷ counted m bs
counted_one n m true o bs h = let e : suc n ≡ m = omega (arith, h.1) in λ i. sym h.0 i ∷ counted (e i) bs
counted_one n m false o bs h = λ i. sym h.0 i ∷ counted (sym h.1 i) bs

pub counted_on : (whole out : List (Option ℕ)) (n m : ℕ) (cs : List Bool) (k : ℕ) (b : Bool) (o : Option ℕ) → k < length cs → b ≡ get_or cs k false → IsNextNumber n b o m → out ++ counted n (drop k cs) ≡ whole → (out ++ o ∷ []) ++ counted m (drop (k + 1) cs) ≡ whole
counted_on whole out n m cs k b o lt is next h =
    let here : drop k cs ≡ b ∷ drop (k + 1) cs = drop_more cs k false lt ∙ ap (λ c. c ∷ drop (k + 1) cs) (sym is) in
    append_assoc out (o ∷ []) (counted m (drop (k + 1) cs)) ∙ ap (λ r. out ++ r) (sym (ap (counted n) here ∙ counted_one n m b o (drop (k + 1) cs) next)) ∙ h

inferences_one : (t : TableView) (l : Logged) (b : Bool) (h s h' s' : ℕ) (o : Option ℕ) (bs : List Bool) (xs : Derivation) → IsNextOf l b h s o h' s' → counted_inferences h s (b ∷ bs) (inference_of t l ∷ xs) ≡ o ∷ counted_inferences h' s' bs xs
inferences_one t (assumed id) true h s h' s' o bs xs k = let e : suc h ≡ h' = omega (arith, k.0.1) in λ i. sym k.0.0 i ∷ counted_inferences (e i) (sym k.1 i) bs xs
inferences_one t (assumed id) false h s h' s' o bs xs k = λ i. sym k.0.0 i ∷ counted_inferences (sym k.0.1 i) (sym k.1 i) bs xs
inferences_one t (stepped r ps qs c) true h s h' s' o bs xs k = let e : suc s ≡ s' = omega (arith, k.0.1) in λ i. sym k.0.0 i ∷ counted_inferences (sym k.1 i) (e i) bs xs
inferences_one t (stepped r ps qs c) false h s h' s' o bs xs k = λ i. sym k.0.0 i ∷ counted_inferences (sym k.1 i) (sym k.0.1 i) bs xs

-- what is left of the log
pub log_left : (t : TableView) (log : List Logged) (k : ℕ) → k < length log → drop k (derivation_in t log) ≡ inference_of t (get_or log k no_logged) ∷ drop (k + 1) (derivation_in t log)
log_left t log k lt = drop_more (derivation_in t log) k no_inference (rw length-map lt) ∙ ap (λ x. x ∷ drop (k + 1) (derivation_in t log)) (get_or-map (inference_of t) log k no_logged no_inference lt)

pub inferences_on : (t : TableView) (whole out : List (Option ℕ)) (h s h' s' : ℕ) (cs : List Bool) (log : List Logged) (k : ℕ) (o : Option ℕ) → k < length cs → k < length log → IsNextOf (get_or log k no_logged) (get_or cs k false) h s o h' s' → out ++ counted_inferences h s (drop k cs) (drop k (derivation_in t log)) ≡ whole → (out ++ o ∷ []) ++ counted_inferences h' s' (drop (k + 1) cs) (drop (k + 1) (derivation_in t log)) ≡ whole
inferences_on t whole out h s h' s' cs log k o lt lt_log next e =
    let marks = drop_more cs k false lt in
    let rest = log_left t log k lt_log in
    let here : counted_inferences h s (drop k cs) (drop k (derivation_in t log)) ≡ o ∷ counted_inferences h' s' (drop (k + 1) cs) (drop (k + 1) (derivation_in t log)) = (λ i. counted_inferences h s (marks i) (rest i)) ∙ inferences_one t (get_or log k no_logged) (get_or cs k false) h s h' s' o (drop (k + 1) cs) (drop (k + 1) (derivation_in t log)) next in
    append_assoc out (o ∷ []) _ ∙ ap (λ r. out ++ r) (sym here) ∙ e

-- nothing is left
pub counted_done : (n : ℕ) (out whole : List (Option ℕ)) (cs : List Bool) (k : ℕ) → length cs ≤ k → out ++ counted n (drop k cs) ≡ whole → out ≡ whole
counted_done n out whole cs k le h = sym (append-nil out) ∙ ap (λ bs. out ++ counted n bs) (sym (drop_all k cs le)) ∙ h

pub inferences_done : (h s : ℕ) (out whole : List (Option ℕ)) (cs : List Bool) (xs : Derivation) (k : ℕ) → length cs ≤ k → out ++ counted_inferences h s (drop k cs) (drop k xs) ≡ whole → out ≡ whole
inferences_done h s out whole cs xs k le e = sym (append-nil out) ∙ ap (λ r. out ++ r) (sym (none (drop k xs))) ∙ ap (λ bs. out ++ counted_inferences h s bs (drop k xs)) (sym (drop_all k cs le)) ∙ e
  where
    none : (ys : Derivation) → counted_inferences h s [] ys ≡ []
    none [] = refl
    none (y ∷ ys) = refl

-- the number to come is no more than one greater
pub next_below : (n : ℕ) (b : Bool) (o : Option ℕ) (m k : ℕ) → IsNextNumber n b o m → n ≤ k → m ≤ k + 1
next_below n true o m k h le = omega (arith, h.1, le)
next_below n false o m k h le = omega (arith, h.1, le)

pub nexts_below : (l : Logged) (b : Bool) (h s : ℕ) (o : Option ℕ) (h' s' k : ℕ) → IsNextOf l b h s o h' s' → h ≤ k → s ≤ k → (h' ≤ k + 1) × (s' ≤ k + 1)
nexts_below (assumed id) b h s o h' s' k e lh ls = (next_below h b o h' k e.0 lh, omega (arith, e.1, ls))
nexts_below (stepped r ps qs c) b h s o h' s' k e lh ls = (omega (arith, e.1, lh), next_below s b o s' k e.0 ls)

-- there are no more numbers than inferences
pub inferences_length : (h s : ℕ) (bs : List Bool) (xs : Derivation) → length (counted_inferences h s bs xs) ≤ length xs
inferences_length h s [] [] = omega arith
inferences_length h s [] (x ∷ xs) = omega arith
inferences_length h s (true ∷ bs) [] = omega arith
inferences_length h s (false ∷ bs) [] = omega arith
inferences_length h s (true ∷ bs) («assumption» u ∷ xs) = omega (arith, inferences_length (suc h) s bs xs)
inferences_length h s (true ∷ bs) (by_rule r ps given c ∷ xs) = omega (arith, inferences_length h (suc s) bs xs)
inferences_length h s (false ∷ bs) (x ∷ xs) = omega (arith, inferences_length h s bs xs)
