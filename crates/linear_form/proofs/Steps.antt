-- One step of each loop over a form's entries.
use Rattle.std.proofs.Common.{◌≡◌, ℕ, ◌+◌, ◌<◌, ◌≤◌, Bool, true, false, List, [], ◌∷◌, ◌++◌, length, take, drop, get_or, Option, Result, Ok, Err, OnOk, IfErr, refl, sym, ◌∙◌, ap, subst, append_assoc}
use Rattle.std.proofs.lemmas.List.{append-nil, drop_all, map-append, get_or_default, take_more}
use Rattle.spec_text.specs.Answers.{◌>>=◌}
use Rattle.spec_numbers.specs.Fractions.{Fraction}
use Rattle.spec_numbers.specs.Bounds.{Overflow}
use Rattle.spec_sorts.specs.Terms.{Term}
use Rattle.spec_arithmetic.specs.Signs.{is_zero}
use Rattle.spec_arithmetic.specs.Forms.{Answer, Way, unless_zero, with_variable, joined, all_joined, each_number}
use Rattle.ratio128.specs.declared.ratio.Ratio.{Ratio}
use Rattle.ratio128.specs.Meant.{fraction}
use Rattle.term_core.specs.declared.ids.TermId.{TermId}
use Rattle.term_core.specs.Tables.{TableView, term_at, IsIn}
use Rattle.linear_form.specs.declared.stop.FormStop.{FormStop}
use Rattle.linear_form.specs.declared.stop.FormStop.TheVariants as stops
use Rattle.linear_form.specs.Meant.{pair_meant}
use Rattle.linear_form.specs.Entries.{live, variables_meant, HasVariables, LacksNumber, IsIndex}
use Rattle.linear_form.specs.Making.{Comes, with_front}
use Rattle.linear_form.proofs.Indexes.{live-append, live_one, live_none, list_at, left_at, lacks-append, lacks-first, lacks-second, before_lacks}
use Rattle.linear_form.proofs.Joining.{fails_memory, has_first, has_parts}

pub comes_as : {A : Type 0} (a b : Answer A) (r : Result (Unit {0}) FormStop) (new : A) → a ≡ b → Comes b r new → Comes a r new
comes_as a b r new e h = subst (λ x. Comes x r new) (sym e) h

-- ---- entries at places

-- what is live of what is left
pub live_left : (ps : List (TermId × Ratio)) (at : ℕ) (p : TermId × Ratio) → at < length ps → p ≡ get_or ps at p → live (drop at ps) ≡ live (p ∷ []) ++ live (drop (at + 1) ps)
live_left ps at p lt e = ap live (left_at ps at p lt e) ∙ live-append (p ∷ []) (drop (at + 1) ps)

pub meant_left : (t : TableView) (ps : List (TermId × Ratio)) (at : ℕ) (p : TermId × Ratio) → at < length ps → p ≡ get_or ps at p → variables_meant t (live (drop at ps)) ≡ variables_meant t (live (p ∷ [])) ++ variables_meant t (live (drop (at + 1) ps))
meant_left t ps at p lt e = ap (variables_meant t) (live_left ps at p lt e) ∙ map-append (pair_meant t) (live (p ∷ [])) (live (drop (at + 1) ps))

pub has_at : (t : TableView) (ps : List (TermId × Ratio)) (at : ℕ) (p : TermId × Ratio) → at < length ps → p ≡ get_or ps at p → HasVariables t (live ps) → HasVariables t (live (p ∷ []))
has_at t ps at p lt e has =
    let whole : live ps ≡ live (take at ps) ++ (live (p ∷ []) ++ live (drop (at + 1) ps)) =
    ap live (list_at ps at p lt e) ∙ live-append (take at ps) (p ∷ drop (at + 1) ps) ∙ ap (λ l. live (take at ps) ++ l) (live-append (p ∷ []) (drop (at + 1) ps)) in
    (has_parts t (live (p ∷ [])) (live (drop (at + 1) ps)) (has_parts t (live (take at ps)) (live (p ∷ []) ++ live (drop (at + 1) ps)) (subst (HasVariables t) whole has)).1).0

pub live_taken : (ps : List (TermId × Ratio)) (at : ℕ) (p : TermId × Ratio) → at < length ps → p ≡ get_or ps at p → live (take (at + 1) ps) ≡ live (take at ps) ++ live (p ∷ [])
live_taken ps at p lt e = ap live (take_more ps at p lt ∙ (λ i. take at ps ++ sym e i ∷ [])) ∙ live-append (take at ps) (p ∷ [])

-- ---- joining

all_joined-append : (way : Way) (es xs ys : List (Term × Fraction)) → all_joined way es (xs ++ ys) ≡ (all_joined way es xs >>= λ r. all_joined way r ys)
unfolding all_joined ◌>>=◌
all_joined-append way es [] ys = refl
all_joined-append way es ((v, k) ∷ xs) ys = by (joined way v k es) (λ r. all_joined-append way r xs ys)
  where
    by : (a : Answer (List (Term × Fraction))) → ((r : List (Term × Fraction)) → all_joined way r (xs ++ ys) ≡ (all_joined way r xs >>= λ r. all_joined way r ys))
        → (a >>= λ r. all_joined way r (xs ++ ys)) ≡ ((a >>= λ r. all_joined way r xs) >>= λ r. all_joined way r ys)
    by (Ok r) h = h r
    by (Err w) h = refl

pub join_more : (t : TableView) (way : Way) (es new : List (Term × Fraction)) (ps : List (TermId × Ratio)) (at : ℕ) (p : TermId × Ratio) → at < length ps → p ≡ get_or ps at p
    → all_joined way es (variables_meant t (live (p ∷ []))) ≡ Ok new → all_joined way es (variables_meant t (live (drop at ps))) ≡ all_joined way new (variables_meant t (live (drop (at + 1) ps)))
unfolding ◌>>=◌
join_more t way es new ps at p lt e f =
    ap (all_joined way es) (meant_left t ps at p lt e) ∙ all_joined-append way es (variables_meant t (live (p ∷ []))) (variables_meant t (live (drop (at + 1) ps)))
    ∙ ap (λ a. a >>= λ r. all_joined way r (variables_meant t (live (drop (at + 1) ps)))) f

pub join_err : (t : TableView) (way : Way) (es : List (Term × Fraction)) (ps : List (TermId × Ratio)) (at : ℕ) (p : TermId × Ratio) (w : Overflow) → at < length ps → p ≡ get_or ps at p
    → all_joined way es (variables_meant t (live (p ∷ []))) ≡ Err w → all_joined way es (variables_meant t (live (drop at ps))) ≡ Err w
unfolding ◌>>=◌
join_err t way es ps at p w lt e f =
    ap (all_joined way es) (meant_left t ps at p lt e) ∙ all_joined-append way es (variables_meant t (live (p ∷ []))) (variables_meant t (live (drop (at + 1) ps)))
    ∙ ap (λ a. a >>= λ r. all_joined way r (variables_meant t (live (drop (at + 1) ps)))) f

pub join_none : (t : TableView) (way : Way) (es : List (Term × Fraction)) (ps : List (TermId × Ratio)) (at : ℕ) → length ps ≤ at → all_joined way es (variables_meant t (live (drop at ps))) ≡ Ok es
unfolding all_joined
join_none t way es ps at h = ap (λ l. all_joined way es (variables_meant t (live l))) (drop_all at ps h)

pub joined_dead : (t : TableView) (way : Way) (es : List (Term × Fraction)) (p : TermId × Ratio) → is_zero (fraction p.1) ≡ true → all_joined way es (variables_meant t (live (p ∷ []))) ≡ Ok es
unfolding all_joined
joined_dead t way es p e = ap (λ vs. all_joined way es (variables_meant t vs)) (live_none p.0 p.1 e)

pub joined_one : (t : TableView) (way : Way) (es : List (Term × Fraction)) (p : TermId × Ratio) → is_zero (fraction p.1) ≡ false → all_joined way es (variables_meant t (live (p ∷ []))) ≡ joined way (term_at t p.0) (fraction p.1) es
unfolding all_joined ◌>>=◌
joined_one t way es p e = ap (λ vs. all_joined way es (variables_meant t vs)) (live_one p.0 p.1 e) ∙ by (joined way (term_at t p.0) (fraction p.1) es)
  where
    by : (a : Answer (List (Term × Fraction))) → (a >>= λ r. Ok r) ≡ a
    by (Ok r) = refl
    by (Err w) = refl

pub has_one : (t : TableView) (p : TermId × Ratio) → is_zero (fraction p.1) ≡ false → HasVariables t (live (p ∷ [])) → IsIn t p.0
has_one t p e has = has_first t (p.0, fraction p.1) [] (subst (HasVariables t) (live_one p.0 p.1 e) has)

-- ---- changing

front_nil : {A : Type 0} (r : Answer (List A)) → with_front [] r ≡ r
front_nil (Ok xs) = refl
front_nil (Err w) = refl

zero_front : (b : Bool) (v : Term) (m : Fraction) (r s : List (Term × Fraction)) → unless_zero b v m (r ++ s) ≡ unless_zero b v m r ++ s
zero_front true v m r s = refl
zero_front false v m r s = refl

each-append : (change : Fraction → Answer Fraction) (xs ys : List (Term × Fraction)) → each_number change (xs ++ ys) ≡ (each_number change xs >>= λ r. with_front r (each_number change ys))
unfolding each_number ◌>>=◌
each-append change [] ys = sym (front_nil (each_number change ys))
each-append change ((v, k) ∷ xs) ys = by (change k) (each-append change xs ys)
  where
    last : (m : Fraction) (r : List (Term × Fraction)) (b : Answer (List (Term × Fraction))) → (with_front r b >>= λ r. Ok (with_variable v m r)) ≡ with_front (with_variable v m r) b
    last m r (Ok s) = ap Ok (zero_front (is_zero m) v m r s)
    last m r (Err w) = refl

    inner : (m : Fraction) (a b : Answer (List (Term × Fraction))) → ((a >>= λ r. with_front r b) >>= λ r. Ok (with_variable v m r)) ≡ ((a >>= λ r. Ok (with_variable v m r)) >>= λ r. with_front r b)
    inner m (Ok r) b = last m r b
    inner m (Err w) b = refl

    by : (c : Answer Fraction) → each_number change (xs ++ ys) ≡ (each_number change xs >>= λ r. with_front r (each_number change ys))
        → (c >>= λ m. each_number change (xs ++ ys) >>= λ r. Ok (with_variable v m r)) ≡ ((c >>= λ m. each_number change xs >>= λ r. Ok (with_variable v m r)) >>= λ r. with_front r (each_number change ys))
    by (Err w) h = refl
    by (Ok m) h = ap (λ a. a >>= λ r. Ok (with_variable v m r)) h ∙ inner m (each_number change xs) (each_number change ys)

front_ok : {A : Type 0} (es new : List A) (a b : Answer (List A)) → with_front es a ≡ Ok new → with_front es (a >>= λ r. with_front r b) ≡ with_front new b
unfolding ◌>>=◌
front_ok {A = A} es new (Ok r) b e = by b (let f : es ++ r ≡ new = cc in f)
  where
    by : (b : Answer (List A)) → es ++ r ≡ new → with_front es (with_front r b) ≡ with_front new b
    by (Ok s) f = ap Ok (sym (append_assoc es r s) ∙ ap (λ l. l ++ s) f)
    by (Err w) f = refl
front_ok {A = A} es new (Err w) b e = cc

front_err : {A : Type 0} (es : List A) (w : Overflow) (a b : Answer (List A)) → with_front es a ≡ Err w → with_front es (a >>= λ r. with_front r b) ≡ Err w
unfolding ◌>>=◌
front_err es w (Ok r) b e = cc
front_err es w (Err v) b e = e

pub change_more : (t : TableView) (change : Fraction → Answer Fraction) (es new : List (Term × Fraction)) (ps : List (TermId × Ratio)) (at : ℕ) (p : TermId × Ratio) → at < length ps → p ≡ get_or ps at p
    → with_front es (each_number change (variables_meant t (live (p ∷ [])))) ≡ Ok new
    → with_front es (each_number change (variables_meant t (live (drop at ps)))) ≡ with_front new (each_number change (variables_meant t (live (drop (at + 1) ps))))
change_more t change es new ps at p lt e f =
    ap (λ l. with_front es (each_number change l)) (meant_left t ps at p lt e) ∙ ap (with_front es) (each-append change (variables_meant t (live (p ∷ []))) (variables_meant t (live (drop (at + 1) ps))))
    ∙ front_ok es new (each_number change (variables_meant t (live (p ∷ [])))) (each_number change (variables_meant t (live (drop (at + 1) ps)))) f

pub change_err : (t : TableView) (change : Fraction → Answer Fraction) (es : List (Term × Fraction)) (ps : List (TermId × Ratio)) (at : ℕ) (p : TermId × Ratio) (w : Overflow) → at < length ps → p ≡ get_or ps at p
    → with_front es (each_number change (variables_meant t (live (p ∷ [])))) ≡ Err w
    → with_front es (each_number change (variables_meant t (live (drop at ps)))) ≡ Err w
change_err t change es ps at p w lt e f =
    ap (λ l. with_front es (each_number change l)) (meant_left t ps at p lt e) ∙ ap (with_front es) (each-append change (variables_meant t (live (p ∷ []))) (variables_meant t (live (drop (at + 1) ps))))
    ∙ front_err es w (each_number change (variables_meant t (live (p ∷ [])))) (each_number change (variables_meant t (live (drop (at + 1) ps)))) f

pub change_none : (t : TableView) (change : Fraction → Answer Fraction) (es : List (Term × Fraction)) (ps : List (TermId × Ratio)) (at : ℕ) → length ps ≤ at → with_front es (each_number change (variables_meant t (live (drop at ps)))) ≡ Ok es
unfolding each_number
change_none t change es ps at h = ap (λ l. with_front es (each_number change (variables_meant t (live l)))) (drop_all at ps h) ∙ ap Ok (append-nil es)

pub change_first : (t : TableView) (change : Fraction → Answer Fraction) (es ps : List (TermId × Ratio)) → es ≡ [] → each_number change (variables_meant t (live ps)) ≡ with_front (variables_meant t (live es)) (each_number change (variables_meant t (live ps)))
change_first t change es ps e = sym (ap (λ l. with_front (variables_meant t (live l)) (each_number change (variables_meant t (live ps)))) e ∙ front_nil (each_number change (variables_meant t (live ps))))

-- of one entry
each_one : (t : TableView) (change : Fraction → Answer Fraction) (p : TermId × Ratio) (a : Answer Fraction) → is_zero (fraction p.1) ≡ false → change (fraction p.1) ≡ a
    → each_number change (variables_meant t (live (p ∷ []))) ≡ (a >>= λ m. Ok (with_variable (term_at t p.0) m []))
unfolding each_number ◌>>=◌
each_one t change p a e f =
    ap (λ vs. each_number change (variables_meant t vs)) (live_one p.0 p.1 e) ∙ ap (λ x. x >>= λ m. Ok (with_variable (term_at t p.0) m [])) f

pub changed_dead : (t : TableView) (change : Fraction → Answer Fraction) (es : List (Term × Fraction)) (p : TermId × Ratio) → is_zero (fraction p.1) ≡ true → with_front es (each_number change (variables_meant t (live (p ∷ [])))) ≡ Ok es
unfolding each_number
changed_dead t change es p e = ap (λ vs. with_front es (each_number change (variables_meant t vs))) (live_none p.0 p.1 e) ∙ ap Ok (append-nil es)

pub changed_wide : (t : TableView) (change : Fraction → Answer Fraction) (es : List (Term × Fraction)) (p : TermId × Ratio) (w : Overflow) → is_zero (fraction p.1) ≡ false → change (fraction p.1) ≡ Err w
    → with_front es (each_number change (variables_meant t (live (p ∷ [])))) ≡ Err w
unfolding ◌>>=◌
changed_wide t change es p w e f = ap (with_front es) (each_one t change p (Err w) e f)

pub changed_zero : (t : TableView) (change : Fraction → Answer Fraction) (es : List (Term × Fraction)) (p : TermId × Ratio) (m : Fraction) → is_zero (fraction p.1) ≡ false → change (fraction p.1) ≡ Ok m → is_zero m ≡ true
    → with_front es (each_number change (variables_meant t (live (p ∷ [])))) ≡ Ok es
unfolding ◌>>=◌
changed_zero t change es p m e f z = ap (with_front es) (each_one t change p (Ok m) e f) ∙ ap (λ b. with_front es (let r : Answer (List (Term × Fraction)) = Ok (unless_zero b (term_at t p.0) m []) in r)) z ∙ ap Ok (append-nil es)

pub changed_number : (t : TableView) (change : Fraction → Answer Fraction) (es new : List (TermId × Ratio)) (p : TermId × Ratio) (m : Ratio) (r : Result (Unit {0}) FormStop) → is_zero (fraction p.1) ≡ false → change (fraction p.1) ≡ Ok (fraction m)
    → is_zero (fraction m) ≡ false → OnOk r (new ≡ es ++ (p.0, m) ∷ []) → IfErr r (λ e. e ≡ stops.Memory)
    → Comes (with_front (variables_meant t (live es)) (each_number change (variables_meant t (live (p ∷ []))))) r (variables_meant t (live new))
unfolding ◌>>=◌
changed_number t change es new p m (Ok u) e f z pushed memory =
    ap (with_front (variables_meant t (live es))) (each_one t change p (Ok (fraction m)) e f)
    ∙ ap (λ b. with_front (variables_meant t (live es)) (let r : Answer (List (Term × Fraction)) = Ok (unless_zero b (term_at t p.0) (fraction m) []) in r)) z
    ∙ ap Ok (sym (ap (λ l. variables_meant t (live l)) pushed ∙ ap (variables_meant t) (live-append es ((p.0, m) ∷ []) ∙ ap (λ l. live es ++ l) (live_one p.0 m z)) ∙ map-append (pair_meant t) (live es) ((p.0, fraction m) ∷ [])))
changed_number t change es new p m (Err s) e f z pushed memory = fails_memory (with_front (variables_meant t (live es)) (each_number change (variables_meant t (live (p ∷ []))))) s memory

pub lacks_push : (es new : List (TermId × Ratio)) (p : TermId × Ratio) (m : Ratio) (q : ℕ) → is_zero (fraction p.1) ≡ false → is_zero (fraction m) ≡ false → new ≡ es ++ (p.0, m) ∷ [] → LacksNumber q (live es) → LacksNumber q (live (p ∷ [])) → LacksNumber q (live new)
lacks_push es new p m q e z pushed h k =
    subst (LacksNumber q) (sym (ap live pushed ∙ live-append es ((p.0, m) ∷ []) ∙ ap (λ l. live es ++ l) (live_one p.0 m z)))
    (lacks-append q (live es) ((p.0, fraction m) ∷ []) h ((subst (LacksNumber q) (live_one p.0 p.1 e) k).0, tt))

pub lacks_here : (g : ℕ → Option ℕ) (ps : List (TermId × Ratio)) (at : ℕ) (p : TermId × Ratio) → IsIndex g ps → at < length ps → p ≡ get_or ps at p → is_zero (fraction p.1) ≡ false → LacksNumber p.0.0 (live (take at ps))
lacks_here g ps at p i lt e z = before_lacks g ps p.0.0 at i (record {
  within = lt;
  same = λ d. ap (λ (r : TermId × Ratio). r.0.0) (get_or_default ps at d p lt ∙ sym e);
  not_zero = λ d. subst (λ (r : TermId × Ratio). is_zero (fraction r.1) ≡ false) (sym (get_or_default ps at d p lt ∙ sym e)) z;
})

pub lacks_taken : (ps : List (TermId × Ratio)) (at : ℕ) (p : TermId × Ratio) (q : ℕ) → at < length ps → p ≡ get_or ps at p → LacksNumber q (live (take (at + 1) ps)) → LacksNumber q (live (take at ps)) × LacksNumber q (live (p ∷ []))
lacks_taken ps at p q lt e h =
    let both = subst (LacksNumber q) (live_taken ps at p lt e) h in
    (lacks-first q (live (take at ps)) (live (p ∷ [])) both, lacks-second q (live (take at ps)) (live (p ∷ [])) both)
