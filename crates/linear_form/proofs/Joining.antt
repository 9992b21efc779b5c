-- What joining does at the place of a variable, and where there is none.
use Rattle.std.proofs.Common.{◌≡◌, ℕ, suc, ◌+◌, ◌<◌, Bool, true, false, List, [], ◌∷◌, ◌++◌, length, take, drop, get_or, Result, Ok, Err, OnOk, IfErr, IsErrAnd, refl, sym, ◌∙◌, ap, subst, arith}
use Rattle.std.proofs.Math.ListN.{set}
use Rattle.std.proofs.lemmas.List.{map-append}
use Rattle.std.proofs.lemmas.List.Elements.{All-append, All-cons}
use Rattle.spec_text.specs.Answers.{◌>>=◌}
use Rattle.spec_numbers.specs.Fractions.{Fraction}
use Rattle.spec_numbers.specs.Bounds.{Overflow}
use Rattle.spec_sorts.specs.Terms.{Term, same_term}
use Rattle.spec_sorts.proofs.SameTerms.{terms_decide}
use Rattle.spec_arithmetic.specs.Signs.{is_zero}
use Rattle.spec_arithmetic.specs.Forms.{Answer, Way, unless_zero, with_variable, joined}
use Rattle.spec_arithmetic.proofs.Zero.{opposite-not_zero}
use Rattle.ratio128.specs.declared.ratio.Ratio.{Ratio}
use Rattle.ratio128.specs.Meant.{fraction, overflow}
use Rattle.term_core.specs.declared.ids.TermId.{TermId}
use Rattle.term_core.specs.Tables.{TableView, term_at, IsIn, AreDifferent}
use Rattle.linear_form.specs.declared.entries.FormJoin.{FormJoin as CodeWay}
use Rattle.linear_form.specs.declared.entries.FormJoin.TheVariants as ways
use Rattle.linear_form.specs.declared.stop.FormStop.{FormStop}
use Rattle.linear_form.specs.declared.stop.FormStop.TheVariants as stops
use Rattle.linear_form.specs.Meant.{pair_meant}
use Rattle.linear_form.specs.Entries.{unless_dead, live, variables_meant, HasVariables, LacksNumber, IsLiveAt}
use Rattle.linear_form.specs.Making.{way_meant, FailsBy, Comes, ReturnsMade}
use Rattle.linear_form.proofs.Indexes.{live-append, list_at, set_at, own_id}

-- ---- why nothing comes

pub fails_on : {A B : Type 0} (a : Answer A) (b : Answer B) (s : FormStop) → ((w : Overflow) → b ≡ Err w → a ≡ Err w) → FailsBy b s → FailsBy a s
fails_on a b (stops.Wide w) h e = h (overflow w) e
fails_on a b stops.Memory h e = tt

pub fails_memory : {A : Type 0} (a : Answer A) (s : FormStop) → s ≡ stops.Memory → FailsBy a s
fails_memory a s e = subst (FailsBy a) (sym e) tt

pub comes_err : {A : Type 0} (a : Answer A) (r : Result (Unit {0}) FormStop) (s : FormStop) (new : A) → FailsBy a s → IsErrAnd r (λ e. e ≡ s) → Comes a r new
comes_err a (Ok u) s new f is = absurd is
comes_err a (Err e) s new f is = subst (FailsBy a) (sym is) f

pub makes_err : {A B : Type 0} (a : Answer A) (r : Result B FormStop) (s : FormStop) (meant : B → A) → FailsBy a s → IsErrAnd r (λ e. e ≡ s) → ReturnsMade a r meant
makes_err a (Ok u) s meant f is = absurd is
makes_err a (Err e) s meant f is = subst (FailsBy a) (sym is) f

-- ---- a variable among others

pub alone_not_zero : (way : CodeWay) (k : Fraction) → is_zero k ≡ false → is_zero ((way_meant way).alone k) ≡ false
alone_not_zero ways.Adding k e = e
alone_not_zero ways.Subtracting k e = opposite-not_zero k e

-- the variable is none of these
abbrev pub Lacks : Term → List (Term × Fraction) → Type 0
Lacks v [] = Unit {0}
Lacks v ((w, m) ∷ rest) = (same_term v w ≡ false) × Lacks v rest

joined_else : (way : Way) (v : Term) (k : Fraction) (w : Term) (m : Fraction) (rest : List (Term × Fraction)) → same_term v w ≡ false → joined way v k ((w, m) ∷ rest) ≡ (joined way v k rest >>= λ r. Ok ((w, m) ∷ r))
unfolding joined
joined_else way v k w m rest e = ap {A = Bool} {B = Answer (List (Term × Fraction))} (λ b. elim b [
  | true ↦ way.both m k >>= λ s. Ok (with_variable w s rest)
  | false ↦ joined way v k rest >>= λ r. Ok ((w, m) ∷ r)
]) e

joined_here : (way : Way) (v : Term) (k : Fraction) (w : Term) (m : Fraction) (rest : List (Term × Fraction)) → same_term v w ≡ true → joined way v k ((w, m) ∷ rest) ≡ (way.both m k >>= λ s. Ok (with_variable w s rest))
unfolding joined
joined_here way v k w m rest e = ap {A = Bool} {B = Answer (List (Term × Fraction))} (λ b. elim b [
  | true ↦ way.both m k >>= λ s. Ok (with_variable w s rest)
  | false ↦ joined way v k rest >>= λ r. Ok ((w, m) ∷ r)
]) e

pub joined_lacks : (way : Way) (v : Term) (k : Fraction) (qs : List (Term × Fraction)) → Lacks v qs → joined way v k qs ≡ Ok (qs ++ (v, way.alone k) ∷ [])
unfolding joined ◌>>=◌
joined_lacks way v k [] h = refl
joined_lacks way v k ((w, m) ∷ rest) h = joined_else way v k w m rest h.0 ∙ ap (λ a. a >>= λ r. Ok ((w, m) ∷ r)) (joined_lacks way v k rest h.1)

bind_twice : {A B C : Type 0} (a : Answer A) (f : A → B) (g : B → C) → ((a >>= λ x. Ok (f x)) >>= λ y. Ok (g y)) ≡ (a >>= λ x. Ok (g (f x)))
unfolding ◌>>=◌
bind_twice (Ok a) f g = refl
bind_twice (Err w) f g = refl

pub joined_at : (way : Way) (v : Term) (k : Fraction) (front : List (Term × Fraction)) (w : Term) (m : Fraction) (rest : List (Term × Fraction)) → Lacks v front → same_term v w ≡ true
    → joined way v k (front ++ (w, m) ∷ rest) ≡ (way.both m k >>= λ s. Ok (front ++ with_variable w s rest))
joined_at way v k [] w m rest h e = joined_here way v k w m rest e
joined_at way v k ((u, j) ∷ front) w m rest h e =
    joined_else way v k u j (front ++ (w, m) ∷ rest) h.0
    ∙ ap (λ a. a >>= λ r. Ok ((u, j) ∷ r)) (joined_at way v k front w m rest h.1 e)
    ∙ bind_twice (way.both m k) (λ s. front ++ with_variable w s rest) (λ r. (u, j) ∷ r)

-- of numbers of a table
other_term : (t : TableView) (a b : TermId) → AreDifferent t.terms → IsIn t a → IsIn t b → (b.0 ≡ a.0 → ⊥) → same_term (term_at t a) (term_at t b) ≡ false
other_term t a b d ha hb n = by (same_term (term_at t a) (term_at t b)) refl
  where
    by : (x : Bool) → same_term (term_at t a) (term_at t b) ≡ x → same_term (term_at t a) (term_at t b) ≡ false
    by false e = e
    by true e = absurd (n (sym (d a.0 b.0 ha hb ((terms_decide (term_at t a) (term_at t b)).0 e))))

pub has_first : (t : TableView) (p : TermId × Fraction) (vs : List (TermId × Fraction)) → HasVariables t (p ∷ vs) → IsIn t p.0
has_first t p vs h = h 0 p (omega arith)

pub has_rest : (t : TableView) (p : TermId × Fraction) (vs : List (TermId × Fraction)) → HasVariables t (p ∷ vs) → HasVariables t vs
has_rest t p vs h = λ j d lt. h (suc j) d (omega (arith, lt))

pub has_none : (t : TableView) → HasVariables t []
has_none t = λ j d lt. absurd (omega (arith, lt))

pub has_append : (t : TableView) (xs ys : List (TermId × Fraction)) → HasVariables t xs → HasVariables t ys → HasVariables t (xs ++ ys)
has_append t xs ys h k = All-append (λ (p : TermId × Fraction). IsIn t p.0) xs ys h k

pub has_parts : (t : TableView) (xs ys : List (TermId × Fraction)) → HasVariables t (xs ++ ys) → HasVariables t xs × HasVariables t ys
has_parts t [] ys h = (has_none t, h)
has_parts t (x ∷ xs) ys h =
    let more = has_parts t xs ys (has_rest t x (xs ++ ys) h) in
    (All-cons (λ (p : TermId × Fraction). IsIn t p.0) x xs (has_first t x (xs ++ ys) h) more.0, more.1)

pub lacks_meant : (t : TableView) (id : TermId) (vs : List (TermId × Fraction)) → AreDifferent t.terms → IsIn t id → HasVariables t vs → LacksNumber id.0 vs → Lacks (term_at t id) (variables_meant t vs)
lacks_meant t id [] d h n l = tt
lacks_meant t id (p ∷ vs) d h n l = (other_term t id p.0 d h (has_first t p vs n) l.0, lacks_meant t id vs d h (has_rest t p vs n) l.1)

pub dead_meant : (t : TableView) (b : Bool) (id : TermId) (k : Fraction) (rest : List (TermId × Fraction)) → variables_meant t (unless_dead b id k rest) ≡ unless_zero b (term_at t id) k (variables_meant t rest)
dead_meant t true id k rest = refl
dead_meant t false id k rest = refl

-- ---- an entry that is joined to a live one

-- the live entries by one of them
live_by : (id : TermId) (ps : List (TermId × Ratio)) (at : ℕ) (p : TermId × Ratio) → IsLiveAt id.0 ps at → p ≡ get_or ps at p → live ps ≡ live (take at ps) ++ (id, fraction p.1) ∷ live (drop (at + 1) ps)
live_by id ps at p l e =
    ap live (list_at ps at p l.within e) ∙ live-append (take at ps) (p ∷ drop (at + 1) ps)
    ∙ ap (λ b. live (take at ps) ++ unless_dead b p.0 (fraction p.1) (live (drop (at + 1) ps))) (subst (λ (q : TermId × Ratio). is_zero (fraction q.1) ≡ false) (sym e) (l.not_zero p))
    ∙ ap (λ v. live (take at ps) ++ (v, fraction p.1) ∷ live (drop (at + 1) ps)) (own_id id ps at p e l)

live_set : (id : TermId) (s : Ratio) (ps : List (TermId × Ratio)) (at : ℕ) → at < length ps → live (set ps at (id, s)) ≡ live (take at ps) ++ unless_dead (is_zero (fraction s)) id (fraction s) (live (drop (at + 1) ps))
live_set id s ps at lt = ap live (set_at ps at (id, s) lt) ∙ live-append (take at ps) ((id, s) ∷ drop (at + 1) ps)

module _ (t : TableView) (way : Way) (id : TermId) (k : Fraction) (ps : List (TermId × Ratio)) (at : ℕ) (p : TermId × Ratio) (l : IsLiveAt id.0 ps at) (e : p ≡ get_or ps at p) (lacks : LacksNumber id.0 (live (take at ps))) (d : AreDifferent t.terms) (there : IsIn t id) (has : HasVariables t (live ps)) where
  found : joined way (term_at t id) k (variables_meant t (live ps)) ≡ (way.both (fraction p.1) k >>= λ s. Ok (variables_meant t (live (take at ps)) ++ with_variable (term_at t id) s (variables_meant t (live (drop (at + 1) ps)))))
  found =
      ap (λ vs. joined way (term_at t id) k (variables_meant t vs)) (live_by id ps at p l e)
      ∙ ap (joined way (term_at t id) k) (map-append (pair_meant t) (live (take at ps)) ((id, fraction p.1) ∷ live (drop (at + 1) ps)))
      ∙ joined_at way (term_at t id) k (variables_meant t (live (take at ps))) (term_at t id) (fraction p.1) (variables_meant t (live (drop (at + 1) ps)))
      (lacks_meant t id (live (take at ps)) d there (has_parts t (live (take at ps)) ((id, fraction p.1) ∷ live (drop (at + 1) ps)) (subst (HasVariables t) (live_by id ps at p l e) has)).0 lacks)
      ((terms_decide (term_at t id) (term_at t id)).1 refl)

  pub found_ok : (s : Ratio) (new : List (TermId × Ratio)) → way.both (fraction p.1) k ≡ Ok (fraction s) → new ≡ set ps at (id, s) → joined way (term_at t id) k (variables_meant t (live ps)) ≡ Ok (variables_meant t (live new))
  unfolding ◌>>=◌
  found_ok s new f g =
      found ∙ ap (λ x. x >>= λ s. Ok (variables_meant t (live (take at ps)) ++ with_variable (term_at t id) s (variables_meant t (live (drop (at + 1) ps))))) f
      ∙ ap Ok (ap (λ x. variables_meant t (live (take at ps)) ++ x) (sym (dead_meant t (is_zero (fraction s)) id (fraction s) (live (drop (at + 1) ps))))
      ∙ sym (map-append (pair_meant t) (live (take at ps)) (unless_dead (is_zero (fraction s)) id (fraction s) (live (drop (at + 1) ps))))
      ∙ ap (variables_meant t) (sym (ap live g ∙ live_set id s ps at l.within)))

  pub found_err : (w : Overflow) → way.both (fraction p.1) k ≡ Err w → joined way (term_at t id) k (variables_meant t (live ps)) ≡ Err w
  unfolding ◌>>=◌
  found_err w f = found ∙ ap (λ x. x >>= λ s. Ok (variables_meant t (live (take at ps)) ++ with_variable (term_at t id) s (variables_meant t (live (drop (at + 1) ps))))) f

-- the variables stay those of the table
pub has_set : (t : TableView) (id : TermId) (s : Ratio) (ps : List (TermId × Ratio)) (at : ℕ) (p : TermId × Ratio) → IsLiveAt id.0 ps at → p ≡ get_or ps at p → HasVariables t (live ps) → HasVariables t (live (set ps at (id, s)))
has_set t id s ps at p l e has =
    let parts = has_parts t (live (take at ps)) ((id, fraction p.1) ∷ live (drop (at + 1) ps)) (subst (HasVariables t) (live_by id ps at p l e) has) in
    subst (HasVariables t) (sym (live_set id s ps at l.within)) (has_append t (live (take at ps)) (unless_dead (is_zero (fraction s)) id (fraction s) (live (drop (at + 1) ps))) parts.0
    (by (is_zero (fraction s)) (has_first t (id, fraction p.1) (live (drop (at + 1) ps)) parts.1) (has_rest t (id, fraction p.1) (live (drop (at + 1) ps)) parts.1)))
  where
    by : (b : Bool) → IsIn t id → HasVariables t (live (drop (at + 1) ps)) → HasVariables t (unless_dead b id (fraction s) (live (drop (at + 1) ps)))
    by true h k = k
    by false h k = All-cons (λ (p : TermId × Fraction). IsIn t p.0) (id, fraction s) (live (drop (at + 1) ps)) h k

-- where there is none, it comes last
pub lacking : (t : TableView) (way : Way) (id : TermId) (k : Fraction) (a : Ratio) (ps new : List (TermId × Ratio)) → LacksNumber id.0 (live ps) → is_zero (fraction a) ≡ false → fraction a ≡ way.alone k → new ≡ ps ++ (id, a) ∷ []
    → AreDifferent t.terms → IsIn t id → HasVariables t (live ps) → joined way (term_at t id) k (variables_meant t (live ps)) ≡ Ok (variables_meant t (live new))
lacking t way id k a ps new l n e f d there has =
    joined_lacks way (term_at t id) k (variables_meant t (live ps)) (lacks_meant t id (live ps) d there has l)
    ∙ ap Ok ((λ i. variables_meant t (live ps) ++ (term_at t id, sym e i) ∷ []) ∙ sym (map-append (pair_meant t) (live ps) ((id, fraction a) ∷ [])) ∙ ap (variables_meant t) (sym (live_push ps new id a n f)))
  where
    live_push : (ps new : List (TermId × Ratio)) (id : TermId) (a : Ratio) → is_zero (fraction a) ≡ false → new ≡ ps ++ (id, a) ∷ [] → live new ≡ live ps ++ (id, fraction a) ∷ []
    live_push ps new id a n f = ap live f ∙ live-append ps ((id, a) ∷ []) ∙ ap (λ b. live ps ++ unless_dead b id (fraction a) []) n

-- the same by the result of the code's push
pub lacking_comes : (t : TableView) (way : Way) (id : TermId) (k : Fraction) (a : Ratio) (ps new : List (TermId × Ratio)) (r : Result (Unit {0}) FormStop) → OnOk r (new ≡ ps ++ (id, a) ∷ []) → IfErr r (λ e. e ≡ stops.Memory)
    → LacksNumber id.0 (live ps) → is_zero (fraction a) ≡ false → fraction a ≡ way.alone k → AreDifferent t.terms → IsIn t id → HasVariables t (live ps)
    → Comes (joined way (term_at t id) k (variables_meant t (live ps))) r (variables_meant t (live new))
lacking_comes t way id k a ps new (Ok u) pushed memory l n e d there has = lacking t way id k a ps new l n e pushed d there has
lacking_comes t way id k a ps new (Err s) pushed memory l n e d there has = fails_memory (joined way (term_at t id) k (variables_meant t (live ps))) s memory

pub has_entry : (t : TableView) (id : TermId) (k : Ratio) → IsIn t id → HasVariables t (live ((id, k) ∷ []))
has_entry t id k h = by (is_zero (fraction k))
  where
    by : (b : Bool) → HasVariables t (unless_dead b id (fraction k) [])
    by true = has_none t
    by false = All-cons (λ (p : TermId × Fraction). IsIn t p.0) (id, fraction k) [] h (has_none t)

pub has_push : (t : TableView) (id : TermId) (k : Ratio) (ps new : List (TermId × Ratio)) → new ≡ ps ++ (id, k) ∷ [] → IsIn t id → HasVariables t (live ps) → HasVariables t (live new)
has_push t id k ps new e h has = subst (HasVariables t) (sym (ap live e ∙ live-append ps ((id, k) ∷ []))) (has_append t (live ps) (live ((id, k) ∷ [])) has (has_entry t id k h))
