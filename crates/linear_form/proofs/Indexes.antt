-- Live entries, and the index of them.
use Rattle.std.proofs.Common.{◌≡◌, ◌≢◌, ℕ, zero, suc, ◌+◌, ◌<◌, ◌≤◌, ◌⊎◌, inl, inr, Bool, true, false, List, [], ◌∷◌, ◌++◌, length, take, drop, get_or, Option, Some, None, nat_eq, if◌then◌else◌, refl, sym, ◌∙◌, ap, subst, arith, add-one, length-append, true≢false}
use Rattle.std.proofs.Math.Seq.{drop-cons, get_or-append_seam}
use Rattle.std.proofs.Math.ListN.{set, get_or-append}
use Rattle.std.proofs.lemmas.List.{take-append-drop, set_split, length-take-le, length-set, take_more, take_all, get_or_default, get_or-take, get_or-set_same, get_or-set_other}
use Rattle.std.proofs.lemmas.Bool.{cases_lt, cases_eq}
use Rattle.std.proofs.lemmas.Bool.Decides.{eqb_tells}
use Rattle.std.specs.Map.{lookup}
use Rattle.std.specs.HashMap.{HashMap}
use Rattle.std.specs.HashMap as hash
use Rattle.spec_numbers.specs.Fractions.{Fraction}
use Rattle.spec_arithmetic.specs.Signs.{is_zero}
use Rattle.spec_arithmetic.proofs.General.{same_some}
use Rattle.ratio128.specs.declared.ratio.Ratio.{Ratio}
use Rattle.ratio128.specs.Meant.{fraction}
use Rattle.term_core.specs.declared.ids.TermId.{TermId}
use Rattle.linear_form.specs.Entries.{unless_dead, live, LacksNumber, IsLiveAt, IsIndex, IsKept}

-- entries before others
dead_append : (b : Bool) (v : TermId) (k : Fraction) (xs ys : List (TermId × Fraction)) → unless_dead b v k (xs ++ ys) ≡ unless_dead b v k xs ++ ys
dead_append true v k xs ys = refl
dead_append false v k xs ys = refl

pub live-append : (ps qs : List (TermId × Ratio)) → live (ps ++ qs) ≡ live ps ++ live qs
live-append [] qs = refl
live-append (p ∷ ps) qs = ap (unless_dead (is_zero (fraction p.1)) p.0 (fraction p.1)) (live-append ps qs) ∙ dead_append (is_zero (fraction p.1)) p.0 (fraction p.1) (live ps) (live qs)

pub live_one : (v : TermId) (k : Ratio) → is_zero (fraction k) ≡ false → live ((v, k) ∷ []) ≡ (v, fraction k) ∷ []
live_one v k e = ap (λ b. unless_dead b v (fraction k) []) e

pub live_none : (v : TermId) (k : Ratio) → is_zero (fraction k) ≡ true → live ((v, k) ∷ []) ≡ []
live_none v k e = ap (λ b. unless_dead b v (fraction k) []) e

-- a list by one of its places
pub list_at : {A : Type 0} (ps : List A) (at : ℕ) (p : A) → at < length ps → p ≡ get_or ps at p → ps ≡ take at ps ++ p ∷ drop (at + 1) ps
list_at ps at p lt e = sym (take-append-drop at ps) ∙ ap (λ l. take at ps ++ l) (drop-cons ps at p lt ∙ (λ i. sym e i ∷ drop (sym (add-one at) i) ps))

pub set_at : {A : Type 0} (ps : List A) (at : ℕ) (p : A) → at < length ps → set ps at p ≡ take at ps ++ p ∷ drop (at + 1) ps
set_at ps at p lt = set_split ps at p lt ∙ (λ i. take at ps ++ p ∷ drop (sym (add-one at) i) ps)

pub left_at : {A : Type 0} (ps : List A) (at : ℕ) (p : A) → at < length ps → p ≡ get_or ps at p → drop at ps ≡ p ∷ drop (at + 1) ps
left_at ps at p lt e = drop-cons ps at p lt ∙ (λ i. sym e i ∷ drop (sym (add-one at) i) ps)

-- ---- numbers that are among no variables

pub lacks-append : (q : ℕ) (xs ys : List (TermId × Fraction)) → LacksNumber q xs → LacksNumber q ys → LacksNumber q (xs ++ ys)
lacks-append q [] ys h k = k
lacks-append q (x ∷ xs) ys h k = (h.0, lacks-append q xs ys h.1 k)

pub lacks-first : (q : ℕ) (xs ys : List (TermId × Fraction)) → LacksNumber q (xs ++ ys) → LacksNumber q xs
lacks-first q [] ys h = tt
lacks-first q (x ∷ xs) ys h = (h.0, lacks-first q xs ys h.1)

pub lacks-second : (q : ℕ) (xs ys : List (TermId × Fraction)) → LacksNumber q (xs ++ ys) → LacksNumber q ys
lacks-second q [] ys h = h
lacks-second q (x ∷ xs) ys h = lacks-second q xs ys h.1

live_later : (q : ℕ) (p : TermId × Ratio) (ps : List (TermId × Ratio)) (at : ℕ) → IsLiveAt q ps at → IsLiveAt q (p ∷ ps) (suc at)
live_later q p ps at l = record { within = omega (arith, l.within); same = λ d. l.same d; not_zero = λ d. l.not_zero d }

pub lacks_live : (q : ℕ) (ps : List (TermId × Ratio)) → ((at : ℕ) → IsLiveAt q ps at → ⊥) → LacksNumber q (live ps)
lacks_live q [] h = tt
lacks_live q (p ∷ ps) h = by (is_zero (fraction p.1)) refl (lacks_live q ps (λ at l. h (suc at) (live_later q p ps at l)))
  where
    by : (b : Bool) → is_zero (fraction p.1) ≡ b → LacksNumber q (live ps) → LacksNumber q (unless_dead b p.0 (fraction p.1) (live ps))
    by true e rest = rest
    by false e rest = (λ same. h 0 (record { within = omega arith; same = λ d. same; not_zero = λ d. e }), rest)

lacks_rest : (b : Bool) (q : ℕ) (v : TermId) (k : Fraction) (rest : List (TermId × Fraction)) → LacksNumber q (unless_dead b v k rest) → LacksNumber q rest
lacks_rest true q v k rest h = h
lacks_rest false q v k rest h = h.1

pub not_live : (q : ℕ) (ps : List (TermId × Ratio)) (at : ℕ) → LacksNumber q (live ps) → IsLiveAt q ps at → ⊥
not_live q [] at h l = omega (arith, l.within)
not_live q (p ∷ ps) zero h l = (subst (λ b. LacksNumber q (unless_dead b p.0 (fraction p.1) (live ps))) (l.not_zero p) h).0 (l.same p)
not_live q (p ∷ ps) (suc at) h l = not_live q ps at (lacks_rest (is_zero (fraction p.1)) q p.0 (fraction p.1) (live ps) h)
    (record { within = omega (arith, l.within); same = λ d. l.same d; not_zero = λ d. l.not_zero d })

-- what is at the place of a live entry is of its variable
pub own_id : (id : TermId) (ps : List (TermId × Ratio)) (at : ℕ) (p : TermId × Ratio) → p ≡ get_or ps at p → IsLiveAt id.0 ps at → p.0 ≡ id
own_id id ps at p e l = same_id p.0 id (ap (λ (r : TermId × Ratio). r.0.0) e ∙ l.same p)
  where
    same_id : (a b : TermId) → a.0 ≡ b.0 → a ≡ b
    same_id a b e = λ i. record { 0 = e i }

pub own_live : (q : ℕ) (ps : List (TermId × Ratio)) (at : ℕ) (p : TermId × Ratio) → p ≡ get_or ps at p → IsLiveAt q ps at → IsLiveAt p.0.0 ps at
own_live q ps at p e l = subst (λ n. IsLiveAt n ps at) (sym (ap (λ (r : TermId × Ratio). r.0.0) e ∙ l.same p)) l

-- ---- the index

pub one_place : (g : ℕ → Option ℕ) (ps : List (TermId × Ratio)) (q i j : ℕ) → IsIndex g ps → IsLiveAt q ps i → IsLiveAt q ps j → i ≡ j
one_place g ps q i j h a b = same_some i j (sym (h.tells_all q i a) ∙ h.tells_all q j b)

pub before_lacks : (g : ℕ → Option ℕ) (ps : List (TermId × Ratio)) (q at : ℕ) → IsIndex g ps → IsLiveAt q ps at → LacksNumber q (live (take at ps))
before_lacks g ps q at h l = lacks_live q (take at ps) earlier
  where
    earlier : (j : ℕ) → IsLiveAt q (take at ps) j → ⊥
    earlier j k =
        let lt : j < at = omega (arith, k.within, length-take-le at ps (let w = l.within in omega (arith, w))) in
        let there : IsLiveAt q ps j = record {
          within = omega (arith, lt, l.within);
          same = λ d. subst (λ (p : TermId × Ratio). p.0.0 ≡ q) (get_or-take at ps j d lt) (k.same d);
          not_zero = λ d. subst (λ (p : TermId × Ratio). is_zero (fraction p.1) ≡ false) (get_or-take at ps j d lt) (k.not_zero d);
        } in
        let e = one_place g ps q j at h there l in omega (arith, lt, e)

pub none_lacks : (g : ℕ → Option ℕ) (ps : List (TermId × Ratio)) (q : ℕ) → IsIndex g ps → g q ≡ None → LacksNumber q (live ps)
none_lacks g ps q h e = lacks_live q ps (λ at l. not_both at (sym e ∙ h.tells_all q at l))
  where
    not_both : (at : ℕ) → (let o : Option ℕ = None in o) ≡ Some at → ⊥
    not_both at f = cc

pub index_kept : (g h : ℕ → Option ℕ) (ps new : List (TermId × Ratio)) → ((q : ℕ) → h q ≡ g q) → new ≡ ps → IsIndex g ps → IsIndex h new
index_kept g h ps new same e i = subst (IsIndex h) (sym e) (record {
  tells = λ q at f. i.tells q at (sym (same q) ∙ f);
  tells_all = λ q at l. same q ∙ i.tells_all q at l;
})

pub index_empty : (g : ℕ → Option ℕ) (ps : List (TermId × Ratio)) → ((q : ℕ) → g q ≡ None) → ps ≡ [] → IsIndex g ps
index_empty g ps none e = subst (IsIndex g) (sym e) (record {
  tells = λ q at f. absurd (not_both at (sym (none q) ∙ f));
  tells_all = λ q at l. absurd (omega (arith, l.within));
})
  where
    not_both : (at : ℕ) → (let o : Option ℕ = None in o) ≡ Some at → ⊥
    not_both at f = cc

-- the code's map with the same entries
pub map_same : {S : Type 0} (m n : HashMap ℕ ℕ S) → n.entries ≡ m.entries → (q : ℕ) → hash.get nat_eq n q ≡ hash.get nat_eq m q
map_same m n e q = ap (lookup (nat_eq q)) e

pub map_empty : {S : Type 0} (m : HashMap ℕ ℕ S) → m.entries ≡ [] → (q : ℕ) → hash.get nat_eq m q ≡ None
map_empty m e q = ap (lookup (nat_eq q)) e

-- of two lists that agree at a place
live_moved : (q : ℕ) (ps rs : List (TermId × Ratio)) (at : ℕ) → at < length rs → ((d : TermId × Ratio) → get_or rs at d ≡ get_or ps at d) → IsLiveAt q ps at → IsLiveAt q rs at
live_moved q ps rs at lt e l = record {
  within = lt;
  same = λ d. subst (λ (p : TermId × Ratio). p.0.0 ≡ q) (sym (e d)) (l.same d);
  not_zero = λ d. subst (λ (p : TermId × Ratio). is_zero (fraction p.1) ≡ false) (sym (e d)) (l.not_zero d);
}

-- a new entry at the end
module _ (g h : ℕ → Option ℕ) (ps : List (TermId × Ratio)) (id : TermId) (k : Ratio) (i : IsIndex g ps) (lacks : LacksNumber id.0 (live ps)) (not_zero : is_zero (fraction k) ≡ false) (here : h id.0 ≡ Some (length ps)) (other : (q : ℕ) → nat_eq id.0 q ≡ false → h q ≡ g q) where
  last_live : IsLiveAt id.0 (ps ++ (id, k) ∷ []) (length ps)
  last_live = record {
    within = omega (arith, length-append ps ((id, k) ∷ []));
    same = λ d. ap (λ (p : TermId × Ratio). p.0.0) (get_or-append_seam ps (id, k) [] d);
    not_zero = λ d. subst (λ (p : TermId × Ratio). is_zero (fraction p.1) ≡ false) (sym (get_or-append_seam ps (id, k) [] d)) not_zero;
  }

  still_live : (q at : ℕ) → IsLiveAt q ps at → IsLiveAt q (ps ++ (id, k) ∷ []) at
  still_live q at l = live_moved q ps (ps ++ (id, k) ∷ []) at (omega (arith, l.within, length-append ps ((id, k) ∷ []))) (λ d. get_or-append ps ((id, k) ∷ []) d at l.within) l

  tells_by : (q at : ℕ) → h q ≡ Some at → ((nat_eq id.0 q ≡ true) × (id.0 ≡ q)) ⊎ ((nat_eq id.0 q ≡ false) × (id.0 ≢ q)) → IsLiveAt q (ps ++ (id, k) ∷ []) at
  tells_by q at e (inl s) =
      let place : length ps ≡ at = same_some (length ps) at (sym here ∙ ap h s.1 ∙ e) in
      subst (λ n. IsLiveAt n (ps ++ (id, k) ∷ []) at) s.1 (subst (IsLiveAt id.0 (ps ++ (id, k) ∷ [])) place last_live)
  tells_by q at e (inr s) = still_live q at (i.tells q at (sym (other q s.0) ∙ e))

  was_live : (q at : ℕ) → at < length ps → IsLiveAt q (ps ++ (id, k) ∷ []) at → IsLiveAt q ps at
  was_live q at lt l = live_moved q (ps ++ (id, k) ∷ []) ps at lt (λ d. sym (get_or-append ps ((id, k) ∷ []) d at lt)) l

  told_by : (q at : ℕ) → IsLiveAt q (ps ++ (id, k) ∷ []) at → (at < length ps) ⊎ (length ps ≤ at) → ((nat_eq id.0 q ≡ true) × (id.0 ≡ q)) ⊎ ((nat_eq id.0 q ≡ false) × (id.0 ≢ q)) → h q ≡ Some at
  told_by q at l (inl lt) (inl s) = absurd (not_live id.0 ps at lacks (subst (λ n. IsLiveAt n ps at) (sym s.1) (was_live q at lt l)))
  told_by q at l (inl lt) (inr s) = other q s.0 ∙ i.tells_all q at (was_live q at lt l)
  told_by q at l (inr le) (inl s) =
      let place : length ps ≡ at = omega (arith, le, l.within, length-append ps ((id, k) ∷ [])) in
      sym (ap h s.1) ∙ here ∙ ap Some place
  told_by q at l (inr le) (inr s) =
      let place : at ≡ length ps = omega (arith, le, l.within, length-append ps ((id, k) ∷ [])) in
      absurd (s.1 (sym (ap (λ (p : TermId × Ratio). p.0.0) (ap (λ n. get_or (ps ++ (id, k) ∷ []) n (id, k)) place ∙ get_or-append_seam ps (id, k) [] (id, k))) ∙ l.same (id, k)))

  pub index_push : (new : List (TermId × Ratio)) → new ≡ ps ++ (id, k) ∷ [] → IsIndex h new
  index_push new e = subst (IsIndex h) (sym e) (record {
    tells = λ q at f. tells_by q at f (eqb_tells id.0 q);
    tells_all = λ q at l. told_by q at l (cases_lt at (length ps)) (eqb_tells id.0 q);
  })

-- an entry with another number at its place
module _ (g : ℕ → Option ℕ) (ps : List (TermId × Ratio)) (id : TermId) (at : ℕ) (s : Ratio) (i : IsIndex g ps) (here : IsLiveAt id.0 ps at) where
  is_same : (q : ℕ) → IsLiveAt q ps at → id.0 ≡ q
  is_same q l = sym (here.same (id, s)) ∙ l.same (id, s)

  live_here : is_zero (fraction s) ≡ false → IsLiveAt id.0 (set ps at (id, s)) at
  live_here n = record {
    within = omega (arith, here.within, length-set ps at (id, s));
    same = λ d. ap (λ (p : TermId × Ratio). p.0.0) (get_or-set_same ps at (id, s) d here.within);
    not_zero = λ d. subst (λ (p : TermId × Ratio). is_zero (fraction p.1) ≡ false) (sym (get_or-set_same ps at (id, s) d here.within)) n;
  }

  live_there : (q j : ℕ) → j ≢ at → IsLiveAt q ps j → IsLiveAt q (set ps at (id, s)) j
  live_there q j n l = live_moved q ps (set ps at (id, s)) j (omega (arith, l.within, length-set ps at (id, s))) (λ d. get_or-set_other ps at j (id, s) d n) l

  was_there : (q j : ℕ) → j ≢ at → IsLiveAt q (set ps at (id, s)) j → IsLiveAt q ps j
  was_there q j n l = live_moved q (set ps at (id, s)) ps j (omega (arith, l.within, length-set ps at (id, s))) (λ d. sym (get_or-set_other ps at j (id, s) d n)) l

  set_same : (q : ℕ) → IsLiveAt q (set ps at (id, s)) at → id.0 ≡ q
  set_same q l = sym (ap (λ (p : TermId × Ratio). p.0.0) (get_or-set_same ps at (id, s) (id, s) here.within)) ∙ l.same (id, s)

  pub index_put : is_zero (fraction s) ≡ false → IsIndex g (set ps at (id, s))
  index_put n = record {
    tells = λ q j f. tells_by q j (i.tells q j f) (cases_eq j at);
    tells_all = λ q j l. told_by q j l (cases_eq j at);
  }
    where
      tells_by : (q j : ℕ) → IsLiveAt q ps j → (j ≡ at) ⊎ (j ≡ at → ⊥) → IsLiveAt q (set ps at (id, s)) j
      tells_by q j l (inl e) = subst (λ p. IsLiveAt p (set ps at (id, s)) j) (is_same q (subst (IsLiveAt q ps) e l)) (subst (IsLiveAt id.0 (set ps at (id, s))) (sym e) (live_here n))
      tells_by q j l (inr o) = live_there q j o l

      told_by : (q j : ℕ) → IsLiveAt q (set ps at (id, s)) j → (j ≡ at) ⊎ (j ≡ at → ⊥) → g q ≡ Some j
      told_by q j l (inl e) = ap g (sym (set_same q (subst (IsLiveAt q (set ps at (id, s))) e l))) ∙ i.tells_all id.0 at here ∙ ap Some (sym e)
      told_by q j l (inr o) = i.tells_all q j (was_there q j o l)

  pub index_drop : (h : ℕ → Option ℕ) → is_zero (fraction s) ≡ true → h id.0 ≡ None → ((q : ℕ) → nat_eq id.0 q ≡ false → h q ≡ g q) → IsIndex h (set ps at (id, s))
  index_drop h z none other = record {
    tells = λ q j f. tells_by q j f (eqb_tells id.0 q);
    tells_all = λ q j l. told_by q j l (cases_eq j at) (eqb_tells id.0 q);
  }
    where
      not_both : (j : ℕ) → (let o : Option ℕ = None in o) ≡ Some j → ⊥
      not_both j f = cc

      tells_by : (q j : ℕ) → h q ≡ Some j → ((nat_eq id.0 q ≡ true) × (id.0 ≡ q)) ⊎ ((nat_eq id.0 q ≡ false) × (id.0 ≢ q)) → IsLiveAt q (set ps at (id, s)) j
      tells_by q j f (inl e) = absurd (not_both j (sym none ∙ ap h e.1 ∙ f))
      tells_by q j f (inr o) =
          let l = i.tells q j (sym (other q o.0) ∙ f) in
          live_there q j (λ e. o.1 (is_same q (subst (IsLiveAt q ps) e l))) l

      told_by : (q j : ℕ) → IsLiveAt q (set ps at (id, s)) j → (j ≡ at) ⊎ (j ≡ at → ⊥) → ((nat_eq id.0 q ≡ true) × (id.0 ≡ q)) ⊎ ((nat_eq id.0 q ≡ false) × (id.0 ≢ q)) → h q ≡ Some j
      told_by q j l (inl e) c =
          absurd (true≢false (sym z ∙ subst (λ (p : TermId × Ratio). is_zero (fraction p.1) ≡ false) (get_or-set_same ps at (id, s) (id, s) here.within) (subst (λ n. is_zero (fraction (get_or (set ps at (id, s)) n (id, s)).1) ≡ false) e (l.not_zero (id, s)))))
      told_by q j l (inr o) (inl e) = absurd (o (one_place g ps q j at i (was_there q j o l) (subst (λ n. IsLiveAt n ps at) e.1 here)))
      told_by q j l (inr o) (inr e) = other q e.0 ∙ i.tells_all q j (was_there q j o l)

-- ---- what the map has not, where there are few entries

-- a dead entry at the end
pub index_dead : (g : ℕ → Option ℕ) (ps : List (TermId × Ratio)) (id : TermId) (k : Ratio) → is_zero (fraction k) ≡ true → IsIndex g ps → IsIndex g (ps ++ (id, k) ∷ [])
index_dead g ps id k z i = record {
  tells = λ q at f. longer q at (i.tells q at f);
  tells_all = λ q at l. told_by q at l (cases_lt at (length ps));
}
  where
    longer : (q at : ℕ) → IsLiveAt q ps at → IsLiveAt q (ps ++ (id, k) ∷ []) at
    longer q at l = live_moved q ps (ps ++ (id, k) ∷ []) at (omega (arith, l.within, length-append ps ((id, k) ∷ []))) (λ d. get_or-append ps ((id, k) ∷ []) d at l.within) l

    told_by : (q at : ℕ) → IsLiveAt q (ps ++ (id, k) ∷ []) at → (at < length ps) ⊎ (length ps ≤ at) → g q ≡ Some at
    told_by q at l (inl lt) = i.tells_all q at (live_moved q (ps ++ (id, k) ∷ []) ps at lt (λ d. sym (get_or-append ps ((id, k) ∷ []) d at lt)) l)
    told_by q at l (inr le) =
        let place : at ≡ length ps = omega (arith, le, l.within, length-append ps ((id, k) ∷ [])) in
        absurd (true≢false (sym z ∙ subst (λ (p : TermId × Ratio). is_zero (fraction p.1) ≡ false) (ap (λ n. get_or (ps ++ (id, k) ∷ []) n (id, k)) place ∙ get_or-append_seam ps (id, k) [] (id, k)) (l.not_zero (id, k))))

-- an index with another answer for one number
abbrev put_for : ℕ → Option ℕ → (ℕ → Option ℕ) → ℕ → Option ℕ
put_for n o g q = if nat_eq n q then o else g q

put_here : (n : ℕ) (o : Option ℕ) (g : ℕ → Option ℕ) → put_for n o g n ≡ o
put_here n o g = by (eqb_tells n n)
  where
    by : ((nat_eq n n ≡ true) × (n ≡ n)) ⊎ ((nat_eq n n ≡ false) × (n ≢ n)) → put_for n o g n ≡ o
    by (inl e) = ap (λ b. if b then o else g n) e.0
    by (inr e) = absurd (e.1 refl)

put_other : (n : ℕ) (o : Option ℕ) (g : ℕ → Option ℕ) (q : ℕ) → nat_eq n q ≡ false → put_for n o g q ≡ g q
put_other n o g q e = ap (λ b. if b then o else g q) e

pub kept_few : (g m : ℕ → Option ℕ) (ps : List (TermId × Ratio)) → length ps ≤ 8 → IsIndex g ps → IsKept m ps
kept_few g m ps few i = record { index = g; tells = i; same = λ many q. absurd (omega (arith, few, many)) }

pub kept_index : (m : ℕ → Option ℕ) (ps : List (TermId × Ratio)) → IsIndex m ps → IsKept m ps
kept_index m ps i = record { index = m; tells = i; same = λ many q. refl }

pub kept_map : (m : ℕ → Option ℕ) (ps : List (TermId × Ratio)) → 8 < length ps → IsKept m ps → IsIndex m ps
kept_map m ps many k = index_kept k.index m ps ps (k.same many) refl k.tells

pub kept_same : (m n : ℕ → Option ℕ) (ps new : List (TermId × Ratio)) → ((q : ℕ) → n q ≡ m q) → new ≡ ps → IsKept m ps → IsKept n new
kept_same m n ps new same e k = subst (IsKept n) (sym e) (record { index = k.index; tells = k.tells; same = λ many q. same q ∙ k.same many q })

pub kept_empty : (m : ℕ → Option ℕ) (ps : List (TermId × Ratio)) → ps ≡ [] → IsKept m ps
kept_empty m ps e = kept_few (λ q. None) m ps (omega (arith, ap length e)) (index_empty (λ q. None) ps (λ q. refl) e)

pub kept_push : (m : ℕ → Option ℕ) (ps new : List (TermId × Ratio)) (id : TermId) (k : Ratio) → length ps < 8 → LacksNumber id.0 (live ps) → is_zero (fraction k) ≡ false → new ≡ ps ++ (id, k) ∷ [] → IsKept m ps → IsKept m new
kept_push m ps new id k few lacks not_zero e i =
    kept_few (put_for id.0 (Some (length ps)) i.index) m new (omega (arith, few, ap length e, length-append ps ((id, k) ∷ [])))
    (index_push i.index (put_for id.0 (Some (length ps)) i.index) ps id k i.tells lacks not_zero (put_here id.0 (Some (length ps)) i.index) (put_other id.0 (Some (length ps)) i.index) new e)

pub kept_put : (m : ℕ → Option ℕ) (ps : List (TermId × Ratio)) (id : TermId) (at : ℕ) (s : Ratio) → IsKept m ps → IsLiveAt id.0 ps at → is_zero (fraction s) ≡ false → IsKept m (set ps at (id, s))
kept_put m ps id at s i here n = record {
  index = i.index;
  tells = index_put i.index ps id at s i.tells here n;
  same = λ many q. i.same (omega (arith, many, length-set ps at (id, s))) q;
}

pub kept_drop : (m : ℕ → Option ℕ) (ps : List (TermId × Ratio)) (id : TermId) (at : ℕ) (s : Ratio) → length ps ≤ 8 → IsKept m ps → IsLiveAt id.0 ps at → is_zero (fraction s) ≡ true → IsKept m (set ps at (id, s))
kept_drop m ps id at s few i here z =
    kept_few (put_for id.0 None i.index) m (set ps at (id, s)) (omega (arith, few, length-set ps at (id, s)))
    (index_drop i.index ps id at s i.tells here (put_for id.0 None i.index) z (put_here id.0 None i.index) (put_other id.0 None i.index))

-- ---- entries up to a place

pub live_found : (q : ℕ) (ps : List (TermId × Ratio)) (at : ℕ) (p : TermId × Ratio) → at < length ps → p ≡ get_or ps at p → p.0.0 ≡ q → is_zero (fraction p.1) ≡ false → IsLiveAt q ps at
live_found q ps at p lt e is z = record {
  within = lt;
  same = λ d. ap (λ (r : TermId × Ratio). r.0.0) (get_or_default ps at d p lt ∙ sym e) ∙ is;
  not_zero = λ d. subst (λ (r : TermId × Ratio). is_zero (fraction r.1) ≡ false) (sym (get_or_default ps at d p lt ∙ sym e)) z;
}

-- an entry after those before it
taken_next : (ps : List (TermId × Ratio)) (at : ℕ) (p : TermId × Ratio) → at < length ps → p ≡ get_or ps at p → take (at + 1) ps ≡ take at ps ++ p ∷ []
taken_next ps at p lt e = take_more ps at p lt ∙ ap (λ (r : TermId × Ratio). take at ps ++ r ∷ []) (sym e)

pub lacks_next : (q : ℕ) (ps : List (TermId × Ratio)) (at : ℕ) (p : TermId × Ratio) → at < length ps → p ≡ get_or ps at p → LacksNumber q (live (take at ps)) → LacksNumber q (live (p ∷ [])) → LacksNumber q (live (take (at + 1) ps))
lacks_next q ps at p lt e h k = subst (LacksNumber q) (sym (ap live (taken_next ps at p lt e) ∙ live-append (take at ps) (p ∷ []))) (lacks-append q (live (take at ps)) (live (p ∷ [])) h k)

pub lacks_all : (q : ℕ) (ps : List (TermId × Ratio)) (at : ℕ) → length ps ≤ at → LacksNumber q (live (take at ps)) → LacksNumber q (live ps)
lacks_all q ps at le h = subst (λ l. LacksNumber q (live l)) (take_all at ps le) h

pub lacks_other : (q : ℕ) (p : TermId × Ratio) → (p.0.0 ≡ q → ⊥) → LacksNumber q (live (p ∷ []))
lacks_other q p n = by (is_zero (fraction p.1))
  where
    by : (b : Bool) → LacksNumber q (unless_dead b p.0 (fraction p.1) [])
    by true = tt
    by false = (n, tt)

pub filled_dead : (g : ℕ → Option ℕ) (ps : List (TermId × Ratio)) (at : ℕ) (p : TermId × Ratio) → at < length ps → p ≡ get_or ps at p → is_zero (fraction p.1) ≡ true → IsIndex g (take at ps) → IsIndex g (take (at + 1) ps)
filled_dead g ps at p lt e z i = subst (IsIndex g) (sym (taken_next ps at p lt e)) (index_dead g (take at ps) p.0 p.1 z i)

pub filled_next : (f g h : ℕ → Option ℕ) (ps : List (TermId × Ratio)) (at : ℕ) (p : TermId × Ratio) → IsIndex f ps → at < length ps → p ≡ get_or ps at p → is_zero (fraction p.1) ≡ false → IsIndex g (take at ps)
    → h p.0.0 ≡ Some at → ((q : ℕ) → nat_eq p.0.0 q ≡ false → h q ≡ g q) → IsIndex h (take (at + 1) ps)
filled_next f g h ps at p one lt e z i here other =
    index_push g h (take at ps) p.0 p.1 i (before_lacks f ps p.0.0 at one (live_found p.0.0 ps at p lt e refl z)) z (here ∙ ap Some (sym (length-take-le at ps (omega (arith, lt))))) other
    (take (at + 1) ps) (taken_next ps at p lt e)
