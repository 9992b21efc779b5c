-- What names give by their texts agrees with what their terms give, and reading keeps it so.
use Rattle.std.proofs.Common.{◌≡◌, ℕ, suc, Bool, true, false, not, ◌||◌, List, [], ◌∷◌, ◌++◌, length, get_or, ◌+◌, arith, Option, Some, None, cond, refl, sym, ap, ◌∙◌, subst}
use Rattle.std.specs.Prelude.{Ok}
use Rattle.std.specs.Str.{bytes_eq}
use Rattle.std.proofs.lemmas.Bool.{false≢true, and_parts, not-true}
use Rattle.std.proofs.lemmas.List.{append_assoc, append-nil}
use Rattle.std.proofs.lemmas.Slice.Eq.{bytes_eq-Decides}
use Rattle.spec_text.specs.declared.Fault.TheVariants.{BadShape, Twice}
use Rattle.spec_text.specs.Bytes.{Name}
use Rattle.spec_text.specs.Shapes.{Word}
use Rattle.spec_text.specs.Trees.{Tree}
use Rattle.spec_text.proofs.AnswerLaws.{answer, went, require_true}
use Rattle.spec_text.proofs.General.{bytes_itself}
use Rattle.spec_sorts.specs.Terms.{Sort}
use Rattle.spec_sorts.specs.Values.{Value, truth, Interpretation, table_value}
use Rattle.spec_sorts.specs.TermValues.{value_at}
use Rattle.spec_sorts.specs.Theory.{is_of_theory}
use Rattle.spec_sorts.specs.Signatures.{Definition, Known, declared, defined, Declaration, of_sort, of_function, Signature, known_name, known_as, is_some, definition, with_definitions}
use Rattle.spec_sorts.specs.Meaning.{Meaning, value_of, bind, with_meaning, meaning_after, meaning_of}
use Rattle.spec_reading.specs.Names.{Setting, new_name, is_function, is_own, mentions}
use Rattle.spec_reading.specs.Reading.{Bound, Reading, Annotated, naming, made_by, annotated_as, bound_names, reading}
use Rattle.spec_reading.specs.Definitions.{Parts, bound_parameters, definitions_in}
use Rattle.spec_reading.specs.Agreement.{AgreesAt, Agrees, values_bound, IsSoundAfter, AreSoundAfter, AreSound}
use Rattle.spec_reading.proofs.Values.{with_both, agrees_before, sound}
use Rattle.spec_reading.proofs.Closed.{neither_of, closed, unbound}
use Rattle.spec_reading.proofs.Kept.{with_none, text_keeps}

-- two names differ in either order
flip : (a b : Name) → bytes_eq a b ≡ false → bytes_eq b a ≡ false
flip a b h = go (bytes_eq b a) (bytes_eq-Decides b a).0
  where
    go : (c : Bool) → (c ≡ true → b ≡ a) → c ≡ false
    go true same = absurd (false≢true (sym h ∙ (bytes_eq-Decides a b).1 (sym (same refl))))
    go false same = refl

-- nothing is there where nothing is found
not_some : {A : Type 0} (o : Option A) → is_some o ≡ false → o ≡ None
not_some None h = refl
not_some (Some a) h = absurd (false≢true (sym h))

-- a name that is no function's is not the first one's, and none of the others
not_known : (k : Known) (ds : Signature) (n : Name) → known_as (of_function k ∷ ds) n ≡ None → (bytes_eq (known_name k) n ≡ false) × (known_as ds n ≡ None)
not_known k ds n h = go (bytes_eq (known_name k) n) refl h
  where
    go : (c : Bool) → bytes_eq (known_name k) n ≡ c → cond c (Some k) (known_as ds n) ≡ None → (bytes_eq (known_name k) n ≡ false) × (known_as ds n ≡ None)
    go true e h = cc
    go false e h = (e, h)

-- a function of another name more leaves a name unknown
known_last : (s : Signature) (k : Known) (n : Name) → known_as s n ≡ None → bytes_eq (known_name k) n ≡ false → known_as (s ++ of_function k ∷ []) n ≡ None
known_last [] k n h d = λ j. cond (d j) (Some k) None
known_last (of_sort m u ∷ ds) k n h d = known_last ds k n h d
known_last (of_function l ∷ ds) k n h d =
    let b = not_known l ds n h in
    (λ j. cond (b.0 j) (Some l) (known_last ds k n b.1 d j))

-- one declaration more is the last
meaning_last : (m : Meaning) (s : Signature) (d : Declaration) → meaning_after m (s ++ d ∷ []) ≡ with_meaning (meaning_after m s) d
meaning_last m [] d = refl
meaning_last m (e ∷ es) d = meaning_last (with_meaning m e) es d

-- a name that is no function's keeps what it gives
fresh_value : (m : Meaning) (s : Signature) (n : Name) → known_as s n ≡ None → (vs : List Value) → meaning_after m s n vs ≡ m n vs
fresh_value m [] n h vs = refl
fresh_value m (of_sort x u ∷ ds) n h vs = fresh_value (with_meaning m (of_sort x u)) ds n h vs
fresh_value m (of_function (declared f) ∷ ds) n h vs = fresh_value (with_meaning m (of_function (declared f))) ds n (not_known (declared f) ds n h).1 vs
fresh_value m (of_function (defined d) ∷ ds) n h vs =
    let b = not_known (defined d) ds n h in
    fresh_value (with_meaning m (of_function (defined d))) ds n b.1 vs ∙ ap (λ c. cond c (value_of m (bind d.parameters vs) d.body) (m n vs)) b.0

module _ (i : Interpretation) where
  -- what gives the same agrees with the same
  agrees_at : (m m2 : Meaning) (k : Known) → ((vs : List Value) → m2 (known_name k) vs ≡ m (known_name k) vs) → AgreesAt i m k → AgreesAt i m2 k
  agrees_at m m2 (declared f) same a = λ vs. same vs ∙ a vs
  agrees_at m m2 (defined d) same a = λ vs l. same vs ∙ a vs l

  agrees_same : (m m2 : Meaning) (s : Signature) → ((n : Name) (vs : List Value) → m2 n vs ≡ m n vs) → Agrees i m s → Agrees i m2 s
  agrees_same m m2 [] same a = tt
  agrees_same m m2 (of_sort n u ∷ ds) same a = agrees_same m m2 ds same a
  agrees_same m m2 (of_function k ∷ ds) same a = (agrees_at m m2 k (same (known_name k)) a.0, agrees_same m m2 ds same a.1)

  -- and so does what gives the same for all other names than a new one
  agrees_fresh : (m m2 : Meaning) (n : Name) (s : Signature) → known_as s n ≡ None → ((k : Name) (vs : List Value) → bytes_eq n k ≡ false → m2 k vs ≡ m k vs) → Agrees i m s → Agrees i m2 s
  agrees_fresh m m2 n [] h same a = tt
  agrees_fresh m m2 n (of_sort x u ∷ ds) h same a = agrees_fresh m m2 n ds h same a
  agrees_fresh m m2 n (of_function k ∷ ds) h same a =
      let b = not_known k ds n h in
      (agrees_at m m2 k (λ vs. same (known_name k) vs (flip (known_name k) n b.0)) a.0, agrees_fresh m m2 n ds b.1 same a.1)

  agrees_append : (m : Meaning) (s t : Signature) → Agrees i m s → Agrees i m t → Agrees i m (s ++ t)
  agrees_append m [] t a b = b
  agrees_append m (of_sort n u ∷ ds) t a b = agrees_append m ds t a b
  agrees_append m (of_function k ∷ ds) t a b = (a.0, agrees_append m ds t a.1 b)

  -- a sound declaration more
  agrees_last : (s : Signature) (d : Declaration) → IsSoundAfter s d → Agrees i (meaning_of i s) s → Agrees i (with_meaning (meaning_of i s) d) (s ++ d ∷ [])
  agrees_last s (of_sort n u) h a = agrees_append _ s (of_sort n u ∷ []) (agrees_same (meaning_of i s) (with_meaning (meaning_of i s) (of_sort n u)) s (λ n vs. refl) a) tt
  agrees_last s (of_function (declared f)) h a =
      agrees_append (with_meaning (meaning_of i s) (of_function (declared f))) s (of_function (declared f) ∷ [])
      (agrees_same (meaning_of i s) (with_meaning (meaning_of i s) (of_function (declared f))) s (λ n vs. refl) a)
      (λ vs. fresh_value (table_value i) s f.name h vs, tt)
  agrees_last s (of_function (defined d)) h a =
      agrees_append (with_meaning (meaning_of i s) (of_function (defined d))) s (of_function (defined d) ∷ [])
      (agrees_fresh (meaning_of i s) (with_meaning (meaning_of i s) (of_function (defined d))) d.name s h.0 (λ k vs e. ap (λ c. cond c (value_of (meaning_of i s) (bind d.parameters vs) d.body) (meaning_of i s k vs)) e) a)
      (λ vs l. ap (λ c. cond c (value_of (meaning_of i s) (bind d.parameters vs) d.body) (meaning_of i s d.name vs)) (bytes_itself d.name) ∙ h.1 i vs l, tt)

  agrees_after : (s ds : Signature) → AreSoundAfter s ds → Agrees i (meaning_of i s) s → Agrees i (meaning_of i (s ++ ds)) (s ++ ds)
  agrees_after s [] h a = subst (λ x. Agrees i (meaning_of i x) x) (sym (append-nil s)) a
  agrees_after s (d ∷ ds) h a =
      subst (λ x. Agrees i (meaning_of i x) x) (append_assoc s (d ∷ []) ds)
      (agrees_after (s ++ d ∷ []) ds h.1 (subst (λ m. Agrees i m (s ++ d ∷ [])) (sym (meaning_last (table_value i) s d)) (agrees_last s d h.0 a)))

  -- what the names of a sound signature give agrees with it
  pub agrees : (s : Signature) → AreSound s → Agrees i (meaning_of i s) s
  agrees s h = agrees_after [] s h tt

-- sound declarations after sound ones
pub sound_append : (b s t : Signature) → AreSoundAfter b s → AreSoundAfter (b ++ s) t → AreSoundAfter b (s ++ t)
sound_append b [] t h k = subst (λ x. AreSoundAfter x t) (append-nil b) k
sound_append b (d ∷ ds) t h k = (h.0, sound_append (b ++ d ∷ []) ds t h.1 (subst (λ x. AreSoundAfter x t) (sym (append_assoc b (d ∷ []) ds)) k))

-- a sound declaration more
pub sound_last : (s : Signature) (d : Declaration) → AreSound s → IsSoundAfter s d → AreSound (s ++ d ∷ [])
sound_last s d h k = sound_append [] s (d ∷ []) h (k, tt)

-- the name whose body is read is no function's
abbrev pub IsOwnFree : Option Name → Signature → Type 0
IsOwnFree None s = Unit {0}
IsOwnFree (Some f) s = known_as s f ≡ None

-- a signature under which a text may be read
abbrev pub IsFine : Setting → Signature → Type 0
IsFine w s = AreSound s × IsOwnFree w.own s

-- another name more is not the one whose body is read
own_last : (o : Option Name) (s : Signature) (d : Definition) → is_own o d.name ≡ false → IsOwnFree o s → IsOwnFree o (s ++ definition d ∷ [])
own_last None s d h k = tt
own_last (Some f) s d h k = known_last s (defined d) f k (flip f d.name h)

-- a new name is not taken
pub not_taken : (w : Setting) (taken : Name → Bool) (x : Word) (n : Name) → new_name w taken x ≡ Ok n → taken n ≡ false
not_taken w taken x n e =
    let a = went _ _ _ e in
    let b = went _ _ _ a.then in
    subst (λ m. taken m ≡ false) (answer (Ok x.bytes) n b.then) (not-true (taken x.bytes) (require_true (not (taken x.bytes)) x.at Twice b.first b.was))

-- a name that is no function's is unknown
pub unknown : (s : Signature) (n : Name) → is_function s n ≡ false → known_as s n ≡ None
unknown s n h = not_some (known_as s n) (neither_of (is_of_theory n) (is_some (known_as s n)) h).two

-- the text has the term's value wherever what names give agrees with the signature
abbrev HasValue : Signature → Annotated → Type 0
HasValue s t = t.may_name ≡ true → (i : Interpretation) (m : Meaning) → Agrees i m s → (vs : List Value) → value_of m [] t.text ≡ value_at i vs t.term

-- the names of a term's attributes keep a signature fine
made_fine : (w : Setting) (s : Signature) (t : Annotated) (xs : List Word) (ds : List Definition) → made_by w s t xs ≡ Ok ds → HasValue s t → IsFine w s → IsFine w (with_definitions s ds)
unfolding made_by
made_fine w s t [] ds e h a = subst (λ x. IsFine w (with_definitions s x)) (answer (Ok []) ds e) (with_none (IsFine w) s a)
made_fine w s t (x ∷ xs) ds e h a =
    let p = went _ _ _ e in
    let q = went _ _ _ p.then in
    let r = went _ _ _ q.then in
    let free = neither_of (is_function s p.first) (is_own w.own p.first) (not_taken w (λ n. is_function s n || is_own w.own n) x p.first p.was) in
    let value = h (require_true t.may_name t.at BadShape q.first q.was) in
    let d = naming p.first t in
    let one : IsFine w (s ++ definition d ∷ []) = (sound_last s (definition d) a.0 (unknown s p.first free.one, λ i vs l. value i (meaning_of i s) (agrees i s a.0) vs), own_last w.own s d free.two a.1) in
    let rest = made_fine w (with_definitions s (d ∷ [])) t xs r.first r.was (λ may i m g. h may i m (agrees_before i m s (definition d ∷ []) g)) one in
    subst (λ x. IsFine w (with_definitions s x)) (answer (Ok (d ∷ r.first)) ds r.then) (subst (IsFine w) (sym (with_both s (d ∷ []) r.first)) rest)

-- the text of a reading has its value, where it may get a name
has_value : (w : Setting) (s : Signature) (b : Bound) (at : ℕ) (t : Tree) (r : Reading) → reading w s b t ≡ Ok r → HasValue (with_definitions s r.made) (annotated_as w b at t r.term)
has_value w s b at t r e may i m g vs =
    sym (closed m (bound_names b) (values_bound i vs b) [] t (not-true _ (and_parts w.may_name (not (mentions (bound_names b) t)) may).1) (unbound i vs b))
    ∙ sound i vs m w s b t r e g

-- the definitions that a text makes keep a signature fine
pub fine : (w : Setting) (s : Signature) (b : Bound) (t : Tree) (r : Reading) → reading w s b t ≡ Ok r → IsFine w s → IsFine w (with_definitions s r.made)
fine w s b t r e a = text_keeps w (IsFine w) (λ s b at t r e xs ds made k. made_fine w (with_definitions s r.made) (annotated_as w b at t r.term) xs ds made (has_value w s b at t r e) k) s b t r e a

-- parameters have the values that they are bound to
parameters_bound : (i : Interpretation) (ws : List Value) (ps : List (Name × Sort)) (vs : List Value) (k : ℕ) → ((j : ℕ) → get_or ws (k + j) (truth false) ≡ get_or vs j (truth false)) → length vs ≡ length ps → values_bound i ws (bound_parameters k ps) ≡ bind ps vs
unfolding value_at
parameters_bound i ws [] vs k h l = refl
parameters_bound i ws (p ∷ ps) [] k h l = absurd (omega (arith, l))
parameters_bound i ws (p ∷ ps) (v ∷ vs) k h l =
    let at_k : get_or ws k (truth false) ≡ v = ap (λ n. get_or ws n (truth false)) (omega arith) ∙ h 0 in
    let later = parameters_bound i ws ps vs (suc k) (λ j. ap (λ n. get_or ws n (truth false)) (omega arith) ∙ h (suc j)) (omega (arith, l)) in
    (λ j. (p.0, at_k j) ∷ later j)

-- the value of a text whose reading is fine
pub text_value : (w : Setting) (s : Signature) (t : Tree) (r : Reading) → IsFine w s → reading w s [] t ≡ Ok r → (i : Interpretation) → value_of (meaning_of i (with_definitions s r.made)) [] t ≡ value_at i [] r.term
text_value w s t r a e i = sound i [] (meaning_of i (with_definitions s r.made)) w s [] t r e (agrees i (with_definitions s r.made) (fine w s [] t r e a).0)

-- a definition is sound, with those that its body makes
pub defined_sound : (w : Setting) (s : Signature) (d : Parts) (ds : List Definition) → definitions_in w s d ≡ Ok ds → AreSound s → AreSound (with_definitions s ds)
unfolding definitions_in
defined_sound w s d ds e a =
    let n = went _ _ _ e in
    let ps = went _ _ _ n.then in
    let result = went _ _ _ ps.then in
    let r = went _ _ _ result.then in
    let x = went _ _ _ r.was in
    let y = went _ _ _ x.then in
    let is_r : x.first ≡ r.first = answer (Ok x.first) r.first y.then in
    let v : Setting = record w { own = Some n.first } in
    let new = unknown s n.first (not_taken w (is_function s) d.name n.first n.was) in
    let read = subst (λ z. reading v s (bound_parameters 0 ps.first) d.body ≡ Ok z) is_r x.was in
    let f = fine v s (bound_parameters 0 ps.first) d.body r.first read (a, new) in
    let made = with_definitions s r.first.made in
    let this : Definition = record { name = n.first; parameters = ps.first; result = result.first; body = d.body; term = r.first.term } in
    let value : (i : Interpretation) (vs : List Value) → length vs ≡ length ps.first → value_of (meaning_of i made) (bind ps.first vs) d.body ≡ value_at i vs r.first.term =
    λ i vs l.
    ap (λ b. value_of (meaning_of i made) b d.body) (sym (parameters_bound i vs ps.first vs 0 (λ j. ap (λ n. get_or vs n (truth false)) (omega arith)) l))
    ∙ sound i vs (meaning_of i made) v s (bound_parameters 0 ps.first) d.body r.first read (agrees i made f.0) in
    subst (λ z. AreSound (with_definitions s z)) (answer (Ok _) ds r.then)
    (subst AreSound (sym (with_both s r.first.made (this ∷ []))) (sound_last made (definition this) f.0 (f.1, value)))
