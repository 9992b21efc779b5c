-- The term that a text is read as has the text's value, where what names give agrees with the signature.
use Rattle.std.proofs.Common.{◌≡◌, ℕ, Bool, true, false, List, [], ◌∷◌, ◌++◌, map, length, Option, Some, None, cond, refl, sym, ap, ap₂, ◌∙◌, subst}
use Rattle.std.specs.Prelude.{Ok}
use Rattle.std.specs.Str.{bytes_eq}
use Rattle.std.proofs.lemmas.List.{map-append, append_assoc, length-map}
use Rattle.std.proofs.lemmas.Slice.Eq.{bytes_eq-Decides}
use Rattle.std.proofs.lemmas.Bool.{eqb-true}
use Rattle.spec_text.specs.declared.Kind.{Kind}
use Rattle.spec_text.specs.declared.Kind.TheVariants.{Numeral, Decimal, Text, Simple, Quoted, Reserved as word_kind, Keyword}
use Rattle.spec_text.specs.declared.Fault.{Fault}
use Rattle.spec_text.specs.declared.Fault.TheVariants.{BadShape, UnknownSymbol, WrongCount, WrongSort, Reserved}
use Rattle.spec_text.specs.Bytes.{Name}
use Rattle.spec_text.specs.Shapes.{Word}
use Rattle.spec_text.specs.Answers.{Answer, ◌>>=◌, refused, require}
use Rattle.spec_text.specs.Trees.{Tree, Trees, atom, list, none, more}
use Rattle.spec_text.proofs.AnswerLaws.{answer, went, require_true}
use Rattle.spec_sorts.specs.Numerals.{literal_value}
use Rattle.spec_sorts.specs.Terms.{Sort, Term, sort_of}
use Rattle.spec_sorts.specs.Values.{Value, truth, number, Interpretation, table_value}
use Rattle.spec_sorts.specs.TermValues.{value_at}
use Rattle.spec_sorts.specs.Theory.{look_up, Rule, takes_count, sorts_fit, theory}
use Rattle.spec_sorts.specs.Signatures.{Definition, Known, declared, defined, of_sort, of_function, Signature, known_name, known_as, definition, with_definitions}
use Rattle.spec_sorts.specs.Forms.{Form, malformed, reserved, applies, binds, annotates, form}
use Rattle.spec_sorts.specs.Meaning as meaning
use Rattle.spec_sorts.specs.Meaning.{theory_values, Meaning, value_by, name_value, atom_value, value_of, values_of, let_value, bound_values, first_value}
use Rattle.spec_sorts.proofs.Heads.{MeansAt, theory_at, theory_means, values_of_list, filled_value}
use Rattle.spec_reading.specs.Names.{Setting, new_name, is_in_list}
use Rattle.spec_reading.specs.Reading.{Bound, Reading, Readings, Bindings, plain_reading, unless, by_rule, with_sorts, sorts_taken, by_known, applied_as, applied, literal, atom_term, reading, readings, let_reading, bindings_reading, annotated_reading}
use Rattle.spec_reading.specs.Agreement.{AgreesAt, Agrees, values_bound}

-- definitions in two parts come one after the other
pub with_both : (s : Signature) (a b : List Definition) → with_definitions s (a ++ b) ≡ with_definitions (with_definitions s a) b
with_both s a b = ap (λ x. s ++ x) (map-append definition a b) ∙ sym (append_assoc s (map definition a) (map definition b))

-- what agrees with a signature agrees with its first part
pub agrees_before : (i : Interpretation) (m : Meaning) (s t : Signature) → Agrees i m (s ++ t) → Agrees i m s
agrees_before i m [] t h = tt
agrees_before i m (of_sort n u ∷ ds) t h = agrees_before i m ds t h
agrees_before i m (of_function k ∷ ds) t h = (h.0, agrees_before i m ds t h.1)

-- and so with both parts of definitions
pub agrees_both : (i : Interpretation) (m : Meaning) (s : Signature) (a b : List Definition) → Agrees i m (with_definitions s (a ++ b)) → Agrees i m (with_definitions s a) × Agrees i m (with_definitions (with_definitions s a) b)
agrees_both i m s a b h =
    let k = subst (Agrees i m) (with_both s a b) h in
    (agrees_before i m (with_definitions s a) (map definition b) k, k)

-- the value of a bound term, where there is one
mapped : (i : Interpretation) (ps : List Value) → Option Term → Option Value
mapped i ps (Some t) = Some (value_at i ps t)
mapped i ps None = None

-- a bound name has its term's value
bound_value : (i : Interpretation) (ps : List Value) (b : Bound) (n : Name) → look_up (values_bound i ps b) n ≡ mapped i ps (look_up b n)
unfolding mapped
bound_value i ps [] n = refl
bound_value i ps (e ∷ es) n = go (bytes_eq e.0 n) (bound_value i ps es n)
  where
    go : (c : Bool) → look_up (values_bound i ps es) n ≡ mapped i ps (look_up es n) → cond c (Some (value_at i ps e.1)) (look_up (values_bound i ps es) n) ≡ mapped i ps (cond c (Some e.1) (look_up es n))
    go true h = refl
    go false h = h

-- the function that a name stands for, if it does, has the name, and gives what it should
abbrev KnownAt : Interpretation → Meaning → Name → Option Known → Type 0
KnownAt i m n (Some k) = (known_name k ≡ n) × AgreesAt i m k
KnownAt i m n None = Unit {0}

known : (i : Interpretation) (m : Meaning) (s : Signature) (n : Name) → Agrees i m s → KnownAt i m n (known_as s n)
known i m [] n h = tt
known i m (of_sort x u ∷ ds) n h = known i m ds n h
known i m (of_function k ∷ ds) n h = go (bytes_eq (known_name k) n) (bytes_eq-Decides (known_name k) n).0 (known i m ds n h.1)
  where
    go : (c : Bool) → (c ≡ true → known_name k ≡ n) → KnownAt i m n (known_as ds n) → KnownAt i m n (cond c (Some k) (known_as ds n))
    go true same rest = (same refl, h.0)
    go false same rest = rest

-- what is read with sorts has as many arguments, and is the term
pub with_sorts_ok : (ss : List Sort) (at : ℕ) (ts : List Term) (t u : Term) → with_sorts ss at ts t ≡ Ok u → (length ts ≡ length ss) × (t ≡ u)
with_sorts_ok ss at ts t u e =
    let a = went _ _ _ e in
    let b = went _ _ _ a.then in
    (eqb-true (length ts) (length ss) (require_true _ _ _ _ a.was), answer (Ok t) u b.then)

-- what a rule reads is its term
pub by_rule_ok : (r : Rule) (at : ℕ) (ts : List Term) (u : Term) → by_rule r at ts ≡ Ok u → r.reads ts ≡ u
by_rule_ok r at ts u e =
    let a = went _ _ _ e in
    let b = went _ _ _ a.then in
    unless_ok (r.fault ts) b.then
  where
    unless_ok : (o : Option Fault) → unless o at (r.reads ts) ≡ Ok u → r.reads ts ≡ u
    unless_ok None e = answer (Ok (r.reads ts)) u e
    unless_ok (Some f) e = absurd (answer (refused at f) u e)

module _ (i : Interpretation) (ps : List Value) (m : Meaning) where
  -- a function of the signature before terms
  known_value : (n : Name) (k : Known) (at : ℕ) (ts : List Term) (u : Term) → by_known k at ts ≡ Ok u → known_name k ≡ n → AgreesAt i m k → m n (map (value_at i ps) ts) ≡ value_at i ps u
  unfolding value_at
  known_value n (declared f) at ts u e is h =
      ap (λ x. m x (map (value_at i ps) ts)) (sym is)
      ∙ h (map (value_at i ps) ts)
      ∙ ap (table_value i f.name) (sym (values_of_list i ps ts))
      ∙ ap (value_at i ps) (with_sorts_ok f.parameters at ts _ u e).1
  known_value n (defined d) at ts u e is h =
      let o = with_sorts_ok (sorts_taken d) at ts _ u e in
      ap (λ x. m x (map (value_at i ps) ts)) (sym is)
      ∙ h (map (value_at i ps) ts) (length-map ts (value_at i ps) ∙ o.0 ∙ length-map d.parameters (λ p. p.1))
      ∙ sym (filled_value i ps ts d.term)
      ∙ ap (value_at i ps) o.1

  -- a name before terms has the value that it has at their values
  applied_value : (s : Signature) (b : Bound) (place : ℕ) (n : Name) (at : ℕ) (ts : List Term) (u : Term) → applied s b place n at ts ≡ Ok u → Agrees i m s → name_value m (values_bound i ps b) n (map (value_at i ps) ts) ≡ value_at i ps u
  unfolding mapped
  applied_value s b place n at ts u e h =
      ap (λ o. value_by o (look_up theory_values n) (m n (map (value_at i ps) ts)) (map (value_at i ps) ts)) (bound_value i ps b n)
      ∙ go (look_up b n) (look_up theory n) (look_up theory_values n) (known_as s n) (theory_at theory theory_values n theory_means) (known i m s n h) e
    where
      go : (o : Option Term) (r : Option Rule) (f : Option (List Value → Value)) (k : Option Known) → MeansAt r f → KnownAt i m n k → applied_as o r k place at ts ≡ Ok u
          → value_by (mapped i ps o) f (m n (map (value_at i ps) ts)) (map (value_at i ps) ts) ≡ value_at i ps u
      go (Some t) r f k hr hk e = ap (value_at i ps) (with_sorts_ok [] at ts t u e).1
      go None (Some r) (Some f) k hr hk e = sym (hr i ps ts) ∙ ap (value_at i ps) (by_rule_ok r at ts u e)
      go None (Some r) None k hr hk e = absurd hr
      go None None (Some f) k hr hk e = absurd hr
      go None None None (Some k) hr hk e = known_value n k at ts u e hk.0 hk.1
      go None None None None hr hk e = absurd (answer (refused place UnknownSymbol) u e)

  -- a number has its value
  literal_sound : (at : ℕ) (n : List ℕ) (u : Term) → literal at n ≡ Ok u → number (literal_value n) ≡ value_at i ps u
  unfolding value_at
  literal_sound at n u e =
      let a = went _ _ _ e in
      ap (value_at i ps) (answer (Ok _) u a.then)

  -- an atom has its value
  atom_sound : (s : Signature) (b : Bound) (at : ℕ) (k : Kind) (n : Name) (u : Term) → atom_term s b at k n ≡ Ok u → Agrees i m s → atom_value m (values_bound i ps b) k n ≡ value_at i ps u
  atom_sound s b at Numeral n u e h = literal_sound at n u e
  atom_sound s b at Decimal n u e h = literal_sound at n u e
  atom_sound s b at Simple n u e h = applied_value s b at n at [] u e h
  atom_sound s b at Quoted n u e h = applied_value s b at n at [] u e h
  atom_sound s b at Text n u e h = absurd (answer (refused at BadShape) u e)
  atom_sound s b at Keyword n u e h = absurd (answer (refused at BadShape) u e)
  atom_sound s b at word_kind n u e h = absurd (answer (refused at Reserved) u e)

-- a new name is the word's
pub new_name_is : (w : Setting) (taken : Name → Bool) (x : Word) (n : Name) → new_name w taken x ≡ Ok n → x.bytes ≡ n
new_name_is w taken x n e =
    let a = went _ _ _ e in
    let b = went _ _ _ a.then in
    answer (Ok x.bytes) n b.then

-- the cases of a list, as `reading` has them
abbrev pub by_form : Setting → Signature → Bound → ℕ → Trees → Form → Answer Reading
by_form w s b at us f = elim f [
  | malformed ↦ refused at BadShape
  | reserved place ↦ refused place Reserved
  | applies place n ↦ (readings w s b us >>= λ r. applied (with_definitions s r.made) b place n at r.terms >>= λ t. Ok (record { made = r.made; term = t }))
  | binds ↦ let_reading w s b at us
  | annotates ↦ annotated_reading w s b at us
]

-- and as `value_of` has them
abbrev pub form_value : Meaning → meaning.Bindings → Trees → Form → Value
form_value m b us f = elim f [ applies place n ↦ name_value m b n (values_of m b us) | binds ↦ let_value m b us | annotates ↦ first_value m b us | _ ↦ truth false ]

module _ (i : Interpretation) (ps : List Value) (m : Meaning) where
  mutual
    unfolding reading readings let_reading bindings_reading annotated_reading value_of values_of let_value bound_values first_value

    -- a text has its term's value
    pub sound : (w : Setting) (s : Signature) (b : Bound) (t : Tree) (r : Reading) → reading w s b t ≡ Ok r → Agrees i m (with_definitions s r.made) → value_of m (values_bound i ps b) t ≡ value_at i ps r.term
    sound w s b (atom at k n) r e h =
        let a = went _ _ _ e in
        atom_sound i ps m s b at k n a.first a.was (agrees_before i m s (map definition r.made) h) ∙ ap (λ (x : Reading). value_at i ps x.term) (answer (Ok (plain_reading a.first)) r a.then)
    sound w s b (list at none end) r e h = absurd (answer (refused at BadShape) r e)
    sound w s b (list at (more head us) end) r e h = go (form head us) (sound_all w s b us) (sound_let w s b at us) (sound_first w s b at us) e h
      where
        go : (f : Form)
            → ((rs : Readings) → readings w s b us ≡ Ok rs → Agrees i m (with_definitions s rs.made) → values_of m (values_bound i ps b) us ≡ map (value_at i ps) rs.terms)
            → ((r : Reading) → let_reading w s b at us ≡ Ok r → Agrees i m (with_definitions s r.made) → let_value m (values_bound i ps b) us ≡ value_at i ps r.term)
            → ((r : Reading) → annotated_reading w s b at us ≡ Ok r → Agrees i m (with_definitions s r.made) → first_value m (values_bound i ps b) us ≡ value_at i ps r.term)
            → by_form w s b at us f ≡ Ok r → Agrees i m (with_definitions s r.made) → form_value m (values_bound i ps b) us f ≡ value_at i ps r.term
        go malformed all one two e h = absurd (answer (refused at BadShape) r e)
        go (reserved place) all one two e h = absurd (answer (refused place Reserved) r e)
        go (applies place n) all one two e h =
            let a = went _ _ _ e in
            let c = went _ _ _ a.then in
            let same = answer (Ok _) r c.then in
            let k = subst (λ (x : Reading). Agrees i m (with_definitions s x.made)) (sym same) h in
            ap (name_value m (values_bound i ps b) n) (all a.first a.was k)
            ∙ applied_value i ps m (with_definitions s a.first.made) b place n at a.first.terms _ c.was k
            ∙ ap (λ (x : Reading). value_at i ps x.term) same
        go binds all one two e h = one r e h
        go annotates all one two e h = two r e h

    -- texts have their terms' values
    pub sound_all : (w : Setting) (s : Signature) (b : Bound) (ts : Trees) (r : Readings) → readings w s b ts ≡ Ok r → Agrees i m (with_definitions s r.made) → values_of m (values_bound i ps b) ts ≡ map (value_at i ps) r.terms
    sound_all w s b none r e h = ap (λ (x : Readings). map (value_at i ps) x.terms) (answer (Ok _) r e)
    sound_all w s b (more t ts) r e h =
        let a = went _ _ _ e in
        let c = went _ _ _ a.then in
        let same = answer (Ok _) r c.then in
        let k = agrees_both i m s a.first.made c.first.made (subst (λ (x : Readings). Agrees i m (with_definitions s x.made)) (sym same) h) in
        ap₂ (λ (v : Value) (vs : List Value). v ∷ vs) (sound w s b t a.first a.was k.0) (sound_all w (with_definitions s a.first.made) b ts c.first c.was k.1)
        ∙ ap (λ (x : Readings). map (value_at i ps) x.terms) same

    -- a body under bindings has its term's value
    pub sound_let : (w : Setting) (s : Signature) (b : Bound) (at : ℕ) (ts : Trees) (r : Reading) → let_reading w s b at ts ≡ Ok r → Agrees i m (with_definitions s r.made) → let_value m (values_bound i ps b) ts ≡ value_at i ps r.term
    sound_let w s b at (more (list place bindings end) (more body none)) r e h =
        let a = went _ _ _ e in
        let c = went _ _ _ a.then in
        let same = answer (Ok _) r c.then in
        let k = agrees_both i m s a.first.made c.first.made (subst (λ (x : Reading). Agrees i m (with_definitions s x.made)) (sym same) h) in
        ap (λ bs. value_of m bs body) (ap (λ vs. vs ++ values_bound i ps b) (sym (sound_bindings w s b [] bindings a.first a.was k.0)) ∙ sym (map-append (λ (p : Name × Term). (p.0, value_at i ps p.1)) a.first.bound b))
        ∙ sound w (with_definitions s a.first.made) (a.first.bound ++ b) body c.first c.was k.1
        ∙ ap (λ (x : Reading). value_at i ps x.term) same
    sound_let w s b at _ r e h = absurd (answer (refused at BadShape) r e)

    -- bound names have their terms' values
    pub sound_bindings : (w : Setting) (s : Signature) (b : Bound) (names : List Name) (ts : Trees) (r : Bindings) → bindings_reading w s b names ts ≡ Ok r → Agrees i m (with_definitions s r.made) → values_bound i ps r.bound ≡ bound_values m (values_bound i ps b) ts
    sound_bindings w s b names (more (list at (more (atom x k n) (more t none)) end) rest) r e h =
        let a = went _ _ _ e in
        let c = went _ _ _ a.then in
        let d = went _ _ _ c.then in
        let same = answer (Ok _) r d.then in
        let both = agrees_both i m s c.first.made d.first.made (subst (λ (x : Bindings). Agrees i m (with_definitions s x.made)) (sym same) h) in
        let one = sound w s b t c.first c.was both.0 in
        let later = sound_bindings w (with_definitions s c.first.made) b (names ++ a.first ∷ []) rest d.first d.was both.1 in
        let n_is : n ≡ a.first = new_name_is w (is_in_list names) (record { at = x; kind = k; bytes = n }) a.first a.was in
        ap (λ (x : Bindings). values_bound i ps x.bound) (sym same) ∙ (λ j. (sym n_is j, sym one j) ∷ later j)
    sound_bindings w s b names _ r e h = ap (λ (x : Bindings). values_bound i ps x.bound) (sym (answer (Ok _) r e))

    -- a term before attributes has its value
    pub sound_first : (w : Setting) (s : Signature) (b : Bound) (at : ℕ) (ts : Trees) (r : Reading) → annotated_reading w s b at ts ≡ Ok r → Agrees i m (with_definitions s r.made) → first_value m (values_bound i ps b) ts ≡ value_at i ps r.term
    sound_first w s b at none r e h = absurd (answer (refused at BadShape) r e)
    sound_first w s b at (more t attributes) r e h =
        let a = went _ _ _ e in
        let c = went _ _ _ a.then in
        let same = answer (Ok _) r c.then in
        let k = agrees_both i m s a.first.made c.first (subst (λ (x : Reading). Agrees i m (with_definitions s x.made)) (sym same) h) in
        sound w s b t a.first a.was k.0 ∙ ap (λ (x : Reading). value_at i ps x.term) same

-- what a rule reads, where the arguments are as many and of such sorts as it takes, and none is refused
pub rule_reads : (r : Rule) (at : ℕ) (ts : List Term) → takes_count r (length ts) ≡ true → sorts_fit r.takes (map sort_of ts) ≡ true → r.fault ts ≡ None → by_rule r at ts ≡ Ok (r.reads ts)
unfolding require ◌>>=◌
rule_reads r at ts count fit fine =
    ap (λ b. require b at WrongCount >>= λ counted. require (sorts_fit r.takes (map sort_of ts)) at WrongSort >>= λ sorted. unless (r.fault ts) at (r.reads ts)) count
    ∙ ap (λ b. require b at WrongSort >>= λ sorted. unless (r.fault ts) at (r.reads ts)) fit
    ∙ ap (λ o. unless o at (r.reads ts)) fine
