-- Rows and bodies of definitions, by the shapes of their texts.
use Rattle.std.proofs.Common.{◌≡◌, ◌≢◌, ◌==◌, ◌<◌, ◌+◌, ℕ, zero, suc, Bool, true, false, List, [], ◌∷◌, ◌++◌, length, get_or, drop, Option, Some, None, refl, sym, ap, ◌∙◌, subst, arith, append_assoc, append-nil, ne_eqb}
use Rattle.std.specs.Prelude.{Ok, Err, codes, ◌&&◌, not}
use Rattle.std.specs.Str.{bytes_eq}
use Rattle.std.proofs.lemmas.List.{length-map}
use Rattle.spec_text.specs.Answers.{◌>>=◌}
use Rattle.spec_text.specs.declared.Kind.{Kind}
use Rattle.spec_text.specs.Bytes.{Name}
use Rattle.spec_text.specs.Shapes.{is_symbol, passes, is_word, inside_of}
use Rattle.spec_text.specs.Shapes as shapes
use Rattle.spec_text.specs.Trees.{Tree, Trees, atom, list, none, more}
use Rattle.spec_sorts.specs.Terms.{Sort}
use Rattle.spec_sorts.specs.Values.{Value, TableRow, Table}
use Rattle.spec_sorts.specs.Signatures.{Signature}
use Rattle.spec_model_files.specs.declared.ModelKind.TheVariants.{BadShape}
use Rattle.spec_model_files.specs.Faults.{ModelFault, ReadModel, wrong, require}
use Rattle.spec_model_files.specs.Values.{value_read}
use Rattle.spec_model_files.specs.Bodies.{tree_count, Parameters, parameter_named, equality_read, equalities_read, condition_read, with_row, everywhere, body_read}
use Rattle.smt_sexpr.specs.Items.{split_first}
use Rattle.smt_sexpr.proofs.Splitting.{split_end, split_more}
use Rattle.term_core.specs.declared.sorts.Sort.{Sort as TableSort}
use Rattle.term_core.specs.Symbols.{sort_meant, sorts_meant}
use Rattle.model_read.specs.declared.errors.ReadError.{ReadError}
use Rattle.model_read.specs.declared.errors.ReadError.TheVariants as errors
use Rattle.model_read.specs.Answers.{located_view, StopsRead}
use Rattle.model_read.specs.Shapes.{RowParts, equality_in, conjunction_in, row_in, row_at}
use Rattle.model_read.specs.Bodies.{named_sorts, equality_by, row_by, with_values, with_rows, ReadsRow}

module _ (g : Signature) (p : Name × Sort) where
  abbrev by_sides : ℕ → Option (Tree × Tree) → ReadModel Value
  by_sides at (Some s) = equality_by g p s
  by_sides at None = wrong at BadShape

  equality_split : (at end : ℕ) (ts : Trees) → equality_read g p (list at ts end) ≡ by_sides at (equality_in ts)
  unfolding equality_read equality_in equality_by require ◌>>=◌
  equality_split at end none = refl
  equality_split at end (more (list x us y) ts) = refl
  equality_split at end (more (atom x k w) none) = refl
  equality_split at end (more (atom x k w) (more t none)) = refl
  equality_split at end (more (atom x k w) (more t (more v none))) = go (is_symbol k && bytes_eq w (codes "="))
    where
      go : (b : Bool) → (require b at BadShape >>= λ equality. parameter_named p.0 t >>= λ named. value_read g p.1 v) ≡ by_sides at (shapes.◌>>=◌ (passes b) (λ equal. Some (t, v)))
      go true = refl
      go false = refl
  equality_split at end (more (atom x k w) (more t (more v (more u us)))) = refl

  module _ (t : Tree) (at end : ℕ) (ts : Trees) (is : list at ts end ≡ t) where
    pub equality_sided : (s : Tree × Tree) → Some s ≡ equality_in ts → equality_read g p t ≡ equality_by g p s
    equality_sided s e = ap (equality_read g p) (sym is) ∙ equality_split at end ts ∙ ap (by_sides at) (sym e)

    pub equality_none : None ≡ equality_in ts → equality_read g p t ≡ wrong at BadShape
    equality_none e = ap (equality_read g p) (sym is) ∙ equality_split at end ts ∙ ap (by_sides at) (sym e)

  pub equality_named : (x : Tree × Tree) → parameter_named p.0 x.0 ≡ Ok tt → equality_by g p x ≡ value_read g p.1 x.1
  unfolding equality_by ◌>>=◌
  equality_named x e = ap (λ r. r >>= λ named. value_read g p.1 x.1) e

  pub equality_unnamed : (x : Tree × Tree) (f : ModelFault) → parameter_named p.0 x.0 ≡ Err f → equality_by g p x ≡ Err f
  unfolding equality_by ◌>>=◌
  equality_unnamed x f e = ap (λ r. r >>= λ named. value_read g p.1 x.1) e

  pub equality_atom : (t : Tree) (at : ℕ) (k : Kind) (n : Name) → atom at k n ≡ t → equality_read g p t ≡ wrong at BadShape
  unfolding equality_read
  equality_atom t at k n is = ap (equality_read g p) (sym is)

-- conjunctions
module _ (g : Signature) where
  abbrev by_texts : Parameters → ℕ → Option Trees → ReadModel (List Value)
  by_texts ps at (Some ts) = equalities_read g ps ts
  by_texts ps at None = wrong at BadShape

  conjunction_split : (ps : Parameters) (at end : ℕ) (ts : Trees) → length ps ≢ 1 → condition_read g ps (list at ts end) ≡ by_texts ps at (conjunction_in (length ps) ts)
  unfolding condition_read conjunction_in require ◌>>=◌
  conjunction_split (p ∷ []) at end ts several = absurd (several refl)
  conjunction_split [] at end none several = refl
  conjunction_split [] at end (more (list x us y) ts) several = refl
  conjunction_split [] at end (more (atom x k w) ts) several = go ((is_symbol k && bytes_eq w (codes "and")) && (tree_count ts == 0))
    where
      go : (b : Bool) → (require b at BadShape >>= λ conjunction. equalities_read g [] ts) ≡ by_texts [] at (shapes.◌>>=◌ (passes b) (λ many. Some ts))
      go true = refl
      go false = refl
  conjunction_split (p ∷ q ∷ ps) at end none several = refl
  conjunction_split (p ∷ q ∷ ps) at end (more (list x us y) ts) several = refl
  conjunction_split (p ∷ q ∷ ps) at end (more (atom x k w) ts) several = go ((is_symbol k && bytes_eq w (codes "and")) && (tree_count ts == length (p ∷ q ∷ ps)))
    where
      go : (b : Bool) → (require b at BadShape >>= λ conjunction. equalities_read g (p ∷ q ∷ ps) ts) ≡ by_texts (p ∷ q ∷ ps) at (shapes.◌>>=◌ (passes b) (λ many. Some ts))
      go true = refl
      go false = refl

  module _ (ps : Parameters) (n : ℕ) (long : length ps ≡ n) (several : n ≢ 1) (t : Tree) where
    not_one : length ps ≢ 1
    not_one e = several (sym long ∙ e)

    pub condition_texts : (at end : ℕ) (ts us : Trees) → list at ts end ≡ t → Some us ≡ conjunction_in n ts → condition_read g ps t ≡ equalities_read g ps us
    condition_texts at end ts us is e =
        ap (condition_read g ps) (sym is) ∙ conjunction_split ps at end ts not_one ∙ ap (λ (k : ℕ). by_texts ps at (conjunction_in k ts)) long ∙ ap (by_texts ps at) (sym e)

    pub condition_none : (at end : ℕ) (ts : Trees) → list at ts end ≡ t → None ≡ conjunction_in n ts → condition_read g ps t ≡ wrong at BadShape
    condition_none at end ts is e =
        ap (condition_read g ps) (sym is) ∙ conjunction_split ps at end ts not_one ∙ ap (λ (k : ℕ). by_texts ps at (conjunction_in k ts)) long ∙ ap (by_texts ps at) (sym e)

    pub condition_atom : (at : ℕ) (k : Kind) (m : Name) → atom at k m ≡ t → condition_read g ps t ≡ wrong at BadShape
    unfolding condition_read
    condition_atom at k m is = ap (condition_read g ps) (sym is) ∙ go ps not_one
      where
        go : (qs : Parameters) → length qs ≢ 1 → condition_read g qs (atom at k m) ≡ wrong at BadShape
        go [] h = refl
        go (p ∷ []) h = absurd (h refl)
        go (p ∷ q ∷ qs) h = refl

  pub condition_only : (p : Name × Sort) (t : Tree) (v : Value) → equality_read g p t ≡ Ok v → condition_read g (p ∷ []) t ≡ Ok (v ∷ [])
  unfolding condition_read ◌>>=◌
  condition_only p t v e = ap (λ r. r >>= λ x. Ok (x ∷ [])) e

  pub condition_only_fails : (p : Name × Sort) (t : Tree) (f : ModelFault) → equality_read g p t ≡ Err f → condition_read g (p ∷ []) t ≡ Err f
  unfolding condition_read ◌>>=◌
  condition_only_fails p t f e = ap (λ r. r >>= λ x. Ok (x ∷ [])) e

  -- equalities one after the other
  first_equality : (p : Name × Sort) (ps : Parameters) (t : Tree) (ts : Trees) → equalities_read g (p ∷ ps) (more t ts) ≡ (equality_read g p t >>= λ v. equalities_read g ps ts >>= λ vs. Ok (v ∷ vs))
  unfolding equalities_read
  first_equality p ps t ts = refl

  no_parameters : (ts : Trees) → equalities_read g [] ts ≡ Ok []
  unfolding equalities_read
  no_parameters ts = refl

  no_equalities : (ps : Parameters) → equalities_read g ps none ≡ Ok []
  unfolding equalities_read
  no_equalities [] = refl
  no_equalities (p ∷ ps) = refl

  module _ (vs : List Value) (whole : ReadModel (List Value)) where
    pub equalities_end : (ps : Parameters) (ts : Trees) → with_values vs (equalities_read g ps ts) ≡ whole → ps ≡ [] → whole ≡ Ok vs
    equalities_end ps ts h e = sym h ∙ ap (λ qs. with_values vs (equalities_read g qs ts)) e ∙ ap (with_values vs) (no_parameters ts) ∙ ap (λ us. Ok us) (append-nil vs)

    pub equalities_out : (ps : Parameters) (ts : Trees) → with_values vs (equalities_read g ps ts) ≡ whole → None ≡ split_first ts → whole ≡ Ok vs
    equalities_out ps ts h e = sym h ∙ ap (λ us. with_values vs (equalities_read g ps us)) (split_end ts e) ∙ ap (with_values vs) (no_equalities ps) ∙ ap (λ us. Ok us) (append-nil vs)

    module _ (ps qs : Parameters) (p : Name × Sort) (ts us : Trees) (t : Tree) (h : with_values vs (equalities_read g ps ts) ≡ whole) (first : ps ≡ p ∷ qs) (split : Some (t, us) ≡ split_first ts) where
      next_equality : with_values vs (equality_read g p t >>= λ v. equalities_read g qs us >>= λ ws. Ok (v ∷ ws)) ≡ whole
      next_equality = ap (with_values vs) (sym (first_equality p qs t us)) ∙ (λ i. with_values vs (equalities_read g (sym first i) (sym (split_more ts us t split) i))) ∙ h

      pub equalities_more : (v : Value) → equality_read g p t ≡ Ok v → with_values (vs ++ v ∷ []) (equalities_read g qs us) ≡ whole
      unfolding ◌>>=◌
      equalities_more v e = go (equalities_read g qs us) ∙ ap (λ r. with_values vs (r >>= λ x. equalities_read g qs us >>= λ ws. Ok (x ∷ ws))) (sym e) ∙ next_equality
        where
          go : (r : ReadModel (List Value)) → with_values (vs ++ v ∷ []) r ≡ with_values vs (r >>= λ ws. Ok (v ∷ ws))
          go (Ok ws) = ap (λ xs. Ok xs) (append_assoc vs (v ∷ []) ws)
          go (Err f) = refl

      pub equalities_fail : (f : ModelFault) → equality_read g p t ≡ Err f → whole ≡ Err f
      unfolding ◌>>=◌
      equalities_fail f e = sym next_equality ∙ ap (λ r. with_values vs (r >>= λ x. equalities_read g qs us >>= λ ws. Ok (x ∷ ws))) e

-- names and sorts from a place on
pub named_from : (sorts : List Name) (ns : List Name) (ss : List TableSort) (k : ℕ) (s : TableSort) → k < length ns → k < length ss
    → drop k (named_sorts ns (sorts_meant sorts ss)) ≡ (get_or ns k [], sort_meant sorts (get_or ss k s)) ∷ drop (k + 1) (named_sorts ns (sorts_meant sorts ss))
named_from sorts [] ss k s n_in s_in = absurd (omega (arith, n_in))
named_from sorts (n ∷ ns) [] k s n_in s_in = absurd (omega (arith, s_in))
named_from sorts (n ∷ ns) (t ∷ ss) zero s n_in s_in = refl
named_from sorts (n ∷ ns) (t ∷ ss) (suc k) s n_in s_in =
    named_from sorts ns ss k s (omega (arith, n_in)) (omega (arith, s_in)) ∙ ap (λ (j : ℕ). (get_or ns k [], sort_meant sorts (get_or ss k s)) ∷ drop j (named_sorts (n ∷ ns) (sorts_meant sorts (t ∷ ss)))) (sym (after k))
  where
    after : (k : ℕ) → suc k + 1 ≡ suc (k + 1)
    after k = omega arith

pub named_one : (sorts : List Name) (ns : List Name) (ss : List TableSort) (s : TableSort) → length ns ≡ length ss → length ss ≡ 1 → named_sorts ns (sorts_meant sorts ss) ≡ (get_or ns 0 [], sort_meant sorts (get_or ss 0 s)) ∷ []
named_one sorts (n ∷ []) (t ∷ []) s e one = refl
named_one sorts [] ss s e one = absurd (omega (arith, e, one))
named_one sorts (n ∷ ns) [] s e one = absurd (omega (arith, one))
named_one sorts (n ∷ m ∷ ns) (t ∷ []) s e one = absurd (omega (arith, e))
named_one sorts (n ∷ ns) (t ∷ u ∷ ss) s e one = absurd (omega (arith, one))

named_long : (ns : List Name) (ss : List Sort) → length ns ≡ length ss → length (named_sorts ns ss) ≡ length ss
named_long [] [] e = refl
named_long [] (s ∷ ss) e = absurd (omega (arith, e))
named_long (n ∷ ns) [] e = absurd (omega (arith, e))
named_long (n ∷ ns) (s ∷ ss) e = ap (λ k. suc k) (named_long ns ss (omega (arith, e)))

pub named_all : (sorts : List Name) (ns : List Name) (ss : List TableSort) → length ns ≡ length ss → length (named_sorts ns (sorts_meant sorts ss)) ≡ length ss
named_all sorts ns ss e = named_long ns (sorts_meant sorts ss) (e ∙ sym (length-map ss (sort_meant sorts))) ∙ length-map ss (sort_meant sorts)

-- the parts of a row
abbrev row_there : Tree → Option (ℕ × RowParts)
row_there t = shapes.◌>>=◌ (inside_of t) (λ x. shapes.◌>>=◌ (row_in x.1) (λ r. Some (x.0, r)))

row_some : (n : ℕ) (t : Tree) → row_at (suc n) t ≡ row_there t
unfolding row_at
row_some n t = ap (λ b. shapes.◌>>=◌ (passes (not b)) (λ some. row_there t)) (ne_eqb (suc n) 0 (λ e. omega (arith, e)))

-- a body is a row before others, or a value
module _ (g : Signature) (s : Sort) where
  abbrev by_row : Parameters → Tree → Option (ℕ × RowParts) → ReadModel Table
  by_row ps t (Some x) = row_by g ps s x.0 x.1 (body_read g ps s x.1.others)
  by_row ps t None = value_read g s t >>= λ v. Ok (everywhere v)

  body_some : (p : Name × Sort) (ps : Parameters) (t : Tree) → body_read g (p ∷ ps) s t ≡ by_row (p ∷ ps) t (row_there t)
  unfolding body_read row_in row_by require ◌>>=◌
  body_some p ps (atom at k n) = refl
  body_some p ps (list at none end) = refl
  body_some p ps (list at (more (list x us y) ts) end) = refl
  body_some p ps (list at (more (atom x k w) none) end) = refl
  body_some p ps (list at (more (atom x k w) (more c none)) end) = refl
  body_some p ps (list at (more (atom x k w) (more c (more v none))) end) = refl
  body_some p ps (list at (more (atom x k w) (more c (more v (more o none)))) end) = refl
  body_some p ps (list at (more (atom x k w) (more c (more v (more o (more u us))))) end) = refl

  body_bare : (t : Tree) → body_read g [] s t ≡ (value_read g s t >>= λ v. Ok (everywhere v))
  unfolding body_read
  body_bare t = refl

  body_split : (ps : Parameters) (t : Tree) → body_read g ps s t ≡ by_row ps t (row_at (length ps) t)
  unfolding row_at
  body_split [] t = body_bare t
  body_split (p ∷ ps) t = body_some p ps t ∙ ap (by_row (p ∷ ps) t) (sym (row_some (length ps) t))

  module _ (ps : Parameters) (t : Tree) where
    pub body_value : (v : Value) → None ≡ row_at (length ps) t → value_read g s t ≡ Ok v → body_read g ps s t ≡ Ok (everywhere v)
    unfolding ◌>>=◌
    body_value v e h = body_split ps t ∙ ap (by_row ps t) (sym e) ∙ ap (λ r. r >>= λ x. Ok (everywhere x)) h

    pub body_no_value : (f : ModelFault) → None ≡ row_at (length ps) t → value_read g s t ≡ Err f → body_read g ps s t ≡ Err f
    unfolding ◌>>=◌
    body_no_value f e h = body_split ps t ∙ ap (by_row ps t) (sym e) ∙ ap (λ r. r >>= λ x. Ok (everywhere x)) h

    pub body_row : (x : ℕ × RowParts) → Some x ≡ row_at (length ps) t → body_read g ps s t ≡ row_by g ps s x.0 x.1 (body_read g ps s x.1.others)
    body_row x e = body_split ps t ∙ ap (by_row ps t) (sym e)

  -- a row by its parts
  module _ (ps : Parameters) (at : ℕ) (r : RowParts) (others : ReadModel Table) where
    abbrev by_parts : Bool → ReadModel (List Value) → ReadModel Value → ReadModel Table
    by_parts b c v = require b at BadShape >>= λ row. c >>= λ arguments. v >>= λ value. others >>= λ table. Ok (with_row arguments value table)

    parts_are : row_by g ps s at r others ≡ by_parts (is_word (codes "ite") r.word) (condition_read g ps r.condition) (value_read g s r.value)
    unfolding row_by
    parts_are = refl

    pub row_is : (vs : List Value) (v : Value) → is_word (codes "ite") r.word ≡ true → condition_read g ps r.condition ≡ Ok vs → value_read g s r.value ≡ Ok v
        → row_by g ps s at r others ≡ with_rows (record { arguments = vs; value = v } ∷ []) others
    unfolding require ◌>>=◌
    row_is vs v b c h = parts_are ∙ (λ i. by_parts (b i) (c i) (h i)) ∙ go others
      where
        go : (o : ReadModel Table) → (o >>= λ table. Ok (with_row vs v table)) ≡ with_rows (record { arguments = vs; value = v } ∷ []) o
        go (Ok t) = refl
        go (Err f) = refl

    pub row_no_value : (vs : List Value) (f : ModelFault) → is_word (codes "ite") r.word ≡ true → condition_read g ps r.condition ≡ Ok vs → value_read g s r.value ≡ Err f → row_by g ps s at r others ≡ Err f
    unfolding require ◌>>=◌
    row_no_value vs f b c h = parts_are ∙ (λ i. by_parts (b i) (c i) (h i))

    pub row_no_condition : (f : ModelFault) → is_word (codes "ite") r.word ≡ true → condition_read g ps r.condition ≡ Err f → row_by g ps s at r others ≡ Err f
    unfolding require ◌>>=◌
    row_no_condition f b c = parts_are ∙ (λ i. by_parts (b i) (c i) (value_read g s r.value))

    pub row_other : is_word (codes "ite") r.word ≡ false → row_by g ps s at r others ≡ wrong at BadShape
    unfolding require ◌>>=◌
    row_other b = parts_are ∙ (λ i. by_parts (b i) (condition_read g ps r.condition) (value_read g s r.value))

-- rows before rows
pub rows_joined : (rs : List TableRow) (r : TableRow) (o : ReadModel Table) → with_rows rs (with_rows (r ∷ []) o) ≡ with_rows (rs ++ r ∷ []) o
rows_joined rs r (Ok t) = ap (λ (xs : List TableRow). Ok (record { rows = xs; default = t.default })) (sym (append_assoc rs (r ∷ []) t.rows))
rows_joined rs r (Err f) = refl

-- a row that is not read
module _ (names : List Name) (g : Signature) (s : Sort) (ps : Parameters) (at : ℕ) (r : RowParts) where
  pub row_stops : (e : ReadError) → is_word (codes "ite") r.word ≡ true → StopsRead e (condition_read g ps r.condition) → ReadsRow names (Err e) (row_by g ps s at r)
  row_stops (errors.Fault f) b h = λ others. row_no_condition g s ps at r others (located_view f) b h
  row_stops errors.Memory b h = tt

  pub row_no_value_stops : (e : ReadError) (vs : List Value) → is_word (codes "ite") r.word ≡ true → condition_read g ps r.condition ≡ Ok vs → StopsRead e (value_read g s r.value) → ReadsRow names (Err e) (row_by g ps s at r)
  row_no_value_stops (errors.Fault f) vs b c h = λ others. row_no_value g s ps at r others vs (located_view f) b c h
  row_no_value_stops errors.Memory vs b c h = tt

  pub row_other_stops : (e : ReadError) → is_word (codes "ite") r.word ≡ false → e ≡ errors.Fault (record { offset = at; kind = BadShape }) → ReadsRow names (Err e) (row_by g ps s at r)
  row_other_stops e b is = subst (λ (x : ReadError). ReadsRow names (Err x) (row_by g ps s at r)) (sym is) (λ others. row_other g s ps at r others b)

-- rows that were read before what is left
module _ (g : Signature) (s : Sort) (ps : Parameters) (t : Tree) (rs : List TableRow) (whole : ReadModel Table) (h : with_rows rs (body_read g ps s t) ≡ whole) (n : ℕ) (long : length ps ≡ n) where
  rows_fail : (f : ModelFault) → body_read g ps s t ≡ Err f → whole ≡ Err f
  rows_fail f e = sym h ∙ ap (with_rows rs) e

  pub body_ends : None ≡ row_at n t → (v : Value) → value_read g s t ≡ Ok v → whole ≡ Ok (record { rows = rs; default = v })
  body_ends e v r =
      sym h ∙ ap (with_rows rs) (body_value g s ps t v (subst (λ (k : ℕ). None ≡ row_at k t) (sym long) e) r)
      ∙ ap (λ (xs : List TableRow). Ok (record { rows = xs; default = v })) (append-nil rs)

  pub body_stops : None ≡ row_at n t → (e : ReadError) → StopsRead e (value_read g s t) → StopsRead e whole
  body_stops none_there (errors.Fault f) r = rows_fail (located_view f) (body_no_value g s ps t (located_view f) (subst (λ (k : ℕ). None ≡ row_at k t) (sym long) none_there) r)
  body_stops none_there errors.Memory r = tt

  module _ (x : ℕ × RowParts) (e : Some x ≡ row_at n t) where
    row_here : body_read g ps s t ≡ row_by g ps s x.0 x.1 (body_read g ps s x.1.others)
    row_here = body_row g s ps t x (subst (λ (k : ℕ). Some x ≡ row_at k t) (sym long) e)

    pub body_more : (r : TableRow) → ((others : ReadModel Table) → row_by g ps s x.0 x.1 others ≡ with_rows (r ∷ []) others) → with_rows (rs ++ r ∷ []) (body_read g ps s x.1.others) ≡ whole
    body_more r made = sym (rows_joined rs r (body_read g ps s x.1.others)) ∙ ap (with_rows rs) (sym (made (body_read g ps s x.1.others)) ∙ sym row_here) ∙ h

    pub body_row_stops : (names : List Name) (e : ReadError) → ReadsRow names (Err e) (row_by g ps s x.0 x.1) → StopsRead e whole
    body_row_stops names (errors.Fault f) made = rows_fail (located_view f) (row_here ∙ made (body_read g ps s x.1.others))
    body_row_stops names errors.Memory made = tt
