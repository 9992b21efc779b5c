-- What a step in a row comes to, and what it comes to for the rows around it.
use Rattle.std.proofs.Common.{◌≡◌, List, [], ◌∷◌, ◌++◌, refl, ap, sym, ◌∙◌, subst, append_assoc, append-nil}
use Rattle.std.specs.Prelude.{Ok, Err}
use Rattle.spec_text.specs.Faults.{Located}
use Rattle.spec_text.specs.Answers.{Answer, ◌>>=◌}
use Rattle.spec_text.specs.Trees.{Tree, Trees, none, more}
use Rattle.spec_text.proofs.AnswerLaws.{answer}
use Rattle.spec_sorts.specs.Signatures.{Signature, with_definitions}
use Rattle.spec_reading.specs.Names.{Setting}
use Rattle.spec_reading.specs.Reading.{Bound, Reading, Readings, reading, readings}
use Rattle.spec_reading.proofs.Values.{with_both}
use Rattle.smt_sexpr.specs.Items.{trees_meant}
use Rattle.sort_check.specs.declared.frames.Frame.{Frame}
use Rattle.sort_check.specs.Walks.{Base, readings_in, RowProgress, known_after, with_row, IsRow, Level, first_term, closes, after_made, Opens, Chain}

-- no definitions more
pub with_no : (s : Signature) → with_definitions s [] ≡ s
with_no s = append-nil s

module _ (w : Setting) where
  -- the row with one text more
  pub row_with : RowProgress → Reading → RowProgress
  row_with r x = record { base = r.base; made = r.made ++ x.made; done = r.done ++ x.term ∷ [] }

  -- a text is read
  pub row_step : (r : RowProgress) (t : Tree) (rest : Trees) (x : Reading) → IsRow w r (more t rest) → reading w (known_after r) r.base.bound t ≡ Ok x
      → IsRow w (record { base = r.base; made = r.made ++ x.made; done = r.done ++ x.term ∷ [] }) rest
  unfolding ◌>>=◌ readings
  row_step r t rest x h e =
      h
      ∙ ap (λ a. (a >>= λ y. readings w (with_definitions (known_after r) y.made) r.base.bound rest >>= λ ys. Ok (record { made = y.made ++ ys.made; terms = y.term ∷ ys.terms })) >>= λ rs. Ok (with_row r rs)) e
      ∙ further (readings w (with_definitions (known_after r) x.made) r.base.bound rest)
      ∙ ap (λ s. readings w s r.base.bound rest >>= λ rs. Ok (with_row later rs)) (sym (with_both r.base.signature r.made x.made))
    where
      later : RowProgress
      later = record { base = r.base; made = r.made ++ x.made; done = r.done ++ x.term ∷ [] }

      further : (a : Answer Readings) → ((a >>= λ ys. Ok (record { made = x.made ++ ys.made; terms = x.term ∷ ys.terms })) >>= λ rs. Ok (with_row r rs)) ≡ (a >>= λ rs. Ok (with_row later rs))
      further (Err f) = refl
      further (Ok ys) =
          let m : r.made ++ (x.made ++ ys.made) ≡ (r.made ++ x.made) ++ ys.made = sym (append_assoc r.made x.made ys.made) in
          let d : r.done ++ (x.term ∷ ys.terms) ≡ (r.done ++ x.term ∷ []) ++ ys.terms = sym (append_assoc r.done (x.term ∷ []) ys.terms) in
          λ i. Ok (record { made = m i; terms = d i })

  -- a text has a fault
  pub row_fault : (r : RowProgress) (t : Tree) (rest : Trees) (f : Located) → IsRow w r (more t rest) → reading w (known_after r) r.base.bound t ≡ Err f → readings_in w r.base ≡ Err f
  unfolding ◌>>=◌ readings
  row_fault r t rest f h e =
      h ∙ ap (λ a. (a >>= λ y. readings w (with_definitions (known_after r) y.made) r.base.bound rest >>= λ ys. Ok (record { made = y.made ++ ys.made; terms = y.term ∷ ys.terms })) >>= λ rs. Ok (with_row r rs)) e

  -- all of a row is read
  pub row_end : (r : RowProgress) → IsRow w r none → readings_in w r.base ≡ Ok (record { made = r.made; terms = r.done })
  unfolding ◌>>=◌ readings
  row_end r h = h ∙ (λ i. Ok (record { made = append-nil r.made i; terms = append-nil r.done i }))

  -- nothing of a row is read
  pub row_start : (x : Base) → IsRow w (record { base = x; made = []; done = [] }) x.texts
  unfolding ◌>>=◌
  row_start x = go (readings_in w x) ∙ ap (λ s. readings w s x.bound x.texts >>= λ rs. Ok (with_row (record { base = x; made = []; done = [] }) rs)) (sym (with_no x.signature))
    where
      go : (a : Answer Readings) → a ≡ (a >>= λ rs. Ok (with_row (record { base = x; made = []; done = [] }) rs))
      go (Ok rs) = refl
      go (Err f) = refl

  -- one text, as a row
  pub one_text : (s : Signature) (b : Bound) (t : Tree) → readings w s b (more t none) ≡ (reading w s b t >>= λ r. Ok (record { made = r.made; terms = r.term ∷ [] }))
  unfolding ◌>>=◌ readings
  one_text s b t = go (reading w s b t)
    where
      go : (a : Answer Reading) → (let x : Answer Readings = (a >>= λ r. Ok (record { made = r.made ++ []; terms = r.term ∷ [] })) in x) ≡ (let y : Answer Readings = (a >>= λ r. Ok (record { made = r.made; terms = r.term ∷ [] })) in y)
      go (Ok r) = λ i. Ok (record { made = append-nil r.made i; terms = r.term ∷ [] })
      go (Err f) = refl

  -- the list that is open has the fault of its row
  pub opened_fault : (l m : Level) (f : Frame) (e : Located) → Opens w l f m → readings_in w m.base ≡ Err e → readings_in w l.base ≡ Err e
  unfolding ◌>>=◌
  opened_fault l m f e o h =
      row_fault (record { base = l.base; made = o.made; done = o.done }) o.tree (trees_meant f.after) e o.row
      (o.is ∙ ap (λ a. a >>= λ r. closes w f.opened m r >>= λ x. Ok (after_made o.begun x)) h)

  -- and so has the outermost row
  pub chain_fault : (fs : List Frame) (l m : Level) (e : Located) → Chain w l fs m → readings_in w m.base ≡ Err e → readings_in w l.base ≡ Err e
  chain_fault [] l m e c h = ap (λ (x : Level). readings_in w x.base) (sym c) ∙ h
  chain_fault (f ∷ fs) l m e c h = opened_fault l c.0 f e c.1 (chain_fault fs c.0 m e c.2 h)

  -- the list that is open has a fault of its own
  pub closed_fault : (l m : Level) (f : Frame) (e : Located) (r : Readings) (o : Opens w l f m) → readings_in w m.base ≡ Ok r → closes w f.opened m r ≡ Err e
      → readings_in w l.base ≡ Err e
  unfolding ◌>>=◌
  closed_fault l m f e r o h k =
      row_fault (record { base = l.base; made = o.made; done = o.done }) o.tree (trees_meant f.after) e o.row
      (o.is ∙ ap (λ a. a >>= λ r. closes w f.opened m r >>= λ x. Ok (after_made o.begun x)) h ∙ ap (λ a. a >>= λ x. Ok (after_made o.begun x)) k)

  -- the list that is open is read
  pub closed_reading : (l m : Level) (f : Frame) (r : Readings) (x : Reading) (o : Opens w l f m) → readings_in w m.base ≡ Ok r → closes w f.opened m r ≡ Ok x
      → reading w (with_definitions l.base.signature o.made) l.base.bound o.tree ≡ Ok (after_made o.begun x)
  unfolding ◌>>=◌
  closed_reading l m f r x o h k =
      o.is ∙ ap (λ a. a >>= λ r. closes w f.opened m r >>= λ x. Ok (after_made o.begun x)) h ∙ ap (λ a. a >>= λ x. Ok (after_made o.begun x)) k

  -- a list opens in the innermost row
  pub chain_push : (fs : List Frame) (l m k : Level) (f : Frame) → Chain w l fs m → Opens w m f k → Chain w l (fs ++ f ∷ []) k
  chain_push [] l m k f c o = (k, subst (λ (x : Level). Opens w x f k) c o, refl)
  chain_push (g ∷ fs) l m k f c o = (c.0, c.1, chain_push fs c.0 m k f c.2 o)

  -- The innermost list that is open, and those around it.
  pub record Popped (l : Level) (fs : List Frame) (f : Frame) (k : Level) : Type 0 where
    -- the row around it
    pub level : Level
    -- the lists around that
    pub chain : Chain w l fs level
    -- it is open there
    pub opens : Opens w level f k

  pub chain_pop : (fs : List Frame) (l k : Level) (f : Frame) → Chain w l (fs ++ f ∷ []) k → Popped l fs f k
  chain_pop [] l k f c = record { level = l; chain = refl; opens = subst (λ (x : Level). Opens w l f x) (sym c.2) c.1 }
  chain_pop (g ∷ fs) l k f c = let p = chain_pop fs c.0 k f c.2 in record { level = p.level; chain = (c.0, c.1, p.chain); opens = p.opens }

module _ (w : Setting) where
  -- a row of one text has one term
  pub one_done : (s : Signature) (b : Bound) (t : Tree) (ts : Trees) (r : Readings) → ts ≡ more t none → readings w s b ts ≡ Ok r → r.terms ≡ first_term r.terms ∷ []
  unfolding ◌>>=◌
  one_done s b t ts r is e = go (reading w s b t) (sym (one_text w s b t) ∙ ap (readings w s b) (sym is) ∙ e)
    where
      go : (a : Answer Reading) → (a >>= λ x. Ok (record { made = x.made; terms = x.term ∷ [] })) ≡ Ok r → r.terms ≡ first_term r.terms ∷ []
      go (Ok x) h = let same : (let z : Readings = record { made = x.made; terms = x.term ∷ [] } in z) ≡ r = answer (Ok _) r h in ap (λ (z : Readings). z.terms) (sym same) ∙ ap (λ (z : Readings). first_term z.terms ∷ []) same
      go (Err f) h = absurd (answer (Err f) r h)
