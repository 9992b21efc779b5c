-- Lists whose rows are read.
use Rattle.std.proofs.Common.{◌≡◌, ℕ, List, [], ◌∷◌, ◌++◌, length, take, drop, get_or, refl, ap, sym, ◌∙◌, subst}
use Rattle.std.specs.Prelude.{Ok, Err}
use Rattle.std.proofs.lemmas.List.Elements.{All-take}
use Rattle.spec_text.specs.Answers.{◌>>=◌}
use Rattle.spec_sorts.specs.Signatures.{Signature, with_definitions}
use Rattle.spec_reading.specs.Names.{Setting}
use Rattle.spec_reading.specs.Reading.{Reading, applied}
use Rattle.smt_sexpr.specs.Items.{trees_meant}
use Rattle.term_core.specs.declared.ids.TermId.{TermId}
use Rattle.term_core.specs.Tables.{TableView, term_at, IsIn, AreIn, clause_at}
use Rattle.term_reader.specs.declared.faults.ReadError.{ReadError}
use Rattle.term_reader.specs.Heads.{ReturnsTerm}
use Rattle.term_reader.specs.Scopes.{ScopeMeans}
use Rattle.term_reader.proofs.Tables.{keeps_same}
use Rattle.term_reader.proofs.OverTable.{meaning_kept}
use Rattle.sort_check.specs.declared.applied.Called.{Called}
use Rattle.sort_check.specs.declared.frames.Opened.TheVariants.{Applies, Body}
use Rattle.sort_check.specs.declared.frames.Frame.{Frame}
use Rattle.sort_check.specs.Bindings.{BindingsView, bound_at}
use Rattle.sort_check.specs.Reads.{HasFault}
use Rattle.sort_check.specs.Walks.{readings_in, Level, first_term, closes, IsUnder, IsWaiting, HasTexts, Here, terms_of_definitions, IsWalk, with_frame}
use Rattle.sort_check.proofs.Kept.{mean_kept, in_kept, bound_kept}
use Rattle.sort_check.proofs.Binding.{bound_front}
use Rattle.sort_check.proofs.Walking.{popped, row_read, close_fault, close_goes, row_values, one_value, stops_by}

module _ (w : Setting) (root : Level) (h : Here) (f : Frame) (k : IsWalk w root (with_frame h f)) where
  -- a name before arguments
  module _ (c : Called) (opened : f.opened ≡ Applies c) where
    -- what is known where the row is read
    abbrev known : Signature
    known = with_definitions k.inner.base.signature k.made

    meant : (ids : List TermId) → ids ≡ drop f.from h.values → applied known (bound_at h.table h.bound) c.place c.name.now c.at (clause_at h.table ids) ≡ applied known k.inner.base.bound c.place c.name.now c.at k.done
    meant ids is = λ i. applied known (k.bound i) c.place c.name.now c.at ((ap (clause_at h.table) is ∙ (row_values w root h f k).1) i)

    pub applied_closes : (t : TableView) (id : TermId) (ids : List TermId) → ids ≡ drop f.from h.values
        → ((s : Signature) → ScopeMeans h.table h.scope s → ReturnsTerm h.table t (applied s (bound_at h.table h.bound) c.place c.name.now c.at (clause_at h.table ids)) (Ok id))
        → IsWalk w root (record h { table = t; values = take f.from h.values ++ id ∷ []; rest = trees_meant f.after })
    unfolding ◌>>=◌
    applied_closes t id ids is answers =
        let a = answers known k.represents in
        let o = (popped w root h f k).opens in
        let l = (popped w root h f k).level in
        let x : Reading = record { made = k.made; term = term_at t id } in
        let read : closes w f.opened k.inner (row_read w root h f k) ≡ Ok x =
        ap (λ p. closes w p k.inner (row_read w root h f k)) opened
        ∙ ap (λ b. b >>= λ u. Ok (record { made = k.made; term = u })) (sym (meant ids is) ∙ a.ends.1) in
        let under : k.inner.base.bound ≡ l.base.bound = subst (λ p. IsUnder p l.base.bound k.inner.base.bound) opened o.bound in
        let waits : k.inner.waiting ≡ l.waiting = subst (λ p. IsWaiting p l.waiting k.inner.waiting) opened o.waiting in
        close_goes w root h f k x t h.scope h.bound id h.named k.total read a.keeps a.ends.0 refl
        (meaning_kept h.table t a.keeps h.scope known k.represents)
        (in_kept h.table t a.keeps h.bound.terms k.bound_there)
        (bound_kept h.table t a.keeps h.bound k.bound_there ∙ k.bound ∙ under) waits
        k.known (mean_kept h.table t a.keeps h.named (terms_of_definitions k.total) k.named)

    pub applied_stops : (t : TableView) (ids : List TermId) → ids ≡ drop f.from h.values → (stop : ReadError)
        → ((s : Signature) → ScopeMeans h.table h.scope s → ReturnsTerm h.table t (applied s (bound_at h.table h.bound) c.place c.name.now c.at (clause_at h.table ids)) (Err stop))
        → HasFault (readings_in w root.base) stop
    unfolding ◌>>=◌
    applied_stops t ids is stop answers =
        let a = answers known k.represents in
        stops_by w root t (applied known (bound_at h.table h.bound) c.place c.name.now c.at (clause_at h.table ids)) stop a.ends
        (λ e wrong. close_fault w root h f k e
        (ap (λ p. closes w p k.inner (row_read w root h f k)) opened
        ∙ ap (λ b. b >>= λ u. Ok (record { made = k.made; term = u })) (sym (meant ids is) ∙ wrong)))

  -- a body under bindings
  pub body_closes : (bound : ℕ) → f.opened ≡ Body bound → (d : TermId) (c : BindingsView) → length h.bound.names ≡ length h.bound.terms → c ≡ record { names = take bound h.bound.names; terms = take bound h.bound.terms }
      → IsWalk w root (record h { values = take f.from h.values ++ get_or h.values f.from d ∷ []; bound = c; rest = trees_meant f.after })
  body_closes bound opened d c long is =
      let o = (popped w root h f k).opens in
      let l = (popped w root h f k).level in
      let x : Reading = record { made = k.made; term = first_term k.done } in
      let under = subst (λ p. IsUnder p l.base.bound k.inner.base.bound) opened o.bound in
      let waits : k.inner.waiting ≡ l.waiting = subst (λ p. IsWaiting p l.waiting k.inner.waiting) opened o.waiting in
      let one = one_value w root h f k d (subst (λ p. HasTexts p k.inner.base.texts) opened o.texts) in
      close_goes w root h f k x h.table h.scope c (get_or h.values f.from d) h.named k.total
      (ap (λ p. closes w p k.inner (row_read w root h f k)) opened) (keeps_same h.table) one.1.0 one.1.1
      k.represents
      (subst (λ (v : BindingsView). AreIn h.table v.terms) (sym is) (All-take (λ i. IsIn h.table i) bound h.bound.terms k.bound_there))
      (ap (bound_at h.table) is ∙ bound_front h.table h.bound under.0 l.base.bound bound long (k.bound ∙ under.1) under.2) waits
      k.known k.named
