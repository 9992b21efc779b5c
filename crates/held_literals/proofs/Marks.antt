-- Marks: with more held or watched, with a mark more, and after going back.
use Rattle.std.proofs.Common.{◌≡◌, ◌+◌, ◌<◌, ◌≤◌, ℕ, zero, suc, List, [], ◌∷◌, ◌++◌, length, get_or, take, ◌⊎◌, inl, inr, refl, sym, ap, ◌∙◌, subst, arith}
use Rattle.std.proofs.lemmas.List.{length-append, take-append-le, take-take, get_or-take, length-take-le}
use Rattle.std.proofs.Math.Seq.{take-length}
use Rattle.term_core.specs.declared.ids.TermId.{TermId}
use Rattle.term_core.specs.declared.ids.Lit.{Lit}
use Rattle.proof_log.specs.Theories.{Mark, no_mark}
use Rattle.held_literals.specs.declared.held.HeldCounts.{HeldCounts}
use Rattle.held_literals.specs.Room.{HasRoom, AreHeldMarks, AreOverWatched, mark_of, marks_of}

pub early : {A : Type 0} (xs ys : List A) (k : ℕ) (d : A) → k < length xs → get_or (xs ++ ys) k d ≡ get_or xs k d
early [] ys k d lt = absurd (omega (arith, lt))
early (x ∷ xs) ys zero d lt = refl
early (x ∷ xs) ys (suc k) d lt = early xs ys k d (omega (arith, lt))

pub last : {A : Type 0} (xs : List A) (x d : A) → get_or (xs ++ x ∷ []) (length xs) d ≡ x
last [] x d = refl
last (y ∷ xs) x d = last xs x d

pub place : (k n : ℕ) → k < n + 1 → (k < n) ⊎ (k ≡ n)
place zero zero lt = inr refl
place zero (suc n) lt = inl (omega arith)
place (suc k) zero lt = absurd (omega (arith, lt))
place (suc k) (suc n) lt = elim (place k n (omega (arith, lt))) [ inl l ↦ inl (omega (arith, l)) | inr e ↦ inr (ap suc e) ]

-- a mark of what is there now
abbrev pub mark_now : List Lit → List TermId → Mark
mark_now held watched = record { held = length held; watched = length watched }

module _ (held : List Lit) (watched : List TermId) (marks : List Mark) (m : AreHeldMarks held watched marks) where
  pub marks_held : (l : Lit) → AreHeldMarks (held ++ l ∷ []) watched marks
  marks_held l = record {
    held_in = λ k lt. omega (arith, m.held_in k lt, length-append held (l ∷ []));
    watched_in = m.watched_in;
    held_order = m.held_order;
    watched_order = m.watched_order;
    over = λ k lt. subst (λ h. AreOverWatched h (take (get_or marks k no_mark).watched watched)) (sym (take-append-le (get_or marks k no_mark).held held (l ∷ []) (m.held_in k lt))) (m.over k lt);
  }

  pub marks_watched : (t : TermId) → AreHeldMarks held (watched ++ t ∷ []) marks
  marks_watched t = record {
    held_in = m.held_in;
    watched_in = λ k lt. omega (arith, m.watched_in k lt, length-append watched (t ∷ []));
    held_order = m.held_order;
    watched_order = m.watched_order;
    over = λ k lt. subst (λ w. AreOverWatched (take (get_or marks k no_mark).held held) w) (sym (take-append-le (get_or marks k no_mark).watched watched (t ∷ []) (m.watched_in k lt))) (m.over k lt);
  }

  at : (P : Mark → Type 0) → ((k : ℕ) → k < length marks → P (get_or marks k no_mark)) → P (mark_now held watched) → (k : ℕ) → k < length (marks ++ mark_now held watched ∷ []) → P (get_or (marks ++ mark_now held watched ∷ []) k no_mark)
  at P old now k lt = elim (place k (length marks) (omega (arith, lt, length-append marks (mark_now held watched ∷ [])))) [
    | inl less ↦ subst P (sym (early marks (mark_now held watched ∷ []) k no_mark less)) (old k less)
    | inr is ↦ subst P (sym (ap (λ n. get_or (marks ++ mark_now held watched ∷ []) n no_mark) is ∙ last marks (mark_now held watched) no_mark)) now
  ]

  pub marks_more : AreOverWatched held watched → AreHeldMarks held watched (marks ++ mark_now held watched ∷ [])
  marks_more over = record {
    held_in = at (λ x. x.held ≤ length held) m.held_in (omega arith);
    watched_in = at (λ x. x.watched ≤ length watched) m.watched_in (omega arith);
    held_order = λ i j le lt. elim (place j (length marks) (omega (arith, lt, length-append marks (mark_now held watched ∷ [])))) [
      | inl less ↦ (let a = early marks (mark_now held watched ∷ []) i no_mark (omega (arith, le, less)) in let b = early marks (mark_now held watched ∷ []) j no_mark less in omega (arith, m.held_order i j le less, ap (λ (x : Mark). x.held) a, ap (λ (x : Mark). x.held) b))
      | inr is ↦ (let b = ap (λ n. get_or (marks ++ mark_now held watched ∷ []) n no_mark) is ∙ last marks (mark_now held watched) no_mark in
          let a = at (λ x. x.held ≤ length held) m.held_in (omega arith) i (omega (arith, le, lt)) in omega (arith, a, ap (λ (x : Mark). x.held) b))
    ];
    watched_order = λ i j le lt. elim (place j (length marks) (omega (arith, lt, length-append marks (mark_now held watched ∷ [])))) [
      | inl less ↦ (let a = early marks (mark_now held watched ∷ []) i no_mark (omega (arith, le, less)) in let b = early marks (mark_now held watched ∷ []) j no_mark less in omega (arith, m.watched_order i j le less, ap (λ (x : Mark). x.watched) a, ap (λ (x : Mark). x.watched) b))
      | inr is ↦ (let b = ap (λ n. get_or (marks ++ mark_now held watched ∷ []) n no_mark) is ∙ last marks (mark_now held watched) no_mark in
          let a = at (λ x. x.watched ≤ length watched) m.watched_in (omega arith) i (omega (arith, le, lt)) in omega (arith, a, ap (λ (x : Mark). x.watched) b))
    ];
    over = at (λ x. AreOverWatched (take x.held held) (take x.watched watched)) m.over (subst (λ h. AreOverWatched h (take (length watched) watched)) (sym (take-length held)) (subst (AreOverWatched held) (sym (take-length watched)) over));
  }

  -- the first of the marks
  pub marks_first : (n : ℕ) → n ≤ length marks → AreHeldMarks held watched (take n marks)
  marks_first n le =
      let size = length-take-le n marks le in
      record {
        held_in = λ k l. omega (arith, m.held_in k (omega (arith, l, size, le)), ap (λ (x : Mark). x.held) (get_or-take n marks k no_mark (omega (arith, l, size))));
        watched_in = λ k l. omega (arith, m.watched_in k (omega (arith, l, size, le)), ap (λ (x : Mark). x.watched) (get_or-take n marks k no_mark (omega (arith, l, size))));
        held_order = λ i j e l. let a = get_or-take n marks i no_mark (omega (arith, e, l, size)) in let b = get_or-take n marks j no_mark (omega (arith, l, size)) in omega (arith, m.held_order i j e (omega (arith, l, size, le)), ap (λ (x : Mark). x.held) a, ap (λ (x : Mark). x.held) b);
        watched_order = λ i j e l. let a = get_or-take n marks i no_mark (omega (arith, e, l, size)) in let b = get_or-take n marks j no_mark (omega (arith, l, size)) in omega (arith, m.watched_order i j e (omega (arith, l, size, le)), ap (λ (x : Mark). x.watched) a, ap (λ (x : Mark). x.watched) b);
        over = λ k l. subst (λ (x : Mark). AreOverWatched (take x.held held) (take x.watched watched)) (sym (get_or-take n marks k no_mark (omega (arith, l, size)))) (m.over k (omega (arith, l, size, le)));
      }

  -- going back to a mark
  module _ (kept : ℕ) (lt : kept < length marks) where
    abbrev back : Mark
    back = get_or marks kept no_mark

    size_held : length (take back.held held) ≡ back.held
    size_held = length-take-le back.held held (m.held_in kept lt)

    size_watched : length (take back.watched watched) ≡ back.watched
    size_watched = length-take-le back.watched watched (m.watched_in kept lt)

    size_marks : length (take kept marks) ≡ kept
    size_marks = length-take-le kept marks (omega (arith, lt))

    pub marks_back : AreHeldMarks (take back.held held) (take back.watched watched) (take kept marks)
    marks_back = record {
      held_in = λ k l. let a = get_or-take kept marks k no_mark (omega (arith, l, size_marks)) in omega (arith, m.held_order k kept (omega (arith, l, size_marks)) lt, size_held, ap (λ (x : Mark). x.held) a);
      watched_in = λ k l. let a = get_or-take kept marks k no_mark (omega (arith, l, size_marks)) in omega (arith, m.watched_order k kept (omega (arith, l, size_marks)) lt, size_watched, ap (λ (x : Mark). x.watched) a);
      held_order = λ i j le l. let a = get_or-take kept marks i no_mark (omega (arith, le, l, size_marks)) in let b = get_or-take kept marks j no_mark (omega (arith, l, size_marks)) in omega (arith, m.held_order i j le (omega (arith, l, size_marks, lt)), ap (λ (x : Mark). x.held) a, ap (λ (x : Mark). x.held) b);
      watched_order = λ i j le l. let a = get_or-take kept marks i no_mark (omega (arith, le, l, size_marks)) in let b = get_or-take kept marks j no_mark (omega (arith, l, size_marks)) in omega (arith, m.watched_order i j le (omega (arith, l, size_marks, lt)), ap (λ (x : Mark). x.watched) a, ap (λ (x : Mark). x.watched) b);
      over = λ k l.
          let small : k < kept = omega (arith, l, size_marks) in
          let x : Mark = get_or marks k no_mark in
          subst (λ (y : Mark). AreOverWatched (take y.held (take back.held held)) (take y.watched (take back.watched watched))) (sym (get_or-take kept marks k no_mark small))
          (subst (λ h. AreOverWatched h (take x.watched (take back.watched watched))) (sym (take-take x.held back.held held (m.held_order k kept (omega (arith, small)) lt)))
          (subst (AreOverWatched (take x.held held)) (sym (take-take x.watched back.watched watched (m.watched_order k kept (omega (arith, small)) lt))) (m.over k (omega (arith, small, lt)))));
    }

    pub room_back : (capacity : ℕ) → HasRoom held watched capacity → HasRoom (take back.held held) (take back.watched watched) capacity
    room_back capacity r = record {
      literals = record {
        once = λ i j d l n e. r.literals.once i j d l (omega (arith, n, size_held, m.held_in kept lt)) (sym (get_or-take back.held held i d (omega (arith, l, n, size_held))) ∙ e ∙ get_or-take back.held held j d (omega (arith, n, size_held)));
        over = m.over kept lt;
      };
      room = omega (arith, r.room, size_watched, m.watched_in kept lt);
    }

-- the marks of places
pub marks_more_of : (ps : List HeldCounts) (p : HeldCounts) → marks_of (ps ++ p ∷ []) ≡ marks_of ps ++ mark_of p ∷ []
marks_more_of [] p = refl
marks_more_of (q ∷ ps) p = ap (λ ms. mark_of q ∷ ms) (marks_more_of ps p)

pub mark_at : (ps : List HeldCounts) (k : ℕ) (d : HeldCounts) → k < length ps → get_or (marks_of ps) k no_mark ≡ mark_of (get_or ps k d)
mark_at [] k d lt = absurd (omega (arith, lt))
mark_at (p ∷ ps) zero d lt = refl
mark_at (p ∷ ps) (suc k) d lt = mark_at ps k d (omega (arith, lt))

pub marks_kept : (ps : List HeldCounts) (k : ℕ) → marks_of (take k ps) ≡ take k (marks_of ps)
marks_kept [] zero = refl
marks_kept [] (suc k) = refl
marks_kept (p ∷ ps) zero = refl
marks_kept (p ∷ ps) (suc k) = ap (λ ms. mark_of p ∷ ms) (marks_kept ps k)

pub marks_count : (ps : List HeldCounts) → length (marks_of ps) ≡ length ps
marks_count [] = refl
marks_count (p ∷ ps) = ap suc (marks_count ps)
