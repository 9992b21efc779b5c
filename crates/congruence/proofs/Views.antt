-- What a closure's calls do, as a theory's.
use Rattle.std.proofs.Common.{◌≡◌, ℕ, zero, suc, ◌-◌, ◌<◌, ◌≤◌, [], ◌∷◌, ◌++◌, length, map, take, get_or, refl, sym, ap, subst, ◌∙◌, arith}
use Rattle.std.proofs.lemmas.List.{map-append, length-map, get_or-map, get_or_past, take_all, take-map}
use Rattle.term_core.specs.declared.ids.Lit.{Lit}
use Rattle.proof_log.specs.Theories.{Mark, no_mark, with_held as theory_held, with_watched, with_mark, at_mark, gone_back}
use Rattle.congruence_relation.specs.Relation.{Application, Facts}
use Rattle.congruence_closure.specs.Closure.{ClosureState, ClosureView, ArePrefix}
use Rattle.congruence_closure.specs.State.{with_listed, with_held}
use Rattle.congruence.specs.Views.{mark_of, theory_of}

-- a term more is listed
pub watched_more : (v w : ClosureView) (x : Application) → w.now.facts ≡ with_listed v.now.facts x → w.marks ≡ v.marks → theory_of w ≡ with_watched (theory_of v) x.term
watched_more v w x e m = λ i. record {
  held = (e i).held;
  watched = (ap (λ (f : Facts). map (λ (y : Application). y.term) f.listed) e ∙ map-append (λ (y : Application). y.term) v.now.facts.listed (x ∷ [])) i;
  marks = map mark_of (m i);
}

-- a literal more is held
pub held_more : (v w : ClosureView) (l : Lit) → w.now.facts ≡ with_held v.now.facts l → w.marks ≡ v.marks → theory_of w ≡ theory_held (theory_of v) l
held_more v w l e m = λ i. record { held = (e i).held; watched = map (λ (y : Application). y.term) (e i).listed; marks = map mark_of (m i) }

-- nothing came
pub same_view : (v w : ClosureView) → w.now.facts ≡ v.now.facts → w.marks ≡ v.marks → theory_of w ≡ theory_of v
same_view v w e m = λ i. record { held = (e i).held; watched = map (λ (y : Application). y.term) (e i).listed; marks = map mark_of (m i) }

length_watched : (f : Facts) → length (map (λ (y : Application). y.term) f.listed) ≡ length f.listed
length_watched f = length-map f.listed (λ (y : Application). y.term)

-- a mark more is set
pub marked_more : (v w : ClosureView) → w.now ≡ v.now → w.marks ≡ v.marks ++ v.now ∷ [] → theory_of w ≡ with_mark (theory_of v)
marked_more v w e m = λ i. record {
  held = (e i).facts.held;
  watched = map (λ (y : Application). y.term) (e i).facts.listed;
  marks = (ap (map mark_of) m ∙ map-append mark_of v.marks (v.now ∷ []) ∙ ap (λ n. map mark_of v.marks ++ record { held = length v.now.facts.held; watched = n } ∷ []) (sym (length_watched v.now.facts))) i;
}

-- after going back to a mark at which the facts were a prefix of the present ones
module _ (v w : ClosureView) (k : ℕ) (low : k < length v.marks) (now : w.now ≡ get_or v.marks k v.now) (marks : w.marks ≡ take k v.marks) (front : ArePrefix (get_or v.marks k v.now).facts v.now.facts) where
  mark_is : get_or (map mark_of v.marks) k no_mark ≡ mark_of w.now
  mark_is = get_or-map mark_of v.marks k v.now no_mark low ∙ ap mark_of (sym now)

  held_is : w.now.facts.held ≡ take (length w.now.facts.held) v.now.facts.held
  held_is = ap (λ (s : ClosureState). s.facts.held) now ∙ front.held ∙ ap (λ (s : ClosureState). take (length s.facts.held) v.now.facts.held) (sym now)

  listed_is : w.now.facts.listed ≡ take (length w.now.facts.listed) v.now.facts.listed
  listed_is = ap (λ (s : ClosureState). s.facts.listed) now ∙ front.listed ∙ ap (λ (s : ClosureState). take (length s.facts.listed) v.now.facts.listed) (sym now)

  pub back_to : theory_of w ≡ at_mark (theory_of v) k
  back_to = λ i. record {
    held = (held_is ∙ ap (λ (m : Mark). take m.held v.now.facts.held) (sym mark_is)) i;
    watched = (ap (map (λ (y : Application). y.term)) listed_is ∙ sym (take-map (λ (y : Application). y.term) (length w.now.facts.listed) v.now.facts.listed) ∙ ap (λ (m : Mark). take m.watched (map (λ (y : Application). y.term) v.now.facts.listed)) (sym mark_is)) i;
    marks = (ap (map mark_of) marks ∙ sym (take-map mark_of k v.marks)) i;
  }

-- after going back so many marks
pub went_back : (v w : ClosureView) (n : ℕ) → n ≤ length v.marks → w.now ≡ get_or v.marks (length v.marks - n) v.now → w.marks ≡ take (length v.marks - n) v.marks → ((k : ℕ) → k < length v.marks → ArePrefix (get_or v.marks k v.now).facts v.now.facts) → theory_of w ≡ gone_back n (theory_of v)
went_back v w zero h now marks fronts = same_view v w (ap (λ (s : ClosureState). s.facts) (now ∙ past)) (marks ∙ all)
  where
    past : get_or v.marks (length v.marks - 0) v.now ≡ v.now
    past = get_or_past v.marks (length v.marks - 0) v.now (omega arith)

    all : take (length v.marks - 0) v.marks ≡ v.marks
    all = take_all (length v.marks - 0) v.marks (omega arith)
went_back v w (suc n) h now marks fronts = back_to v w (length v.marks - suc n) (omega (arith, h)) now marks (fronts (length v.marks - suc n) (omega (arith, h))) ∙ ap (λ m. at_mark (theory_of v) (m - suc n)) (sym (length-map v.marks mark_of))

-- the marks are the closure's
pub marks_there : (v : ClosureView) (n : ℕ) → n ≤ length (theory_of v).marks → n ≤ length v.marks
marks_there v n h = rw (sym (length-map v.marks mark_of)) h

-- what it is about after going back is a prefix of what it was about
pub back_front : (v w : ClosureView) (n : ℕ) → n ≤ length v.marks → w.now ≡ get_or v.marks (length v.marks - n) v.now → ((k : ℕ) → k < length v.marks → ArePrefix (get_or v.marks k v.now).facts v.now.facts) → ArePrefix w.now.facts v.now.facts
back_front v w zero h now fronts =
    let same : w.now ≡ v.now = now ∙ get_or_past v.marks (length v.marks - 0) v.now (omega arith) in
    subst (λ (s : ClosureState). ArePrefix s.facts v.now.facts) (sym same) (record {
      listed = sym (take_all (length v.now.facts.listed) v.now.facts.listed (omega arith));
      truths = refl;
      held = sym (take_all (length v.now.facts.held) v.now.facts.held (omega arith));
    })
back_front v w (suc n) h now fronts = subst (λ (s : ClosureState). ArePrefix s.facts v.now.facts) (sym now) (fronts (length v.marks - suc n) (omega (arith, h)))
