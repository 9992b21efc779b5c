-- The parts of simplex fit together as literals are held, marks are set, and back.
use Rattle.std.proofs.Common.{◌≡◌, ◌+◌, ◌-◌, ◌<◌, ◌≤◌, ℕ, zero, suc, List, [], ◌∷◌, ◌++◌, length, map, take, get_or, All, Option, Some, None, refl, sym, ap, ◌∙◌, subst, arith}
use Rattle.std.proofs.lemmas.List.{length-append, length-map, take-map, take-append-le, append-nil, take-take, get_or-take, length-take-le}
use Rattle.std.proofs.lemmas.List.Elements.{All-take}
use Rattle.std.proofs.Math.Seq.{take-length}
use Rattle.term_core.specs.declared.ids.TermId.{TermId}
use Rattle.term_core.specs.declared.ids.Lit.{Lit}
use Rattle.term_core.specs.Tables.{TableView}
use Rattle.proof_log.specs.Theories.{TheoryView, Mark, no_mark, mark_now, with_held, with_mark, at_mark, gone_back}
use Rattle.held_literals.specs.Room.{AreHeldMarks, IsHeldOver, without_mark}
use Rattle.simplex_bounds.specs.Held.{BoundsView}
use Rattle.simplex_check.specs.Assignments.{AssignmentView}
use Rattle.simplex_atoms.specs.declared.slack.Slack.{Slack}
use Rattle.simplex_atoms.specs.Limits.{Limit, limit_of}
use Rattle.simplex_atoms.specs.Atoms.{AtomsView, AtomsFit}
use Rattle.simplex.specs.declared.starts.Start.{Start}
use Rattle.simplex_explain.specs.Stated.{stated_by, all_stated, IsKnownIn}
use Rattle.simplex.specs.Views.{SimplexView, SimplexFits, IsOf, start_of, slack_count}
use Rattle.simplex.proofs.Stated.{stated_more, stated_first, first_states_less, count_first, stated_bounded}

-- what is right with bounds is so with those of as many variables
pub right_with : (t : TableView) (a : AtomsView) (b : AssignmentView) (x y : BoundsView) → x.variables ≡ y.variables → AtomsFit t a b x → AtomsFit t a b y
right_with t a b x y e r = record {
  counted = r.counted;
  within = omega (arith, e, r.within);
  owners_in = r.owners_in;
  once = r.once;
  grounded = r.grounded;
  sums = r.sums;
  are_slacked = λ id slack at. record {
    is_in = (r.are_slacked id slack at).is_in;
    is = (r.are_slacked id slack at).is;
    reached = omega (arith, e, (r.are_slacked id slack at).reached);
  };
}

-- what two functions make of marks where they are one at each
pub each_mark : {A : Type 0} (f g : Mark → A) (ms : List Mark) → ((k : ℕ) → k < length ms → f (get_or ms k no_mark) ≡ g (get_or ms k no_mark)) → map f ms ≡ map g ms
each_mark f g [] same = refl
each_mark f g (m ∷ ms) same = λ i. same 0 (omega arith) i ∷ each_mark f g ms (λ k lt. same (suc k) (omega (arith, lt))) i

map_more : {A B : Type 0} (f : A → B) (xs : List A) (x : A) → map f (xs ++ x ∷ []) ≡ map f xs ++ f x ∷ []
map_more f [] x = refl
map_more f (y ∷ ys) x = ap (λ l. f y ∷ l) (map_more f ys x)

-- a start by what literals and terms there were
abbrev start_from : List (ℕ × Slack) → List Lit → List TermId → Start
start_from p held watched = record { bounds = length (all_stated p held); slack_list = slack_count p watched }

-- as many bounds are held as are stated
pub bounds_counted : (v : SimplexView) → SimplexFits v → length v.bounds.held ≡ length (all_stated v.atoms.slack_list v.theory.held)
bounds_counted v f = sym (length-map v.bounds.held limit_of) ∙ ap (λ (l : List Limit). length l) f.bounds_are

-- what is to be known of bounds to which those came that a literal states
pub record HoldsStated (old new : BoundsView) (stated : List Limit) : Type 0 where
  pub held : map limit_of new.held ≡ map limit_of old.held ++ stated
  pub variables : new.variables ≡ old.variables
  pub room : new.room + length stated ≡ old.room

module _ (v : SimplexView) (f : SimplexFits v) where
  abbrev marked : Start → SimplexView
  marked s = record { theory = with_mark v.theory; atoms = v.atoms; assignment = v.assignment; bounds = v.bounds; starts = v.starts ++ s ∷ [] }

  pub fits_marked : (s : Start) → s.bounds ≡ length v.bounds.held → s.slack_list ≡ slack_count v.atoms.slack_list v.theory.watched → SimplexFits (marked s)
  fits_marked s b c = record {
    bounds_are = f.bounds_are;
    starts_are =
        let is : s ≡ start_of v.atoms.slack_list v.theory (mark_now v.theory) = λ i. record {
          bounds = (b ∙ bounds_counted v f ∙ ap (λ ls. length (all_stated v.atoms.slack_list ls)) (sym (take-length v.theory.held))) i;
          slack_list = (c ∙ ap (slack_count v.atoms.slack_list) (sym (take-length v.theory.watched))) i;
        } in
        (λ i. f.starts_are i ++ is i ∷ []) ∙ sym (map_more (start_of v.atoms.slack_list v.theory) v.theory.marks (mark_now v.theory));
    room = f.room;
    reached = f.reached;
  }

  -- without the newest mark
  abbrev unmarked : SimplexView
  unmarked = record { theory = without_mark v.theory; atoms = v.atoms; assignment = v.assignment; bounds = v.bounds; starts = take (length v.theory.marks - 1) v.starts }

  pub fits_unmarked : SimplexFits unmarked
  fits_unmarked = record {
    bounds_are = f.bounds_are;
    starts_are =
        let n = length v.theory.marks - 1 in
        ap (take n) f.starts_are ∙ take-map (start_of v.atoms.slack_list v.theory) n v.theory.marks
        ∙ each_mark (start_of v.atoms.slack_list v.theory) (start_of v.atoms.slack_list (without_mark v.theory)) (take n v.theory.marks) (λ k lt. refl);
    room = f.room;
    reached = f.reached;
  }

module _ (v : SimplexView) (f : SimplexFits v) (m : AreHeldMarks v.theory.held v.theory.watched v.theory.marks) where
  abbrev p : List (ℕ × Slack)
  p = v.atoms.slack_list

  -- there is room for what a literal states that is new
  pub room_for : (l : Lit) → IsHeldOver (v.theory.held ++ l ∷ []) v.theory.watched → length (stated_by p l) ≤ v.bounds.room
  room_for l h = omega (
    arith,
    stated_bounded p (v.theory.held ++ l ∷ []) v.theory.watched h,
    ap (λ (bs : List Limit). length bs) (stated_more p v.theory.held l),
    length-append (all_stated p v.theory.held) (stated_by p l),
    f.room,
    bounds_counted v f,
  )

  abbrev holding : Lit → BoundsView → SimplexView
  holding l bounds = record { theory = with_held v.theory l; atoms = v.atoms; assignment = v.assignment; bounds = bounds; starts = v.starts }

  pub fits_held : (l : Lit) (bounds : BoundsView) → HoldsStated v.bounds bounds (stated_by p l) → SimplexFits (holding l bounds)
  fits_held l bounds h = record {
    bounds_are = h.held ∙ ap (λ (bs : List Limit). bs ++ stated_by p l) f.bounds_are ∙ sym (stated_more p v.theory.held l);
    starts_are = f.starts_are ∙ each_mark (start_of p v.theory) (start_of p (with_held v.theory l)) v.theory.marks
        (λ k lt. ap (λ ls. start_from p ls (take (get_or v.theory.marks k no_mark).watched v.theory.watched))
        (sym (take-append-le (get_or v.theory.marks k no_mark).held v.theory.held (l ∷ []) (m.held_in k lt))));
    room = omega (
      arith,
      f.room,
      h.room,
      ap (λ (bs : List Limit). length bs) h.held,
      length-append (map limit_of v.bounds.held) (stated_by p l),
      length-map v.bounds.held limit_of,
      length-map bounds.held limit_of,
    );
    reached = λ id slack at. omega (arith, h.variables, f.reached id slack at);
  }

  -- going back to a mark
  module _ (kept : ℕ) (lt : kept < length v.theory.marks) where
    abbrev back : Mark
    back = get_or v.theory.marks kept no_mark

    abbrev at : TheoryView
    at = at_mark v.theory kept

    abbrev gone : BoundsView → SimplexView
    gone bounds = record { theory = at; atoms = v.atoms; assignment = v.assignment; bounds = bounds; starts = take kept v.starts }

    pub start_there : (d : Start) → get_or v.starts kept d ≡ start_of p v.theory back
    start_there d = ap (λ ss. get_or ss kept d) f.starts_are ∙ read v.theory.marks kept lt
      where
        read : (ms : List Mark) (k : ℕ) → k < length ms → get_or (map (start_of p v.theory) ms) k d ≡ start_of p v.theory (get_or ms k no_mark)
        read [] k l = absurd (omega (arith, l))
        read (x ∷ ms) zero l = refl
        read (x ∷ ms) (suc k) l = read ms k (omega (arith, l))

    pub within : (start_of p v.theory back).bounds ≤ length v.bounds.held
    within = omega (arith, first_states_less p back.held v.theory.held, bounds_counted v f)

    same_start : (k : ℕ) → k < length (take kept v.theory.marks) → start_of p v.theory (get_or (take kept v.theory.marks) k no_mark) ≡ start_of p at (get_or (take kept v.theory.marks) k no_mark)
    same_start k l =
        let small : k < kept = omega (arith, l, length-take-le kept v.theory.marks (omega (arith, lt))) in
        let is = get_or-take kept v.theory.marks k no_mark small in
        let old = get_or (take kept v.theory.marks) k no_mark in
        let held : old.held ≤ back.held = omega (arith, m.held_order k kept (omega (arith, small)) lt, ap (λ (x : Mark). x.held) is) in
        let watched : old.watched ≤ back.watched = omega (arith, m.watched_order k kept (omega (arith, small)) lt, ap (λ (x : Mark). x.watched) is) in
        sym (λ i. start_from p (take-take old.held back.held v.theory.held held i) (take-take old.watched back.watched v.theory.watched watched i))

    pub fits_back : (bounds : BoundsView) → bounds.held ≡ take (start_of p v.theory back).bounds v.bounds.held → bounds.variables ≡ v.bounds.variables
        → bounds.room + length bounds.held ≡ v.bounds.room + length v.bounds.held → SimplexFits (gone bounds)
    fits_back bounds held variables room = record {
      bounds_are = ap (map limit_of) held ∙ sym (take-map limit_of (start_of p v.theory back).bounds v.bounds.held)
          ∙ ap (take (start_of p v.theory back).bounds) f.bounds_are ∙ stated_first p back.held v.theory.held;
      starts_are = ap (take kept) f.starts_are ∙ take-map (start_of p v.theory) kept v.theory.marks
          ∙ each_mark (start_of p v.theory) (start_of p at) (take kept v.theory.marks) same_start;
      room = omega (arith, room, f.room, count_first p back.watched v.theory.watched);
      reached = λ id slack is. omega (arith, variables, f.reached id slack is);
    }

-- what is kept is right over a table where as many variables have bounds, of the first of the watched terms
pub of_fewer : (t : TableView) (v w : SimplexView) → w.atoms ≡ v.atoms → w.assignment ≡ v.assignment → w.bounds.variables ≡ v.bounds.variables
    → (n : ℕ) → w.theory.watched ≡ take n v.theory.watched → IsOf v t → IsOf w t
of_fewer t v w a b e n is o = record {
  right = subst (λ (x : AtomsView). AtomsFit t x w.assignment w.bounds) (sym a)
      (subst (λ (x : AssignmentView). AtomsFit t v.atoms x w.bounds) (sym b) (right_with t v.atoms v.assignment v.bounds w.bounds (sym e) o.right));
  known = subst (λ (x : AtomsView). All (IsKnownIn t x.slack_list) w.theory.watched) (sym a)
      (subst (All (IsKnownIn t v.atoms.slack_list)) (sym is) (All-take (IsKnownIn t v.atoms.slack_list) n v.theory.watched o.known));
}

-- the same of as many terms
pub of_kept : (t : TableView) (v w : SimplexView) → w.atoms ≡ v.atoms → w.assignment ≡ v.assignment → w.bounds.variables ≡ v.bounds.variables
    → w.theory.watched ≡ v.theory.watched → IsOf v t → IsOf w t
of_kept t v w a b e is = of_fewer t v w a b e (length v.theory.watched) (is ∙ sym (take-length v.theory.watched))

-- no bound comes
pub nothing_stated : (b : BoundsView) → HoldsStated b b []
nothing_stated b = record { held = sym (append-nil (map limit_of b.held)); variables = refl; room = omega arith }

pub gone_is : (v : TheoryView) (n kept : ℕ) → 0 < n → kept ≡ length v.marks - n → gone_back n v ≡ at_mark v kept
gone_is v zero kept lt e = absurd (omega (arith, lt))
gone_is v (suc n) kept lt e = ap (at_mark v) (sym e)

pub as_many : (v : SimplexView) → SimplexFits v → length v.starts ≡ length v.theory.marks
as_many v f = ap (λ (ss : List Start). length ss) f.starts_are ∙ length-map v.theory.marks (start_of v.atoms.slack_list v.theory)

pub no_place : (o p : Option Slack) → o ≡ p → ((x : Slack) → o ≡ Some x → ⊥) → p ≡ None
no_place o None e not = refl
no_place o (Some x) e not = absurd (not x e)
