-- A mark that is set for one call, and taken away or gone back to.
use Rattle.std.proofs.Common.{◌≡◌, ◌-◌, [], ◌∷◌, ◌++◌, length, take, get_or, ap, ◌∙◌, arith}
use Rattle.std.proofs.lemmas.List.{length-append}
use Rattle.std.proofs.Math.Seq.{take-append_seam, take-length, get_or-append_seam}
use Rattle.term_core.specs.declared.ids.TermId.{TermId}
use Rattle.proof_log.specs.Theories.{Mark, no_mark, TheoryView, mark_now, with_watched, with_mark, gone_back}
use Rattle.held_literals.specs.Room.{without_mark}

module _ (v : TheoryView) where
  before : length (v.marks ++ mark_now v ∷ []) - 1 ≡ length v.marks
  before = omega (arith, length-append v.marks (mark_now v ∷ []))

  marks_are : take (length (v.marks ++ mark_now v ∷ []) - 1) (v.marks ++ mark_now v ∷ []) ≡ v.marks
  marks_are = ap (λ n. take n (v.marks ++ mark_now v ∷ [])) before ∙ take-append_seam v.marks (mark_now v ∷ [])

  mark_is : get_or (v.marks ++ mark_now v ∷ []) (length (v.marks ++ mark_now v ∷ []) - 1) no_mark ≡ mark_now v
  mark_is = ap (λ n. get_or (v.marks ++ mark_now v ∷ []) n no_mark) before ∙ get_or-append_seam v.marks (mark_now v) [] no_mark

  -- it is taken away where nothing came
  pub unmarked : without_mark (with_mark v) ≡ v
  unmarked = λ i. record { held = v.held; watched = v.watched; marks = marks_are i }

  -- and gone back to
  pub back_again : gone_back 1 (with_mark v) ≡ v
  back_again = λ i. record {
    held = (ap (λ (m : Mark). take m.held v.held) mark_is ∙ take-length v.held) i;
    watched = (ap (λ (m : Mark). take m.watched v.watched) mark_is ∙ take-length v.watched) i;
    marks = marks_are i;
  }

  module _ (id : TermId) where
    -- it is taken away where a term came
    pub unmarked_watched : without_mark (with_watched (with_mark v) id) ≡ with_watched v id
    unmarked_watched = λ i. record { held = v.held; watched = v.watched ++ id ∷ []; marks = marks_are i }

    -- and gone back to
    pub unwatched : gone_back 1 (with_watched (with_mark v) id) ≡ v
    unwatched = λ i. record {
      held = (ap (λ (m : Mark). take m.held v.held) mark_is ∙ take-length v.held) i;
      watched = (ap (λ (m : Mark). take m.watched (v.watched ++ id ∷ [])) mark_is ∙ take-append_seam v.watched (id ∷ [])) i;
      marks = marks_are i;
    }
