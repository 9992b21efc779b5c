-- The texts of overflows, piece by piece.
use Rattle.std.proofs.Common.{◌≡◌, ℕ, List, [], ◌∷◌, ◌++◌, refl, ap, ◌∙◌, append_assoc}
use Rattle.std.specs.Prelude.{codes}
use Rattle.spec_text.specs.Printed.{printed}
use Rattle.spec_numbers.specs.Bounds.{Overflow}
use Rattle.spec_models.specs.Values.{fraction_tree}
use Rattle.spec_models.specs.Replies.{Reason, operation_word, overflow, reason_text, reason_line, reason_info}
use Rattle.world_io.specs.Writing.{SinkView}
use Rattle.world_io.proofs.Chains.{IsSending, start}

-- an overflow, before its first piece
pub overflow_start : (o : Overflow) (word : List ℕ) (a : SinkView) → word ≡ operation_word o.op
    → IsSending (reason_text (overflow o)) ((codes "(overflow " ++ (word ++ (codes " " ++ []))) ∷ printed (fraction_tree o.left) ∷ codes " " ∷ printed (fraction_tree o.right) ∷ codes ")" ∷ []) a a
overflow_start o word a e = start _ _ a (pieces word (printed (fraction_tree o.left)) (printed (fraction_tree o.right)) ∙ ap (λ w. 40 ∷ (codes "overflow " ++ (w ++ 32 ∷ (printed (fraction_tree o.left) ++ 32 ∷ printed (fraction_tree o.right)))) ++ 41 ∷ []) e)
  where
    pieces : (w l r : List ℕ) → (codes "(overflow " ++ (w ++ (codes " " ++ []))) ++ (l ++ (codes " " ++ (r ++ codes ")"))) ≡ 40 ∷ (codes "overflow " ++ (w ++ 32 ∷ (l ++ 32 ∷ r))) ++ 41 ∷ []
    pieces w l r = simp (append_assoc) refl

-- the line of a reason, before its first piece
pub line_start : (r : Reason) (a : SinkView) → IsSending (reason_line r) (reason_text r ∷ codes "\n" ∷ []) a a
line_start r a = start _ _ a refl

-- and that under its keyword
pub info_start : (r : Reason) (a : SinkView) → IsSending (reason_info r) (codes "(:reason-unknown " ∷ reason_text r ∷ codes ")\n" ∷ []) a a
info_start r a = start _ _ a refl
