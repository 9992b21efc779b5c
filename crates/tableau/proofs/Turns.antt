-- One turn of the loop that merges.
use Rattle.std.proofs.Common.{◌≡◌, ℕ, suc, Bool, true, false, List, [], ◌∷◌, ◌++◌, Contains, refl, sym, ◌∙◌, ap, arith, subst}
use Rattle.std.proofs.lemmas.List.Elements.{Contains-append_right}
use Rattle.spec_tableaux.specs.Rows.{Entry}
use Rattle.spec_tableaux.specs.SolvedForms.{IsTidy}
use Rattle.spec_tableaux.specs.Numbers.{Number, numbers}
use Rattle.tableau.specs.Sums.{Step, combined, AreAbove, Merges, IsLeft}
use Rattle.tableau.proofs.Merging.{above_from}

later_above : (at : ℕ) (f : Entry Number) (later : List (Entry Number)) → IsTidy numbers at (f ∷ later) → AreAbove f.variable later
later_above at f later t = above_from numbers (suc f.variable) f.variable later (omega arith) t.2

-- the entry of the step was used
pub used_turn : (s : Step) (O N es rest T later W : List (Entry Number)) (u : Bool) (at : ℕ) → Merges s O es N rest u → u ≡ true → T ≡ s.entry ∷ later → IsTidy numbers at T
    → O ++ combined s.minus es s.factor T ≡ W → N ++ combined s.minus rest s.factor later ≡ W
used_turn s O N es rest T later W true at m e g t h = sym (m later (later_above at s.entry later (subst (IsTidy numbers at) g t))) ∙ ap (λ z. O ++ combined s.minus es s.factor z) (sym g) ∙ h
used_turn s O N es rest T later W false at m e g t h = absurd (cc)

-- it was not
pub unused_turn : (s : Step) (O N es rest T later W : List (Entry Number)) (u : Bool) (at : ℕ) → Merges s O es N rest u → u ≡ false → T ≡ s.entry ∷ later → IsTidy numbers at T
    → O ++ combined s.minus es s.factor T ≡ W → N ++ combined s.minus rest s.factor T ≡ W
unused_turn s O N es rest T later W true at m e g t h = absurd (cc)
unused_turn s O N es rest T later W false at m e g t h = ap (λ z. N ++ combined s.minus rest s.factor z) g ∙ sym (m later (later_above at s.entry later (subst (IsTidy numbers at) g t))) ∙ ap (λ z. O ++ combined s.minus es s.factor z) (sym g) ∙ h

pub tidy_later : (at : ℕ) (f : Entry Number) (T later : List (Entry Number)) → T ≡ f ∷ later → IsTidy numbers at T → (to : ℕ) × IsTidy numbers to later
tidy_later at f T later g t = let u : IsTidy numbers at (f ∷ later) = subst (IsTidy numbers at) g t in (suc f.variable, u.2)

-- what is left after the first entry
pub left_later : (f : Entry Number) (T later whole : List (Entry Number)) → T ≡ f ∷ later → IsLeft whole T → IsLeft whole later
left_later f T later whole g h e c = h e (subst (λ es. Contains es e) (sym g) (Contains-append_right (f ∷ []) later e c))

pub left_first : (f : Entry Number) (T later whole : List (Entry Number)) → T ≡ f ∷ later → IsLeft whole T → Contains whole f
left_first f T later whole g h = h f (subst (λ es. Contains es f) (sym g) (0, omega arith, refl))

pub left_then : (whole left rest : List (Entry Number)) → IsLeft whole left → IsLeft left rest → IsLeft whole rest
left_then whole left rest a b e c = a e (b e c)
