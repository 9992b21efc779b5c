-- Steps of the loops over entries.
use Rattle.std.proofs.Common.{◌≡◌, ℕ, ◌<◌, ◌==◌, true, false, cond, List, [], ◌∷◌, ◌++◌, refl, sym, ◌∙◌, ap, subst}
use Rattle.spec_tableaux.specs.Spaces.{as_space}
use Rattle.spec_tableaux.specs.Rows.{Entry, Pivot, put, minus_times, plus_times, quotients, without, negated, substituted}
use Rattle.spec_tableaux.specs.SolvedForms.{IsTidy, AllVariables}
use Rattle.spec_tableaux.specs.Numbers.{Number, numbers}
use Rattle.spec_tableaux.proofs.SolvedForms.{over_without, over_more, over_negated}
use Rattle.tableau.specs.Sums.{combined, turned}
use Rattle.tableau.specs.Pivots.{IsTidyPivot}
use Rattle.tableau.proofs.Merging.{put_high, push_step, over_each}

pub put_step : (out new left more whole : List (Entry Number)) (x : ℕ) (c : Number) (e : Entry Number) → left ≡ e ∷ more → e.variable < x → new ≡ out ++ e ∷ []
    → out ++ put numbers x c left ≡ whole → new ++ put numbers x c more ≡ whole
put_step out new left more whole x c e g l n h =
    push_step out new (put numbers x c more) whole e n (ap (λ z. out ++ z) (sym (put_high numbers x c e more l)) ∙ ap (λ z. out ++ put numbers x c z) (sym g) ∙ h)

pub quotients_step : (out new left more whole : List (Entry Number)) (d : Number) (e : Entry Number) (q : Number) → left ≡ e ∷ more → q ≡ numbers.times e.coefficient (numbers.inverse d)
    → new ≡ out ++ record { variable = e.variable; coefficient = q } ∷ [] → out ++ quotients numbers d left ≡ whole → new ++ quotients numbers d more ≡ whole
quotients_step out new left more whole d e q g v n h =
    push_step out new (quotients numbers d more) whole (record { variable = e.variable; coefficient = q }) n
    (ap (λ (z : Number). out ++ record { variable = e.variable; coefficient = z } ∷ quotients numbers d more) v ∙ ap (λ z. out ++ quotients numbers d z) (sym g) ∙ h)

pub combined_minus : (es gs : List (Entry Number)) (k : Number) → combined true es k gs ≡ minus_times numbers es k gs
combined_minus es [] k = refl
combined_minus es (g ∷ gs) k = ap (put numbers g.variable (numbers.opposite (numbers.times k g.coefficient))) (combined_minus es gs k)

pub combined_plus : (es gs : List (Entry Number)) (k : Number) → combined false es k gs ≡ plus_times numbers es k gs
combined_plus es [] k = refl
combined_plus es (g ∷ gs) k = ap (put numbers g.variable (numbers.times k g.coefficient)) (combined_plus es gs k)

-- what the pivot's row is made of has no leaving variable
pub negated_new : (p : Pivot Number) (es : List (Entry Number)) → IsTidyPivot p → es ≡ negated numbers p.others → AllVariables (λ y. (y == p.leaving) ≡ false) es
negated_new p es i e = subst (AllVariables (λ y. (y == p.leaving) ≡ false)) (sym e) (over_negated (as_space numbers) (λ y. (y == p.leaving) ≡ false) p.others i.new)

-- the same of what is made of another row
pub merged_new : (p : Pivot Number) (es rest merged : List (Entry Number)) (c : Number) → IsTidyPivot p → IsTidy numbers 0 es → AllVariables (λ y. (y == p.leaving) ≡ false) es
    → rest ≡ without p.entering es → merged ≡ combined true rest c p.others → AllVariables (λ y. (y == p.leaving) ≡ false) merged
merged_new p es rest merged c i t o e m =
    let n : ℕ → Type 0 = λ y. (y == p.leaving) ≡ false in
    subst (AllVariables n) (sym m)
    (over_each numbers (turned true) n c rest p.others
    (subst (AllVariables n) (sym e) (over_more (λ y. n y × ((y == p.entering) ≡ false)) n (without p.entering es) (λ y h. h.0) (over_without (as_space numbers) n 0 p.entering es t o))) i.new)

-- and what it is
pub substituted_made : (p : Pivot Number) (es rest merged made : List (Entry Number)) (c scaled : Number) → numbers.is_zero c ≡ false → scaled ≡ numbers.times c p.factor
    → rest ≡ without p.entering es → merged ≡ combined true rest c p.others → made ≡ put numbers p.leaving scaled merged → made ≡ substituted numbers p c es
substituted_made p es rest merged made c scaled z s e m w =
    w ∙ (λ i. put numbers p.leaving (s i) ((m ∙ combined_minus rest p.others c ∙ ap (λ y. minus_times numbers y c p.others) e) i))
    ∙ sym (ap (λ q. cond q es (put numbers p.leaving (numbers.times c p.factor) (minus_times numbers (without p.entering es) c p.others))) z)
