-- Reasons for entries whose stops contradict the rows refute.
use Rattle.std.proofs.Common.{◌≡◌, ℕ, Bool, true, false, ◌&&◌, ◌||◌, List, [], ◌∷◌, Option, Some, map, refl, sym, ◌∙◌, ap}
use Rattle.std.specs.Prelude.{All}
use Rattle.std.proofs.lemmas.List.Elements.{All-nil, All-cons}
use Rattle.spec_numbers.specs.Fractions.{Fraction, plus}
use Rattle.spec_sorts.specs.Terms.{Term}
use Rattle.spec_arithmetic.specs.Signs.{is_zero, is_above_zero}
use Rattle.spec_tableaux.specs.Spaces.{Pair, as_space}
use Rattle.spec_tableaux.specs.Rows.{Entry, Row, Solves, sum_of}
use Rattle.spec_tableaux.specs.Numbers.{Number, numbers, fractions}
use Rattle.spec_tableaux.proofs.Numbers.{numbers_are_ordered_field}
use Rattle.spec_tableaux.proofs.PairSolutions.{parts_pair}
use Rattle.spec_tableaux.proofs.Signs.{zero_product}
use Rattle.spec_simplex.specs.Points.{is_over}
use Rattle.spec_simplex.specs.Weights.{Summand, IsSummand, product_at, weighted_sum, is_strict_by, has_strict}
use Rattle.spec_simplex.proofs.PairOrder.{relates_above}
use Rattle.term_core.specs.declared.ids.Lit.{Lit}
use Rattle.term_core.specs.declared.ids.TermId.{TermId}
use Rattle.term_core.specs.Tables.{TableView, term_at}
use Rattle.simplex_bounds.specs.declared.bounds.Bound.{Bound}
use Rattle.spec_tableaux.specs.Points.{deltas}
use Rattle.simplex_atoms.specs.declared.slack.Slack.{Slack}
use Rattle.simplex_atoms.specs.Owners.{AreOwned}
use Rattle.simplex_atoms.specs.Grounded.{AreGrounded}
use Rattle.simplex_atoms.specs.Slacks.{AtomSetting, HasSlackIn, slack_in}
use Rattle.simplex_explain.specs.declared.weighted.Weighted.{Weighted}
use Rattle.simplex_explain.specs.Reasons.{literals_meant, weights_meant, Refutes}
use Rattle.simplex_explain.specs.Stops.{AreStated, AreAllStopped, beyond, all_beyond}
use Rattle.simplex_explain.specs.BoundReasons.{Footing, AreReasonsFor}
use Rattle.simplex_explain.proofs.Solutions.{solution}
use Rattle.simplex_explain.proofs.Distances.{Contradicts}
use Rattle.simplex_explain.proofs.Pieces.{LimitLaws, Piece, piece, flat}

-- Literals with weights, and what they sum up to.
record Pieces (t : TableView) (s : AtomSetting) (held : List Bound) (up : Bool) (es : List (Entry Number)) (ws : List Weighted) : Type 0 where
  summands : List Summand
  fit : All IsSummand summands
  literals : map (λ (x : Summand). x.literal) summands ≡ literals_meant t ws
  weights : map (λ (x : Summand). x.weight) summands ≡ weights_meant ws
  sum : (n : Term → Number) (v : ℕ → Number) → AreOwned s.table s.owners n v → Solves (as_space numbers) v s.listed
      → weighted_sum (λ u. (n u).fraction) summands ≡ (all_beyond held up (flat v) es).base.fraction
  tilts : has_strict summands ≡ false → (v : ℕ → Number) → (all_beyond held up (flat v) es).tilt ≡ numbers.zero

sum_none : (n : Term → Fraction) → weighted_sum n [] ≡ deltas.origin.base.fraction
unfolding weighted_sum numbers fractions
sum_none n = refl

sum_more : (n : Term → Fraction) (x : Summand) (xs : List Summand) (a b : Number) → product_at n x ≡ a.fraction → weighted_sum n xs ≡ b.fraction
    → weighted_sum n (x ∷ xs) ≡ (numbers.plus a b).fraction
unfolding weighted_sum numbers fractions
sum_more n x xs a b p q = λ i. plus (p i) (q i)

strict_parts : (x : Summand) (xs : List Summand) → has_strict (x ∷ xs) ≡ false → (is_strict_by x.constraint.relation x.weight ≡ false) × (has_strict xs ≡ false)
unfolding has_strict
strict_parts x xs h = by (is_strict_by x.constraint.relation x.weight) (has_strict xs) h
  where
    by : (p q : Bool) → p || q ≡ false → (p ≡ false) × (q ≡ false)
    by false q h = (refl, h)
    by true q h = absurd (cc)

pieces_more : (t : TableView) (s : AtomSetting) (held : List Bound) (up : Bool) (e : Entry Number) (es : List (Entry Number)) (w : Weighted) (ws : List Weighted)
    → Piece t s held up e w → Pieces t s held up es ws → Pieces t s held up (e ∷ es) (w ∷ ws)
pieces_more t s held up e es w ws p ps = record {
  summands = p.summand ∷ ps.summands;
  fit = All-cons IsSummand p.summand ps.summands p.fits ps.fit;
  literals = λ i. p.literal i ∷ ps.literals i;
  weights = λ i. p.weight i ∷ ps.weights i;
  sum = λ n v o h. sum_more (λ u. (n u).fraction) p.summand ps.summands (beyond held up (flat v) e).base (all_beyond held up (flat v) es).base (p.product n v o h) (ps.sum n v o h);
  tilts = λ h v. let parts = strict_parts p.summand ps.summands h in (λ i. numbers.plus (p.tilts parts.0 v i) (ps.tilts parts.1 v i)) ∙ numbers_are_ordered_field.sum_zero numbers.zero;
}

module _ (laws : LimitLaws) (t : TableView) (s : AtomSetting) (f : Footing) (up : Bool) (stated : AreStated f.slack_list f.held)
    (slack_list : (l : Lit) (slack : Slack) → slack_in f.slack_list l.term ≡ Some slack → HasSlackIn s slack (term_at t l.term)) where
  pieces : (es : List (Entry Number)) (ws : List Weighted) → AreAllStopped f.held up es → AreReasonsFor f up es ws → Pieces t s f.held up es ws
  pieces [] [] st r = record {
    summands = [];
    fit = All-nil IsSummand;
    literals = refl;
    weights = refl;
    sum = λ n v o h. sum_none (λ u. (n u).fraction);
    tilts = λ h v. refl;
  }
  pieces [] (w ∷ ws) st r = absurd r
  pieces (e ∷ es) [] st r = absurd r
  pieces (e ∷ es) (w ∷ ws) st r = pieces_more t s f.held up e es w ws (piece laws t s f up e w stated slack_list st.0 r.0) (pieces es ws st.1 r.1)

-- the order of pairs by what the sum asks
over_parts : (b : Number) (c : Number) (strict : Bool) → is_over b.fraction c.fraction ≡ true → (strict ≡ false → c ≡ numbers.zero) → is_above_zero b.fraction || (is_zero b.fraction && strict) ≡ true
unfolding is_over is_above_zero numbers fractions
over_parts b c true h k = by (is_above_zero b.fraction) (is_zero b.fraction) (is_above_zero c.fraction) h
  where
    by : (p z q : Bool) → p || (z && q) ≡ true → p || (z && true) ≡ true
    by true z q h = refl
    by false true q h = refl
    by false false q h = h
over_parts b c false h k = ap (λ (x : Number). is_above_zero b.fraction || (is_zero b.fraction && is_above_zero x.fraction)) (sym (k refl)) ∙ h

pub zero_solves : (rs : List (Row Number)) → Solves (as_space numbers) (λ _. numbers.zero) rs
zero_solves [] = tt
zero_solves (r ∷ rs) = (record { is = sym (none r.entries) }, zero_solves rs)
  where
    none : (es : List (Entry Number)) → sum_of (as_space numbers) (λ _. numbers.zero) es ≡ numbers.zero
    none [] = refl
    none (e ∷ es) =
        let l = numbers_are_ordered_field in
        (λ i. numbers.plus ((l.product_commutative e.coefficient numbers.zero ∙ zero_product numbers l e.coefficient) i) (none es i)) ∙ l.sum_zero numbers.zero

-- reasons refute where their entries contradict the rows
pub refutes : LimitLaws → (t : TableView) (owners : List (Option TermId)) (listed : List (Row Number)) (from to : ℕ) (f : Footing) (up : Bool) (es : List (Entry Number)) (ws : List Weighted)
    → AreGrounded owners from listed to → AreStated f.slack_list f.held
    → ((l : Lit) (slack : Slack) → slack_in f.slack_list l.term ≡ Some slack → HasSlackIn (record { table = t; owners = owners; listed = listed }) slack (term_at t l.term))
    → Contradicts f.held up listed es → AreReasonsFor f up es ws → Refutes t ws
refutes laws t owners listed from to f up es ws grounded stated slack_list c reasons =
    let s : AtomSetting = record { table = t; owners = owners; listed = listed } in
    let ps = pieces laws t s f up stated slack_list es ws c.stopped reasons in
    let solves : (v : ℕ → Number) → Solves (as_space numbers) v listed → Solves deltas (flat v) listed = λ v h. parts_pair numbers (flat v) listed h (zero_solves listed) in
    record {
      summands = ps.summands;
      fit = ps.fit;
      literals = ps.literals;
      weights = ps.weights;
      contradiction = record {
        sum = c.total.base.fraction;
        reduced = c.total.base.reduced;
        same = λ n r.
            let x = solution t owners from listed to grounded (λ u. record { fraction = n u; reduced = r u }) in
            ps.sum (λ u. record { fraction = n u; reduced = r u }) x.values x.owned x.solves ∙ ap (λ (p : Pair Number). p.base.fraction) (c.same (flat x.values) (solves x.values x.solves));
        sign = over_parts c.total.base c.total.tilt (has_strict ps.summands) (relates_above c.total ∙ c.above)
            (λ h. sym (ap (λ (p : Pair Number). p.tilt) (c.same (flat (λ _. numbers.zero)) (solves (λ _. numbers.zero) (zero_solves listed)))) ∙ ps.tilts h (λ _. numbers.zero));
      };
    }
