-- The lines of a plan are right.
use Rattle.std.proofs.Common.{◌≡◌, ◌≢◌, ℕ, zero, suc, ◌+◌, ◌<◌, ◌≤◌, Bool, true, false, ◌&&◌, List, [], ◌∷◌, ◌++◌, length, map, take, get_or, Option, Some, None, Contains, refl, sym, ap, ◌∙◌, subst, append_assoc, append-nil, length-append, arith}
use Rattle.std.specs.Prelude.{nat_eq}
use Rattle.std.specs.List.{slice_get}
use Rattle.std.proofs.lemmas.Bool.{false≢true, and_parts}
use Rattle.std.proofs.lemmas.Option.{slice_get_within, get_or_from_slice_get, slice_get-get_or}
use Rattle.std.proofs.lemmas.List.Elements.{All-contains, All-contains_itself, All-weaker}
use Rattle.spec_text.proofs.Members.{first, later}
use Rattle.spec_sorts.specs.Terms.{Truth, Head, Term, Terms, app, nil, cons, list_of, terms_of, sort_of}
use Rattle.spec_sorts.specs.Signatures.{Signature}
use Rattle.spec_sorts.specs.Literals.{Clause}
use Rattle.spec_derivations.specs.Derivations.{Inference, «assumption», by_rule, Derivation, conclusion, conclusion_at, inference_at, no_inference, premises_of, IsDerivation, IsDerivedFrom, DependsOn, itself, AssumesAmong}
use Rattle.spec_derivations.proofs.Spending.{depends_onward}
use Rattle.spec_proof_texts.specs.Lines.{Argument, levels, most_levels, Reference, StepLine, Line, defines, assumes, steps, place_limit}
use Rattle.spec_proof_texts.specs.Meaning.{Told, nothing_told, with_assume, with_step, IsTold, AreToldSo, clause_told, IsLineAfter, AreLinesAfter, AreRightLines}
use Rattle.spec_proof_texts.specs.Plans.{Plan, number_of, in_place, argument_by, argument_for, arguments_for, height_of, greatest_height, how_many, definition_lines, reference_for, reference_by, number_or_zero, inference_lines, lines_of, is_compound, IsPrinted, in_clause, as_argument, counted, definition_marks, counted_inferences, IsSupport, ArePrinted, AreHeights, IsPlan}
use Rattle.spec_proof_texts.specs.Printable.{ArePrintable, AllConcludeOver}
use Rattle.spec_proof_texts.proofs.Numbers.{picked, picked_more, picked_same, has_number, has_none, counted_front, number_at_place, height_at_place, definition_mark_at, definition_marks_length, assumes_of, steps_of, assumes_more, steps_more, inference_number, inferences_front, assumes_front}
use Rattle.spec_proof_texts.proofs.Placed.{placed_by, placed_there, placed_few, is_high, has_height}
use Rattle.spec_proof_texts.proofs.Told.{in_place_told, in_place_flat, all_told, reference_told, premises_told}

-- lines, and then others
lines_append : (g : Signature) (asserted : List Term) (xs ys : List Line) (k m e : Told) → AreLinesAfter g asserted k xs m → AreLinesAfter g asserted m ys e → AreLinesAfter g asserted k (xs ++ ys) e
lines_append g asserted [] ys k m e h f = subst (λ j. AreLinesAfter g asserted j ys e) h f
lines_append g asserted (x ∷ xs) ys k m e h f = (h.0, h.1, lines_append g asserted xs ys h.0 m e h.2 f)

terms_back : (ts : Terms) → terms_of (list_of ts) ≡ ts
terms_back nil = refl
terms_back (cons t ts) = ap (λ us. cons t us) (terms_back ts)

front_get : {A : Type 0} (xs ys : List A) (j : ℕ) → j < length xs → slice_get (xs ++ ys) j ≡ slice_get xs j
front_get [] ys j lt = absurd (omega (arith, lt))
front_get (x ∷ xs) ys zero lt = refl
front_get (x ∷ xs) ys (suc j) lt = front_get xs ys j (omega (arith, lt))

front_mark : (xs ys : List Bool) (j : ℕ) → j < length xs → get_or (xs ++ ys) j false ≡ get_or xs j false
front_mark [] ys j lt = absurd (omega (arith, lt))
front_mark (x ∷ xs) ys zero lt = refl
front_mark (x ∷ xs) ys (suc j) lt = front_mark xs ys j (omega (arith, lt))

seam : {A : Type 0} (xs ys : List A) (y : A) → slice_get (xs ++ y ∷ ys) (length xs) ≡ Some y
seam [] ys y = refl
seam (x ∷ xs) ys y = seam xs ys y

seam_mark : (xs ys : List Bool) (y : Bool) → get_or (xs ++ y ∷ ys) (length xs) false ≡ y
seam_mark [] ys y = refl
seam_mark (x ∷ xs) ys y = seam_mark xs ys y

not_second : (a b : Bool) → a ≡ true → a && b ≡ false → b ≡ false
not_second true b e f = f
not_second false b e f = absurd (false≢true e)

-- what the definitions up to here make known
abbrev told_terms : List Term → List Term → Told
told_terms placed ts = record { terms = ts; assumes = []; steps = []; placed = placed }

-- an argument after its place
record IsSaid (g : Signature) (terms : List Term) (numbers : List (Option ℕ)) (heights : List ℕ) (k : Told) (u : Term) : Type 0 where
  told : IsTold g k (argument_for terms numbers u) u
  low : levels (argument_for terms numbers u) ≤ height_of terms heights u

record AreSaid (g : Signature) (terms : List Term) (numbers : List (Option ℕ)) (heights : List ℕ) (k : Told) (us : Terms) : Type 0 where
  told : AreToldSo g k (arguments_for terms numbers us) (list_of us)
  low : most_levels (arguments_for terms numbers us) ≤ greatest_height (height_of terms heights) (list_of us)

module _ (g : Signature) (terms asserted : List Term) (d : Derivation) (n : ℕ) (printable : ArePrintable g terms d n) (printed : List Bool) (are : ArePrinted terms d n printed) (single : List Bool) (heights : List ℕ) (high : AreHeights terms single heights) where
  abbrev marks : List Bool
  marks = definition_marks terms printed heights

  abbrev placed : List Term
  placed = placed_by heights terms

  abbrev name : Term → Argument
  name u = argument_for terms (counted 1 marks) u

  module _ (front rest : List Term) (fm rm : List Bool) (k : Told) (as_many : length fm ≡ length front) (ts : front ++ rest ≡ terms) (ms : fm ++ rm ≡ marks) (told : k.terms ≡ picked fm front) (places : k.placed ≡ placed) where
    -- what is known of a printed term at a place, by its mark
    one_said : (h : Head) (us : Terms) (j : ℕ) → slice_get front j ≡ Some (app h us) → IsPrinted d n (app h us) → AreSaid g terms (counted 1 marks) heights k us → IsSaid g terms (counted 1 marks) heights k (app h us)
    one_said h us j at is args =
        let u : Term = app h us in
        let lt : j < length front = slice_get_within front j u at in
        let there : slice_get terms j ≡ Some u = ap (λ xs. slice_get xs j) (sym ts) ∙ front_get front rest j lt ∙ at in
        let alone : (i : ℕ) → slice_get terms i ≡ Some u → i ≡ j = λ i x. printable.apart i j u x there in
        let placed_at : number_of terms (counted 1 marks) u ≡ get_or (counted 1 marks) j None = number_at_place terms (counted 1 marks) j u there alone in
        let number : number_of terms (counted 1 marks) u ≡ get_or (counted 1 fm) j None = placed_at ∙ ap (λ bs. get_or (counted 1 bs) j None) (sym ms) ∙ counted_front 1 fm rm j (omega (arith, as_many, lt)) in
        let mark : get_or fm j false ≡ get_or printed j false && (is_compound u && nat_eq (get_or heights j 0) 0) = sym (front_mark fm rm j (omega (arith, as_many, lt))) ∙ ap (λ bs. get_or bs j false) ms ∙ definition_mark_at terms printed heights j u are.as_many high.as_many there in
        let height : height_of terms heights u ≡ get_or heights j 0 = height_at_place terms heights j u there alone in
        go us at is args (get_or fm j false) refl mark number height there
      where
        by_number : (us : Terms) → number_of terms (counted 1 marks) (app h us) ≡ None → levels (in_place h (arguments_for terms (counted 1 marks) us)) ≤ height_of terms heights (app h us) → IsTold g k (in_place h (arguments_for terms (counted 1 marks) us)) (app h us) → IsSaid g terms (counted 1 marks) heights k (app h us)
        by_number us none low said = record {
          told = subst (λ o. IsTold g k (argument_by o (in_place h (arguments_for terms (counted 1 marks) us))) (app h us)) (sym none) said;
          low = subst (λ o. levels (argument_by o (in_place h (arguments_for terms (counted 1 marks) us))) ≤ height_of terms heights (app h us)) (sym none) low;
        }

        go : (us : Terms) → slice_get front j ≡ Some (app h us) → IsPrinted d n (app h us) → AreSaid g terms (counted 1 marks) heights k us → (b : Bool) → get_or fm j false ≡ b → get_or fm j false ≡ get_or printed j false && (is_compound (app h us) && nat_eq (get_or heights j 0) 0) → number_of terms (counted 1 marks) (app h us) ≡ get_or (counted 1 fm) j None → height_of terms heights (app h us) ≡ get_or heights j 0 → slice_get terms j ≡ Some (app h us) → IsSaid g terms (counted 1 marks) heights k (app h us)
        go us at is args true here mark number height there =
            let r = has_number 0 fm front j (app h us) here at in
            let zeroth : r.0 + 0 ≡ r.0 = omega arith in
            let found : number_of terms (counted 1 marks) (app h us) ≡ Some (suc r.0) = number ∙ r.1 ∙ ap (λ m. Some (suc m)) zeroth in
            record {
              told = subst (λ o. IsTold g k (argument_by o (in_place h (arguments_for terms (counted 1 marks) us))) (app h us)) (sym found) (ap (λ xs. slice_get xs r.0) told ∙ r.2);
              low = subst (λ o. levels (argument_by o (in_place h (arguments_for terms (counted 1 marks) us))) ≤ height_of terms heights (app h us)) (sym found) (omega arith);
            }
        go nil at is args false here mark number height there =
            by_number nil (number ∙ has_none 1 fm j here) (omega (arith, in_place_flat h)) (in_place_told g k h (printable.each (app h nil) is))
        go (cons t vs) at is args false here mark number height there =
            let u : Term = app h (cons t vs) in
            let some = has_height (get_or printed j false) true (get_or heights j 0) (are.each j u there is) refl (sym mark ∙ here) in
            let above = is_high (get_or single j false) (greatest_height (height_of terms heights) (t ∷ list_of vs)) (how_many (take j heights)) some.0 (sym (high.each j u there) ∙ some.1) in
            let deep : suc (most_levels (arguments_for terms (counted 1 marks) (cons t vs))) ≤ suc some.0 = omega (arith, args.low, above.over) in
            let well = printable.each u is in
            by_number (cons t vs) (number ∙ has_none 1 fm j here) (omega (arith, deep, height, some.1)) (
              t ∷ list_of vs,
              args.told,
              record {
                some = λ f. cc;
                takes = well.takes;
                term = ap (app h) (sym (terms_back (cons t vs)));
                there = subst (λ xs. Contains xs u) (sym places) (placed_there heights terms j u some.0 there some.1);
                low = omega (arith, deep, above.low, above.over);
              },
            )

    -- a printed term of a place is known with the definitions before a later place
    mutual
      term_said : (u : Term) (j : ℕ) → slice_get front j ≡ Some u → IsPrinted d n u → IsSaid g terms (counted 1 marks) heights k u
      term_said (app h us) j at is = one_said h us j at is (terms_said us (λ v v_in.
          let lt : j < length front = slice_get_within front j (app h us) at in
          let there : slice_get terms j ≡ Some (app h us) = ap (λ xs. slice_get xs j) (sym ts) ∙ front_get front rest j lt ∙ at in
          let x = printable.before j (app h us) v there v_in in
          let here : slice_get front x.0 ≡ Some v = sym (front_get front rest x.0 (omega (arith, x.1, lt))) ∙ ap (λ xs. slice_get xs x.0) ts ∙ x.2 in
          (x.0, here, as_argument (app h us) v is v_in)))

      terms_said : (us : Terms) → ((v : Term) → Contains (list_of us) v → (j : ℕ) × (slice_get front j ≡ Some v) × IsPrinted d n v) → AreSaid g terms (counted 1 marks) heights k us
      terms_said nil each = record { told = tt; low = omega arith }
      terms_said (cons u us) each =
          let x = each u (first u (list_of us)) in
          let one = term_said u x.0 x.1 x.2 in
          let others = terms_said us (λ v c. each v (later u (list_of us) v c)) in
          record { told = (one.told, others.told); low = grind (arith, one.low, others.low) }

    argument_told : (j : ℕ) (u : Term) → slice_get front j ≡ Some u → IsPrinted d n u → IsTold g k (name u) u
    argument_told j u at is = (term_said u j at is).told

  -- the definition of a marked term
  definition : (front rest : List Term) (fm rm : List Bool) (h : _) (us : Terms) (m : ℕ) → length fm ≡ length front → front ++ app h us ∷ rest ≡ terms → fm ++ true ∷ rm ≡ marks → m ≡ length (picked fm front) → IsLineAfter g asserted (told_terms placed (picked fm front)) (defines (record { number = suc m; sort = sort_of (app h us); head = h; arguments = map name (list_of us) })) (told_terms placed (picked fm front ++ app h us ∷ []))
  definition front rest fm rm h us m as_many ts ms number =
      let j = length front in
      let there : slice_get terms j ≡ Some (app h us) = ap (λ xs. slice_get xs j) (sym ts) ∙ seam front rest (app h us) in
      let mark : get_or marks j false ≡ true = ap (λ bs. get_or bs j false) (sym ms) ∙ ap (λ i. get_or (fm ++ true ∷ rm) i false) (sym as_many) ∙ seam_mark fm rm true in
      let tests = and_parts (get_or printed j false) (is_compound (app h us) && nat_eq (get_or heights j 0) 0) (sym (definition_mark_at terms printed heights j (app h us) are.as_many high.as_many there) ∙ mark) in
      let is : IsPrinted d n (app h us) = are.only j (app h us) there tests.0 in
      let well = printable.each (app h us) is in (
        app h us,
        record {
          number = omega (arith, number);
          arguments = list_of us;
          told = all_told g (told_terms placed (picked fm front)) name (list_of us) (λ u u_in.
              let x = printable.before j (app h us) u there u_in in
              let at : slice_get front x.0 ≡ Some u = sym (front_get front (app h us ∷ rest) x.0 x.1) ∙ ap (λ xs. slice_get xs x.0) ts ∙ x.2 in
              argument_told front (app h us ∷ rest) fm (true ∷ rm) (told_terms placed (picked fm front)) as_many ts ms refl refl x.0 u at (as_argument (app h us) u is u_in));
          some = some us (and_parts (is_compound (app h us)) (nat_eq (get_or heights j 0) 0) tests.1).0;
          takes = well.takes;
          term = ap (app h) (sym (terms_back us));
          sort = refl;
          known_sort = well.sort;
        },
        refl,
      )
    where
      some : (us : Terms) → is_compound (app h us) ≡ true → list_of us ≢ []
      some nil e = absurd (false≢true e)
      some (cons t ts) e = λ f. cc

  -- all definitions from a place on
  pub definitions : (front rest : List Term) (fm rm : List Bool) (so_far : List Term) (m : ℕ) → length fm ≡ length front → length rm ≡ length rest → front ++ rest ≡ terms → fm ++ rm ≡ marks → so_far ≡ picked fm front → m ≡ length so_far → AreLinesAfter g asserted (told_terms placed so_far) (definition_lines name rest (counted (suc m) rm)) (told_terms placed (picked marks terms))
  definitions front [] fm [] so_far m as_many e ts ms told number = ap (told_terms placed) (sym (told ∙ (λ i. picked (fms i) (fts i))))
    where
      fts : front ≡ terms
      fts = sym (append-nil front) ∙ ts

      fms : fm ≡ marks
      fms = sym (append-nil fm) ∙ ms
  definitions front [] fm (b ∷ rm) so_far m as_many e ts ms told number = absurd (omega (arith, e))
  definitions front (t ∷ rest) fm [] so_far m as_many e ts ms told number = absurd (omega (arith, e))
  definitions front (app h us ∷ rest) fm (true ∷ rm) so_far m as_many e ts ms told number =
      let line = definition front rest fm rm h us m as_many ts ms (number ∙ ap length told) in
      let now : told_terms placed (picked fm front) ≡ told_terms placed so_far = ap (told_terms placed) (sym told) in
      let later = definitions (front ++ app h us ∷ []) rest (fm ++ true ∷ []) rm (picked fm front ++ app h us ∷ []) (suc m)
      (omega (arith, length-append fm (true ∷ []), length-append front (app h us ∷ []), as_many)) (omega (arith, e))
      (append_assoc front (app h us ∷ []) rest ∙ ts) (append_assoc fm (true ∷ []) rm ∙ ms)
      (sym (picked_more fm front (app h us) as_many)) (omega (arith, length-append (picked fm front) (app h us ∷ []), number, ap length told)) in
      (told_terms placed (picked fm front ++ app h us ∷ []), subst (λ k. IsLineAfter g asserted k (defines (record { number = suc m; sort = sort_of (app h us); head = h; arguments = map name (list_of us) })) (told_terms placed (picked fm front ++ app h us ∷ []))) now line, later)
  definitions front (t ∷ rest) fm (false ∷ rm) so_far m as_many e ts ms told number =
      definitions (front ++ t ∷ []) rest (fm ++ false ∷ []) rm so_far m
      (omega (arith, length-append fm (false ∷ []), length-append front (t ∷ []), as_many)) (omega (arith, e))
      (append_assoc front (t ∷ []) rest ∙ ts) (append_assoc fm (false ∷ []) rm ∙ ms)
      (told ∙ sym (picked_same fm front t as_many)) number

  module _ (over : AllConcludeOver terms d) (right : IsDerivation d) (from : IsDerivedFrom asserted d n) (support : List Bool) (is_support : IsSupport d n support) where
    abbrev refer : ℕ → Reference
    refer p = reference_for d (counted_inferences 1 1 support d) p

    -- what is known before the line of an inference
    abbrev told_clauses : List Bool → Derivation → Told
    told_clauses bs xs = record { terms = picked marks terms; assumes = assumes_of bs xs; steps = steps_of bs xs; placed = placed }

    all_marks : length marks ≡ length terms
    all_marks = definition_marks_length terms printed heights are.as_many high.as_many

    -- a term of a printed clause is known
    literal_told : (k : Told) (j : ℕ) (x : Inference) (u : Term) → k.terms ≡ picked marks terms → k.placed ≡ placed → slice_get d j ≡ Some x → DependsOn d n j → Contains (conclusion x) u → IsTold g k (name u) u
    literal_told k j x u told places at rest u_in =
        let place = ((over j x at).0 u u_in).0 in
        let same : conclusion_at d j ≡ conclusion x = ap conclusion (get_or_from_slice_get d j x no_inference at) in
        argument_told terms [] marks [] k all_marks (append-nil terms) (append-nil marks) told places place.0 u place.1 (in_clause j u rest (subst (λ c. Contains c u) (sym same) u_in))

    -- a premise of a printed step is known
    premise_told : (front rest : Derivation) (fm rm : List Bool) (j : ℕ) (p : ℕ) → length fm ≡ length front → front ++ rest ≡ d → fm ++ rm ≡ support → j ≡ length front → DependsOn d n j → p < j → Contains (premises_of (inference_at d j)) p → clause_told (told_clauses fm front) (refer p) ≡ Some (conclusion_at front p)
    premise_told front rest fm rm j p as_many ds ms place on lt p_in =
        let within : p < length front = omega (arith, lt, place) in
        let marked : get_or support p false ≡ true = is_support.each p (depends_onward d n j p on p_in) in
        let here : get_or fm p false ≡ true = sym (front_mark fm rm p (omega (arith, as_many, within))) ∙ ap (λ bs. get_or bs p false) ms ∙ marked in
        let x = inference_at front p in
        let at : slice_get front p ≡ Some x = slice_get-get_or front p no_inference within in
        let same : inference_at d p ≡ x = get_or_from_slice_get d p x no_inference (ap (λ xs. slice_get xs p) (sym ds) ∙ front_get front rest p within ∙ at) in
        let number : get_or (counted_inferences 1 1 support d) p None ≡ get_or (counted_inferences 1 1 fm front) p None = (λ i. get_or (counted_inferences 1 1 (sym ms i) (sym ds i)) p None) ∙ inferences_front 1 1 fm rm front rest p as_many (omega (arith, as_many, within)) in
        (λ i. clause_told (told_clauses fm front) (reference_by (same i) (number_or_zero (number i))))
        ∙ reference_told (told_clauses fm front) fm front (get_or (counted_inferences 1 1 fm front) p None) x refl refl (inference_number 0 0 fm front p x here at)

    -- the lines of inferences, where so many were printed before
    abbrev IsLater : Derivation → List Bool → Told → Told × ℕ × ℕ → Type 0
    IsLater xs bs end q = AreLinesAfter g asserted q.0 (inference_lines name refer xs (counted_inferences q.1 q.2 bs xs)) end

    -- the line of a printed inference
    inference : (front rest : Derivation) (fm rm : List Bool) (x : Inference) (h t : ℕ) (xs : Derivation) (bs : List Bool) (end : Told) → length fm ≡ length front → front ++ x ∷ rest ≡ d → fm ++ true ∷ rm ≡ support → h ≡ length (assumes_of fm front) → t ≡ length (steps_of fm front)
        → AreLinesAfter g asserted (told_clauses (fm ++ true ∷ []) (front ++ x ∷ [])) (inference_lines name refer xs (counted_inferences (suc (length (assumes_of (fm ++ true ∷ []) (front ++ x ∷ [])))) (suc (length (steps_of (fm ++ true ∷ []) (front ++ x ∷ [])))) bs xs)) end
        → AreLinesAfter g asserted (told_clauses fm front) (inference_lines name refer (x ∷ xs) (counted_inferences (suc h) (suc t) (true ∷ bs) (x ∷ xs))) end
    inference front rest fm rm («assumption» u) h t xs bs end as_many ds ms h_is t_is later =
        let j = length front in
        let at : slice_get d j ≡ Some («assumption» u) = ap (λ ys. slice_get ys j) (sym ds) ∙ seam front rest («assumption» u) in
        let on : DependsOn d n j = is_support.only j (ap (λ cs. get_or cs j false) (sym ms) ∙ ap (λ i. get_or (fm ++ true ∷ rm) i false) (sym as_many) ∙ seam_mark fm rm true) in
        let there : Contains asserted u = subst (AssumesAmong asserted) (get_or_from_slice_get d j («assumption» u) no_inference at) (from.assumptions j on) in
        let more_a = assumes_more fm front true («assumption» u) as_many in
        let more_s = steps_more fm front true («assumption» u) as_many in
        let next : told_clauses (fm ++ true ∷ []) (front ++ «assumption» u ∷ []) ≡ with_assume (told_clauses fm front) (u ∷ []) = λ i. record { terms = picked marks terms; assumes = more_a i; steps = more_s i; placed = placed } in
        let h_next : suc (length (assumes_of (fm ++ true ∷ []) (front ++ «assumption» u ∷ []))) ≡ suc (suc h) = omega (arith, ap length more_a, length-append (assumes_of fm front) ((u ∷ []) ∷ []), h_is) in
        let t_next : suc (length (steps_of (fm ++ true ∷ []) (front ++ «assumption» u ∷ []))) ≡ suc t = omega (arith, ap length more_s, t_is) in (
          with_assume (told_clauses fm front) (u ∷ []),
          (u, record { number = omega (arith, h_is); told = literal_told (told_clauses fm front) j («assumption» u) u refl refl at on (first u []); sort = ((over j («assumption» u) at).0 u (first u [])).1; there = there }, refl),
          subst (IsLater xs bs end) (λ i. (next i, h_next i, t_next i)) later,
        )
    inference front rest fm rm (by_rule r ps given c) h t xs bs end as_many ds ms h_is t_is later =
        let j = length front in
        let at : slice_get d j ≡ Some (by_rule r ps given c) = ap (λ ys. slice_get ys j) (sym ds) ∙ seam front rest (by_rule r ps given c) in
        let here : inference_at d j ≡ by_rule r ps given c = get_or_from_slice_get d j (by_rule r ps given c) no_inference at in
        let on : DependsOn d n j = is_support.only j (ap (λ cs. get_or cs j false) (sym ms) ∙ ap (λ i. get_or (fm ++ true ∷ rm) i false) (sym as_many) ∙ seam_mark fm rm true) in
        let follows = right front (by_rule r ps given c) rest (sym ds) in
        let more_a = assumes_more fm front true (by_rule r ps given c) as_many in
        let more_s = steps_more fm front true (by_rule r ps given c) as_many in
        let next : told_clauses (fm ++ true ∷ []) (front ++ by_rule r ps given c ∷ []) ≡ with_step (told_clauses fm front) c = λ i. record { terms = picked marks terms; assumes = more_a i; steps = more_s i; placed = placed } in
        let h_next : suc (length (assumes_of (fm ++ true ∷ []) (front ++ by_rule r ps given c ∷ []))) ≡ suc h = omega (arith, ap length more_a, h_is) in
        let t_next : suc (length (steps_of (fm ++ true ∷ []) (front ++ by_rule r ps given c ∷ []))) ≡ suc (suc t) = omega (arith, ap length more_s, length-append (steps_of fm front) (c ∷ []), t_is) in (
          with_step (told_clauses fm front) c,
          (
            record {
              clause = c;
              number = omega (arith, t_is);
              literals = all_told g (told_clauses fm front) name c (λ u u_in. literal_told (told_clauses fm front) j (by_rule r ps given c) u refl refl at on u_in);
              sorts = All-weaker (Contains c) (λ t. sort_of t ≡ Truth) (λ u u_in. ((over j (by_rule r ps given c) at).0 u u_in).1) c (All-contains_itself c);
              premises = map (conclusion_at front) ps;
              earlier = premises_told (told_clauses fm front) refer (conclusion_at front) ps (λ p p_in. premise_told front (by_rule r ps given c ∷ rest) fm (true ∷ rm) j p as_many ds ms refl on (All-contains (λ m. m < j) ps p follows.0 p_in) (subst (λ y. Contains (premises_of y) p) (sym here) p_in));
              given = (over j (by_rule r ps given c) at).1;
              right = follows.1;
            },
            refl,
          ),
          subst (IsLater xs bs end) (λ i. (next i, h_next i, t_next i)) later,
        )

    -- after the last mark all assumptions that are printed are known
    all_assumed : (front rest : Derivation) (fm : List Bool) → length fm ≡ length front → front ++ rest ≡ d → fm ++ [] ≡ support → assumes_of fm front ≡ assumes_of support d
    all_assumed front rest fm as_many ds ms = sym (assumes_front fm front rest as_many) ∙ (λ i. assumes_of ((sym (append-nil fm) ∙ ms) i) (ds i))

    -- all inferences from a place on
    inferences : (front rest : Derivation) (fm rm : List Bool) (h t : ℕ) → length fm ≡ length front → length rm ≤ length rest → front ++ rest ≡ d → fm ++ rm ≡ support → h ≡ length (assumes_of fm front) → t ≡ length (steps_of fm front) → (end : Told) × AreLinesAfter g asserted (told_clauses fm front) (inference_lines name refer rest (counted_inferences (suc h) (suc t) rm rest)) end × (end.assumes ≡ assumes_of support d)
    inferences front [] fm [] h t as_many e ds ms h_is t_is = (told_clauses fm front, refl, all_assumed front [] fm as_many ds ms)
    inferences front (x ∷ rest) fm [] h t as_many e ds ms h_is t_is = (told_clauses fm front, refl, all_assumed front (x ∷ rest) fm as_many ds ms)
    inferences front [] fm (b ∷ rm) h t as_many e ds ms h_is t_is = absurd (omega (arith, e))
    inferences front (x ∷ rest) fm (true ∷ rm) h t as_many e ds ms h_is t_is =
        let r = inferences (front ++ x ∷ []) rest (fm ++ true ∷ []) rm _ _
        (omega (arith, length-append fm (true ∷ []), length-append front (x ∷ []), as_many)) (omega (arith, e))
        (append_assoc front (x ∷ []) rest ∙ ds) (append_assoc fm (true ∷ []) rm ∙ ms) refl refl in
        (r.0, inference front rest fm rm x h t rest rm r.0 as_many ds ms h_is t_is r.1, r.2)
    inferences front (x ∷ rest) fm (false ∷ rm) h t as_many e ds ms h_is t_is =
        let more_a = assumes_more fm front false x as_many in
        let more_s = steps_more fm front false x as_many in
        let r = inferences (front ++ x ∷ []) rest (fm ++ false ∷ []) rm h t
        (omega (arith, length-append fm (false ∷ []), length-append front (x ∷ []), as_many)) (omega (arith, e))
        (append_assoc front (x ∷ []) rest ∙ ds) (append_assoc fm (false ∷ []) rm ∙ ms) (h_is ∙ ap length (sym more_a)) (t_is ∙ ap length (sym more_s)) in
        (r.0, subst (λ k. AreLinesAfter g asserted k (inference_lines name refer rest (counted_inferences (suc h) (suc t) rm rest)) r.0) (λ i. record { terms = picked marks terms; assumes = more_a i; steps = more_s i; placed = placed }) r.1, r.2)

-- The lines end with a step that has the empty clause.
record EndsEmpty (lines : List Line) : Type 0 where
  pub earlier : List Line
  pub step : StepLine
  pub last : lines ≡ earlier ++ steps step ∷ []
  pub empty : step.literals ≡ []

behind_lines : (front lines : List Line) → EndsEmpty lines → EndsEmpty (front ++ lines)
behind_lines front lines e = record { earlier = front ++ e.earlier; step = e.step; last = ap (λ ls. front ++ ls) e.last ∙ sym (append_assoc front e.earlier (steps e.step ∷ [])); empty = e.empty }

-- no line after the last mark
no_more : (name : Term → Argument) (refer : ℕ → Reference) (h t : ℕ) (xs : Derivation) → inference_lines name refer xs (counted_inferences h t [] xs) ≡ []
no_more name refer h t [] = refl
no_more name refer h t (x ∷ xs) = refl

ends_empty : (name : Term → Argument) (refer : ℕ → Reference) (h t : ℕ) (xs : Derivation) (bs : List Bool) (n : ℕ) → length bs ≡ n + 1 → n < length xs → get_or bs n false ≡ true → conclusion_at xs n ≡ [] → EndsEmpty (inference_lines name refer xs (counted_inferences h t bs xs))
ends_empty name refer h t [] bs n e lt mark empty = absurd (omega (arith, lt))
ends_empty name refer h t (x ∷ xs) [] n e lt mark empty = absurd (false≢true mark)
ends_empty name refer h t (x ∷ xs) (b ∷ c ∷ bs) zero e lt mark empty = absurd (omega (arith, e))
ends_empty name refer h t (x ∷ xs) (false ∷ []) zero e lt mark empty = absurd (false≢true mark)
ends_empty name refer h t («assumption» u ∷ xs) (true ∷ []) zero e lt mark empty = cc
ends_empty name refer h t (by_rule r ps given c ∷ xs) (true ∷ []) zero e lt mark empty = record { earlier = []; step = record { number = t; literals = map name c; rule = r; premises = map refer ps; arguments = given }; last = ap (λ ls. steps (record { number = t; literals = map name c; rule = r; premises = map refer ps; arguments = given }) ∷ ls) (no_more name refer h (suc t) xs); empty = ap (map name) empty }
ends_empty name refer h t («assumption» u ∷ xs) (true ∷ bs) (suc n) e lt mark empty = behind_lines (assumes h (name u) ∷ []) _ (ends_empty name refer (suc h) t xs bs n (omega (arith, e)) (omega (arith, lt)) mark empty)
ends_empty name refer h t (by_rule r ps given c ∷ xs) (true ∷ bs) (suc n) e lt mark empty = behind_lines (steps (record { number = t; literals = map name c; rule = r; premises = map refer ps; arguments = given }) ∷ []) _ (ends_empty name refer h (suc t) xs bs n (omega (arith, e)) (omega (arith, lt)) mark empty)
ends_empty name refer h t (x ∷ xs) (false ∷ bs) (suc n) e lt mark empty = ends_empty name refer h t xs bs n (omega (arith, e)) (omega (arith, lt)) mark empty

-- the numbers of a plan are those of its marks
by_numbers : (P : List Line → Type 0) (terms : List Term) (d : Derivation) (p q : Plan) → p.terms ≡ q.terms → p.inferences ≡ q.inferences → P (lines_of terms d q) → P (lines_of terms d p)
by_numbers P terms d p q e f h = subst (λ ns. P (lines_of terms d (record { terms = ns; inferences = p.inferences }))) (sym e) (subst (λ ns. P (lines_of terms d (record { terms = q.terms; inferences = ns }))) (sym f) h)

-- Each line is right after those before it, and so much is assumed.
pub record AreSo (g : Signature) (asserted : List Term) (assumed : List Clause) (lines : List Line) : Type 0 where
  pub placed : List Term
  pub few : length placed ≤ place_limit
  pub end : Told
  pub right : AreLinesAfter g asserted (nothing_told placed) lines end
  pub assumes : end.assumes ≡ assumed

-- the lines of an inference are so
pub lines_so : (g : Signature) (terms asserted : List Term) (d : Derivation) (n : ℕ) (plan : Plan) → ArePrintable g terms d n → AllConcludeOver terms d → IsDerivation d → IsDerivedFrom asserted d n → (p : IsPlan terms d n plan) → AreSo g asserted (assumes_of p.support d) (lines_of terms d plan)
lines_so g terms asserted d n plan printable over right from p =
    let marks : List Bool = definition_marks terms p.printed p.heights in
    let q : Plan = record { terms = counted 1 marks; inferences = counted_inferences 1 1 p.support d } in
    let name : Term → Argument = argument_for terms (counted 1 marks) in
    let refer : ℕ → Reference = reference_for d (counted_inferences 1 1 p.support d) in
    let places : List Term = placed_by p.heights terms in
    let defs = definitions g terms asserted d n printable p.printed p.are_printed p.single p.heights p.are_heights [] terms [] marks [] 0 refl (definition_marks_length terms p.printed p.heights p.are_printed.as_many p.are_heights.as_many) refl refl refl refl in
    let infs = inferences g terms asserted d n printable p.printed p.are_printed p.single p.heights p.are_heights over right from p.support p.is_support [] d [] p.support 0 0 refl (omega (arith, p.is_support.up_to, from.there)) refl refl refl refl in
    by_numbers (AreSo g asserted (assumes_of p.support d)) terms d plan q p.definitions p.inferences (record {
      placed = places;
      few = placed_few terms p.single p.heights p.are_heights;
      end = infs.0;
      right = lines_append g asserted (definition_lines name terms (counted 1 marks)) (inference_lines name refer d (counted_inferences 1 1 p.support d)) (nothing_told places) (told_terms places (picked marks terms)) infs.0 defs infs.1;
      assumes = infs.2;
    })

-- and the last of them has the empty clause, where the inference has
lines_end : (terms : List Term) (d : Derivation) (n : ℕ) (plan : Plan) → n < length d → conclusion_at d n ≡ [] → IsPlan terms d n plan → EndsEmpty (lines_of terms d plan)
lines_end terms d n plan there empty p =
    let marks : List Bool = definition_marks terms p.printed p.heights in
    let q : Plan = record { terms = counted 1 marks; inferences = counted_inferences 1 1 p.support d } in
    let name : Term → Argument = argument_for terms (counted 1 marks) in
    let refer : ℕ → Reference = reference_for d (counted_inferences 1 1 p.support d) in
    by_numbers EndsEmpty terms d plan q p.definitions p.inferences
    (behind_lines (definition_lines name terms (counted 1 marks)) _ (ends_empty name refer 1 1 d p.support n p.is_support.up_to there (p.is_support.each n (itself n)) empty))

pub planned : (g : Signature) (terms asserted : List Term) (d : Derivation) (n : ℕ) (plan : Plan) → ArePrintable g terms d n → AllConcludeOver terms d → IsDerivation d → IsDerivedFrom asserted d n → conclusion_at d n ≡ [] → IsPlan terms d n plan → AreRightLines g asserted (lines_of terms d plan)
planned g terms asserted d n plan printable over right from empty p =
    let so = lines_so g terms asserted d n plan printable over right from p in
    let last = lines_end terms d n plan from.there empty p in
    record {
      placed = so.placed;
      few = so.few;
      end = so.end;
      right = so.right;
      earlier = last.earlier;
      step = last.step;
      last = last.last;
      empty = last.empty;
    }
