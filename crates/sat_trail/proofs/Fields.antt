-- The fields of a trail before and after a call.
use Rattle.std.proofs.Common.{◌≡◌, ℕ, ◌+◌, ◌<◌, ◌≤◌, List, [], ◌∷◌, ◌++◌, length, get_or, set, take, Option, Some, None, refl, sym, ap, ◌∙◌, subst, arith}
use Rattle.std.specs.Prelude.{min, vec_capacity}
use Rattle.std.proofs.Math.Nat.{min-le_right}
use Rattle.std.proofs.lemmas.List.{length_push, length-set, length-map, take-map, length-take-le}
use Rattle.term_core.specs.declared.ids.Lit.{Lit}
use Rattle.sat_trail.specs.Trails.{IsUnassigned, IsPushed, IsCutTo, IsLeveled, HasSame}
use Rattle.sat_trail.specs.Values.{HasValues}
use Rattle.sat_trail.specs.Kept.{by_variable, trail_view, AreStarts, AreLevels, TrailFits}
use Rattle.sat_trail.specs.declared.trail.SatTrail.TheInside.{Inside}
use Rattle.sat_trail.proofs.ValueLaws.{no_value, push_values, bounded, apart_from, pushed_map, grown_map, grown_values, term_below}
use Rattle.sat_trail.proofs.LevelLaws.{starts_fit, starts_more, starts_push, starts_back, levels_implied, levels_decided, levels_cut, leveled_by}

abbrev levels_of : Inside → List ℕ
levels_of t = by_variable t.levels.items 0 t.literals.items

abbrev reasons_of : Inside → List (Option ℕ)
reasons_of t = by_variable t.reasons.items None t.literals.items

module _ (t : Inside) (k : TrailFits t) where
  pub levels_count : length (levels_of t) ≡ length t.literals.items
  levels_count = length-map t.literals.items (λ (l : Lit). get_or t.levels.items l.term.0 0)

  pub reasons_count : length (reasons_of t) ≡ length t.literals.items
  reasons_count = length-map t.literals.items (λ (l : Lit). get_or t.reasons.items l.term.0 None)

  -- what callers see of its levels
  pub is_leveled : IsLeveled (trail_view t)
  is_leveled = leveled_by t.starts.items (levels_of t) (reasons_of t) (length t.literals.items) k.starts_by k.leveled levels_count reasons_count (trail_view t) refl refl refl refl

  module _ (l : Lit) (known : l.term.0 < length t.values.items) (o : IsUnassigned t.literals.items l) where
    none : get_or t.values.items l.term.0 None ≡ None
    none = no_value t.literals.items t.values.items k.values_by l o

    pushed : HasValues (t.literals.items ++ l ∷ []) (set t.values.items l.term.0 (Some l.positive))
    pushed = push_values t.literals.items t.values.items k.values_by l known none

    -- there is room for the literal
    pub literal_fits : length t.literals.items + 1 ≤ length t.values.items
    literal_fits = omega (arith, bounded _ _ pushed, length_push t.literals.items l, length-set t.values.items l.term.0 (Some l.positive))

    -- and for a level
    pub level_fits : length t.starts.items + 1 ≤ length t.values.items
    level_fits = omega (arith, literal_fits, starts_fit _ _ k.starts_by)

    -- the literal is put with a level and a reason
    module _ (u : Inside) (n : ℕ) (r : Option ℕ)
        (literals : u.literals.items ≡ t.literals.items ++ l ∷ [])
        (values : u.values.items ≡ set t.values.items l.term.0 (Some l.positive))
        (levels : u.levels.items ≡ set t.levels.items l.term.0 n)
        (reasons : u.reasons.items ≡ set t.reasons.items l.term.0 r)
        (marked : u.propagated ≡ t.propagated) where
      seen_levels : levels_of u ≡ levels_of t ++ n ∷ []
      seen_levels = (λ i. by_variable (levels i) 0 (literals i)) ∙ pushed_map t.literals.items l t.levels.items n 0 (omega (arith, known, k.levels_by)) (apart_from t.literals.items t.values.items k.values_by l none)

      seen_reasons : reasons_of u ≡ reasons_of t ++ r ∷ []
      seen_reasons = (λ i. by_variable (reasons i) None (literals i)) ∙ pushed_map t.literals.items l t.reasons.items r None (omega (arith, known, k.reasons_by)) (apart_from t.literals.items t.values.items k.values_by l none)

      pub is_pushed : length u.starts.items ≡ n → IsPushed (trail_view t) l r n (trail_view u)
      is_pushed e = record {
        literals = literals;
        levels = seen_levels;
        reasons = seen_reasons;
        level = e;
        vars = ap length values ∙ length-set t.values.items l.term.0 (Some l.positive);
        propagated = marked;
      }

      kept_with : vec_capacity u.literals ≡ vec_capacity t.literals → vec_capacity u.starts ≡ vec_capacity t.starts → AreStarts u.starts.items (length t.literals.items + 1)
          → AreLevels u.starts.items (levels_of t ++ n ∷ []) (reasons_of t ++ r ∷ []) → TrailFits u
      kept_with room level_room starts leveled = record {
        marked = omega (arith, marked, k.marked, ap length literals, length_push t.literals.items l);
        values_by = subst (λ (xs : List Lit). HasValues xs u.values.items) (sym literals) (subst (HasValues (t.literals.items ++ l ∷ [])) (sym values) pushed);
        levels_by = ap length levels ∙ length-set _ _ _ ∙ k.levels_by ∙ sym size;
        reasons_by = ap length reasons ∙ length-set _ _ _ ∙ k.reasons_by ∙ sym size;
        literal_room = omega (arith, size, room, k.literal_room);
        level_room = omega (arith, size, level_room, k.level_room);
        starts_by = subst (AreStarts u.starts.items) (sym (ap length literals ∙ length_push t.literals.items l)) starts;
        leveled = subst (λ (xs : List ℕ). AreLevels u.starts.items xs (reasons_of u)) (sym seen_levels) (subst (AreLevels u.starts.items (levels_of t ++ n ∷ [])) (sym seen_reasons) leveled);
      }
        where
          size : length u.values.items ≡ length t.values.items
          size = ap length values ∙ length-set _ _ _

      -- it is implied at the level
      pub kept_implied : (s : ℕ) → r ≡ Some s → u.starts.items ≡ t.starts.items → n ≡ length t.starts.items → vec_capacity u.literals ≡ vec_capacity t.literals → vec_capacity u.starts ≡ vec_capacity t.starts → TrailFits u
      kept_implied s re se ne room level_room = kept_with room level_room
          (subst (λ (xs : List ℕ). AreStarts xs (length t.literals.items + 1)) (sym se) (starts_more _ _ k.starts_by))
          (subst (λ (xs : List ℕ). AreLevels xs (levels_of t ++ n ∷ []) (reasons_of t ++ r ∷ [])) (sym se)
          (subst (λ (m : ℕ). AreLevels t.starts.items (levels_of t ++ m ∷ []) (reasons_of t ++ r ∷ [])) (sym ne)
          (subst (λ (q : Option ℕ). AreLevels t.starts.items (levels_of t ++ length t.starts.items ∷ []) (reasons_of t ++ q ∷ [])) (sym re)
          (levels_implied _ _ _ _ k.starts_by k.leveled levels_count reasons_count s))))

      -- it is decided, at a new level
      pub kept_decided : r ≡ None → u.starts.items ≡ t.starts.items ++ length t.literals.items ∷ [] → n ≡ length t.starts.items + 1 → vec_capacity u.literals ≡ vec_capacity t.literals → vec_capacity u.starts ≡ vec_capacity t.starts → TrailFits u
      kept_decided re se ne room level_room = kept_with room level_room
          (subst (λ (xs : List ℕ). AreStarts xs (length t.literals.items + 1)) (sym se) (starts_push _ _ k.starts_by))
          (subst (λ (xs : List ℕ). AreLevels xs (levels_of t ++ n ∷ []) (reasons_of t ++ r ∷ [])) (sym se)
          (subst (λ (m : ℕ). AreLevels (t.starts.items ++ length t.literals.items ∷ []) (levels_of t ++ m ∷ []) (reasons_of t ++ r ∷ [])) (sym ne)
          (subst (λ (q : Option ℕ). AreLevels (t.starts.items ++ length t.literals.items ∷ []) (levels_of t ++ (length t.starts.items + 1) ∷ []) (reasons_of t ++ q ∷ [])) (sym re)
          (levels_decided _ _ _ _ k.starts_by k.leveled levels_count reasons_count))))

  -- the literals up to a level stay
  module _ (u : Inside) (level : ℕ) (lt : level < length t.starts.items)
      (literals : u.literals.items ≡ take (get_or t.starts.items level 0) t.literals.items)
      (starts : u.starts.items ≡ take level t.starts.items)
      (levels : u.levels.items ≡ t.levels.items)
      (reasons : u.reasons.items ≡ t.reasons.items)
      (size : length u.values.items ≡ length t.values.items)
      (marked : u.propagated ≡ min t.propagated (get_or t.starts.items level 0)) where
    abbrev at : ℕ
    at = get_or t.starts.items level 0

    there : at ≤ length t.literals.items
    there = omega (arith, k.starts_by.within level lt)

    cut_levels : levels_of u ≡ take at (levels_of t)
    cut_levels = (λ i. by_variable (levels i) 0 (literals i)) ∙ sym (take-map (λ (l : Lit). get_or t.levels.items l.term.0 0) at t.literals.items)

    cut_reasons : reasons_of u ≡ take at (reasons_of t)
    cut_reasons = (λ i. by_variable (reasons i) None (literals i)) ∙ sym (take-map (λ (l : Lit). get_or t.reasons.items l.term.0 None) at t.literals.items)

    pub is_cut : IsCutTo (trail_view t) level (trail_view u)
    is_cut = record {
      kept = at;
      within = there;
      below = λ p pl. k.leveled.below level p lt pl;
      above = λ p le pl. k.leveled.above level p lt le (omega (arith, pl, levels_count));
      literals = literals;
      levels = cut_levels;
      reasons = cut_reasons;
      level_is = ap length starts ∙ length-take-le level t.starts.items (omega (arith, lt));
      vars = size;
      propagated = marked;
    }

    pub kept_cut : HasValues u.literals.items u.values.items → vec_capacity u.literals ≡ vec_capacity t.literals → vec_capacity u.starts ≡ vec_capacity t.starts → TrailFits u
    kept_cut values room level_room = record {
      marked = omega (arith, marked, min-le_right t.propagated at, ap length literals, length-take-le at t.literals.items there);
      values_by = values;
      levels_by = ap length levels ∙ k.levels_by ∙ sym size;
      reasons_by = ap length reasons ∙ k.reasons_by ∙ sym size;
      literal_room = omega (arith, size, room, k.literal_room);
      level_room = omega (arith, size, level_room, k.level_room);
      starts_by = subst (λ (xs : List ℕ). AreStarts xs (length u.literals.items)) (sym starts) (subst (AreStarts (take level t.starts.items)) (sym (ap length literals ∙ length-take-le at t.literals.items there)) (starts_back _ _ k.starts_by level lt));
      leveled = subst (λ (xs : List ℕ). AreLevels xs (levels_of u) (reasons_of u)) (sym starts) (subst (λ (xs : List ℕ). AreLevels (take level t.starts.items) xs (reasons_of u)) (sym cut_levels)
          (subst (AreLevels (take level t.starts.items) (take at (levels_of t))) (sym cut_reasons) (levels_cut _ _ _ _ k.starts_by k.leveled levels_count reasons_count level lt)));
    }

  -- a variable more
  module _ (u : Inside)
      (literals : u.literals.items ≡ t.literals.items)
      (starts : u.starts.items ≡ t.starts.items)
      (levels : u.levels.items ≡ t.levels.items ++ 0 ∷ [])
      (reasons : u.reasons.items ≡ t.reasons.items ++ None ∷ [])
      (values : u.values.items ≡ t.values.items ++ None ∷ [])
      (marked : u.propagated ≡ t.propagated) where
    grown_levels : levels_of u ≡ levels_of t
    grown_levels = (λ i. by_variable (levels i) 0 (literals i)) ∙ grown_map t.literals.items t.levels.items 0 0 (λ l m. omega (arith, term_below t.literals.items t.values.items k.values_by l m, k.levels_by))

    grown_reasons : reasons_of u ≡ reasons_of t
    grown_reasons = (λ i. by_variable (reasons i) None (literals i)) ∙ grown_map t.literals.items t.reasons.items None None (λ l m. omega (arith, term_below t.literals.items t.values.items k.values_by l m, k.reasons_by))

    pub is_same : HasSame (trail_view t) (trail_view u)
    is_same = record { literals = literals; levels = grown_levels; reasons = grown_reasons; level = ap length starts }

    pub kept_grown : length t.values.items + 1 ≤ vec_capacity u.literals → length t.values.items + 1 ≤ vec_capacity u.starts → TrailFits u
    kept_grown room level_room = record {
      marked = omega (arith, marked, k.marked, ap length literals);
      values_by = subst (λ (xs : List Lit). HasValues xs u.values.items) (sym literals) (subst (HasValues t.literals.items) (sym values) (grown_values t.literals.items t.values.items k.values_by));
      levels_by = omega (arith, ap length levels, length_push t.levels.items 0, k.levels_by, size);
      reasons_by = omega (arith, ap length reasons, length_push t.reasons.items None, k.reasons_by, size);
      literal_room = omega (arith, size, room);
      level_room = omega (arith, size, level_room);
      starts_by = subst (λ (xs : List ℕ). AreStarts xs (length u.literals.items)) (sym starts) (subst (AreStarts t.starts.items) (sym (ap length literals)) k.starts_by);
      leveled = subst (λ (xs : List ℕ). AreLevels xs (levels_of u) (reasons_of u)) (sym starts) (subst (λ (xs : List ℕ). AreLevels t.starts.items xs (reasons_of u)) (sym grown_levels) (subst (AreLevels t.starts.items (levels_of t)) (sym grown_reasons) k.leveled));
    }
      where
        size : length u.values.items ≡ length t.values.items + 1
        size = ap length values ∙ length_push t.values.items None
