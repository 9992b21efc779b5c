-- The parameters of a definition, one after the other, and as bound names.
use Rattle.std.proofs.Common.{◌≡◌, ℕ, zero, suc, ◌≤◌, ◌<◌, List, [], ◌∷◌, ◌++◌, length, map, drop, get_or, Option, Some, None, refl, ap, sym, ◌∙◌, subst, arith, append_assoc, append-nil}
use Rattle.std.specs.Prelude.{Result, Ok, Err}
use Rattle.std.proofs.lemmas.List.{map-append, length-map, length-append}
use Rattle.std.proofs.lemmas.List.Elements.{All-nil, All-push}
use Rattle.spec_text.specs.Bytes.{Name}
use Rattle.spec_text.specs.Shapes.{Word}
use Rattle.spec_text.specs.Faults.{Located}
use Rattle.spec_text.specs.Answers.{Answer, ◌>>=◌}
use Rattle.spec_text.specs.Trees.{Tree, Trees, atom, list, none, more}
use Rattle.spec_sorts.specs.Terms.{Sort, Term, Parameter, of}
use Rattle.spec_sorts.specs.Signatures.{Signature}
use Rattle.spec_reading.specs.Names.{Setting, new_name, is_in_list}
use Rattle.spec_reading.specs.Sorts.{sort_in}
use Rattle.spec_reading.specs.Definitions.{parameters_in, bound_parameters}
use Rattle.term_core.specs.declared.ids.TermId.{TermId}
use Rattle.term_core.specs.declared.sorts.Sort.{Sort as TableSort}
use Rattle.term_core.specs.Symbols.{HasSortIn, HaveSortsIn, sort_meant, sorts_meant}
use Rattle.term_core.specs.Tables.{TableView, term_at, IsIn, AreIn}
use Rattle.term_reader.proofs.NameStacks.{newest_push}
use Rattle.no_memory.specs.declared.NoMemory.{NoMemory}
use Rattle.term_reader.specs.Building.{KeepsTable, MeansTerm, EndsBuilding}
use Rattle.term_reader.proofs.Tables.{keeps_same, keeps_along}
use Rattle.sort_check.specs.Bindings.{BindingsView, no_bindings, named_term, bound_at, paired}
use Rattle.sort_check.specs.Defining.{parameters_at, HasParameters}
use Rattle.sort_check.specs.Splitting.{first_binding}
use Rattle.sort_check.proofs.Kept.{in_kept, bound_kept, in_push}
use Rattle.sort_check.proofs.Binding.{paired_push}

module _ (w : Setting) (s : Signature) where
  -- parameters by the first of them
  abbrev pub parameters_by : List Name → Option (Word × (Tree × Trees)) → Answer (List (Name × Sort))
  parameters_by names (Some p) =
      new_name w (is_in_list names) p.0 >>= λ name.
      sort_in s p.1.0 >>= λ sort.
      parameters_in w s (names ++ name ∷ []) p.1.1 >>= λ ps.
      Ok ((name, sort) ∷ ps)
  parameters_by names None = Ok []

  pub parameters_are : (names : List Name) (ts : Trees) → parameters_in w s names ts ≡ parameters_by names (first_binding ts)
  unfolding parameters_in first_binding
  parameters_are names none = refl
  parameters_are names (more (atom at k n) rest) = refl
  parameters_are names (more (list at none end) rest) = refl
  parameters_are names (more (list at (more (list x us y) ts) end) rest) = refl
  parameters_are names (more (list at (more (atom x k n) none) end) rest) = refl
  parameters_are names (more (list at (more (atom x k n) (more t none)) end) rest) = refl
  parameters_are names (more (list at (more (atom x k n) (more t (more u us))) end) rest) = refl

  -- Some parameters are read, and others are left.
  pub record AreRead (all left : Trees) (t : TableView) (ns : List Name) (ss : List TableSort) : Type 0 where
    -- a sort for each name
    pub long : length ns ≡ length ss
    -- the sorts are there
    pub there : HaveSortsIn t.sorts ss
    -- with those that are left they come to all
    pub same : parameters_in w s [] all ≡ (parameters_in w s ns left >>= λ ps. Ok (parameters_at t ns ss ++ ps))

  pub parameters_begin : (all : Trees) (t : TableView) → AreRead all all t [] []
  unfolding ◌>>=◌
  parameters_begin all t = record { long = refl; there = All-nil (HasSortIn t.sorts); same = go (parameters_in w s [] all) }
    where
      go : (a : Answer (List (Name × Sort))) → a ≡ (a >>= λ ps. Ok ([] ++ ps))
      go (Ok ps) = refl
      go (Err e) = refl

  module _ (all left : Trees) (t : TableView) (ns : List Name) (ss : List TableSort) (h : AreRead all left t ns ss) where
    -- those that were read, and others
    abbrev pub joined : List (Name × Sort) → Answer (List (Name × Sort))
    joined ps = Ok (parameters_at t ns ss ++ ps)

    pub parameters_end : first_binding left ≡ None → HasParameters t (parameters_in w s [] all) ns ss
    unfolding ◌>>=◌
    parameters_end e = record {
      long = h.long;
      there = h.there;
      read = h.same ∙ ap (λ a. a >>= joined) (parameters_are ns left ∙ ap (parameters_by ns) e) ∙ ap (λ ps. Ok ps) (append-nil (parameters_at t ns ss));
    }

    module _ (x : Word) (u : Tree) (after : Trees) (first : first_binding left ≡ Some (x, (u, after))) where
      -- a parameter with those after it
      abbrev rest_of : Name → Sort → Answer (List (Name × Sort))
      rest_of name sort = parameters_in w s (ns ++ name ∷ []) after >>= λ ps. Ok ((name, sort) ∷ ps)

      abbrev sorted_of : Name → Answer (List (Name × Sort))
      sorted_of name = sort_in s u >>= λ sort. rest_of name sort

      pub from_first : parameters_in w s [] all ≡ ((new_name w (is_in_list ns) x >>= λ name. sorted_of name) >>= joined)
      from_first = h.same ∙ ap (λ a. a >>= joined) (parameters_are ns left ∙ ap (parameters_by ns) first)

      pub name_wrong : (e : Located) → new_name w (is_in_list ns) x ≡ Err e → parameters_in w s [] all ≡ Err e
      unfolding ◌>>=◌
      name_wrong e wrong = from_first ∙ ap (λ a. (a >>= λ name. sorted_of name) >>= joined) wrong

      pub sort_wrong : (n : Name) (e : Located) → new_name w (is_in_list ns) x ≡ Ok n → sort_in s u ≡ Err e → parameters_in w s [] all ≡ Err e
      unfolding ◌>>=◌
      sort_wrong n e fresh wrong =
          from_first ∙ ap (λ a. (a >>= λ name. sorted_of name) >>= joined) fresh ∙ ap (λ a. (a >>= λ sort. rest_of n sort) >>= joined) wrong

      pub parameters_go : (n : Name) (sort : TableSort) → new_name w (is_in_list ns) x ≡ Ok n → HasSortIn t.sorts sort → sort_in s u ≡ Ok (sort_meant t.sorts sort)
          → AreRead all after t (ns ++ n ∷ []) (ss ++ sort ∷ [])
      unfolding ◌>>=◌
      parameters_go n sort fresh there sorted = record {
        long = omega (arith, h.long, length-append ns (n ∷ []), length-append ss (sort ∷ []));
        there = All-push (HasSortIn t.sorts) ss sort h.there there;
        same =
            from_first ∙ ap (λ a. (a >>= λ name. sorted_of name) >>= joined) fresh ∙ ap (λ a. (a >>= λ sort. rest_of n sort) >>= joined) sorted
            ∙ go (parameters_in w s (ns ++ n ∷ []) after);
      }
        where
          r : Sort
          r = sort_meant t.sorts sort

          pushed : parameters_at t (ns ++ n ∷ []) (ss ++ sort ∷ []) ≡ parameters_at t ns ss ++ (n, r) ∷ []
          pushed =
              ap (paired (ns ++ n ∷ [])) (map-append (sort_meant t.sorts) ss (sort ∷ []))
              ∙ paired_push ns (sorts_meant t.sorts ss) n r (h.long ∙ sym (length-map ss (sort_meant t.sorts)))

          go : (a : Answer (List (Name × Sort))) → ((a >>= λ ps. Ok ((n, r) ∷ ps)) >>= joined) ≡ (a >>= λ ps. Ok (parameters_at t (ns ++ n ∷ []) (ss ++ sort ∷ []) ++ ps))
          go (Err e) = refl
          go (Ok ps) = ap (λ qs. Ok qs) (sym (append_assoc (parameters_at t ns ss) ((n, r) ∷ []) ps) ∙ ap (λ qs. qs ++ ps) (sym pushed))

-- the sorts of names with sorts
pub seconds : {A : Type 0} (ns : List Name) (xs : List A) → length ns ≡ length xs → map (λ (p : Name × A). p.1) (paired ns xs) ≡ xs
seconds [] [] l = refl
seconds [] (x ∷ xs) l = absurd (omega (arith, l))
seconds (n ∷ ns) [] l = absurd (omega (arith, l))
seconds (n ∷ ns) (x ∷ xs) l = ap (λ ys. x ∷ ys) (seconds ns xs (omega (arith, l)))

-- the parameter of a place, and those after it
pub parameter_at : (t : TableView) (ns : List Name) (ss : List TableSort) (k : ℕ) (d : TableSort) → k < length ss → length ns ≡ length ss
    → drop k (parameters_at t ns ss) ≡ (get_or ns k [], sort_meant t.sorts (get_or ss k d)) ∷ drop (suc k) (parameters_at t ns ss)
parameter_at t [] [] k d lt l = absurd (omega (arith, lt))
parameter_at t [] (x ∷ ss) k d lt l = absurd (omega (arith, l))
parameter_at t (n ∷ ns) [] k d lt l = absurd (omega (arith, l))
parameter_at t (n ∷ ns) (x ∷ ss) zero d lt l = refl
parameter_at t (n ∷ ns) (x ∷ ss) (suc k) d lt l = parameter_at t ns ss k d (omega (arith, lt)) (omega (arith, l))

-- The parameters from a place on are bound.
pub record AreBound (old now : TableView) (ns : List Name) (ss : List TableSort) (k : ℕ) (b : BindingsView) : Type 0 where
  -- the place is one of theirs, or after them
  pub low : k ≤ length ss
  -- the table has what it had
  pub keeps : KeepsTable old now
  -- their terms are there
  pub there : AreIn now b.terms
  -- they are those
  pub bound : bound_at now b ≡ bound_parameters k (drop k (parameters_at old ns ss))

pub bound_begin : (t : TableView) (ns : List Name) (ss : List TableSort) → length ns ≡ length ss → AreBound t t ns ss (length ss) no_bindings
bound_begin t ns ss l = record {
  low = omega arith;
  keeps = keeps_same t;
  there = All-nil (λ i. IsIn t i);
  bound = ap (bound_parameters (length ss)) (sym (none_left ns ss l));
}
  where
    none_left : (ns : List Name) (ss : List TableSort) → length ns ≡ length ss → drop (length ss) (parameters_at t ns ss) ≡ []
    none_left [] [] l = refl
    none_left [] (x ∷ ss) l = absurd (omega (arith, l))
    none_left (n ∷ ns) [] l = absurd (omega (arith, l))
    none_left (n ∷ ns) (x ∷ ss) l = none_left ns ss (omega (arith, l))

pub bound_go : (old now new : TableView) (ns : List Name) (ss : List TableSort) (k : ℕ) (b : BindingsView) (id : TermId) (d : TableSort) → AreBound old now ns ss (suc k) b → length ns ≡ length ss → length b.names ≡ length b.terms
    → KeepsTable now new → MeansTerm new (of (Parameter k (sort_meant now.sorts (get_or ss k d))) []) id
    → AreBound old new ns ss k (record { names = b.names ++ get_or ns k [] ∷ []; terms = b.terms ++ id ∷ [] })
bound_go old now new ns ss k b id d h l long keeps means =
    let n : Name = get_or ns k [] in
    let sorts : now.sorts ≡ old.sorts = ap (λ x. x.sorts) h.keeps.declared in
    let head : term_at new id ≡ of (Parameter k (sort_meant old.sorts (get_or ss k d))) [] = means.1 ∙ ap (λ x. of (Parameter k (sort_meant x (get_or ss k d))) []) sorts in
    record {
      low = omega (arith, h.low);
      keeps = keeps_along old now new h.keeps keeps;
      there = in_push new b.terms id (in_kept now new keeps b.terms h.there) means.0;
      bound =
          ap (map (named_term new)) (newest_push b.names b.terms n id long)
          ∙ (λ i. (n, head i) ∷ (bound_kept now new keeps b h.there ∙ h.bound) i)
          ∙ ap (bound_parameters k) (sym (parameter_at old ns ss k d (omega (arith, h.low)) l));
    }

-- a term that was put there
pub means_of : (new : TableView) (u : Term) (r : Result TermId NoMemory) (id : TermId) → EndsBuilding new u r → r ≡ Ok id → MeansTerm new u id
means_of new u r id h e = subst (EndsBuilding new u) e h
