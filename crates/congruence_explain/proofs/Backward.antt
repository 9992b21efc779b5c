-- The way back from a false premise, as a chain of resolutions.
use Rattle.std.proofs.Common.{◌≡◌, ◌≢◌, ℕ, ◌+◌, ◌-◌, ◌<◌, ◌≤◌, ◌⊎◌, ◌↔◌, inl, inr, Bool, true, List, [], ◌∷◌, ◌++◌, length, map, take, get_or, Contains, sym, ap, ◌∙◌, subst, arith, append_assoc, append-nil}
use Rattle.std.specs.Prelude.{filter}
use Rattle.std.proofs.lemmas.List.{take_more, take_all, map-append}
use Rattle.std.proofs.lemmas.List.Elements.{All-contains, All-contains_itself, All-filter, filter_passes, Contains-push, Contains-push_cases, Contains-append_left}
use Rattle.spec_text.proofs.Members.{cases, none, in_filter}
use Rattle.term_core.specs.declared.ids.Lit.{Lit}
use Rattle.spec_derivations.specs.ExactChains.{IsExactBinary, IsExactChain, begin, resolve, IsExactResolvent}
use Rattle.spec_derivations.proofs.Exact.{same_chain}
use Rattle.clause_literals.specs.Literals.{lit_complement, has, SameLits}
use Rattle.clause_literals.specs.Statuses.{IsFalsified, IsUnit}
use Rattle.clause_literals.proofs.LiteralLists.{negation_twice, has-from_Contains, Contains-from_has}
use Rattle.congruence_explain.specs.declared.chain.Implied.{Implied}
use Rattle.congruence_explain.specs.Needing.{reached, LeadsTo, standing}

-- the literals that stand are needed and false
pub in_standing : (held needed : List Lit) (l : Lit) → Contains needed l → Contains held (lit_complement l) → Contains (standing held needed) l
in_standing held needed l i j = in_filter (λ m. has held (lit_complement m)) needed l i (has-from_Contains held (lit_complement l) j)

pub from_standing : (held needed : List Lit) (l : Lit) → Contains (standing held needed) l → Contains needed l × Contains held (lit_complement l)
from_standing held needed l i =
    let test : Lit → Bool = λ m. has held (lit_complement m) in (
      All-contains (Contains needed) (filter test needed) l (All-filter test (Contains needed) needed (All-contains_itself needed)) i,
      Contains-from_has held (lit_complement l) (All-contains (λ m. test m ≡ true) (filter test needed) l (filter_passes test needed) i),
    )

-- A chain over the premises gives the needed literals that are false, and what it resolved on is neither true nor false.
pub record HasChain (premises : List (List Lit)) (held needed : List Lit) : Type 0 where
  pub pivots : List Lit
  pub chain : IsExactChain lit_complement (Contains premises) pivots (standing held needed)
  pub are_open : (p : Lit) → Contains pivots p → (Contains held p → ⊥) × (Contains held (lit_complement p) → ⊥)

-- a literal whose complement is the last one is that one's complement
other_side : (l m : Lit) → l ≡ lit_complement m → m ≡ lit_complement l
other_side l m e = sym (negation_twice m) ∙ ap lit_complement (sym e)

module _ (premises : List (List Lit)) (held needed : List Lit) where
  -- it begins with the false premise
  pub chain_begins : (last : List Lit) → Contains premises last → IsFalsified held last → SameLits needed last → HasChain premises held needed
  chain_begins last there fails same = record {
    pivots = [];
    chain = begin last (standing held needed) there (λ l. (λ i. in_standing held needed l ((same l).1 i) (fails l i), λ j. (same l).0 (from_standing held needed l j).0));
    are_open = λ p i. absurd (none p i);
  }

  module _ (c : List Lit) (l : Lit) (u : IsUnit held c l) (h : HasChain premises (held ++ l ∷ []) needed) where
    -- what is false is so without the literal, unless it is its complement
    false_before : (m : Lit) → m ≢ lit_complement l → Contains (held ++ l ∷ []) (lit_complement m) → Contains held (lit_complement m)
    false_before m ne i = elim (Contains-push_cases held l (lit_complement m) i) [ inl was ↦ was | inr e ↦ absurd (ne (other_side l m e)) ]

    open_before : (p : Lit) → Contains h.pivots p → (Contains held p → ⊥) × (Contains held (lit_complement p) → ⊥)
    open_before p i = (
      λ j. (h.are_open p i).0 (Contains-append_left held (l ∷ []) p j),
      λ j. (h.are_open p i).1 (Contains-append_left held (l ∷ []) (lit_complement p) j),
    )

    -- where its complement is not needed
    pub chain_skips : (Contains needed (lit_complement l) → ⊥) → HasChain premises held needed
    chain_skips free = record {
      pivots = h.pivots;
      chain = same_chain lit_complement (Contains premises) h.pivots (standing (held ++ l ∷ []) needed) (standing held needed) h.chain (λ m. (
        λ i. let s = from_standing (held ++ l ∷ []) needed m i in in_standing held needed m s.0 (false_before m (λ e. free (subst (λ (x : Lit). Contains needed x) e s.0)) s.1),
        λ i. let s = from_standing held needed m i in in_standing (held ++ l ∷ []) needed m s.0 (Contains-append_left held (l ∷ []) (lit_complement m) s.1),
      ));
      are_open = open_before;
    }

    -- where it is
    pub chain_resolves : (more : List Lit) → Contains premises c → Contains needed (lit_complement l) → ((m : Lit) → Contains more m ↔ (Contains needed m ⊎ Contains c m)) → HasChain premises held more
    chain_resolves more c_in here same = record {
      pivots = lit_complement l ∷ h.pivots;
      chain = resolve (lit_complement l) h.pivots (standing (held ++ l ∷ []) needed) c (standing held more) h.chain c_in binary (λ p i. gone p (opened p i));
      are_open = opened;
    }
      where
        binary : IsExactBinary lit_complement (lit_complement l) (standing (held ++ l ∷ []) needed) c (standing held more)
        binary = record {
          in_one = in_standing (held ++ l ∷ []) needed (lit_complement l) here (subst (λ (x : Lit). Contains (held ++ l ∷ []) x) (sym (negation_twice l)) (Contains-push held l));
          in_other = subst (λ (x : Lit). Contains c x) (sym (negation_twice l)) u.there;
          rest = λ m. (
            λ i.
                let s = from_standing held more m i in
                elim ((same m).0 s.0) [
                  | inl old ↦ inl (in_standing (held ++ l ∷ []) needed m old (Contains-append_left held (l ∷ []) (lit_complement m) s.1), λ e. u.not_held (subst (λ (x : Lit). Contains held x) (ap lit_complement e ∙ negation_twice l) s.1))
                  | inr new ↦ inr (new, λ e. u.not_false (subst (λ (x : Lit). Contains held (lit_complement x)) (e ∙ negation_twice l) s.1))
                ],
            λ i. elim i [
              | inl old ↦ let s = from_standing (held ++ l ∷ []) needed m old.0 in in_standing held more m ((same m).1 (inl s.0)) (false_before m old.1 s.1)
              | inr new ↦ in_standing held more m ((same m).1 (inr new.0)) (u.others_false m new.0 (λ e. new.1 (e ∙ sym (negation_twice l))))
            ],
          );
        }

        opened : (p : Lit) → Contains (lit_complement l ∷ h.pivots) p → (Contains held p → ⊥) × (Contains held (lit_complement p) → ⊥)
        opened p i = elim (cases (lit_complement l) h.pivots p i) [
          | inl e ↦ (
            λ j. u.not_false (subst (λ (x : Lit). Contains held x) (sym e) j),
            λ j. u.not_held (subst (λ (x : Lit). Contains held x) (ap lit_complement (sym e) ∙ negation_twice l) j),
          )
          | inr old ↦ open_before p old
        ]

        gone : (p : Lit) → (Contains held p → ⊥) × (Contains held (lit_complement p) → ⊥) → (Contains (standing held more) p → ⊥) × (Contains (standing held more) (lit_complement p) → ⊥)
        gone p o = (
          λ i. o.1 (from_standing held more p i).1,
          λ i. o.0 (subst (λ (x : Lit). Contains held x) (negation_twice p) (from_standing held more (lit_complement p) i).1),
        )

-- what holds after one more
pub reached_more : (start : List Lit) (implied : List Implied) (i : ℕ) (d : Implied) → i < length implied → reached start (take (i + 1) implied) ≡ reached start (take i implied) ++ (get_or implied i d).literal ∷ []
reached_more start implied i d lt =
    let literal : Implied → Lit = λ x. x.literal in
    ap (λ xs. start ++ map literal xs) (take_more implied i d lt) ∙ ap (λ xs. start ++ xs) (map-append literal (take i implied) (get_or implied i d ∷ [])) ∙ sym (append_assoc start (map literal (take i implied)) (literal (get_or implied i d) ∷ []))

-- How far the way back has come.
abbrev pub HasWalked : List Implied → List Lit → ℕ → List Lit → Type 0
HasWalked implied last at needed = (premises : List (List Lit)) (start : List Lit) → LeadsTo premises start implied last → HasChain premises (reached start (take at implied)) needed

module _ (implied : List Implied) (last : List Lit) where
  pub walk_begins : (at : ℕ) → at ≡ length implied → (first needed : List Lit) → first ≡ [] → ((m : Lit) → Contains needed m ↔ (Contains first m ⊎ Contains last m)) → HasWalked implied last at needed
  walk_begins at end first needed empty same premises start leads =
      chain_begins premises (reached start (take at implied)) needed last leads.there
      (subst (λ (xs : List Implied). IsFalsified (reached start xs) last) (sym (take_all at implied (omega (arith, end)))) leads.fails)
      (λ m. (λ i. elim ((same m).0 i) [ inl b ↦ absurd (none m (subst (λ (xs : List Lit). Contains xs m) empty b)) | inr j ↦ j ], λ j. (same m).1 (inr j)))

  module _ (at : ℕ) (x : Implied) (some : 0 < at) (within : at ≤ length implied) (is : x ≡ get_or implied (at - 1) x) (needed : List Lit) (walked : HasWalked implied last at needed) where
    before : (premises : List (List Lit)) (start : List Lit) → LeadsTo premises start implied last → Contains premises x.clause.items × IsUnit (reached start (take (at - 1) implied)) x.clause.items x.literal
    before premises start leads = subst (λ (y : Implied). Contains premises y.clause.items × IsUnit (reached start (take (at - 1) implied)) y.clause.items y.literal) (sym is) (leads.steps (at - 1) x (omega (arith, some, within)))

    after : (premises : List (List Lit)) (start : List Lit) → LeadsTo premises start implied last → HasChain premises (reached start (take (at - 1) implied) ++ x.literal ∷ []) needed
    after premises start leads =
        let next : (at - 1) + 1 ≡ at = omega (arith, some) in
        let held : reached start (take at implied) ≡ reached start (take (at - 1) implied) ++ x.literal ∷ [] =
        ap (λ n. reached start (take n implied)) (sym next) ∙ reached_more start implied (at - 1) x (omega (arith, some, within)) ∙ ap (λ (y : Implied). reached start (take (at - 1) implied) ++ y.literal ∷ []) (sym is) in
        subst (λ (hs : List Lit). HasChain premises hs needed) held (walked premises start leads)

    pub walk_skips : (Contains needed (lit_complement x.literal) → ⊥) → HasWalked implied last (at - 1) needed
    walk_skips free premises start leads = chain_skips premises (reached start (take (at - 1) implied)) needed x.clause.items x.literal (before premises start leads).1 (after premises start leads) free

    pub walk_resolves : (more : List Lit) → Contains needed (lit_complement x.literal) → ((m : Lit) → Contains more m ↔ (Contains needed m ⊎ Contains x.clause.items m)) → HasWalked implied last (at - 1) more
    walk_resolves more here same premises start leads =
        let b = before premises start leads in
        chain_resolves premises (reached start (take (at - 1) implied)) needed x.clause.items x.literal b.1 (after premises start leads) more b.0 here same

  -- it ends at the start
  pub walk_ends : (at : ℕ) → at ≤ 0 → (needed : List Lit) → HasWalked implied last at needed → (premises : List (List Lit)) (start : List Lit) → LeadsTo premises start implied last → IsExactResolvent lit_complement (Contains premises) (standing start needed)
  walk_ends at none_left needed walked premises start leads =
      let zero_at : at ≡ 0 = omega (arith, none_left) in
      let h = walked premises start leads in
      let held : reached start (take at implied) ≡ start = ap (λ n. reached start (take n implied)) zero_at ∙ append-nil start in
      (h.pivots, subst (λ (hs : List Lit). IsExactChain lit_complement (Contains premises) h.pivots (standing hs needed)) held h.chain)
