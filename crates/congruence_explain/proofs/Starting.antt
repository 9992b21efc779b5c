-- What holds at the start, in any order.
use Rattle.std.proofs.Common.{List, map, get_or, Contains, subst}
use Rattle.std.specs.Prelude.{Result, Ok, Err, IfOk}
use Rattle.std.proofs.lemmas.List.Elements.{All-contains, Contains-get_or}
use Rattle.spec_text.proofs.Members.{to_image, from_image}
use Rattle.spec_sorts.specs.Literals.{Literal}
use Rattle.spec_derivations.specs.ExactChains.{IsExactResolvent}
use Rattle.spec_derivations.proofs.Exact.{same_chain}
use Rattle.no_memory.specs.declared.NoMemory.{NoMemory}
use Rattle.term_core.specs.declared.ids.Lit.{Lit}
use Rattle.term_core.specs.Tables.{TableView, IsIn, literal_at}
use Rattle.clause_literals.specs.Literals.{lit_complement, SameLits}
use Rattle.congruence_explain.specs.declared.chain.Implied.{Implied}
use Rattle.congruence_explain.specs.Needing.{LeadsTo, IsRefuted, standing}
use Rattle.congruence_explain.proofs.Shown.{derives_more}
use Rattle.congruence_explain.proofs.Backward.{in_standing, from_standing}

module _ (held start : List Lit) (same : SameLits held start) where
  -- a premise comes to be false from them
  pub refuted_same : (t : TableView) (premises : List (List Lit)) → IsRefuted t premises start → IsRefuted t premises held
  refuted_same t premises r = record {
    premises_in = r.premises_in;
    start_in = λ k d lt. All-contains (λ (m : Lit). IsIn t m.term) start (get_or held k d) r.start_in ((same (get_or held k d)).0 (Contains-get_or held k d lt));
    refuted = (
      r.refuted.0,
      r.refuted.1,
      λ m i. derives_more (map (map (literal_at t)) premises) (map (map (literal_at t)) premises) (map (literal_at t) start) (map (literal_at t) held) (λ c j. j)
          (λ x j. let w = from_image (literal_at t) start x j in subst (λ (y : Literal). Contains (map (literal_at t) held) y) w.2 (to_image (literal_at t) held w.0 ((same w.0).1 w.1))) _ (r.refuted.2 m i),
    );
  }

  -- and the same literals stand
  stands_same : (premises : List (List Lit)) (needed : List Lit) → IsExactResolvent lit_complement (Contains premises) (standing held needed) → IsExactResolvent lit_complement (Contains premises) (standing start needed)
  stands_same premises needed h = (
    h.0,
    same_chain lit_complement (Contains premises) h.0 (standing held needed) (standing start needed) h.1 (λ l. (
      λ i. let s = from_standing held needed l i in in_standing start needed l s.0 ((same (lit_complement l)).0 s.1),
      λ i. let s = from_standing start needed l i in in_standing held needed l s.0 ((same (lit_complement l)).1 s.1),
    )),
  )

  -- whatever the way back comes to
  pub stands_by : (premises : List (List Lit)) (implied : List Implied) (last : List Lit) → LeadsTo premises held implied last → (r : Result (List Lit) NoMemory)
      → IfOk r (λ needed. (ps : List (List Lit)) (s : List Lit) → LeadsTo ps s implied last → IsExactResolvent lit_complement (Contains ps) (standing s needed)) → IfOk r (λ needed. IsExactResolvent lit_complement (Contains premises) (standing start needed))
  stands_by premises implied last leads (Ok needed) h = stands_same premises needed (h premises held leads)
  stands_by premises implied last leads (Err e) h = tt
