-- From the newest edge that is needed down: one edge more is explained.
use Rattle.std.proofs.Common.{◌≡◌, ℕ, suc, ◌<◌, ◌≤◌, ◌⊎◌, inl, inr, true, false, List, [], ◌∷◌, ◌++◌, length, get_or, if◌then◌else◌, refl, sym, ap, ◌∙◌, subst, arith, true≢false}
use Rattle.std.specs.Prelude.{All, Contains}
use Rattle.std.specs.Ordering.{nat_cmp}
use Rattle.std.specs.BTreeMap.Range.{IsLtBy}
use Rattle.std.proofs.lemmas.List.Elements.{All-nil, All-cons, All-append, All-contains, Contains-get_or, Contains-push, Contains-push_cases}
use Rattle.spec_text.proofs.Members.{none}
use Rattle.spec_sorts.specs.Literals.{Literal, complement}
use Rattle.spec_proofs.specs.Resolution.{Derives as Propagates, IsWithin}
use Rattle.term_core.specs.declared.ids.TermId.{TermId}
use Rattle.term_core.specs.declared.ids.Lit.{Lit}
use Rattle.term_core.specs.Tables.{TableView}
use Rattle.explain_forest.specs.declared.types.Edge.{Edge}
use Rattle.explain_forest.specs.declared.types.Label.{Label}
use Rattle.explain_forest.specs.declared.types.Label.TheVariants.{Held, Arguments}
use Rattle.explain_forest.specs.Forest.{ForestState, Linked, numbered, older}
use Rattle.explain_forest.proofs.Linking.{older-all}
use Rattle.congruence_relation.specs.declared.Truths.{Truths}
use Rattle.congruence_relation.specs.Relation.{Facts, truth_of, terms_listed, StatesEqual, decides, equates}
use Rattle.congruence_relation.specs.Edges.{IsEdgeReason}
use Rattle.congruence_explain.specs.declared.claims.Claim.TheVariants.{Equality, Atom}
use Rattle.congruence_explain.specs.declared.claims.SignedClaim.{SignedClaim}
use Rattle.congruence_explain.specs.Claims.{literal_claimed, denied, joins, says, edge_says}
use Rattle.congruence_explain.specs.Basis.{IsBasis, IsAtomLiteral, IsByArguments}
use Rattle.congruence_explain.specs.Steps.{ExplanationSetting, Notes, all_denied, edge_literal, ShowsLiteral, decision, IsDenial, TellsPair, TellsEdge, Going, GoesOn, IsCollected}
use Rattle.congruence_explain.proofs.Needed.{below_last, bound, bound-push, bound-low}
use Rattle.congruence_explain.proofs.Shown.{within_more, denied_more, grows_stated, shows_stated}
use Rattle.congruence_explain.proofs.Facts.{reason_at, held_atom, held_made, truths_in, joins_turned, same_joins}
use Rattle.congruence_explain.proofs.Decided.{shows_itself, shows_decided}

-- what a held literal says of the edge that it labels
pub held_shown : (s : ExplanationSetting) (k : ℕ) (needed : List ℕ) (steps : List (List Literal)) (stated stated_after : List SignedClaim) (e : Edge) (l : Lit) → numbered s.edges k ≡ e → e.label ≡ Held l → joins e.a e.b l.term (truth_of s.truths l.positive) ≡ false
    → l.positive ≡ true → stated_after ≡ stated ++ denied l ∷ []
    → TellsEdge s k (record { needed = needed; steps = steps; stated = stated }) (record { needed = needed; steps = steps; stated = stated_after })
held_shown s k needed steps stated stated_after e l at label off positive is = (
  record { kept = λ j h. h; older = λ j h. inl h; steps = λ x i. i; stated = within_more stated stated_after (denied l ∷ []) is },
  subst (λ c. ShowsLiteral s (record { needed = needed; steps = steps; stated = stated_after }) (literal_claimed s.table c)) (sym says_it) (shows_itself s needed steps steps stated stated_after l is positive),
)
  where
    says_it : edge_says s.truths (numbered s.edges k) ≡ Atom l.term
    says_it = ap (edge_says s.truths) at ∙ ap (λ z. says s.truths z e.a e.b) label ∙ ap (λ c. if c then Equality l.term (truth_of s.truths l.positive) else Atom l.term) off

pub decided_shown : (s : ExplanationSetting) (k : ℕ) (needed : List ℕ) (steps steps_after : List (List Literal)) (stated stated_after : List SignedClaim) (e : Edge) (l : Lit) → numbered s.edges k ≡ e → e.label ≡ Held l → joins e.a e.b l.term (truth_of s.truths l.positive) ≡ true
    → stated_after ≡ stated ++ denied l ∷ [] → steps_after ≡ steps ++ decision s.table s.truths l
    → TellsEdge s k (record { needed = needed; steps = steps; stated = stated }) (record { needed = needed; steps = steps_after; stated = stated_after })
decided_shown s k needed steps steps_after stated stated_after e l at label on is more = (
  record {
    kept = λ j h. h;
    older = λ j h. inl h;
    steps = within_more steps steps_after (decision s.table s.truths l) more;
    stated = within_more stated stated_after (denied l ∷ []) is;
  },
  subst (λ c. ShowsLiteral s (record { needed = needed; steps = steps_after; stated = stated_after }) (literal_claimed s.table c)) (sym says_it) (shows_decided s needed steps steps_after stated stated_after l is more),
)
  where
    says_it : edge_says s.truths (numbered s.edges k) ≡ Equality l.term (truth_of s.truths l.positive)
    says_it = ap (edge_says s.truths) at ∙ ap (λ z. says s.truths z e.a e.b) label ∙ ap (λ c. if c then Equality l.term (truth_of s.truths l.positive) else Atom l.term) on

-- the same with other literals that the last clause has
pub edge_with : (s : ExplanationSetting) (k : ℕ) (needed after : List ℕ) (steps steps_after : List (List Literal)) (stated : List SignedClaim)
    → TellsEdge s k (record { needed = needed; steps = steps; stated = [] }) (record { needed = after; steps = steps_after; stated = [] })
    → TellsEdge s k (record { needed = needed; steps = steps; stated = stated }) (record { needed = after; steps = steps_after; stated = stated })
edge_with s k needed after steps steps_after stated h = (
  grows_stated k (record { needed = needed; steps = steps; stated = [] }) (record { needed = after; steps = steps_after; stated = [] }) stated h.0,
  shows_stated s after steps_after stated (edge_literal s k) h.1,
)

-- an edge is explained, and the last clause denies more
pub goes_on : (s : ExplanationSetting) (k : ℕ) (old new : Notes) (more : List SignedClaim) → new.stated ≡ old.stated ++ more → All (IsDenial s) more → TellsEdge s k old new → GoesOn s k old new
goes_on s k old new more is denials told = record { told = told; held = λ h. subst (All (IsDenial s)) (sym is) (All-append (IsDenial s) old.stated more h denials) }

-- a held label is denied
pub denial_of : (s : ExplanationSetting) (k : ℕ) (e : Edge) (l : Lit) → k < length s.edges → e ≡ numbered s.edges k → e.label ≡ Held l → All (IsDenial s) (denied l ∷ [])
denial_of s k e l lt at label = All-cons (IsDenial s) (denied l) [] (l, k, lt, ap (λ z. z.label) (sym at) ∙ label, refl) (All-nil (IsDenial s))

module _ (t : TableView) (ts : Truths) (v : ForestState) (f : Facts) (b : IsBasis t ts v f) (k : ℕ) (lt : k < length v.edges) (e : Edge) (at : e ≡ numbered v.edges k) where
  reason : (l : Label) → e.label ≡ l → IsEdgeReason f (older v.edges k) e l
  reason l label = subst (IsEdgeReason f (older v.edges k) e) label (subst (λ (d : Edge). IsEdgeReason f (older v.edges k) d d.label) (sym at) (reason_at f v.edges b.reasons k lt))

  -- a label by arguments names the ends
  pub by_arguments : (x y : TermId) → e.label ≡ Arguments x y → IsByArguments v.edges k
  by_arguments x y label =
      let r = reason (Arguments x y) label in
      ap (λ z. z.label) (sym at) ∙ label ∙ (λ i. Arguments (r.0 i) (r.1 i)) ∙ (λ i. Arguments (at i).a (at i).b)

  -- a held label is one of an atom
  pub held_decided : (l : Lit) → e.label ≡ Held l → IsAtomLiteral (terms_listed t f) t ts l
  held_decided l label = record { atom = held_atom t ts v f b l (reason (Held l) label).0; made = held_made t ts v f b l (reason (Held l) label).0; truths = truths_in t ts v f b }

  -- and says itself only as it is
  pub held_positive : (l : Lit) → e.label ≡ Held l → joins e.a e.b l.term (truth_of ts l.positive) ≡ false → l.positive ≡ true
  held_positive l label off = go (reason (Held l) label).1
    where
      same : truth_of f.truths l.positive ≡ truth_of ts l.positive
      same = ap (λ (us : Truths). truth_of us l.positive) b.truths

      stated : (x y : TermId) → joins x y l.term (truth_of ts l.positive) ≡ false → StatesEqual f l x y → l.positive ≡ true
      stated _ _ not_so decides = absurd (true≢false (sym (same_joins l.term (truth_of ts l.positive)) ∙ (λ i. joins l.term (sym same i) l.term (truth_of ts l.positive)) ∙ not_so))
      stated x y not_so (equates _ _ positive q) = positive

      go : StatesEqual f l e.a e.b ⊎ StatesEqual f l e.b e.a → l.positive ≡ true
      go (inl h) = stated e.a e.b off h
      go (inr h) = stated e.b e.a (joins_turned e.b e.a l.term (truth_of ts l.positive) ∙ off) h

-- the loop begins
pub going_start : (s : ExplanationSetting) (old new : Notes) (x y : TermId) → old.needed ≡ [] → new.stated ≡ [] → Linked s.edges x.0 y.0 → TellsPair s old new x y → Going s (literal_claimed s.table (Equality x y)) new
going_start s old new x y first empty linked told =
    let h = told (length s.edges) (omega arith) (subst (λ (es : List Edge). Linked es x.0 y.0) (sym (older-all s.edges (length s.edges) (omega arith))) linked) in
    record { there = λ i d lt. low _ (h.0.older _ (Contains-get_or new.needed i d lt)); shown = h.1; held = subst (All (IsDenial s)) (sym empty) (All-nil (IsDenial s)) }
  where
    low : (j : ℕ) → Contains old.needed j ⊎ (j < length s.edges) → j < length s.edges
    low j (inl i) = absurd (none j (subst (λ l. Contains l j) first i))
    low j (inr lt) = lt

-- the newest edge that is needed is taken and explained, by older ones
module _ (s : ExplanationSetting) (goal : Literal) (k : ℕ) (needed rest : List ℕ) (steps : List (List Literal)) (stated : List SignedClaim) (popped : needed ≡ rest ++ k ∷ []) (low : All (λ q. IsLtBy nat_cmp q k) rest) where
  abbrev before : Notes
  before = record { needed = needed; steps = steps; stated = stated }

  abbrev after : Notes
  after = record { needed = rest; steps = steps; stated = stated }

  -- it is an edge
  pub newest_there : Going s goal before → k < length s.edges
  newest_there g = All-contains (λ j. j < length s.edges) (rest ++ k ∷ []) k (subst (All (λ j. j < length s.edges)) popped g.there) (Contains-push rest k)

  module _ (new : Notes) (on : GoesOn s k after new) where
    newer : (j : ℕ) → Contains new.needed j → j < k
    newer j i = elim (on.told.0.older j i) [ inl h ↦ All-contains (λ q. q < k) rest j (below_last k rest low) h | inr lt ↦ lt ]

    -- those that are needed now are older
    pub bound_falls : bound new.needed < bound needed
    bound_falls =
        let was : bound needed ≡ suc k = ap bound popped ∙ bound-push rest k in
        let is : bound new.needed ≤ k = bound-low new.needed k (λ i d lt. newer _ (Contains-get_or new.needed i d lt)) in
        omega (arith, was, is)

    pub going_on : Going s goal before → Going s goal new
    going_on g = record {
      there = λ i d lt. let is : get_or new.needed i d < k = newer _ (Contains-get_or new.needed i d lt) in let top = newest_there g in omega (arith, is, top);
      shown = λ more assumed sw aw ih.
          g.shown more assumed (λ x i. sw x (on.told.0.steps x i)) (λ x i. aw x (denied_more s.table stated new.stated on.told.0.stated x i))
          (λ i need. each more assumed sw aw ih i (Contains-push_cases rest k i (subst (λ l. Contains l i) popped need)));
      held = on.held g.held;
    }
      where
        each : (more : List (List Literal)) (assumed : List Literal) → IsWithin new.steps more → IsWithin (all_denied s.table new.stated) assumed → ((i : ℕ) → Contains new.needed i → Propagates complement more assumed (edge_literal s i))
            → (i : ℕ) → Contains rest i ⊎ (k ≡ i) → Propagates complement more assumed (edge_literal s i)
        each more assumed sw aw ih i (inl old) = ih i (on.told.0.kept i old)
        each more assumed sw aw ih i (inr e) = subst (λ j. Propagates complement more assumed (edge_literal s j)) e (on.told.1 more assumed sw aw ih)

-- the loop ends
pub going_ends : (s : ExplanationSetting) (n : Notes) (x y : TermId) (stated : List SignedClaim) → n.stated ≡ stated → n.needed ≡ [] → Going s (literal_claimed s.table (Equality x y)) n → IsCollected s n.steps x y stated
going_ends s n x y stated is empty g = record {
  shown = g.shown n.steps (all_denied s.table stated) (λ c i. i) (λ m i. subst (λ zs. Contains (all_denied s.table zs) m) is i) (λ i need. absurd (none i (subst (λ l. Contains l i) empty need)));
  held = subst (All (IsDenial s)) is g.held;
}
