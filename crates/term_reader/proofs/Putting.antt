-- Terms that are put one after the other, for pairs.
use Rattle.std.proofs.Common.{◌≡◌, List, [], ◌∷◌, ◌++◌, length, get_or, drop, append-nil, append_assoc, refl, sym, ap, ◌∙◌, subst, ◌<◌, arith}
use Rattle.std.proofs.lemmas.List.{map-append}
use Rattle.std.proofs.lemmas.List.Elements.{All-head, All-tail, All-push, All-cons}
use Rattle.spec_sorts.specs.Terms.{Term, Truth, no_term, sort_of}
use Rattle.term_core.specs.declared.ids.TermId.{TermId}
use Rattle.term_core.specs.Tables.{TableView, term_at, IsIn, AreIn, clause_at}
use Rattle.term_reader.specs.declared.building.Link.{Link}
use Rattle.term_reader.specs.declared.building.Link.TheVariants as links
use Rattle.term_reader.specs.Building.{KeepsTable, MeansTerm, IsOf, AreOfSort, HasPair, link_term}
use Rattle.term_reader.specs.Chains.{AreLinked, linked_terms}
use Rattle.term_reader.proofs.Tables.{keeps_same, keeps_along, of_kept}
use Rattle.term_core.proofs.TermsExtend.{term_at-kept, clause_at-kept, AreIn-kept}

-- The terms of the first pairs are there, by their numbers, and the others come.
pub record IsPut (link : Link) (old now : TableView) (all : List (TermId × TermId)) (parts : List TermId) (rest : List (TermId × TermId)) : Type 0 where
  -- what was there is there still
  pub keeps : KeepsTable old now
  -- the numbers of what was put
  pub there : AreIn now parts
  -- with what comes it is the whole
  pub same : clause_at now parts ++ linked_terms link old rest ≡ linked_terms link old all
  -- the others can be linked
  pub linked : AreLinked old link rest

pub put_starts : (link : Link) (t : TableView) (all : List (TermId × TermId)) (parts : List TermId) → parts ≡ [] → AreLinked t link all → IsPut link t t all parts all
put_starts link t all [] e linked = record { keeps = keeps_same t; there = (λ k d l. absurd (omega (arith, l))); same = refl; linked = linked }
put_starts link t all (id ∷ ids) e linked = absurd (omega (arith, ap length e))

module _ (link : Link) (old now : TableView) (all : List (TermId × TermId)) (parts : List TermId) (rest after : List (TermId × TermId)) (p : TermId × TermId) (is : rest ≡ p ∷ after) (h : IsPut link old now all parts rest) where
  linked : AreLinked old link (p ∷ after)
  linked = subst (AreLinked old link) is h.linked

  pair : HasPair old link p.0 p.1
  pair = All-head (λ q. HasPair old link q.0 q.1) p after linked

  pub next_pair : HasPair now link p.0 p.1
  next_pair = record {
    sort = pair.sort;
    suits = pair.suits;
    one = of_kept old now h.keeps pair.sort p.0 pair.one;
    other = of_kept old now h.keeps pair.sort p.1 pair.other;
  }

  pub put_step : (new : TableView) (id : TermId) (next : List TermId) → KeepsTable now new → MeansTerm new (link_term link (term_at now p.0) (term_at now p.1)) id → next ≡ parts ++ id ∷ [] → IsPut link old new all next after
  put_step new id next keeps means e =
      let there : AreIn new (parts ++ id ∷ []) = All-push (λ i. IsIn new i) parts id (AreIn-kept now new keeps.extends parts h.there) means.0 in
      let first : term_at now p.0 ≡ term_at old p.0 = term_at-kept old now h.keeps.extends p.0 pair.one.0 in
      let second : term_at now p.1 ≡ term_at old p.1 = term_at-kept old now h.keeps.extends p.1 pair.other.0 in
      let t : Term = link_term link (term_at old p.0) (term_at old p.1) in
      let last : term_at new id ≡ t = means.1 ∙ (λ i. link_term link (first i) (second i)) in
      let front : clause_at new parts ≡ clause_at now parts = clause_at-kept now new keeps.extends parts h.there in
      let done : clause_at new (parts ++ id ∷ []) ≡ clause_at now parts ++ t ∷ [] = map-append (term_at new) parts (id ∷ []) ∙ λ i. front i ++ last i ∷ [] in
      let whole : (clause_at now parts ++ t ∷ []) ++ linked_terms link old after ≡ linked_terms link old all =
      append_assoc (clause_at now parts) (t ∷ []) (linked_terms link old after) ∙ ap (λ ps. clause_at now parts ++ linked_terms link old ps) (sym is) ∙ h.same in
      record {
        keeps = keeps_along old now new h.keeps keeps;
        there = subst (AreIn new) (sym e) there;
        same = ap (λ ids. clause_at new ids ++ linked_terms link old after) e ∙ ap (λ ts. ts ++ linked_terms link old after) done ∙ whole;
        linked = All-tail (λ q. HasPair old link q.0 q.1) p after linked;
      }

pub put_ends : (link : Link) (old now : TableView) (all : List (TermId × TermId)) (parts : List TermId) (rest : List (TermId × TermId)) → length rest ≡ 0 → IsPut link old now all parts rest → AreIn now parts × (clause_at now parts ≡ linked_terms link old all)
put_ends link old now all parts [] e h = (h.there, sym (append-nil (clause_at now parts)) ∙ h.same)
put_ends link old now all parts (p ∷ rest) e h = absurd (omega (arith, e))

-- what is linked is true or false
pub link_sort : (link : Link) (t u : Term) → sort_of (link_term link t u) ≡ Truth
unfolding sort_of
link_sort links.Equal t u = refl
link_sort links.Unequal t u = refl
link_sort links.Less t u = refl
link_sort links.AtMost t u = refl
link_sort links.Greater t u = refl
link_sort links.AtLeast t u = refl

-- and so are the numbers of such terms
pub parts_are_truths : (link : Link) (old new : TableView) (all : List (TermId × TermId)) (parts : List TermId) → AreIn new parts → clause_at new parts ≡ linked_terms link old all → AreOfSort new Truth parts
parts_are_truths link old new all [] there e = λ k d l. absurd (omega (arith, l))
parts_are_truths link old new [] (id ∷ ids) there e = absurd (omega (arith, ap length e))
parts_are_truths link old new (p ∷ all) (id ∷ ids) there e =
    let first : term_at new id ≡ link_term link (term_at old p.0) (term_at old p.1) = ap (λ ts. get_or ts 0 no_term) e in
    let rest : clause_at new ids ≡ linked_terms link old all = ap (drop 1) e in
    All-cons (IsOf new Truth) id ids (All-head (IsIn new) id ids there, ap sort_of first ∙ link_sort link (term_at old p.0) (term_at old p.1)) (parts_are_truths link old new all ids (All-tail (IsIn new) id ids there) rest)

pub parts_are_some : (link : Link) (old new : TableView) (all : List (TermId × TermId)) (parts : List TermId) → clause_at new parts ≡ linked_terms link old all → 0 < length all → 0 < length parts
parts_are_some link old new [] [] e some = absurd (omega (arith, some))
parts_are_some link old new (p ∷ all) [] e some = absurd (omega (arith, ap length e))
parts_are_some link old new all (id ∷ ids) e some = omega arith
