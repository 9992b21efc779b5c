-- Tables and logs that grow, and what numbers of a log say then.
use Rattle.std.proofs.Common.{◌≡◌, ◌+◌, ◌<◌, List, [], ◌∷◌, ◌++◌, length, map, get_or, All, refl, sym, ap, ap₂, ◌∙◌, subst, arith, length-append, append_assoc}
use Rattle.std.proofs.lemmas.List.{append-nil, map-append, length-map, get_or_append_left, get_or_push}
use Rattle.std.proofs.lemmas.List.Elements.{All-nil, All-append, All-push, All-head, All-tail}
use Rattle.spec_sorts.specs.Literals.{Clause}
use Rattle.spec_derivations.specs.Derivations.{Derivation, conclusion, no_inference}
use Rattle.term_core.specs.declared.ids.TermId.{TermId}
use Rattle.term_core.specs.Tables.{TableView, clause_at}
use Rattle.term_core.proofs.TermsExtend.{Extends-trans}
use Rattle.proof_log.specs.declared.premises.StepId.{StepId}
use Rattle.proof_log.specs.Logs.{Logged, assumed, stepped, named, inference_of, derivation_in, stated, IsLogOf}
use Rattle.proof_log.proofs.Tables.{grown_same}
use Rattle.proof_log.proofs.Logged.{conclusion_of}
use Rattle.term_clauses.specs.Growth.{AssumesOneOf, Grows}
use Rattle.term_clauses.specs.Stating.{listed_steps, Widens, StatesClauses, Tells}
use Rattle.term_clauses.proofs.Arguments.{Widens-self}
use Rattle.term_clauses.proofs.Making.{Makes-none, Makes-push, Makes-trans}

-- a wider table, over which the log is still right
pub Grows-wider : (roots : List TermId) (t u : TableView) (log : List Logged) → Widens t u → IsLogOf u log → Grows roots t u log log
Grows-wider roots t u log wider right = record {
  table = wider.terms;
  declared = wider.declared;
  more = [];
  log = sym (append-nil log);
  right = right;
  assumes = All-nil (AssumesOneOf roots);
}

pub Grows-self : (roots : List TermId) (t : TableView) (log : List Logged) → IsLogOf t log → Grows roots t t log log
Grows-self roots t log right = Grows-wider roots t t log (Widens-self t) right

pub Grows-trans : (roots : List TermId) (t u v : TableView) (a b c : List Logged) → Grows roots t u a b → Grows roots u v b c → Grows roots t v a c
Grows-trans roots t u v a b c g h = record {
  table = Extends-trans t u v g.table h.table;
  declared = h.declared ∙ g.declared;
  more = g.more ++ h.more;
  log = h.log ∙ ap (λ l. l ++ h.more) g.log ∙ append_assoc a g.more h.more;
  right = h.right;
  assumes = All-append (AssumesOneOf roots) g.more h.more g.assumes h.assumes;
}

-- a clause more
pub Grows-push : (roots : List TermId) (t : TableView) (old new : List Logged) (l : Logged) → new ≡ old ++ l ∷ [] → AssumesOneOf roots l → IsLogOf t new → Grows roots t t old new
Grows-push roots t old new l last assumes right = record {
  table = (Widens-self t).terms;
  declared = refl;
  more = l ∷ [];
  log = last;
  right = right;
  assumes = All-push (AssumesOneOf roots) [] l (All-nil (AssumesOneOf roots)) assumes;
}

-- what assumes nothing assumes only roots
pub Grows-weaker : (roots : List TermId) (t u : TableView) (old new : List Logged) → Grows [] t u old new → Grows roots t u old new
Grows-weaker roots t u old new g = record {
  table = g.table;
  declared = g.declared;
  more = g.more;
  log = g.log;
  right = g.right;
  assumes = λ k d lt. weaker (get_or g.more k d) (g.assumes k d lt);
}
  where
    weaker : (l : Logged) → AssumesOneOf [] l → AssumesOneOf roots l
    weaker (assumed id) h = absurd (omega (arith, h.1))
    weaker (stepped r ps qs c) h = h

module _ (roots : List TermId) (t u : TableView) (old new : List Logged) (g : Grows roots t u old new) (right : IsLogOf t old) where
  -- a number says what it did
  pub stated-kept : (s : StepId) → s.0 < length old → stated u new s ≡ stated t old s
  stated-kept s lt =
      let split : derivation_in u new ≡ derivation_in t old ++ derivation_in u g.more = ap (derivation_in u) g.log ∙ map-append (inference_of u) old g.more ∙ ap (λ (d : Derivation). d ++ derivation_in u g.more) (grown_same t u old right g.table) in
      ap (λ (d : Derivation). conclusion (get_or d s.0 no_inference)) split
      ∙ ap conclusion (get_or_append_left (derivation_in t old) (derivation_in u g.more) no_inference s.0 (subst (λ n. s.0 < n) (sym (length-map old (inference_of t))) lt))

  all-kept : (steps : List StepId) → All (λ s. s.0 < length old) steps → map (stated u new) steps ≡ map (stated t old) steps
  all-kept [] there = refl
  all-kept (s ∷ ss) there = ap₂ (λ (x : Clause) (xs : List Clause). x ∷ xs) (stated-kept s (All-head (λ (x : StepId). x.0 < length old) s ss there)) (all-kept ss (All-tail (λ (x : StepId). x.0 < length old) s ss there))

  -- so do all of them
  pub Says-kept : (steps : List StepId) (clauses : List Clause) → StatesClauses t old steps clauses → StatesClauses u new steps clauses
  Says-kept steps clauses says = record {
    there = λ k d lt. subst (λ n. (get_or steps k d).0 < n) (sym (ap length g.log)) (omega (arith, says.there k d lt, length-append old g.more));
    same = all-kept steps says.there ∙ says.same;
  }

-- a clause more, and its number
Says-push : (roots : List TermId) (t : TableView) (old new : List Logged) (l : Logged) (id : StepId) (steps all : List StepId) (stated_before : List Clause) → Grows roots t t old new → IsLogOf t old → id.0 ≡ length old → new ≡ old ++ l ∷ [] → all ≡ steps ++ id ∷ [] → StatesClauses t old steps stated_before → StatesClauses t new all (stated_before ++ clause_at t (named l) ∷ [])
Says-push roots t old new l id steps all stated_before g right number last pushed says =
    let kept = Says-kept roots t t old new g right steps stated_before says in
    let count : length new ≡ length old + 1 = ap length last ∙ length-append old (l ∷ []) in
    let here : stated t new id ≡ clause_at t (named l) =
    ap (λ (d : Derivation). conclusion (get_or d id.0 no_inference)) (ap (derivation_in t) last ∙ map-append (inference_of t) old (l ∷ []))
    ∙ ap conclusion (get_or_push (derivation_in t old) (inference_of t l) no_inference id.0 (length-map old (inference_of t) ∙ sym number))
    ∙ conclusion_of t l in
    record {
      there = subst (λ (ss : List StepId). All (λ s. s.0 < length new) ss) (sym pushed) (All-push (λ (s : StepId). s.0 < length new) steps id kept.there (omega (arith, count, number)));
      same = ap (map (stated t new)) pushed ∙ map-append (stated t new) steps (id ∷ []) ∙ ap₂ (λ (xs : List Clause) (x : Clause). xs ++ x ∷ []) kept.same here;
    }

pub Tells-push : (roots : List TermId) (t : TableView) (old new : List Logged) (l : Logged) (id : StepId) (steps all : List StepId) → Grows roots t t old new → IsLogOf t old → id.0 ≡ length old → new ≡ old ++ l ∷ [] → all ≡ steps ++ id ∷ [] → Tells (listed_steps t old steps) (listed_steps t new all) (clause_at t (named l) ∷ [])
Tells-push roots t old new l id steps all g right number last pushed = record {
  says = λ stated_before says. Says-push roots t old new l id steps all stated_before g right number last pushed says;
  made = Makes-push old new l id steps all number last pushed;
}

-- a table that got wider before the clauses came
module _ (t u v : TableView) (wider : Widens t u) (old new : List Logged) (right : IsLogOf t old) (still : IsLogOf u old) where
  pub Grows-made : Grows [] u v old new → Grows [] t v old new
  Grows-made g = Grows-trans [] t u v old old new (Grows-wider [] t u old wider still) g

  pub Tells-made : (steps all : List StepId) (clauses : List Clause) → Tells (listed_steps u old steps) (listed_steps v new all) clauses → Tells (listed_steps t old steps) (listed_steps v new all) clauses
  Tells-made steps all clauses tells = record {
    says = λ stated_before says. tells.says stated_before (Says-kept [] t u old old (Grows-wider [] t u old wider still) right steps stated_before says);
    made = tells.made;
  }

-- no clause, then some, then others
pub Tells-none : (t : TableView) (log : List Logged) (steps : List StepId) → Tells (listed_steps t log steps) (listed_steps t log steps) []
Tells-none t log steps = record {
  says = λ stated_before says. subst (StatesClauses t log steps) (sym (append-nil stated_before)) says;
  made = Makes-none log steps;
}

pub Tells-trans : (t u v : TableView) (a b c : List Logged) (one two three : List StepId) (cs ds : List Clause) → Tells (listed_steps t a one) (listed_steps u b two) cs → Tells (listed_steps u b two) (listed_steps v c three) ds → Tells (listed_steps t a one) (listed_steps v c three) (cs ++ ds)
Tells-trans t u v a b c one two three cs ds f g = record {
  says = λ stated_before says. subst (StatesClauses v c three) (append_assoc stated_before cs ds) (g.says (stated_before ++ cs) (f.says stated_before says));
  made = Makes-trans a b c one two three f.made g.made;
}

-- the same of clauses that are the same
pub Tells-same : (t u : TableView) (old new : List Logged) (steps all : List StepId) (cs ds : List Clause) → cs ≡ ds → Tells (listed_steps t old steps) (listed_steps u new all) cs → Tells (listed_steps t old steps) (listed_steps u new all) ds
Tells-same t u old new steps all cs ds e tells = subst (Tells (listed_steps t old steps) (listed_steps u new all)) e tells
