-- All the lines of a proof are good commands.
use Rattle.std.proofs.Common.{◌≡◌, inl, inr, ℕ, ◌+◌, List, [], ◌∷◌, ◌++◌, length, map, All, Option, Some, None, refl, sym, subst, arith}
use Rattle.std.specs.Prelude.{◌⊎◌}
use Rattle.std.proofs.lemmas.List.Elements.{All-nil, All-cons}
use Rattle.spec_text.specs.Bytes.{Name}
use Rattle.spec_text.specs.Printed.{printed}
use Rattle.spec_text.proofs.Printing.{moved, moved_all}
use Rattle.spec_sorts.specs.Terms.{Sort, Truth, Number, Declared, Symbol, Head, True, False, Not, And, Or, Xor, Implies, Equal, Ite, Minus, Plus, Times, Divide, Less, AtMost, Literal, Apply, Parameter, Term}
use Rattle.spec_sorts.specs.Signatures.{Known as Found, declared, defined as by_definition, Signature, symbols_in, known_as}
use Rattle.spec_checking.specs.Commands.{NamedClause}
use Rattle.spec_checking.specs.Judging.{with_command}
use Rattle.spec_checking.specs.Good.{AreGood}
use Rattle.spec_checking.proofs.Good.{good_end, good_step}
use Rattle.spec_models.specs.Values.{trees_of, IsName}
use Rattle.spec_models.specs.Meaning.{IsSortIn}
use Rattle.spec_proof_texts.specs.Lines.{Argument, Arguments, truth, number, symbol, defined, applied, no_items, item, place_limit, StepLine, Line, defines, assumes, steps, line_tree}
use Rattle.spec_proof_texts.specs.Meaning.{Told, nothing_told, bare_term, IsTold, AreToldSo, AreTold, IsKnownHead, IsLineAfter, AreLinesAfter, AreRightLines}
use Rattle.spec_proof_texts.specs.ReadBack.{IsWritableSort, IsWritableHead, IsWritableArgument, AreWritableArguments, IsWritableLine, AreScriptNames}
use Rattle.spec_proof_texts.proofs.Known.{numbers_in, definitions_in}
use Rattle.spec_proof_texts.proofs.Lookups.{symbol_found, head_same, tail_same}
use Rattle.spec_proof_texts.proofs.Room.{IsWithin, no_more}
use Rattle.spec_proof_texts.proofs.MadeKnown.{spare, IsKnownAfter, nothing_known}
use Rattle.spec_proof_texts.proofs.Sizes.{definitions_more, numbers_more}
use Rattle.spec_proof_texts.proofs.EachLine.{known, HasOne, Goes, HasRoom, assume_goes, step_goes, define_goes}

-- the last line is a step with the empty clause
record EndsEmpty (lines : List Line) : Type 0 where
  earlier : List Line
  step : StepLine
  last : lines ≡ earlier ++ steps step ∷ []
  empty : step.literals ≡ []

never_empty : EndsEmpty [] → ⊥
never_empty e = go e.earlier e.last
  where
    go : (xs : List Line) → [] ≡ xs ++ steps e.step ∷ [] → ⊥
    go [] h = cc
    go (x ∷ xs) h = cc

-- the line is that step
record IsEmptyStep (l : Line) : Type 0 where
  step : StepLine
  is : l ≡ steps step
  empty : step.literals ≡ []

-- the line is that step, or it comes later
sooner_or_later : (l : Line) (ls : List Line) → EndsEmpty (l ∷ ls) → IsEmptyStep l ⊎ EndsEmpty ls
sooner_or_later l ls e = go e.earlier e.last
  where
    go : (xs : List Line) → l ∷ ls ≡ xs ++ steps e.step ∷ [] → IsEmptyStep l ⊎ EndsEmpty ls
    go [] h = inl (record { step = e.step; is = head_same h; empty = e.empty })
    go (x ∷ xs) h = inr (record { earlier = xs; step = e.step; last = tail_same h; empty = e.empty })

module _ (limit : Option ℕ) (g : Signature) (asserted : List Term) (own : AreScriptNames g) where
  pub line_goes : (told next : Told) (s : Signature) (entries : List NamedClause) (numbers : ℕ) (h : IsKnownAfter g told s entries numbers) (l : Line) (at : ℕ) → IsLineAfter g asserted told l next → HasRoom limit g asserted own told s entries numbers h l → Goes limit g asserted told next s entries numbers l at
  line_goes told next s entries numbers h (defines d) at x room = subst (λ k. Goes limit g asserted told k s entries numbers (defines d) at) (sym x.2) (define_goes limit g asserted own told s entries numbers h d at x.0 x.1 room)
  line_goes told next s entries numbers h (assumes n a) at x room = subst (λ k. Goes limit g asserted told k s entries numbers (assumes n a) at) (sym x.2) (assume_goes limit g asserted own told s entries numbers h n a x.0 at x.1 room)
  line_goes told next s entries numbers h (steps l) at x room = subst (λ k. Goes limit g asserted told k s entries numbers (steps l) at) (sym x.1) (step_goes limit g asserted own told s entries numbers h l at x.0 room)

  good_lines : (told end : Told) (s : Signature) (entries : List NamedClause) (numbers : ℕ) (lines : List Line) (at : ℕ) → IsKnownAfter g told s entries numbers → AreLinesAfter g asserted told lines end
      → IsWithin limit (length g + (length told.terms + definitions_in lines)) → IsWithin limit (length (symbols_in g) + (numbers + numbers_in lines) + (length told.terms + definitions_in lines) + length told.placed + spare)
      → HasOne entries ⊎ EndsEmpty lines → AreGood limit (known asserted s entries) (moved_all at (trees_of (map line_tree lines)))
  good_lines told end s entries numbers [] at h right names terms (inl one) = good_end limit (known asserted s entries) (one.1.0, one.0, one.1.1, one.1.2, one.2)
  good_lines told end s entries numbers [] at h right names terms (inr e) = absurd (never_empty e)
  good_lines told end s entries numbers (l ∷ ls) at h right names terms ending =
      let next = right.0 in
      let x = line_goes told next s entries numbers h l at right.1 (no_more limit _ _ (omega (arith, definitions_more l ls)) names, no_more limit _ _ (omega (arith, definitions_more l ls, numbers_more l ls)) terms) in
      let place : ℕ = at + length (printed (line_tree l)) + 1 in
      let others = good_lines next end x.later_names x.later_entries (numbers + numbers_in (l ∷ [])) ls place x.made_known right.2 (no_more limit _ _ (omega (arith, definitions_more l ls, x.more_terms)) names) (no_more limit _ _ (omega (arith, definitions_more l ls, numbers_more l ls, x.more_terms, x.same_places)) terms) (onward x ending) in
      good_step limit (known asserted s entries) (moved at (line_tree l)) (moved_all place (trees_of (map line_tree ls))) x.command x.reads x.right (subst (λ k. AreGood limit k (moved_all place (trees_of (map line_tree ls)))) {x = known asserted x.later_names x.later_entries} {y = with_command (known asserted s entries) x.command} x.after others)
    where
      later : {next : Told} (x : Goes limit g asserted told next s entries numbers l at) → IsEmptyStep l ⊎ EndsEmpty ls → HasOne x.later_entries ⊎ EndsEmpty ls
      later x (inl y) = inl (x.empty y.step y.is y.empty)
      later x (inr e) = inr e

      onward : {next : Told} (x : Goes limit g asserted told next s entries numbers l at) → HasOne entries ⊎ EndsEmpty (l ∷ ls) → HasOne x.later_entries ⊎ EndsEmpty ls
      onward x (inl one) = inl (one.0, x.kept one.0 one.1, one.2)
      onward x (inr e) = later x (sooner_or_later l ls e)

  pub all_good : (lines : List Line) (at : ℕ) → AreRightLines g asserted lines → IsWithin limit (length g + definitions_in lines) → IsWithin limit (length (symbols_in g) + numbers_in lines + definitions_in lines + place_limit + spare) → AreGood limit (known asserted g []) (moved_all at (trees_of (map line_tree lines)))
  all_good lines at r names terms = good_lines (nothing_told r.placed) r.end g [] 0 lines at (nothing_known g own r.placed) r.right (no_more limit _ _ (omega arith) names) (no_more limit _ _ (omega (arith, r.few)) terms) (inr (record { earlier = r.earlier; step = r.step; last = r.last; empty = r.empty }))

-- the names that are printed are those of symbols
module _ (g : Signature) (own : AreScriptNames g) where
  named : (n : Name) (f : Symbol) → known_as g n ≡ Some (declared f) → IsName n
  named n f e = let x = symbol_found g n f e in subst IsName x.1 (own.symbols f x.0).name

  symbol_writable : (n : Name) (t : Term) → bare_term (known_as g n) ≡ Some t → IsName n
  symbol_writable n t e = go (known_as g n) refl e
    where
      go : (o : Option Found) → known_as g n ≡ o → bare_term o ≡ Some t → IsName n
      go None f h = cc
      go (Some (by_definition d)) f h = cc
      go (Some (declared x)) f h = named n x f

  head_writable : (h : Head) → IsKnownHead g h → IsWritableHead h
  head_writable True e = tt
  head_writable False e = tt
  head_writable Not e = tt
  head_writable And e = tt
  head_writable Or e = tt
  head_writable Xor e = tt
  head_writable Implies e = tt
  head_writable Equal e = tt
  head_writable Ite e = tt
  head_writable Minus e = tt
  head_writable Plus e = tt
  head_writable Times e = tt
  head_writable Divide e = tt
  head_writable Less e = tt
  head_writable AtMost e = tt
  head_writable (Literal q) e = tt
  head_writable (Parameter k s) e = tt
  head_writable (Apply f) e = named f.name f e

  mutual
    argument_writable : (told : Told) (a : Argument) (t : Term) → IsTold g told a t → IsWritableArgument a
    argument_writable told (truth b) t e = tt
    argument_writable told (number q) t e = tt
    argument_writable told (defined n) t e = tt
    argument_writable told (symbol n) t e = symbol_writable n t e
    argument_writable told (applied h items) t e = (head_writable h e.2.takes.known, within_writable told items e.0 e.1)

    within_writable : (told : Told) (items : Arguments) (ts : List Term) → AreToldSo g told items ts → AreWritableArguments items
    within_writable told no_items ts e = tt
    within_writable told (item a others) [] e = absurd e
    within_writable told (item a others) (t ∷ ts) e = (argument_writable told a t e.0, within_writable told others ts e.1)

  arguments_writable : (told : Told) (items : List Argument) (ts : List Term) → AreTold g told items ts → All IsWritableArgument items
  arguments_writable told [] ts e = All-nil IsWritableArgument
  arguments_writable told (a ∷ items) [] e = absurd e
  arguments_writable told (a ∷ items) (t ∷ ts) e = All-cons IsWritableArgument a items (argument_writable told a t e.0) (arguments_writable told items ts e.1)

  sort_writable : (s : Sort) → IsSortIn g s → IsWritableSort s
  sort_writable Truth e = tt
  sort_writable Number e = tt
  sort_writable (Declared n) e = e.name

  line_writable : (asserted : List Term) (told next : Told) (l : Line) → IsLineAfter g asserted told l next → IsWritableLine l
  line_writable asserted told next (defines d) x = record { sort = sort_writable d.sort x.1.known_sort; head = head_writable d.head x.1.takes.known; arguments = arguments_writable told d.arguments x.1.arguments x.1.told }
  line_writable asserted told next (assumes n a) x = argument_writable told a x.0 x.1.told
  line_writable asserted told next (steps s) x = (arguments_writable told s.literals x.0.clause x.0.literals, x.0.given)

  pub lines_writable : (asserted : List Term) (told end : Told) (lines : List Line) → AreLinesAfter g asserted told lines end → All IsWritableLine lines
  lines_writable asserted told end [] right = All-nil IsWritableLine
  lines_writable asserted told end (l ∷ ls) right = All-cons IsWritableLine l ls (line_writable asserted told right.0 l right.1) (lines_writable asserted right.0 end ls right.2)
