-- A new symbol is last.
use Rattle.std.proofs.Common.{◌≡◌, [], ◌∷◌, ◌++◌, length, subst, sym, ap, ◌∙◌, arith, length-append}
use Rattle.std.proofs.lemmas.List.Elements.{All-push}
use Rattle.term_core.specs.declared.sorts.Rank.{Rank}
use Rattle.term_core.specs.Symbols.{SymbolsView, HasSortIn, HaveSortsIn, symbol_of, symbols_of, symbol_named, IsRank, AreRanks}
use Rattle.term_core.proofs.NamesApart.{HaveNoTwice-push}
use Rattle.term_core.proofs.SymbolsNamed.{new_name, symbols_push, symbols_long}
use Rattle.term_core.proofs.symbols.Symbols.add.Goals as goal

pub add-requires : goal.add-requires
add-requires c =
    let i = c.self.inside in
    new_name i.sorts i.names i.ranks.items c.args.name.now c.self.invariant.long (ap (λ (v : SymbolsView). symbol_named v.symbols c.args.name.now) c.self.view_is ∙ c.requires.new)

abbrev rank : goal.After-push_reserved → Rank
rank c = record { parameters = c.in_ok-parameters.parameters; result = c.args.gives }

copied : (c : goal.After-push_reserved) → c.in_ok-parameters.parameters.items ≡ c.args.parameters.now
copied c = c.in_ok-parameters.ensures.items_if_clones_equal (λ x y e. e)

ranks : (c : goal.After-push_reserved) → c.push_reserved.new.self.items ≡ c.self.inside.ranks.items ++ rank c ∷ []
ranks c = c.push_reserved.ensures.items ∙ ap (λ rs. rs ++ rank c ∷ []) c.in_ok-reserve.ensures.items

placed : (c : goal.After-push_reserved) → IsRank c.self.inside.sorts (rank c)
placed c = record {
  parameters = subst (HaveSortsIn c.self.inside.sorts) (sym (copied c)) (subst (λ (v : SymbolsView). HaveSortsIn v.sorts c.args.parameters.now) (sym c.self.view_is) c.requires.sorts.0);
  result = subst (λ (v : SymbolsView). HasSortIn v.sorts c.args.gives) (sym c.self.view_is) c.requires.sorts.1;
}

pub invariant_of-self-2 : goal.invariant_of-self-2
invariant_of-self-2 c =
    let i = c.self.inside in
    let a = c.self.invariant in
    subst (λ ns. AreRanks i.sorts ns c.push_reserved.new.self.items) (sym c.in_ok-add.ensures.added)
    (subst (AreRanks i.sorts (i.names ++ c.args.name.now ∷ [])) (sym (ranks c)) (record {
      sorts_apart = a.sorts_apart;
      names_apart = HaveNoTwice-push i.names c.args.name.now a.names_apart (new_name i.sorts i.names i.ranks.items c.args.name.now a.long (ap (λ (v : SymbolsView). symbol_named v.symbols c.args.name.now) c.self.view_is ∙ c.requires.new));
      long = omega (arith, a.long, length-append i.names (c.args.name.now ∷ []), length-append i.ranks.items (rank c ∷ []));
      each = All-push (IsRank i.sorts) i.ranks.items (rank c) a.each (placed c);
    }))

pub returns-clause-added : goal.returns-clause-added
returns-clause-added c =
    let i = c.self.inside in
    let pushed : symbols_of i.sorts c.add.new.self c.push_reserved.new.self.items ≡ symbols_of i.sorts i.names i.ranks.items ++ symbol_of i.sorts c.args.name.now c.args.parameters.now c.args.gives ∷ [] =
    (λ j. symbols_of i.sorts (c.in_ok-add.ensures.added j) (ranks c j)) ∙ symbols_push i.sorts i.names i.ranks.items c.args.name.now (rank c) c.self.invariant.long
    ∙ ap (λ ss. symbols_of i.sorts i.names i.ranks.items ++ symbol_of i.sorts c.args.name.now ss c.args.gives ∷ []) (copied c) in
    subst (λ (v : SymbolsView). (symbols_of i.sorts c.add.new.self c.push_reserved.new.self.items ≡ v.symbols ++ symbol_of v.sorts c.args.name.now c.args.parameters.now c.args.gives ∷ []) × (i.sorts ≡ v.sorts)) c.self.view_is (pushed, λ j. i.sorts)

pub returns-clause-number : goal.returns-clause-number
returns-clause-number c =
    let i = c.self.inside in
    c.len-number.ensures ∙ sym (symbols_long i.sorts i.names i.ranks.items c.self.invariant.long) ∙ ap (λ (v : SymbolsView). length v.symbols) c.self.view_is
