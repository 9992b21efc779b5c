-- What a check of one theory, and then of another where the first finds nothing wrong, is as a check of both.
use Rattle.std.proofs.Common.{◌≡◌, ◌⊎◌, inr, List, sym, subst}
use Rattle.std.specs.Prelude.{Result, Ok, Err}
use Rattle.spec_sorts.specs.Terms.{Term}
use Rattle.spec_sorts.specs.Literals.{Literal}
use Rattle.term_core.specs.Tables.{Extends}
use Rattle.term_core.proofs.TermsExtend.{Extends-self}
use Rattle.sat_budget.specs.declared.limits.Stop.{Stop}
use Rattle.proof_log.specs.declared.theory.Verdict.{Verdict}
use Rattle.proof_log.specs.declared.theory.Verdict.TheVariants.{Fine, Clash}
use Rattle.proof_log.specs.Theories.{TheoryView, Derived, terms_watched, literals_held, Checks}

-- what is stated of watched terms and held literals
abbrev pub Claim : Type 1
Claim = List Term → List Literal → Type 0

-- a check by what it shows of what is watched and held over its table
abbrev pub ChecksOver : Claim → Claim → TheoryView → Derived → Result Verdict Stop → Derived → Type 0
ChecksOver agrees refuses v old result new = Checks (agrees (terms_watched old.table v) (literals_held old.table v)) (refuses (terms_watched old.table v) (literals_held old.table v)) v old result new

-- it is one of what the others show, too, where the first agrees
joined : (a b r q : Type 0) (v : TheoryView) (old new : Derived) (result : Result Verdict Stop) → a → Checks b q v old result new → Checks (a × b) (r ⊎ q) v old result new
joined a b r q v old new (Ok Fine) agrees h = ((agrees, h.0), h.1)
joined a b r q v old new (Ok (Clash step)) agrees h = (inr h.0, h.1, h.2)
joined a b r q v old new (Err stop) agrees h = h

-- the table grew, if it changed
pub grew : (a r : Type 0) (v : TheoryView) (old new : Derived) (result : Result Verdict Stop) → Checks a r v old result new → Extends old.table new.table
grew a r v old new (Ok Fine) h = h.1.table
grew a r v old new (Ok (Clash step)) h = h.1.table
grew a r v old new (Err stop) h = subst (λ (d : Derived). Extends old.table d.table) (sym h) (Extends-self old.table)

-- the second is asked over the same table and log, of the same terms and literals
pub second_answers : (a r b q : Claim) (v w : TheoryView) (old same new : Derived) (result : Result Verdict Stop) → w ≡ v → same ≡ old
    → a (terms_watched old.table v) (literals_held old.table v) → ChecksOver b q w same result new → ChecksOver (λ ts ls. a ts ls × b ts ls) (λ ts ls. r ts ls ⊎ q ts ls) v old result new
second_answers a r b q v w old same new result view derived agrees h =
    joined (a (terms_watched old.table v) (literals_held old.table v)) (b (terms_watched old.table v) (literals_held old.table v))
    (r (terms_watched old.table v) (literals_held old.table v)) (q (terms_watched old.table v) (literals_held old.table v)) v old new result agrees
    (subst (λ (d : Derived). ChecksOver b q v d result new) derived (subst (λ (x : TheoryView). ChecksOver b q x same result new) view h))
