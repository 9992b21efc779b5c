-- Proofs with the text of what is kept of them. They are proofs of a script that asserts p and its negation.
use Rattle.std.specs.Prelude.{◌++◌, ◌≡◌, refl, ℕ, List, codes}
use Rattle.spec_sorts.specs.Written.{trees_in}
use Rattle.spec_checking.specs.OnLiterals.{proofs_on_literals}
use Rattle.spec_trims.specs.Trims.{names_made, trimmed, trim_text}

-- the text of what is kept of a proof's text
abbrev pub kept_of : List ℕ → List ℕ
kept_of text = trim_text (trees_in text)

-- the last three commands of each proof
abbrev pub clash : List ℕ
clash = codes "(assume h1 p)\n(assume h2 (not p))\n(step t1 (cl) :rule resolution :premises (h1 h2))\n"

-- a step on which nothing rests goes, and so does all that is after the first empty clause
pub steps_go : kept_of (codes "(step t0 (cl true) :rule true)\n" ++ clash
    ++ codes "(step t2 (cl) :rule resolution :premises (h2 h1))")
    ≡ codes "(\n" ++ clash ++ codes ")\n"
unfolding proofs_on_literals names_made trimmed
steps_go = refl

-- a definition goes whose name occurs only where it is bound, by `let` or as a parameter
pub bound_names_are_no_use : kept_of (codes "(define-fun @n () Bool (not p))(define-fun @f ((@n Bool)) Bool @n)\n"
    ++ codes "(assume h1 p)(assume h2 (let ((@n (not p))) (@f @n)))(step t1 (cl) :rule resolution :premises (h1 h2))")
    ≡ codes "(\n(define-fun @f ((@n Bool)) Bool @n)\n(assume h1 p)\n(assume h2 (let ((@n (not p))) (@f @n)))\n"
    ++ codes "(step t1 (cl) :rule resolution :premises (h1 h2))\n)\n"
unfolding proofs_on_literals names_made trimmed
bound_names_are_no_use = refl

-- a definition stays that a definition uses that stays; arguments and what is discharged are no use
pub definitions_stay : kept_of (codes "(define-fun @a () Bool (not p))(define-fun @b ((x Bool)) Bool x)"
    ++ codes "(define-fun @z () Bool p)(define-fun @c () Bool (@b @a))(assume h1 p)(assume h2 @c)(assume zz p)"
    ++ codes "(step t1 (cl) :args (@z zz) :premises (h1 h2) :rule resolution :discharge (zz))")
    ≡ codes "(\n(define-fun @a () Bool (not p))\n(define-fun @b ((x Bool)) Bool x)\n(define-fun @c () Bool (@b @a))\n"
    ++ codes "(assume h1 p)\n(assume h2 @c)\n"
    ++ codes "(step t1 (cl) :args (@z zz) :premises (h1 h2) :rule resolution :discharge (zz))\n)\n"
unfolding proofs_on_literals names_made trimmed
definitions_stay = refl

-- a step that names a term stays where that is used, and so do its premises; values of attributes name none
pub named_terms_stay : kept_of (codes "(assume h0 p)(step t0 (cl (! p :named @p)) :rule weakening :premises (h0))"
    ++ codes "(step t9 (cl (or true (! true :note (! p :named @q)))) :rule hole)(assume h1 |p|)(assume h2 (not @p))"
    ++ codes "(step t1 (cl) :rule resolution :premises (h1 h2))")
    ≡ codes "(\n(assume h0 p)\n(step t0 (cl (! p :named @p)) :rule weakening :premises (h0))\n(assume h1 p)\n"
    ++ codes "(assume h2 (not @p))\n(step t1 (cl) :rule resolution :premises (h1 h2))\n)\n"
unfolding proofs_on_literals names_made trimmed
named_terms_stay = refl

-- of commands without an empty clause nothing is kept
pub nothing_stays : kept_of (codes "(assume h1 p)") ≡ codes "(\n)\n"
unfolding proofs_on_literals names_made trimmed
nothing_stays = refl
