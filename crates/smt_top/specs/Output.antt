-- What a run writes that has no request.
use Rattle.std.specs.Prelude.{◌++◌, ℕ, List, codes}

-- how the arguments are to be
abbrev pub usage : List ℕ
usage = (codes "usage: smt_cli solve [--conflicts N] [NAME]\n"
    ++ codes "       smt_cli certify [--conflicts N] [NAME]\n"
    ++ codes "       smt_cli check [--at K] SCRIPT PROOF\n"
    ++ codes "       smt_cli gen N\n"
    ++ codes "       smt_cli validate [--at K] SCRIPT MODEL\n")
