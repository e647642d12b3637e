-- Names and statements that fit, and one more that does.
use Rattle.std.proofs.Common.{◌≡◌, List, [], ◌∷◌, ◌++◌, Result, Ok, Err, subst, sym, arith}
use Rattle.std.specs.Prelude.{OnOk}
use Rattle.st_base.specs.declared.fault.Memory.{Memory}
use Rattle.asm_statements.specs.Fits.{NameFits, NamesFit, StatementFits, AllFit}
use Rattle.asm_statements.specs.Scanning.{Grows}
use Rattle.asm_statements.specs.declared.statement.Name.{Name}
use Rattle.asm_statements.specs.declared.statement.Sum.{Sum}
use Rattle.asm_statements.specs.declared.statement.Statement.{Statement}

NamesFit-append : (names : List Name) (x : Name) → NamesFit names → NameFits x → NamesFit (names ++ x ∷ [])
NamesFit-append [] x all fits = (fits, tt)
NamesFit-append (y ∷ names) x all fits = (all.0, NamesFit-append names x all.1 fits)

-- an added name more
pub added_grows : (r : Result (Unit {0}) Memory) (s : Sum) (names : List Name) (x : Name) → NameFits x → OnOk r (names ≡ s.added ++ x ∷ [])
    → OnOk r (Grows s (record s { added = names }))
added_grows (Ok u) s names x fits ok = record {
  more = omega arith;
  less = omega arith;
  added = λ all. subst NamesFit (sym ok) (NamesFit-append s.added x all fits);
}
added_grows (Err e) s names x fits ok = tt

AllFit-append : (ss : List Statement) (s : Statement) → AllFit ss → StatementFits s.what → AllFit (ss ++ s ∷ [])
AllFit-append [] s all fits = (fits, tt)
AllFit-append (t ∷ ss) s all fits = (all.0, AllFit-append ss s all.1 fits)

-- statements with one more that fits
pub pushed_fit : (old new : List Statement) (s : Statement) → new ≡ old ++ s ∷ [] → AllFit old → StatementFits s.what → AllFit new
pushed_fit old new s is all fits = subst AllFit (sym is) (AllFit-append old s all fits)
