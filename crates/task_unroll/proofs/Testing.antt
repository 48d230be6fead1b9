-- Tests in a row.
use Rattle.std.proofs.Common.{◌≡◌, Bool, true, false, List, [], ◌∷◌, ◌++◌, Result, Ok, Err, refl, ap, ◌∙◌}
use Rattle.std.specs.Prelude.{⊤, if◌then◌else◌}
use Rattle.rt_base.specs.declared.data.FaultKind.{FaultKind}
use Rattle.task_unroll.specs.Checks.{Check, check, passed}
use Rattle.task_unroll.proofs.Results.{passed_first}

-- tests that find nothing let those behind them decide
pub passed_on : (checks more : List Check) → passed checks ≡ Ok tt → passed (checks ++ more) ≡ passed more
passed_on [] more is = refl
passed_on (one ∷ checks) more is =
    let both = passed_first one checks tt is in
    ap (λ (b : Bool). if b then Err one.kind else passed (checks ++ more)) both.0 ∙ passed_on checks more both.1

-- the first fault decides, whatever is behind
pub passed_not : (checks more : List Check) (kind : FaultKind) → passed checks ≡ Err kind → passed (checks ++ more) ≡ Err kind
passed_not [] more kind is = absurd (cc)
passed_not (one ∷ checks) more kind is = by (passed_not checks more kind) one.finds refl is
  where
    by : (passed checks ≡ Err kind → passed (checks ++ more) ≡ Err kind) → (b : Bool) → one.finds ≡ b
        → (if b then Err one.kind else passed checks) ≡ Err kind → (if b then Err one.kind else passed (checks ++ more)) ≡ Err kind
    by later true found is = is
    by later false none is = later is
