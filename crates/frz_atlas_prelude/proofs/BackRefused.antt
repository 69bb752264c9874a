-- Each reason to refuse a table behind is said, and nothing is both accepted and refused.
use Rattle.std.proofs.Common.{◌≡◌, sym, ◌∙◌, ℕ, [], Result, Ok, Err}
use Rattle.frz_atlas.specs.declared.fault.BackFault.{BackFault}
use Rattle.frz_atlas.specs.declared.fault.BackFault.TheVariants.{Refused, Wrong}
use Rattle.frz_prelude.proofs.Lemmas.{file_said}
use Rattle.frz_atlas_prelude.specs.BackLines.{back_line, back_word}

pub back_line_not_empty : (place : ℕ) (fault : BackFault) → back_line place fault ≡ [] → ⊥
back_line_not_empty place (Refused fault) e = file_said (back_word place) fault e
back_line_not_empty place (Wrong wrong) e = cc

pub result_is_not_both : {A E : Type 0} (x : Result A E) (value : A) (fault : E)
    → x ≡ Ok value → x ≡ Err fault → ⊥
result_is_not_both x value fault e f = (let same : Ok value ≡ Err fault = sym e ∙ f in cc)
