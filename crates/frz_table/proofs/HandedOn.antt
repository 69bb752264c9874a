-- What a `?` returns whose fault is of the type that is returned.
use Rattle.std.specs.Prelude.{IsErrAnd}
use Rattle.std.proofs.Common.{◌≡◌, ◌∙◌, sym, ap, subst, Result, Err, IfErr}
use Rattle.std.proofs.lemmas.Result.{err_from_is_err_and}

module _ {X E : Type 0} where
  -- what is true of the fault is true of the result
  pub handed_on : (P : Result X E → Type 0) (result : Result X E) (fault : E)
      → IsErrAnd result (λ y. y ≡ fault) → P (Err fault) → P result
  handed_on P result fault from true_of =
      let err : E → Result X E = λ f. Err f in
      let p = err_from_is_err_and result from in
      subst P (sym (p.1 ∙ ap err p.2)) true_of

  pub refused_as : (P : E → Type 0) (result : Result X E) (fault : E)
      → IsErrAnd result (λ y. y ≡ fault) → P fault → IfErr result P
  refused_as P result fault from true_of =
      handed_on (λ (r : Result X E). IfErr r P) result fault from true_of
