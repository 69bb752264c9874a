use Rattle.std.proofs.Common.{◌≡◌, ◌∙◌, ◌++◌, ◌+◌, ◌-◌, ◌*◌, ◌/◌, ap, sym, subst, ℕ, List, true, codes, decimal, arith}
use Rattle.std.proofs.lemmas.Bool.Decides.{nat_tests}
use Rattle.std.specs.Prelude.{IfSome, Option, Some}
use Rattle.frz_store.specs.Told.{sink_of}
use Rattle.frz_answer.specs.Texts.{WroteText}
use Rattle.frz_arena.specs.Codes.{code_of, is_failure}
use Rattle.frz_arena.specs.declared.bound.Bound.{Bound}
use Rattle.frz_arena.specs.declared.bound.Bound.TheVariants.{Fails}
use Rattle.frz_commands_inquiry.specs.Places.{code_words}
use Rattle.frz_commands_inquiry.proofs.places.write_code.Goals as goal

failure : (code plies : ℕ) → 3 + 2 * plies ≡ code → is_failure code ≡ true
failure code plies e = grind (arith, nat_tests)

plies_are : (code plies : ℕ) → 3 + 2 * plies ≡ code → (code - 3) / 2 ≡ plies
plies_are code plies e = grind (arith, nat_tests)

fails_words : (code plies : ℕ) → 3 + 2 * plies ≡ code
    → codes " fails within " ++ decimal plies ≡ code_words code
fails_words code plies e =
    rw (failure code plies e)
    (ap (λ n. codes " fails within " ++ decimal n) (sym (plies_are code plies e)))

code_is : (code : ℕ) (o : Option Bound) (b : Bound) (plies : ℕ) → o ≡ Some b → b ≡ Fails plies
    → IfSome o (λ bound. code_of bound ≡ code) → 3 + 2 * plies ≡ code
code_is code o b plies is fails h =
    sym (ap code_of fails)
    ∙ subst (λ (x : Option Bound). IfSome x (λ bound. code_of bound ≡ code)) is h

pub returns-in-Some-Fails : goal.returns-in-Some-Fails
returns-in-Some-Fails g c =
    let code = c.args.code in
    let plies = c.in-Some-Fails.plies in
    let e = code_is code c.bound_of.result c.in-Some-Fails.field-0 plies c.in-Some-Fails.is
    c.in-Some-Fails.field-0-is c.bound_of.ensures.bound in
    subst (λ (t : List ℕ). WroteText t c.write_numbered.result (sink_of g.O.Sink c.args.out.now)
    (sink_of g.O.Sink c.write_numbered.new.out)) (fails_words code plies e)
    (subst (λ n. WroteText (codes " fails within " ++ decimal n) c.write_numbered.result
    (sink_of g.O.Sink c.args.out.now) (sink_of g.O.Sink c.write_numbered.new.out))
    c.from.ensures c.write_numbered.ensures)
