use Rattle.std.proofs.Common.{◌≡◌, ◌≤◌, ◌==◌, ◌+◌, ◌++◌, ◌∷◌, [], ℕ, List, Option, Ok, Some, true, false, length, sym, ap, subst, ◌∙◌, arith, length-append}
use Rattle.std.proofs.lemmas.Bool.Decides.{nat_tests}
use Rattle.frz_store.specs.Told.{SourceTold, source_of}
use Rattle.frz_commands_inquiry.specs.declared.input_line.TheConstants.{MOST_LENGTH}
use Rattle.frz_ways.specs.Hearing.{GaveByte, IsOneLine}
use Rattle.frz_ways.specs.SessionFaults.{TookBytes}
use Rattle.frz_commands_inquiry.proofs.InputLines.{one_byte_more}
use Rattle.frz_ways.proofs.Lemmas.{took_on}
use Rattle.frz_commands_inquiry.proofs.input_line.read_line.Goals as goal

full_is : (n : ℕ) → true ≡ (n == MOST_LENGTH) → n ≡ MOST_LENGTH
full_is n e = grind (arith, nat_tests)

not_full : (n : ℕ) → false ≡ (n == MOST_LENGTH) → n ≤ MOST_LENGTH → n + 1 ≤ MOST_LENGTH
not_full n e l = grind (arith, nat_tests)

-- a byte that was taken, as it was matched
took_some : (o : Option ℕ) (byte : ℕ) (old new : SourceTold) → o ≡ Some byte
    → GaveByte (Ok o) old new → TookBytes (byte ∷ []) old new
took_some o byte old new is gave = subst (λ (z : Option ℕ). GaveByte (Ok z) old new) is gave

pub returns-in-Some-eq10-clause-gave : goal.returns-in-Some-eq10-clause-gave
returns-in-Some-eq10-clause-gave g c =
    let start = source_of g.I.Source c.args.input.now in
    let before = source_of g.I.Source c.bytes.input in
    let after = source_of g.I.Source c.read_byte.new.input in
    let i = c.in-Some-eq10.is in
    let t = c.in-Some-eq10.field-0-test in (
      c.bytes.invariant.one,
      took_on c.bytes.line.items (10 ∷ []) start before after
          c.bytes.invariant.took
          (took_some c.in_ok-read_byte.field-0 10 before after (i ∙ ap Some t)
          c.in_ok-read_byte.ensures.gave),
    )

pub returns-then-is_full-clause-gave : goal.returns-then-is_full-clause-gave
returns-then-is_full-clause-gave g c =
    let start = source_of g.I.Source c.args.input.now in
    let before = source_of g.I.Source c.bytes.input in
    let after = source_of g.I.Source c.read_byte.new.input in
    let many = full_is (length c.bytes.line.items) c.if-is_full.ensures.value in
    let long = length-append c.bytes.line.items (c.in-Some.byte ∷ []) in (
      c.bytes.line.items ++ c.in-Some.byte ∷ [],
      one_byte_more c.bytes.line.items c.in-Some.byte c.bytes.invariant.one c.in-Some.byte-test.1,
      omega (arith, many, long),
      took_on c.bytes.line.items (c.in-Some.byte ∷ []) start before after
          c.bytes.invariant.took
          (took_some c.in_ok-read_byte.field-0 c.in-Some.byte before after c.in-Some.is
          c.in_ok-read_byte.ensures.gave),
    )

pub bytes-preserved : goal.bytes-preserved
bytes-preserved g c =
    let start = source_of g.I.Source c.args.input.now in
    let before = source_of g.I.Source c.bytes.input in
    let after = source_of g.I.Source c.read_byte.new.input in
    let items = c.push.ensures.items in
    let len = c.push.ensures.len in
    let few = not_full (length c.bytes.line.items) c.if-is_full.ensures.value
    c.bytes.invariant.short in
    record {
      one = subst IsOneLine (sym items)
          (one_byte_more c.bytes.line.items c.in-Some.byte c.bytes.invariant.one
          c.in-Some.byte-test.1);
      took = subst (λ (l : List ℕ). TookBytes l start after) (sym items)
          (took_on c.bytes.line.items (c.in-Some.byte ∷ []) start before after
          c.bytes.invariant.took
          (took_some c.in_ok-read_byte.field-0 c.in-Some.byte before after c.in-Some.is
          c.in_ok-read_byte.ensures.gave));
      short = omega (arith, len, few);
      faults = c.in_ok-read_byte.ensures.cause.fine ∙ c.bytes.invariant.faults;
    }
