use Rattle.std.proofs.Common.{sym, ◌∙◌, arith}
use Rattle.std.specs.Cmp.Lexicographic.{same_text, other_text}
use Rattle.frz_san.proofs.Found.{legal_at, found_here, found_nowhere, none_yet}
use Rattle.frz_san.proofs.reading.find_unsigned.Goals as goal

pub unsigned-requires-clause-legal : goal.unsigned-requires-clause-legal
unsigned-requires-clause-legal c =
    (legal_at c.args.p.now c.args.text.now c.args.moves.now c.requires c.m-item.result
    c.loop-m.m-index c.loop-m-test.true c.m-item.is).1

pub returns-then-eq : goal.returns-then-eq
returns-then-eq c =
    let text = same_text c.as_bytes.result.now c.args.text.now (sym c.if-eq.true ∙ c.eq.ensures) in
    found_here c.args.p.now c.args.text.now c.args.moves.now c.requires c.m-item.result
    c.loop-m.m-index c.loop-m-test.true c.m-item.is (cc)

pub loop-m-preserved : goal.loop-m-preserved
loop-m-preserved c =
    none_yet c.args.p.now c.args.text.now c.args.moves.now c.requires c.m-item.result
    c.loop-m.m-index c.loop-m-test.true c.m-item.is c.loop-m.invariant
    (λ t. other_text c.as_bytes.result.now c.args.text.now (sym c.if-eq.false ∙ c.eq.ensures) (cc))

pub returns : goal.returns
returns c = found_nowhere c.args.p.now c.args.text.now c.args.moves.now c.requires
    (λ k d l. c.loop-m.invariant k d (omega arith))
