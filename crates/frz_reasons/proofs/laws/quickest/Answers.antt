use Rattle.std.proofs.Common.{ℕ, slice_index}
use Rattle.frz_sets.specs.Sets.{size_of}
use Rattle.frz_game.specs.Games.{graph_by}
use Rattle.frz_game.proofs.Lemmas.{table_exact}
use Rattle.frz_arena.proofs.Lemmas.{bounds_are_codes}
use Rattle.frz_reasons.proofs.Quickest.{opponent_plays_quickest, side_holds_out_longest}
use Rattle.frz_reasons.proofs.laws.quickest.Goals as goal

pub returns-clause-opponent : goal.returns-clause-opponent
returns-clause-opponent c = λ rules value side codes table number failing a played going b i n h.
    let arena = graph_by rules value in
    let lawful = c.numbered.ensures.graph_lawful rules value in
    let entry : ℕ → ℕ = λ k. slice_index codes k in
    opponent_plays_quickest arena side codes
    (bounds_are_codes arena side entry (c.exact_codes.ensures arena lawful side
    (size_of rules.groups) (c.numbered.ensures.graph_numbered rules value) codes
    (table_exact rules value side codes table))) number
    (c.failures_are_spoiled.ensures arena lawful side codes number failing played.agrees)
    a played going b i n h

pub returns-clause-own : goal.returns-clause-own
returns-clause-own c = λ rules value side codes table number failing a played going b i t n h.
    let arena = graph_by rules value in
    let lawful = c.numbered.ensures.graph_lawful rules value in
    let entry : ℕ → ℕ = λ k. slice_index codes k in
    side_holds_out_longest arena side codes
    (bounds_are_codes arena side entry (c.exact_codes.ensures arena lawful side
    (size_of rules.groups) (c.numbered.ensures.graph_numbered rules value) codes
    (table_exact rules value side codes table))) number
    (c.failures_are_spoiled.ensures arena lawful side codes number failing played.agrees)
    a played going b i t n h
