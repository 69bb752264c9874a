use Rattle.std.proofs.Common.{sym, ℕ, List, ◌∙◌, true, false}
use Rattle.std.specs.Prelude.{map}
use Rattle.std.specs.String.{string_bytes}
use Rattle.frz_store.specs.Told.{store_of}
use Rattle.frz_answer.specs.Jobs.{Job}
use Rattle.frz_answer.specs.Words.{unless}
use Rattle.frz_answer.proofs.Lemmas.{as_taken, as_unless}
use Rattle.frz_atlas_prelude.specs.Names.{has_twice}
use Rattle.frz_commands_atlas.specs.Building.{building_at}
use Rattle.frz_commands_atlas.proofs.building.run_build.Goals as goal

abbrev by_words : List (List ℕ) → List ℕ × (List ℕ × List (List ℕ)) → Job
by_words words names = unless (has_twice words) (building_at names.0 names.1.0 names.1.1)

pub returns-then-has_twice-clause-ran : goal.returns-then-has_twice-clause-ran
returns-then-has_twice-clause-ran g c = λ input.
    let words = map string_bytes c.args.words.now in
    let behind = map string_bytes c.in-Some.behind.now in
    as_taken _ _ _ (by_words words) _ _ c.in-Some.ensures.named
    (as_unless _ _ _ (building_at c.in-Some.rules.now c.in-Some.table.now behind) true (has_twice words)
    (sym c.if-has_twice.true ∙ c.has_twice.ensures)
    (c.refuse.ensures (store_of g.S.Store c.args.store.now) input _))

pub returns-else-has_twice-clause-ran : goal.returns-else-has_twice-clause-ran
returns-else-has_twice-clause-ran g c = λ input.
    let words = map string_bytes c.args.words.now in
    let behind = map string_bytes c.in-Some.behind.now in
    as_taken _ _ _ (by_words words) _ _ c.in-Some.ensures.named
    (as_unless _ _ _ (building_at c.in-Some.rules.now c.in-Some.table.now behind) false (has_twice words)
    (sym c.if-has_twice.false ∙ c.has_twice.ensures) (c.build_named.ensures input))

pub returns-in-None-clause-ran : goal.returns-in-None-clause-ran
returns-in-None-clause-ran g c = λ input.
    as_taken _ _ _ (by_words (map string_bytes c.args.words.now)) _ _ c.in-None.ensures.named
    (c.refuse-in-None.ensures (store_of g.S.Store c.args.store.now) input _)
