-- What several names may hold where another name was written: what they held.
use Rattle.std.specs.Prelude.{Contains}
use Rattle.std.specs.Option.{option_map}
use Rattle.std.proofs.Common.{◌≡◌, sym, ℕ, suc, List, [], ◌∷◌, Option, arith}
use Rattle.frz_store.specs.Files.{Files, put}
use Rattle.frz_backs.proofs.Lemmas.{still_held}
use Rattle.frz_atlas.specs.Held.{MayHoldAll}

-- each of them may hold what it held
pub all_still_held : (name bytes : List ℕ) (names : List (List ℕ)) (helds : List (Option (List ℕ)))
    → (Contains names name → ⊥) → (old new : Option Files)
    → new ≡ option_map (λ m. put m name bytes) old
    → MayHoldAll old names helds → MayHoldAll new names helds
unfolding MayHoldAll
all_still_held name bytes [] [] apart old new e may = tt
all_still_held name bytes (other ∷ names) (held ∷ helds) apart old new e may = (
  still_held name other bytes held (λ same. apart (0, omega arith, sym same)) old new e may.0,
  all_still_held name bytes names helds (λ c. apart (suc c.0, (let lt = c.1 in omega arith), c.2)) old
      new e may.1,
)
all_still_held name bytes [] (held ∷ helds) apart old new e may = absurd may
all_still_held name bytes (other ∷ names) [] apart old new e may = absurd may
