-- Files that hold at once what the names of the BACKs and of TABLE behind them may hold.
use Rattle.std.proofs.Common.{◌≡◌, ◌++◌, ◌∷◌, ◌∙◌, [], ℕ, List, Option, ap, false, refl, sym}
use Rattle.std.specs.Prelude.{map}
use Rattle.std.proofs.lemmas.List.{map-append}
use Rattle.frz_store.specs.Bytes.{MayBeHeld}
use Rattle.frz_store.specs.Files.{Files}
use Rattle.frz_table.specs.Possible.{MayHold}
use Rattle.frz_atlas.specs.Held.{MayHoldAll}
use Rattle.frz_atlas_prelude.specs.Names.{has_twice}
use Rattle.frz_atlas_prelude.proofs.Lemmas.{apart_names_hold}
use Rattle.frz_commands_verdict.specs.Finding.{names_over}

-- what the last of several names may hold, and what those before it may
pub record MaySplit (told : Option Files) (names : List (List ℕ)) (last : List ℕ)
    (helds : List (Option (List ℕ))) : Type 0 where
  pub front : List (Option (List ℕ))
  pub held : Option (List ℕ)
  pub are : helds ≡ front ++ held ∷ []
  pub may_front : MayHoldAll told names front
  pub may : MayHold told last held

may_split : (told : Option Files) (names : List (List ℕ)) (last : List ℕ)
    (helds : List (Option (List ℕ))) → MayHoldAll told (names ++ last ∷ []) helds
    → MaySplit told names last helds
unfolding MayHoldAll
may_split told [] last [] h = absurd h
may_split told [] last (held ∷ []) h =
    record { front = []; held = held; are = refl; may_front = tt; may = h.0 }
may_split told [] last (held ∷ other ∷ more) h = absurd h.1
may_split told (name ∷ names) last [] h = absurd h
may_split told (name ∷ names) last (held ∷ helds) h =
    let rest = may_split told names last helds h.1 in
    record {
      front = held ∷ rest.front;
      held = rest.held;
      are = ap (λ (l : List (Option (List ℕ))). held ∷ l) rest.are;
      may_front = (h.0, rest.may_front);
      may = rest.may;
    }

pub record NamesHold (told : Option Files) (table : List ℕ) (behind : List (List ℕ))
    (helds : List (Option (List ℕ))) : Type 0 where
  pub files : Files
  pub agrees : MayBeHeld told files
  pub hold : map files (names_over table behind) ≡ helds

-- there are such files where no two names are the same
pub names_hold : (told : Option Files) (table : List ℕ) (behind : List (List ℕ))
    → has_twice (table ∷ behind) ≡ false → (helds : List (Option (List ℕ)))
    → MayHoldAll told (names_over table behind) helds → NamesHold told table behind helds
names_hold told table behind apart helds may_all =
    let parts = may_split told behind table helds may_all in
    let h = apart_names_hold told table behind apart parts.held parts.front parts.may
    parts.may_front in
    record {
      files = h.all.files;
      agrees = h.all.agrees;
      hold = map-append h.all.files behind (table ∷ [])
          ∙ ap (λ (l : List (Option (List ℕ))). l ++ h.all.files table ∷ []) h.others
          ∙ ap (λ (o : Option (List ℕ)). parts.front ++ o ∷ []) h.here ∙ sym parts.are;
    }
