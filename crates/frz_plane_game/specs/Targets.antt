-- Where moves lead, by planes.
use Rattle.std.specs.Prelude.{◌≡◌, ◌<◌, ℕ, Bool, true, false, List}
use Rattle.std.specs.List.{slice_index_or}
use Rattle.frz_board.specs.declared.man.Colour.{Colour}
use Rattle.frz_arena.specs.declared.arm.Next.{Next}
use Rattle.frz_arena.specs.declared.class.Class.TheVariants.{Good}
use Rattle.frz_arena.specs.Arena.{Arena}
use Rattle.frz_arena.specs.Plies.{IsBadExit, IsGoodExit, LeadsTo, SomeArm, SomeFree}
use Rattle.frz_plane_game.specs.declared.target.Exits.{Exits}
use Rattle.frz_plane_game.specs.declared.target.Exits.TheVariants.{Wins, Losses}
use Rattle.frz_plane_game.specs.Spots.{Spots, has_spot}

-- some move of the number leads to where P holds; where free moves alone count, a free one
abbrev pub SomeMove : {M N V : Type 0} → Arena M N V → (only_free : Bool) → N
    → (Next N V → Type 0) → Type 0
SomeMove arena false = SomeArm arena
SomeMove arena true = SomeFree arena

-- the value is that of such an exit
abbrev pub HasWorth : {M N V : Type 0} → Arena M N V → Colour → Exits → V → Type 0
HasWorth arena side (Wins n) = IsGoodExit arena side n
HasWorth arena side Losses = IsBadExit arena side

-- the move leads to a number of the planes, or out of the set to such an exit
abbrev pub LeadsInto : {M V : Type 0} → Arena M ℕ V → Spots → List (List ℕ) → Colour → Exits
    → Next ℕ V → Type 0
LeadsInto arena spots planes side exits =
    LeadsTo (λ k. has_spot planes (spots.at k) ≡ true) (HasWorth arena side exits)

-- the configuration is marked
abbrev pub is_marked : List Bool → ℕ → Bool
is_marked marks c = slice_index_or marks c false

-- the move leads to a number of a marked configuration
abbrev pub LeadsToMarked : {V : Type 0} → Spots → (marks : List Bool) → Next ℕ V → Type 0
LeadsToMarked spots marks =
    LeadsTo (λ k. is_marked marks (spots.at k).configuration ≡ true) (λ _. ⊥)

-- the move leads out of the set to an exit that wins for the side, with this lag
abbrev pub WinsOut : {M V : Type 0} → Arena M ℕ V → Colour → (lag : ℕ) → Next ℕ V → Type 0
WinsOut arena side lag =
    LeadsTo (λ _. ⊥) (λ v. (arena.class v side ≡ Good) × (arena.lag v ≡ lag))

-- no move of a number of the configuration leads to where P holds
abbrev pub NoMoveLeads : {M V : Type 0} → Arena M ℕ V → Spots → (c : ℕ) → (Next ℕ V → Type 0)
    → Type 0
NoMoveLeads arena spots c P =
    (i : ℕ) → i < spots.numbers → (spots.at i).configuration ≡ c → SomeMove arena false i P → ⊥
