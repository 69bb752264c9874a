-- What a number begins with, from its node and arms alone.
use Rattle.std.specs.Prelude.{◌≡◌, ℕ, ◌+◌, ◌⊎◌, Bool, true, false, not, cond, nat_lt, max, List, [], ◌∷◌}
use Rattle.frz_board.specs.Men.{same_colour}
use Rattle.frz_graph.specs.EntryCodes.{value_code}
use Rattle.frz_retro.specs.Kinds.{is_of}
use Rattle.frz_retro.specs.Shape.{In, counts_for, lesser, how_many}
use Rattle.frz_retro.specs.State.{IsLater, waits}
use Rattle.frz_board.specs.declared.man.Colour.{Colour}
use Rattle.frz_arena.specs.declared.node.Node.{Node}
use Rattle.frz_arena.specs.declared.node.Node.TheVariants.{Broken, Mate, Stalemate, Going}
use Rattle.frz_retro.specs.Graphs.{Next}
use Rattle.frz_arena.specs.declared.arm.Next.TheVariants.{Inside, Outside}
use Rattle.frz_retro.specs.Graphs.{Arm}
use Rattle.frz_retro.specs.declared.start.Start.{Start}

-- adds a counted arm that leads to an exit of code c
abbrev pub after_code : Bool → Start → ℕ → Start
after_code own s c =
    cond (is_of own c)
    (record { any = true; count = s.count + 1; least = lesser c s.least; most = s.most })
    (cond (is_of (not own) c)
    (record { any = true; count = s.count; least = s.least; most = max c s.most })
    (record { any = true; count = s.count + 1; least = s.least; most = s.most }))

abbrev pub after_next : Bool → Colour → Start → Next → Start
after_next own side s (Inside q) =
    record { any = true; count = s.count + 1; least = s.least; most = s.most }
after_next own side s (Outside v) = after_code own s (value_code side v)

abbrev pub after_arm : Bool → Colour → Start → Arm → Start
after_arm own side s a = cond (counts_for own a) (after_next own side s a.next) s

abbrev pub start_of : Bool → Colour → List Arm → Start
start_of own side [] = record { any = false; count = 0; least = 0; most = 0 }
start_of own side (a ∷ arms) = after_arm own side (start_of own side arms) a

-- what the exits alone give in the end, or 0
abbrev pub later_of : Start → ℕ
later_of s = cond (nat_lt 0 s.least) (s.least + 2) (cond (nat_lt 0 s.most) (s.most + 2) 0)

-- where the game goes on: a number with a counted arm is open, and one with none fails at once
pub record Opens (own : Bool) (side : Colour) (arms : List Arm)
    (entry count later : ℕ) : Type 0 where
  pub open_ : entry ≡ 1
  pub some : (a : Arm) × In a arms × (counts_for own a ≡ true)
  pub counter : count ≡ how_many (waits own (λ _. false) side []) arms
  pub exits : IsLater own side arms later

pub record Fails (own : Bool) (arms : List Arm) (entry : ℕ) : Type 0 where
  pub fails : entry ≡ 3
  pub none : (a : Arm) → In a arms → counts_for own a ≡ false

abbrev pub IsBegun : Colour → Node → List Arm → ℕ → ℕ → ℕ → Type 0
IsBegun side Broken arms entry count later = entry ≡ 0
IsBegun side (Mate c) arms entry count later = entry ≡ cond (same_colour c side) 3 2
IsBegun side (Stalemate c) arms entry count later = entry ≡ 1
IsBegun side (Going c) arms entry count later =
    Opens (same_colour c side) side arms entry count later ⊎ Fails (same_colour c side) arms entry
