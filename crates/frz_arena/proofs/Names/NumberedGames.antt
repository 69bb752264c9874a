-- The moves of the numbers of a game.
use Rattle.std.proofs.Common.{◌≡◌, ◌≢◌, ◌<◌, ℕ, inl, inr, Bool, true, false, List, [], ◌∷◌, map, Option, Some, None, refl, subst, ap, ◌∙◌}
use Rattle.std.specs.Prelude.{⊤}
use Rattle.std.specs.List.{Contains}
use Rattle.frz_board.specs.declared.man.Colour.{Colour}
use Rattle.frz_arena.specs.declared.arm.Arm.{Arm}
use Rattle.frz_arena.specs.declared.arm.Next.{Next}
use Rattle.frz_arena.specs.declared.arm.Next.TheVariants.{Inside}
use Rattle.frz_arena.specs.declared.node.Node.TheVariants.{Broken, Going}
use Rattle.frz_arena.specs.Arena.{IsArm}
use Rattle.frz_arena.specs.Games.{Game, node_by, next_by, arm_of, arena_of}
use Rattle.frz_arena.specs.Names.{named, named_next, Numbering, IsNumbering, name_by, node_at, arms_at, numbers_of, name_in}
use Rattle.frz_arena.specs.Plies.{LeadsTo}
use Rattle.frz_arena.proofs.Lists.Members.{none_in_empty, cases_Option}
use Rattle.frz_arena.proofs.LocalCodes.PlyCodes.{from_mapped}
use Rattle.frz_arena.proofs.Ways.RightWays.{member_there, game_closed, numbers_closed, in_set}

moves_by : {M : Type 0} (ms : List M) (m : M) (check : Bool) (turn : Colour) (b : Bool) →
    Contains ms m → b ≡ true → node_by b ms check turn ≡ Going turn
moves_by [] m check turn b i t = absurd (none_in_empty m i)
moves_by (n ∷ ms) m check turn b i t = rw t refl

-- the position of a number that has an arm, and its move
record MoveAt {P M V : Type 0} (game : Game P M V) (numbers : Numbering P) (i : ℕ)
    (a : Arm M ℕ V) : Type 0 where
  pub position : P
  pub move : M
  pub at : numbers.at i ≡ Some position
  pub legal : Contains (game.chess.moves position) move
  pub arm : named (name_in numbers) (arm_of game position move) ≡ a

move_at : {P M V : Type 0} (game : Game P M V) (numbers : Numbering P) (i : ℕ) (a : Arm M ℕ V)
    (o : Option P) → numbers.at i ≡ o →
    Contains (arms_at (arena_of game) (name_in numbers) o) a → MoveAt game numbers i a
move_at game numbers i a None e h = absurd (none_in_empty a h)
move_at {P} {M} {V} game numbers i a (Some p) e h =
    let name : P → ℕ = name_in numbers in
    let outer = from_mapped (named name) (map (arm_of game p) (game.chess.moves p)) a h in
    let inner = from_mapped (arm_of game p) (game.chess.moves p) outer.0 outer.1 in
    record {
      position = p;
      move = inner.0;
      at = e;
      legal = inner.1;
      arm = ap (named name) inner.2
          ∙ outer.2;
    }

pub going : {P M V : Type 0} (game : Game P M V) (numbers : Numbering P) →
    IsNumbering numbers (arena_of game) → (i : ℕ) (a : Arm M ℕ V) →
    IsArm (numbers_of numbers (arena_of game)) i a → (mover : Colour)
    × ((numbers_of numbers (arena_of game)).node i ≡ Going mover)
going game numbers law i a h =
    let m = move_at game numbers i a (numbers.at i) refl h in
    let p = m.position in
    let member = in_set (game.member p) (game.chess.moves p) (game.chess.in_check p)
    (game.chess.turn p) (law.there p i (law.number_at p i m.at)) in (
      game.chess.turn p,
      ap (node_at (arena_of game)) m.at ∙ moves_by (game.chess.moves p) m.move
          (game.chess.in_check p) (game.chess.turn p) (game.member p) m.legal member,
    )

-- a move that leads inside leads to a position of the set, so it has a number
leads_below : {P M V : Type 0} (game : Game P M V) (numbers : Numbering P) →
    IsNumbering numbers (arena_of game) → (r : P) (v : V) (b : Bool) (q : ℕ) → game.member r ≡ b →
    named_next (name_in numbers) (next_by b r v) ≡ Inside q → q < numbers.size
leads_below game numbers law r v false q e h = absurd (cc)
leads_below game numbers law r v true q e h =
    elim (cases_Option (numbers.number r)) [
      | inl none ↦ absurd (let broken = law.missing r none in
          member_there (game.member r) (game.chess.moves r) (game.chess.in_check r)
          (game.chess.turn r) e broken)
      | inr n ↦ (
          let same : n.0 ≡ q =
          (let name : name_by numbers.size (numbers.number r) ≡ n.0 = ap (name_by numbers.size)
          n.1 in cc) in
          subst (λ z. z < numbers.size) same (law.in_size r n.0 n.1))
    ]

pub inside : {P M V : Type 0} (game : Game P M V) (numbers : Numbering P) →
    IsNumbering numbers (arena_of game) → (i q : ℕ) (a : Arm M ℕ V) →
    IsArm (numbers_of numbers (arena_of game)) i a → a.next ≡ Inside q →
    (q < numbers.size) × ((numbers_of numbers (arena_of game)).node q ≢ Broken)
inside {P} {M} {V} game numbers law i q a h e =
    let m = move_at game numbers i a (numbers.at i) refl h in
    let r = game.chess.play m.position m.move in
    let closed = numbers_closed numbers (arena_of game) law (game_closed game) in (
      leads_below game numbers law r (game.value r) (game.member r) q refl
          (ap (λ b. b.next) m.arm ∙ e),
      subst (λ (x : Next ℕ V). LeadsTo (λ k. (numbers_of numbers (arena_of game)).node k ≡ Broken
          → ⊥) (λ v. ⊤) x) e (closed.unbroken i a h),
    )
