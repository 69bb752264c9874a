-- Where the exits are true, the opponent forces no mate after any ply of a way by a table.
use Rattle.std.proofs.Common.{◌≡◌, ℕ, inl, inr, Bool, true, false, List, Option, None, Some, map, refl, subst, ap, ◌∙◌}
use Rattle.std.specs.Prelude.{slice_get, slice_index}
use Rattle.std.specs.List.{Contains}
use Rattle.std.proofs.lemmas.Option.{slice_get-map}
use Rattle.frz_board.specs.declared.man.Colour.{Colour}
use Rattle.frz_board.specs.Men.{other_of}
use Rattle.frz_arena.specs.declared.arm.Arm.{Arm}
use Rattle.frz_arena.specs.Chess.{Forces, mate_alone}
use Rattle.frz_arena.specs.Codes.{is_failure}
use Rattle.frz_arena.specs.Exits.{IsExit, TrueExits}
use Rattle.frz_arena.specs.Games.{Game, next_by, arm_of, arena_of}
use Rattle.frz_arena.specs.LocalCodes.{arm_code, next_code}
use Rattle.frz_arena.specs.Names.{Numbering, IsNumbering, named_next, named, name_by, arms_at, numbers_of, name_in}
use Rattle.frz_arena.specs.Tables.{IsTable}
use Rattle.frz_arena.specs.WayEnds.{End}
use Rattle.frz_arena.specs.Ways.{Ply, Opponent, IsWay, table_player}
use Rattle.frz_arena.proofs.Forcing.OneForces.{one_forces}
use Rattle.frz_arena.proofs.Forcing.TrueWins.{true_win}
use Rattle.frz_arena.proofs.Tables.StoredCodes.{stored_hold}
use Rattle.frz_arena.proofs.Lists.FirstOnes.{at_in, one_at}
use Rattle.frz_arena.proofs.Ways.FoundChoices.{from_mapped_at}
use Rattle.frz_arena.proofs.Ways.EachPly.{each_ply, never_fails}
use Rattle.frz_arena.proofs.Ways.KeptWays.{no_bad_exit}
use Rattle.frz_arena.proofs.Lists.Members.{cases_Option}
use Rattle.frz_arena.proofs.Ways.RightWays.{member_there, in_set}

-- a position whose code, inside or outside, is no failure
pub safe_next : {P M V : Type 0} (game : Game P M V) → TrueExits game → (numbers : Numbering P) →
    IsNumbering numbers (arena_of game) → (side : Colour) (codes : List ℕ) →
    IsTable numbers (arena_of game) side codes → (q : P) (b : Bool) → game.member q ≡ b →
    (b ≡ false → IsExit game q) →
    is_failure (next_code (numbers_of numbers (arena_of game)) side (λ i. slice_index codes i)
    (named_next (name_in numbers) (next_by b q (game.value q)))) ≡ false → (n : ℕ)
    → Forces game.chess mate_alone (other_of side) n q → ⊥
safe_next game exits numbers law side codes table q true e exit f n g =
    elim (cases_Option (numbers.number q)) [
      | inl none ↦
          member_there (game.member q) (game.chess.moves q) (game.chess.in_check q)
          (game.chess.turn q) e (law.missing q none)
      | inr r ↦
          stored_hold game exits numbers side codes table q r.0 e r.1
          (subst (λ i. is_failure (slice_index codes i) ≡ false) (ap (name_by numbers.size) r.1) f)
          n g
    ]
safe_next game exits numbers law side codes table q false e exit f n g =
    elim (no_bad_exit (game.class (game.value q) side) (game.lag (game.value q)) f) [
      | inl good ↦ (let k = true_win game exits side q (exit refl) good in
          one_forces game.chess side k.0 n q k.1 g)
      | inr safe ↦ (exits q (exit refl)).holds side safe n g
    ]

-- the arm of a number's move
pub arm_is : {P M V : Type 0} (game : Game P M V) (numbers : Numbering P) (i place : ℕ)
    (a : Arm M ℕ V) (p : P) (m : M) → numbers.at i ≡ Some p
    → slice_get ((numbers_of numbers (arena_of game)).arms i) place ≡ Some a
    → slice_get (game.chess.moves p) place ≡ Some m → a ≡ named (name_in numbers) (arm_of game p m)
arm_is {P} {M} {V} game numbers i place a p m e h k =
    let name : P → ℕ = name_in numbers in
    let f : slice_get (map (named name) (map (arm_of game p) (game.chess.moves p))) place ≡ Some a =
    subst (λ o. slice_get (arms_at (arena_of game) name o) place ≡ Some a) e h in
    let one = slice_get-map (arm_of game p) (game.chess.moves p) place in
    let two = slice_get-map (named name) (map (arm_of game p) (game.chess.moves p)) place in
    let g : slice_get (map (arm_of game p) (game.chess.moves p)) place ≡ Some (arm_of game p m) =
    rw (one, k) refl in
    let l : slice_get (map (named name) (map (arm_of game p) (game.chess.moves p))) place ≡ Some
    (named name (arm_of game p m)) = rw (two, g) refl in
    one_at (map (named name) (map (arm_of game p) (game.chess.moves p))) place a
    (named name (arm_of game p m)) f l

pub safe_way : {P M V S R : Type 0} (game : Game P M V) → TrueExits game → (numbers : Numbering P) →
    IsNumbering numbers (arena_of game) → (side : Colour) (codes : List ℕ) →
    IsTable numbers (arena_of game) side codes →
    (opponent : Opponent ℕ S R) (s t : S) (i : ℕ) (xs : List (Ply M ℕ V)) (e : End ℕ V R) →
    IsWay (table_player numbers (arena_of game) side codes opponent) 0 s i xs e t →
    (x : Ply M ℕ V) → Contains xs x → (p : P) (m : M) → numbers.at x.from ≡ Some p →
    slice_get (game.chess.moves p) x.place ≡ Some m → (n : ℕ) →
    Forces game.chess mate_alone (other_of side) n (game.chess.play p m) → ⊥
safe_way game exits numbers law side codes table opponent s t i xs e w x h p m at there n g =
    let player = table_player numbers (arena_of game) side codes opponent in
    let ply = each_ply player 0 s t i xs e (inl refl) w x h in
    let a = arm_is game numbers x.from x.place x.arm p m at ply.there there in
    let f = never_fails player x ply in
    let q = game.chess.play p m in
    let number = law.number_at p x.from at in
    let b = in_set (game.member p) (game.chess.moves p) (game.chess.in_check p) (game.chess.turn p)
    (law.there p x.from number) in
    safe_next game exits numbers law side codes table q (game.member q) refl
    (λ o. record {
      from = p;
      move = m;
      begins = b;
      legal = at_in (game.chess.moves p) x.place m
          there;
      ends = refl;
      outside = o;
    })
    (subst (λ c. is_failure
    (arm_code (numbers_of numbers (arena_of game)) side (λ i. slice_index codes i) c) ≡ false) a f)
    n g

-- the position and the move of a ply
pub move_of_arm : {P M V : Type 0} (game : Game P M V) (numbers : Numbering P) (o : Option P)
    (place : ℕ) (a : Arm M ℕ V) → slice_get (arms_at (arena_of game) (name_in numbers) o) place
    ≡ Some a → (p : P) × (m : M) × (o ≡ Some p) × (slice_get (game.chess.moves p) place ≡ Some m)
    × (game.free p m ≡ a.free)
move_of_arm game numbers None place a h = absurd (cc)
move_of_arm {P} {M} {V} game numbers (Some p) place a h =
    let name : P → ℕ = name_in numbers in
    let xs = map (arm_of game p) (game.chess.moves p) in
    let b = from_mapped_at (named name) xs place a h (slice_get xs place) refl in
    let m = from_mapped_at (arm_of game p) (game.chess.moves p) place b.0 b.1
    (slice_get (game.chess.moves p) place) refl in
    (p, m.0, refl, m.1, ap (λ (c : Arm M P V). c.free) m.2 ∙ ap (λ (c : Arm M ℕ V). c.free) b.2)

pub ply_moves : {P M V S R : Type 0} (game : Game P M V) (numbers : Numbering P) (side : Colour)
    (codes : List ℕ) (opponent : Opponent ℕ S R) (s t : S) (i : ℕ) (xs : List (Ply M ℕ V))
    (e : End ℕ V R) → IsWay (table_player numbers (arena_of game) side codes opponent) 0 s i xs e t
    → (x : Ply M ℕ V) → Contains xs x → (p : P) × (m : M) × (numbers.at x.from ≡ Some p)
    × (slice_get (game.chess.moves p) x.place ≡ Some m) × (game.free p m ≡ x.arm.free)
ply_moves game numbers side codes opponent s t i xs e w x h =
    let ply = each_ply (table_player numbers (arena_of game) side codes opponent) 0 s t i xs e
    (inl refl) w x h in
    move_of_arm game numbers (numbers.at x.from) x.place x.arm ply.there
