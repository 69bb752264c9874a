-- Where each code is the local one, no way ends as wrong.
use Rattle.std.proofs.Common.{◌≡◌, ◌≢◌, ℕ, suc, Bool, true, false, List, [], ◌∷◌, Option, Some, None, refl, sym, subst, ap, ◌∙◌}
use Rattle.std.specs.Prelude.{⊤}
use Rattle.std.specs.List.{Contains}
use Rattle.frz_board.specs.declared.man.Colour.{Colour}
use Rattle.frz_board.specs.Men.{same_colour}
use Rattle.frz_arena.specs.declared.node.Node.TheVariants.{Broken}
use Rattle.frz_arena.specs.declared.arm.Arm.{Arm}
use Rattle.frz_arena.specs.declared.arm.Next.{Next}
use Rattle.frz_arena.specs.declared.arm.Next.TheVariants.{Inside, Outside}
use Rattle.frz_arena.specs.Arena.{Arena, IsLawful}
use Rattle.frz_arena.specs.Games.{Game, node_by, next_by, arm_of, arena_of}
use Rattle.frz_arena.specs.LocalCodes.{local_code, MeetsEquations}
use Rattle.frz_arena.specs.Names.{Numbering, IsNumbering, named_next, named, node_at, arms_at, numbers_of, name_in}
use Rattle.frz_arena.specs.Tables.{IsTable}
use Rattle.frz_arena.specs.Plies.{LeadsTo}
use Rattle.frz_arena.specs.Turns.{IsClosed}
use Rattle.frz_arena.specs.WayEnds.{End, Wrong, Exit}
use Rattle.frz_arena.specs.Ways.{Player, Ply, Opponent, IsWay, table_player}
use Rattle.frz_arena.proofs.Lists.Members.{none_in_empty}
use Rattle.frz_arena.proofs.LocalCodes.PlyCodes.{from_mapped}
use Rattle.frz_arena.proofs.Names.NumbersAreNames.{numbered_is, naming_node}
use Rattle.frz_arena.proofs.Tables.OneTable.{exact_meets, table_is_exact}
use Rattle.frz_arena.proofs.Lists.FirstOnes.{at_in}
use Rattle.frz_arena.proofs.Ways.WayParts.{EndedAt, wrong, fails, broken, mated, stale, cut, stopped, ended, arm_there}

right_end : {M N V S R : Type 0} (player : Player M N V S R) (k : ℕ) (p : N) (e : End N V R) →
    player.entry p ≡ local_code player.arena player.side player.entry p →
    player.arena.node p ≢ Broken → EndedAt player k p e → (q : N) (kept given : ℕ) →
    e ≡ Wrong q kept given → ⊥
right_end player k p e right there end q kept given g =
    elim end [
      | wrong d f ↦ d right
      | fails a f h ↦ cc
      | broken s b f ↦ there b
      | mated s m b f ↦ cc
      | stale s m b f ↦ cc
      | cut s t f ↦ cc
      | stopped l r f ↦ cc
    ]

right_after : {M N V S R : Type 0} (player : Player M N V S R) (k : ℕ) (s t : S)
    (xs : List (Ply M N V)) (e : End N V R) (q : N) (kept given : ℕ) → e ≡ Wrong q kept given
    → ((p : N) → player.arena.node p ≢ Broken → IsWay player k s p xs e t → ⊥) → (y : Next N V)
    → LeadsTo (λ p. player.arena.node p ≡ Broken → ⊥) (λ v. ⊤) y
    → LeadsTo (λ p. IsWay player k s p xs e t) (λ v. (xs ≡ []) × (e ≡ Exit v) × (t ≡ s)) y → ⊥
right_after player k s t xs e q kept given g ih (Inside p) there h = ih p there h
right_after player k s t xs e q kept given g ih (Outside v) there h = let f = h.1 in cc

pub right_way : {M N V S R : Type 0} (player : Player M N V S R) → IsClosed player.arena →
    MeetsEquations player.arena player.side player.entry →
    (k : ℕ) (s t : S) (p : N) (xs : List (Ply M N V)) (e : End N V R) (q : N) (kept given : ℕ) →
    e ≡ Wrong q kept given → player.arena.node p ≢ Broken → IsWay player k s p xs e t → ⊥
right_way player closed eqs k s t p [] e q kept given g there w =
    right_end player k p e (eqs p) there (ended player k s t p e w) q kept given g
right_way player closed eqs k s t p (x ∷ xs) e q kept given g there w =
    let at = arm_there player (same_colour x.mover player.side) player.opponent s w.2.0 x w.2.1 in
    right_after player (suc k) w.2.0 t xs e q kept given g
    (λ p b v. right_way player closed eqs (suc k) w.2.0 t p xs e q kept given g b v) x.arm.next
    (closed.unbroken x.from x.arm (at_in (player.arena.arms x.from) x.place x.arm at)) w.2.2

-- a position of the set is not broken, and one that is not broken is of the set
pub member_there : {M : Type 0} (b : Bool) (ms : List M) (check : Bool) (turn : Colour) → b ≡ true →
    node_by b ms check turn ≢ Broken
member_there false ms check turn e f = cc
member_there true [] true turn e f = cc
member_there true [] false turn e f = cc
member_there true (m ∷ ms) check turn e f = cc

pub in_set : {M : Type 0} (b : Bool) (ms : List M) (check : Bool) (turn : Colour) →
    node_by b ms check turn ≢ Broken → b ≡ true
in_set true ms check turn h = refl
in_set false ms check turn h = absurd (h refl)

next_there : {P M V : Type 0} (game : Game P M V) (b : Bool) (q : P) (v : V) → game.member q ≡ b →
    LeadsTo (λ r. (arena_of game).node r ≡ Broken → ⊥) (λ w. ⊤) (next_by b q v)
next_there game true q v e =
    member_there (game.member q) (game.chess.moves q) (game.chess.in_check q) (game.chess.turn q) e
next_there game false q v e = tt

-- the arena of a game is closed
pub game_closed : {P M V : Type 0} (game : Game P M V) → IsClosed (arena_of game)
game_closed {P} {M} {V} game = record {
  unbroken = λ p a i.
      (let r = from_mapped (arm_of game p) (game.chess.moves p) a i in
      let q = game.chess.play p r.0 in
      subst (λ (b : Arm M P V). LeadsTo (λ r. (arena_of game).node r ≡ Broken → ⊥) (λ w. ⊤) b.next)
      r.2 (next_there game (game.member q) q (game.value q) refl));
}

-- and so is the arena of its numbers
named_there : {M N V : Type 0} (numbers : Numbering N) (arena : Arena M N V) →
    IsNumbering numbers arena → (x : Next N V) →
    LeadsTo (λ q. arena.node q ≡ Broken → ⊥) (λ v. ⊤) x →
    LeadsTo (λ i. node_at arena (numbers.at i) ≡ Broken → ⊥) (λ v. ⊤)
    (named_next (name_in numbers) x)
named_there numbers arena law (Inside q) h = λ b. h (sym (naming_node numbers arena law q) ∙ b)
named_there numbers arena law (Outside v) h = tt

arms_there : {M N V : Type 0} (numbers : Numbering N) (arena : Arena M N V) →
    IsNumbering numbers arena → IsClosed arena → (o : Option N) (a : Arm M ℕ V) →
    Contains (arms_at arena (name_in numbers) o) a →
    LeadsTo (λ i. node_at arena (numbers.at i) ≡ Broken → ⊥) (λ v. ⊤) a.next
arms_there numbers arena law closed None a i = absurd (none_in_empty a i)
arms_there {M} {N} {V} numbers arena law closed (Some p) a i =
    let r = from_mapped (named (name_in numbers)) (arena.arms p) a i in
    subst (λ (b : Arm M ℕ V). LeadsTo (λ i. node_at arena (numbers.at i) ≡ Broken → ⊥)
    (λ v. ⊤) b.next) r.2 (named_there numbers arena law r.0.next (closed.unbroken p r.0 r.1))

pub numbers_closed : {M N V : Type 0} (numbers : Numbering N) (arena : Arena M N V) →
    IsNumbering numbers arena → IsClosed arena → IsClosed (numbers_of numbers arena)
numbers_closed numbers arena law closed =
    record { unbroken = λ i a h. arms_there numbers arena law closed (numbers.at i) a h }

pub number_there : {M N V : Type 0} (numbers : Numbering N) (arena : Arena M N V) →
    IsNumbering numbers arena → (p : N) (i : ℕ) → numbers.number p ≡ Some i →
    node_at arena (numbers.at i) ≢ Broken
number_there numbers arena law p i e b =
    law.there p i e (sym (ap (node_at arena) (law.at_number p i e)) ∙ b)

pub right_table : {M N V S R : Type 0} (numbers : Numbering N) (arena : Arena M N V) →
    IsNumbering numbers arena → IsLawful arena → IsClosed arena → (side : Colour) (codes : List ℕ) →
    IsTable numbers arena side codes → (opponent : Opponent ℕ S R) (p : N) (i : ℕ) →
    numbers.number p ≡ Some i → (s t : S) (xs : List (Ply M ℕ V)) (j kept given : ℕ) →
    IsWay (table_player numbers arena side codes opponent) 0 s i xs (Wrong j kept given) t → ⊥
right_table numbers arena law lawful closed side codes table opponent p i e s t xs j kept given w =
    let eqs = exact_meets (numbers_of numbers arena) side numbers.size
    (numbered_is numbers arena law) codes
    (table_is_exact numbers arena law lawful side codes table) in
    right_way (table_player numbers arena side codes opponent)
    (numbers_closed numbers arena law closed) eqs 0 s t i xs (Wrong j kept given) j kept given refl
    (number_there numbers arena law p i e) w
