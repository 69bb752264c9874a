-- In a game whose moves change the turn the sides move in turn.
use Rattle.std.proofs.Common.{◌≡◌, ℕ, Bool, true, false, Option, Some, None, refl, sym, subst, ap, ◌∙◌}
use Rattle.std.specs.List.{Contains}
use Rattle.frz_board.specs.declared.man.Colour.{Colour}
use Rattle.frz_board.specs.Men.{other_of}
use Rattle.frz_arena.specs.declared.node.Node.TheVariants.{Going}
use Rattle.frz_arena.specs.declared.arm.Arm.{Arm}
use Rattle.frz_arena.specs.declared.arm.Next.{Next}
use Rattle.frz_arena.specs.declared.arm.Next.TheVariants.{Inside, Outside}
use Rattle.frz_arena.specs.Arena.{Arena}
use Rattle.frz_arena.specs.Games.{Game, next_by, arm_of, arena_of}
use Rattle.frz_arena.specs.Names.{Numbering, IsNumbering, named_next, named, node_at, arms_at, numbers_of, name_in}
use Rattle.frz_arena.specs.Turns.{Alternates}
use Rattle.frz_arena.proofs.Lists.Members.{none_in_empty}
use Rattle.frz_arena.proofs.LocalCodes.PlyCodes.{from_mapped}
use Rattle.frz_arena.proofs.Names.NumbersAreNames.{naming_node}
use Rattle.frz_arena.proofs.Forcing.WinsForced.{is_going}

next_is : {P V : Type 0} (b : Bool) (r q : P) (v : V) → next_by b r v ≡ Inside q → r ≡ q
next_is true r q v e = cc
next_is false r q v e = absurd (cc)

pub game_turns : {P M V : Type 0} (game : Game P M V) →
    ((p : P) (m : M) → Contains (game.chess.moves p) m
    → game.chess.turn (game.chess.play p m) ≡ other_of (game.chess.turn p))
    → Alternates (arena_of game)
game_turns {P} {M} {V} game changes = record {
  turns = λ p a mover turn q i e g h.
      (let r = from_mapped (arm_of game p) (game.chess.moves p) a i in
      let n : (arm_of game p r.0).next ≡ Inside q = subst (λ (b : Arm M P V). b.next ≡ Inside q)
      (sym r.2) e in
      let same = next_is (game.member (game.chess.play p r.0)) (game.chess.play p r.0) q
      (game.value (game.chess.play p r.0)) n in
      let here = (is_going (game.member p) (game.chess.moves p) (game.chess.in_check p)
      (game.chess.turn p) mover g).2 in
      let there = (is_going (game.member q) (game.chess.moves q) (game.chess.in_check q)
      (game.chess.turn q) turn h).2 in
      sym there ∙ (ap game.chess.turn (sym same) ∙ (changes p r.0 r.1 ∙ ap other_of here)));
}

named_is : {N V : Type 0} (name : N → ℕ) (x : Next N V) (j : ℕ) → named_next name x ≡ Inside j →
    (q : N) × (x ≡ Inside q) × (name q ≡ j)
named_is name (Inside q) j e = (q, refl, cc)
named_is name (Outside v) j e = absurd (cc)

arms_turn : {M N V : Type 0} (numbers : Numbering N) (arena : Arena M N V) →
    IsNumbering numbers arena → Alternates arena →
    (o : Option N) (a : Arm M ℕ V) (mover turn : Colour) (j : ℕ) →
    Contains (arms_at arena (name_in numbers) o) a → a.next ≡ Inside j →
    node_at arena o ≡ Going mover → node_at arena (numbers.at j) ≡ Going turn →
    turn ≡ other_of mover
arms_turn numbers arena law alt None a mover turn j i e g h = absurd (none_in_empty a i)
arms_turn {M} {N} {V} numbers arena law alt (Some p) a mover turn j i e g h =
    let name : N → ℕ = name_in numbers in
    let r = from_mapped (named name) (arena.arms p) a i in
    let n : named_next name r.0.next ≡ Inside j = subst (λ (b : Arm M ℕ V). b.next ≡ Inside j)
    (sym r.2) e in
    let q = named_is name r.0.next j n in
    let k : arena.node q.0 ≡ Going turn = sym (naming_node numbers arena law q.0)
    ∙ (ap (λ l. node_at arena (numbers.at l)) q.2 ∙ h) in
    alt.turns p r.0 mover turn q.0 r.1 q.1 g k

pub numbers_turn : {M N V : Type 0} (numbers : Numbering N) (arena : Arena M N V) →
    IsNumbering numbers arena → Alternates arena → Alternates (numbers_of numbers arena)
numbers_turn numbers arena law alt =
    record {
      turns = λ i a mover turn j h e g k. arms_turn numbers arena law alt (numbers.at i) a
          mover turn j h e g k;
    }
