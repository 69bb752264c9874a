-- Where the exits are true, a forced mate of the opponent is a failure of the restricted game.
use Rattle.std.proofs.Common.{◌≡◌, ◌≢◌, ℕ, zero, suc, inl, inr, true, false, [], refl, subst, ap, ◌∙◌}
use Rattle.std.specs.List.{Contains}
use Rattle.frz_board.specs.declared.man.Colour.{Colour}
use Rattle.frz_arena.specs.declared.class.Class.{Class}
use Rattle.frz_arena.specs.declared.class.Class.TheVariants.{Good, Safe, Bad}
use Rattle.frz_board.specs.Men.{other_of}
use Rattle.frz_board.proofs.Lemmas.{other_other}
use Rattle.frz_arena.specs.declared.node.Node.TheVariants.{Mate, Going}
use Rattle.frz_arena.specs.declared.arm.Arm.{Arm}
use Rattle.frz_arena.specs.Arena.{IsArm}
use Rattle.frz_arena.specs.Plies.{LeadsTo, IsBadExit, FailsWithin}
use Rattle.frz_arena.specs.Chess.{Forces, mated, at_goal, later, own_move, every_reply, mate_alone}
use Rattle.frz_arena.specs.Games.{Game, arm_of, arena_of}
use Rattle.frz_arena.specs.Exits.{IsExit, TrueExits}
use Rattle.frz_arena.proofs.Lists.Members.{none_in_empty, passes_or_none}
use Rattle.frz_arena.proofs.Plies.Opposed.{fails_at_once}
use Rattle.frz_arena.proofs.Forcing.WinsForced.{goes, mated_by, leads_inside, move_of, arm_at}
use Rattle.frz_arena.proofs.Forcing.OneForces.{one_forces}
use Rattle.frz_arena.proofs.Forcing.TrueWins.{true_win}

is_bad : (c : Class) → (c ≡ Good → ⊥) → (c ≡ Safe → ⊥) → c ≡ Bad
is_bad Good g s = absurd (g refl)
is_bad Safe g s = absurd (s refl)
is_bad Bad g s = refl

-- what the other side forces is bad, where the exits are true
forced_is_bad : {P M V : Type 0} (game : Game P M V) → TrueExits game → (side : Colour) (n : ℕ) →
    ((q : P) → game.member q ≡ true → Forces game.chess mate_alone (other_of side) n q
    → FailsWithin (arena_of game) side n q)
    → (p : P) (m : M) → game.member p ≡ true → Contains (game.chess.moves p) m
    → Forces game.chess mate_alone (other_of side) n (game.chess.play p m)
    → LeadsTo (FailsWithin (arena_of game) side n) (IsBadExit (arena_of game) side)
    (arm_of game p m).next
forced_is_bad {P} {M} {V} game exits side n ih p m b i f =
    let q = game.chess.play p m in
    let exit : game.member q ≡ false
    → IsExit game q =
    λ o. record { from = p; move = m; begins = b; legal = i; ends = refl; outside = o } in
    leads_inside (FailsWithin (arena_of game) side n) (IsBadExit (arena_of game) side)
    (game.member q) q (game.value q)
    (λ e. ih q e f)
    (λ o. is_bad (game.class (game.value q) side)
    (λ g. (let k = true_win game exits side q (exit o) g in
    one_forces game.chess side k.0 n q k.1 f))
    (λ s. (exits q (exit o)).holds side s n f))

pub forced_fails : {P M V : Type 0} (game : Game P M V) → TrueExits game →
    (side : Colour) (n : ℕ) (p : P) → game.member p ≡ true →
    Forces game.chess mate_alone (other_of side) n p → FailsWithin (arena_of game) side n p
forced_fails game exits side zero p b (at_goal e) = absurd (cc)
forced_fails game exits side zero p b (mated k) =
    inl (mated_by (game.member p) (game.chess.moves p) (game.chess.in_check p) (game.chess.turn p) b
    k.no_move k.attacked ∙ ap Mate (k.to_move ∙ other_other side))
forced_fails game exits side (suc n) p b (later f) = inl (forced_fails game exits side n p b f)
forced_fails game exits side (suc n) p b (at_goal e) = absurd (cc)
forced_fails game exits side (suc n) p b (own_move m t i f) =
    let some : game.chess.moves p ≢ [] = λ e. none_in_empty m
    (subst (λ xs. Contains xs m) e i) in
    let g = goes (game.member p) (game.chess.moves p) (game.chess.in_check p) (game.chess.turn p) b
    some in
    inr (inl (
      g ∙ ap Going t,
      (
        arm_of game p m,
        arm_at game p m i,
        forced_is_bad game exits side n
            (forced_fails game exits side n) p m b i f,
      ),
    ))
forced_fails {P} {M} {V} game exits side (suc n) p b (every_reply t some each) =
    let g = goes (game.member p) (game.chess.moves p) (game.chess.in_check p) (game.chess.turn p) b
    some ∙ ap Going (t ∙ other_other side) in
    let F = FailsWithin (arena_of game) side n in
    let Q = IsBadExit (arena_of game) side in
    let each : (a : Arm M P V) → IsArm (arena_of game) p a → LeadsTo F Q a.next =
    λ a i. (let m = move_of game p a i in subst (λ z. LeadsTo F Q z.next) m.2
    (forced_is_bad game exits side n (forced_fails game exits side n) p m.0 b m.1
    (each m.0 m.1))) in
    elim (passes_or_none (λ (a : Arm M P V). a.free) ((arena_of game).arms p)) [
      | inl r ↦ inr (inr (g, (r.0, r.1, r.2, each r.0 r.1), λ a i _. each a i))
      | inr none ↦ inl (fails_at_once (arena_of game) side n p (inr (g, none)))
    ]
