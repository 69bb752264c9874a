-- Where a ply is due: what is known of the kept code, and that it asks for a move.
use Rattle.std.proofs.Common.{◌≡◌, ◌≢◌, ◌<◌, ◌==◌, ◌&&◌, ℕ, ◌⊎◌, inl, inr, Bool, true, false, List, [], length, refl, sym, subst, ap, ◌∙◌, arith, if◌then◌else◌, nat_le}
use Rattle.std.proofs.lemmas.Bool.{eq-eqb, eqb-true}
use Rattle.std.proofs.lemmas.Bool.Decides.{nat_tests}
use Rattle.frz_board.specs.declared.man.Colour.{Colour}
use Rattle.frz_board.specs.Moving.{Step}
use Rattle.frz_sets.specs.declared.exit.Value.{Value}
use Rattle.frz_arena.specs.declared.arm.Arm.{Arm}
use Rattle.frz_arena.specs.declared.node.Node.{Node}
use Rattle.frz_arena.specs.declared.node.Node.TheVariants as nodes
use Rattle.frz_arena.specs.Arena.{Arena}
use Rattle.frz_arena.specs.Codes.{is_failure}
use Rattle.frz_arena.specs.LocalCodes.{node_code}
use Rattle.frz_graph.specs.Finite.{IsFinite}
use Rattle.frz_graph.specs.FreeCodes.{free_among}
use Rattle.frz_ways.specs.declared.due.Due.{Due}
use Rattle.frz_ways.specs.declared.due.Due.TheVariants as dues
use Rattle.frz_ways.specs.declared.playing.Cursor.{Cursor}
use Rattle.frz_ways.specs.Dues.{due_by, due_on}
use Rattle.frz_ways.specs.Turns.{HasMove}
use Rattle.frz_ways.proofs.MovesOfOneNumber.{move_there}

by_if : (b : Bool) (x y : Due) (m : Colour) → (if b then x else y) ≡ dues.Ply m
    → ((b ≡ true) × (x ≡ dues.Ply m)) ⊎ ((b ≡ false) × (y ≡ dues.Ply m))
by_if true x y m h = inl (refl, h)
by_if false x y m h = inr (refl, h)

ply_due_where_going : (is_late : Bool) (kept : ℕ) (node : Node) (m : Colour)
    → due_on is_late kept node ≡ dues.Ply m → (node ≡ nodes.Going m)
    × (((kept == 1) && is_late) ≡ false)
ply_due_where_going is_late kept nodes.Broken m h = absurd (cc)
ply_due_where_going is_late kept (nodes.Mate c) m h = absurd (cc)
ply_due_where_going is_late kept (nodes.Stalemate c) m h = absurd (cc)
ply_due_where_going is_late kept (nodes.Going c) m h =
    elim (by_if ((kept == 1) && is_late) dues.Cut (dues.Ply c) m h) [
      | inl r ↦ absurd (let e = r.1 in cc)
      | inr r ↦ ((let e = r.1 in let same : c ≡ m = cc in ap nodes.Going same), r.0)
    ]

-- a ply is due: the kept code is the given one, the game goes on, and the hold is not at its end
pub record PlyDue (is_start is_late : Bool) (kept given : ℕ) (node : Node)
    (m : Colour) : Type 0 where
  pub agrees : kept ≡ given
  pub starts : (is_start && is_failure kept) ≡ false
  pub goes : node ≡ nodes.Going m
  pub early : ((kept == 1) && is_late) ≡ false

pub ply_due : (is_start is_late : Bool) (kept given : ℕ) (node : Node) (m : Colour)
    → due_by is_start is_late kept given node ≡ dues.Ply m
    → PlyDue is_start is_late kept given node m
ply_due is_start is_late kept given node m h =
    elim (by_if (kept == given)
    (if is_start && is_failure kept then dues.NoBound else due_on is_late kept node)
    (dues.Wrong given) m h) [
      | inr r ↦ absurd (let e = r.1 in cc)
      | inl r ↦ (
          elim (by_if (is_start && is_failure kept) dues.NoBound (due_on is_late kept node) m r.1) [
            | inl q ↦ absurd (let e = q.1 in cc)
            | inr q ↦ (let on = ply_due_where_going is_late kept node m q.1 in
                record {
                  agrees = eqb-true kept given r.0;
                  starts = q.0;
                  goes = on.0;
                  early = on.1;
                })
          ])
    ]

second_fails : (a b : Bool) → a ≡ true → (a && b) ≡ false → b ≡ false
second_fails true b t f = f
second_fails false b t f = absurd (cc)

-- a cursor where a ply is due has no failing code
pub never_failing : (k kept : ℕ) → (k ≡ 0) ⊎ (is_failure kept ≡ false)
    → ((k == 0) && is_failure kept) ≡ false → is_failure kept ≡ false
never_failing k kept (inl e) f = second_fails (k == 0) (is_failure kept) (eq-eqb k 0 e) f
never_failing k kept (inr e) f = e

pub still_early : (kept k most : ℕ) → ((kept == 1) && nat_le most k) ≡ false → kept ≡ 1 → k < most
still_early kept k most f e = grind (arith, nat_tests)

-- where a ply is due the code asks for a move
pub has_move : {arena : Arena Step ℕ Value} {size : ℕ} → IsFinite arena size
    → (side : Colour) (cursor : Cursor) {arms : List (Arm Step ℕ Value)} (cs : List ℕ)
    → arms ≡ arena.arms cursor.number → length cs ≡ length arms → (cursor.played ≡ 0)
    ⊎ (is_failure cursor.code ≡ false) → (is_late : Bool) (due : Due)
    → due ≡ due_by (cursor.played == 0) is_late cursor.code
    (node_code side (arena.node cursor.number) (free_among arms cs) cs) (arena.node cursor.number)
    → HasMove side cursor due arms cs
has_move finite side cursor cs are many stands is_late (dues.Wrong given) e = tt
has_move finite side cursor cs are many stands is_late dues.NoBound e = tt
has_move finite side cursor cs are many stands is_late (dues.Mate m) e = tt
has_move finite side cursor cs are many stands is_late (dues.Stalemate m) e = tt
has_move finite side cursor cs are many stands is_late dues.Cut e = tt
has_move {arena} finite side cursor {arms} cs are many stands is_late (dues.Ply m) e =
    let d = ply_due (cursor.played == 0) is_late cursor.code
    (node_code side (arena.node cursor.number) (free_among arms cs) cs) (arena.node cursor.number) m
    (sym e) in
    let some : arms ≢ [] = λ none. finite.lawful.goes_on cursor.number m d.goes (sym are ∙ none) in
    let agrees = subst (λ (z : Node). cursor.code ≡ node_code side z (free_among arms cs) cs) d.goes
    d.agrees in
    move_there side m cursor.code arms cs many some agrees
    (never_failing cursor.played cursor.code stands d.starts)
