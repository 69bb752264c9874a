-- How a way goes on from a number, by what is due there and by what its input gives.
use Rattle.std.proofs.Common.{◌≡◌, ℕ, suc, inl, inr, Bool, true, false, List, [], ◌∷◌, Some, refl, sym, subst, ap, ◌∙◌}
use Rattle.std.specs.Prelude.{slice_get}
use Rattle.frz_board.specs.declared.man.Colour.{Colour}
use Rattle.frz_board.specs.Men.{same_colour}
use Rattle.frz_board.specs.Moving.{Step}
use Rattle.frz_sets.specs.declared.exit.Value.{Value}
use Rattle.frz_arena.specs.declared.arm.Next.{Next}
use Rattle.frz_arena.specs.declared.arm.Next.TheVariants.{Inside, Outside}
use Rattle.frz_arena.specs.Arena.{Arena}
use Rattle.frz_arena.specs.Chosen.{IsChosen}
use Rattle.frz_arena.specs.Counted.{counted}
use Rattle.frz_arena.specs.Inputs.{Answer, Reply, Stop}
use Rattle.frz_arena.specs.Plies.{LeadsTo}
use Rattle.frz_arena.specs.WayEnds.{Exit, Stopped}
use Rattle.frz_arena.specs.Ways.{Over, Moves, stage, IsTakenBy, IsStopBy, IsWay}
use Rattle.frz_ways.proofs.MoveChosen.{known}
use Rattle.frz_ways.specs.declared.opponent.Opponent.{Opponent}
use Rattle.frz_ways.specs.declared.opponent.Opponent.TheVariants as opponents
use Rattle.frz_ways.specs.Hearing.{EndsWith, left_by}
use Rattle.frz_ways.specs.Reading.{Input, Halt, reads}
use Rattle.frz_ways.specs.Turns.{by_codes}
use Rattle.frz_ways.specs.Ways.{WayPly, EndOfWay, finder, way_player, GoesOn}
use Rattle.frz_ways.proofs.InputLines.{reads_front}
use Rattle.frz_ways.proofs.Taking.{ends_itself, ends_on}

-- the first ply of a way, and what follows it
pub record GoesTo (arena : Arena Step ℕ Value) (opponent : Opponent) (side : Colour)
    (kept : ℕ → List ℕ) (k q : ℕ) (u t : Input) (ys : List WayPly) (e : EndOfWay)
    (mover : Colour) : Type 0 where
  pub first : WayPly
  pub others : List WayPly
  pub are : ys ≡ first ∷ others
  pub from : first.from ≡ (k, q)
  pub moves : first.mover ≡ mover
  pub leads : LeadsTo (λ p. IsWay (way_player arena opponent side kept) (suc k) u p others e t)
      (λ v. (others ≡ []) × (e ≡ Exit v) × (t ≡ u)) first.arm.next

-- a reply, and what follows it
pub record Replied (arena : Arena Step ℕ Value) (opponent : Opponent) (side : Colour)
    (kept : ℕ → List ℕ) (k : ℕ) (u t : Input) (q refused place : ℕ) (ys : List WayPly)
    (e : EndOfWay) (mover : Colour) : Type 0 where
  pub on : GoesTo arena opponent side kept k q u t ys e mover
  pub refused_is : on.first.refused ≡ refused
  pub there : slice_get ((counted arena).arms (k, q)) place ≡ Some on.first.arm

module _ (arena : Arena Step ℕ Value) (opponent : Opponent) (side : Colour)
    (kept : ℕ → List ℕ) where
  -- a way that is over here
  pub over_here : (k : ℕ) (s t : Input) (q : ℕ) (ys : List WayPly) (e f : EndOfWay)
      → GoesOn arena opponent side kept k s q ys e t
      → stage (way_player arena opponent side kept) k (k, q) ≡ Over f
      → (ys ≡ []) × (e ≡ f) × (t ≡ s)
  over_here k s t q [] e f (inl w) over = (refl, (let h = w.0 in cc), w.1)
  over_here k s t q [] e f (inr w) over = absurd (let h = w.1 in cc)
  over_here k s t q (x ∷ ys) e f w over = absurd (let h = w.1 in cc)

  -- a ply that the codes find
  pub taken_codes : (o : Opponent) (own : Bool) (s u : Input) (x : WayPly) → by_codes o own ≡ true
      → IsTakenBy (way_player arena opponent side kept) own (finder arena o) s x u
      → IsChosen (counted arena) side (known kept) x.mover x.from x.place x.arm × (u ≡ s)
  taken_codes opponents.Codes true s u x by h = (h.0, h.2)
  taken_codes opponents.Codes false s u x by h = (h.0, h.2)
  taken_codes opponents.Input true s u x by h = (h.0, h.2)
  taken_codes opponents.Input false s u x by h = absurd (cc)

  taken_read : (o : Opponent) (own : Bool) (s u : Input) (x : WayPly) → by_codes o own ≡ false
      → IsTakenBy (way_player arena opponent side kept) own (finder arena o) s x u
      → (slice_get ((counted arena).arms x.from) x.place ≡ Some x.arm)
      × (reads (arena.arms x.from.1) s.more s.left ≡ Reply x.refused x.place u)
  taken_read opponents.Codes own s u x by h = absurd (cc)
  taken_read opponents.Input true s u x by h = absurd (cc)
  taken_read opponents.Input false s u x by h = h

  no_stop : (o : Opponent) (own : Bool) (s t : Input) (q : ℕ × ℕ) (e : EndOfWay)
      → by_codes o own ≡ true → IsStopBy own (finder arena o) s q e t → ⊥
  no_stop opponents.Codes true s t q e by h = h
  no_stop opponents.Codes false s t q e by h = h
  no_stop opponents.Input true s t q e by h = h
  no_stop opponents.Input false s t q e by h = absurd (cc)

  stop_read : (o : Opponent) (own : Bool) (s t : Input) (q : ℕ × ℕ) (e : EndOfWay)
      → by_codes o own ≡ false → IsStopBy own (finder arena o) s q e t
      → (halt : Halt) × (e ≡ Stopped halt) × (reads (arena.arms q.1) s.more s.left ≡ Stop halt t)
  stop_read opponents.Codes own s t q e by h = absurd (cc)
  stop_read opponents.Input true s t q e by h = absurd (cc)
  stop_read opponents.Input false s t q e by h = h

  -- a ply that the codes find
  pub moves_by_codes : (k : ℕ) (s t : Input) (q : ℕ) (ys : List WayPly) (e : EndOfWay)
      (mover : Colour) → by_codes opponent (same_colour mover side) ≡ true
      → GoesOn arena opponent side kept k s q ys e t
      → stage (way_player arena opponent side kept) k (k, q) ≡ Moves mover
      → (g : GoesTo arena opponent side kept k q s t ys e mover)
      × IsChosen (counted arena) side (known kept) mover (k, q) g.first.place g.first.arm
  moves_by_codes k s t q [] e mover own (inl w) due = absurd (let h = w.0 in cc)
  moves_by_codes k s t q [] e mover own (inr w) due =
      let same : w.0 ≡ mover = (let h = w.1 in cc) in
      absurd (no_stop opponent (same_colour w.0 side) s t (k, q) e
      (ap (λ m. by_codes opponent (same_colour m side)) same ∙ own) w.2)
  moves_by_codes k s t q (x ∷ ys) e mover own w due =
      let same : x.mover ≡ mover = (let h = w.1 in cc) in
      let taken = taken_codes opponent (same_colour x.mover side) s w.2.0 x
      (ap (λ m. by_codes opponent (same_colour m side)) same ∙ own) w.2.1 in
      let chosen = subst (λ m. IsChosen (counted arena) side (known kept) m x.from x.place x.arm)
      same taken.0 in (
        record {
          first = x;
          others = ys;
          are = refl;
          from = w.0;
          moves = same;
          leads = subst
              (λ (u : Input). LeadsTo
              (λ p. IsWay (way_player arena opponent side kept) (suc k) u p ys e t)
              (λ v. (ys ≡ []) × (e ≡ Exit v) × (t ≡ u)) x.arm.next) taken.1 w.2.2;
        },
        subst (λ p. IsChosen (counted arena) side (known kept) mover p x.place x.arm) w.0 chosen,
      )

  -- the input stops
  pub stops_here : (k : ℕ) (s t u : Input) (q : ℕ) (ys : List WayPly) (e : EndOfWay)
      (mover : Colour) (halt : Halt) → by_codes opponent (same_colour mover side) ≡ false
      → GoesOn arena opponent side kept k s q ys e t
      → stage (way_player arena opponent side kept) k (k, q) ≡ Moves mover
      → reads (arena.arms q) s.more s.left ≡ Stop halt u → (ys ≡ []) × (e ≡ Stopped halt) × (t ≡ u)
  stops_here k s t u q [] e mover halt own (inl w) due gives = absurd (let h = w.0 in cc)
  stops_here k s t u q [] e mover halt own (inr w) due gives =
      let same : w.0 ≡ mover = (let h = w.1 in cc) in
      let stop = stop_read opponent (same_colour w.0 side) s t (k, q) e
      (ap (λ m. by_codes opponent (same_colour m side)) same ∙ own)
      w.2 in
      let gave = stop.2 in
      let why : stop.0 ≡ halt = cc in
      (refl, stop.1 ∙ ap Stopped why, cc)
  stops_here k s t u q (x ∷ ys) e mover halt own w due gives =
      let same : x.mover ≡ mover = (let h = w.1 in cc) in
      let taken = taken_read opponent (same_colour x.mover side) s w.2.0 x
      (ap (λ m. by_codes opponent (same_colour m side)) same ∙ own) w.2.1 in
      let gave : reads (arena.arms q) s.more s.left ≡ Reply x.refused x.place w.2.0 = subst
      (λ (p : ℕ × ℕ). reads (arena.arms p.1) s.more s.left ≡ Reply x.refused x.place w.2.0) w.0
      taken.1 in
      absurd (cc)

  -- a reply
  pub replies_here : (k : ℕ) (s t u : Input) (q : ℕ) (ys : List WayPly) (e : EndOfWay)
      (mover : Colour) (refused place : ℕ) → by_codes opponent (same_colour mover side) ≡ false
      → GoesOn arena opponent side kept k s q ys e t
      → stage (way_player arena opponent side kept) k (k, q) ≡ Moves mover
      → reads (arena.arms q) s.more s.left ≡ Reply refused place u
      → Replied arena opponent side kept k u t q refused place ys e mover
  replies_here k s t u q [] e mover refused place own (inl w) due gives = absurd (let h = w.0 in cc)
  replies_here k s t u q [] e mover refused place own (inr w) due gives =
      let same : w.0 ≡ mover = (let h = w.1 in cc) in
      let stop = stop_read opponent (same_colour w.0 side) s t (k, q) e
      (ap (λ m. by_codes opponent (same_colour m side)) same ∙ own)
      w.2 in
      let gave = stop.2 in
      absurd (cc)
  replies_here k s t u q (x ∷ ys) e mover refused place own w due gives =
      let same : x.mover ≡ mover = (let h = w.1 in cc) in
      let taken = taken_read opponent (same_colour x.mover side) s w.2.0 x
      (ap (λ m. by_codes opponent (same_colour m side)) same ∙ own) w.2.1 in
      let gave : reads (arena.arms q) s.more s.left ≡ Reply x.refused x.place w.2.0 = subst
      (λ (p : ℕ × ℕ). reads (arena.arms p.1) s.more s.left ≡ Reply x.refused x.place w.2.0) w.0
      taken.1 in
      let after : w.2.0 ≡ u = cc in
      let at : x.place ≡ place = cc in
      record {
        on = record {
          first = x;
          others = ys;
          are = refl;
          from = w.0;
          moves = same;
          leads = subst
              (λ (v : Input). LeadsTo
              (λ p. IsWay (way_player arena opponent side kept) (suc k) v p ys e t)
              (λ v2. (ys ≡ []) × (e ≡ Exit v2) × (t ≡ v)) x.arm.next) after w.2.2;
        };
        refused_is = cc;
        there = subst (λ i. slice_get ((counted arena).arms (k, q)) i ≡ Some x.arm)
            at (subst (λ p. slice_get ((counted arena).arms p) x.place ≡ Some x.arm) w.0 taken.0);
      }

  taken_front : (o : Opponent) (own : Bool) (s u : Input) (x : WayPly)
      → IsTakenBy (way_player arena opponent side kept) own (finder arena o) s x u
      → EndsWith u.left s.left
  taken_front opponents.Codes true s u x h =
      subst (λ (v : Input). EndsWith v.left s.left) (sym h.2) (ends_itself s.left)
  taken_front opponents.Codes false s u x h =
      subst (λ (v : Input). EndsWith v.left s.left) (sym h.2) (ends_itself s.left)
  taken_front opponents.Input true s u x h =
      subst (λ (v : Input). EndsWith v.left s.left) (sym h.2) (ends_itself s.left)
  taken_front opponents.Input false s u x h =
      subst (λ (a : Answer Input Halt). EndsWith (left_by a) s.left) h.1
      (reads_front (arena.arms x.from.1) s.more s.left)

  stop_front : (o : Opponent) (own : Bool) (s t : Input) (q : ℕ × ℕ) (e : EndOfWay)
      → IsStopBy own (finder arena o) s q e t → EndsWith t.left s.left
  stop_front opponents.Codes true s t q e h = absurd h
  stop_front opponents.Codes false s t q e h = absurd h
  stop_front opponents.Input true s t q e h = absurd h
  stop_front opponents.Input false s t q e h =
      subst (λ (a : Answer Input Halt). EndsWith (left_by a) s.left) h.2
      (reads_front (arena.arms q.1) s.more s.left)

  pub leads_front : (k : ℕ) (u t : Input) (ys : List WayPly) (e : EndOfWay)
      → ((p : ℕ × ℕ) → IsWay (way_player arena opponent side kept) (suc k) u p ys e t
      → EndsWith t.left u.left) → (next : Next (ℕ × ℕ) Value)
      → LeadsTo (λ p. IsWay (way_player arena opponent side kept) (suc k) u p ys e t)
      (λ v. (ys ≡ []) × (e ≡ Exit v) × (t ≡ u)) next → EndsWith t.left u.left
  leads_front k u t ys e ih (Inside p) h = ih p h
  leads_front k u t ys e ih (Outside v) h =
      subst (λ (w : Input). EndsWith w.left u.left) (sym h.2) (ends_itself u.left)

  -- a way takes its input from the front
  pub way_front : (k : ℕ) (s t : Input) (q : ℕ × ℕ) (ys : List WayPly) (e : EndOfWay)
      → IsWay (way_player arena opponent side kept) k s q ys e t → EndsWith t.left s.left
  way_front k s t q [] e (inl w) =
      subst (λ (v : Input). EndsWith v.left s.left) (sym w.1) (ends_itself s.left)
  way_front k s t q [] e (inr w) = stop_front opponent (same_colour w.0 side) s t q e w.2
  way_front k s t q (x ∷ ys) e w =
      ends_on t.left w.2.0.left s.left
      (leads_front k w.2.0 t ys e (λ p h. way_front (suc k) w.2.0 t p ys e h) x.arm.next w.2.2)
      (taken_front opponent (same_colour x.mover side) s w.2.0 x w.2.1)
