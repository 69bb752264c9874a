-- Each session ends, where the sides move in turn and each reply uses up some of the input.
use Rattle.std.proofs.Common.{◌≡◌, ◌≤◌, ◌<◌, ◌+◌, ◌*◌, ℕ, zero, suc, ◌⊎◌, inl, inr, Bool, true, false, List, [], ◌∷◌, Some, refl, sym, subst, ap, ◌∙◌, arith}
use Rattle.frz_board.proofs.Lemmas.{other_differs}
use Rattle.std.specs.Prelude.{slice_get}
use Rattle.frz_board.specs.declared.man.Colour.{Colour}
use Rattle.frz_board.specs.Men.{same_colour}
use Rattle.frz_arena.specs.declared.node.Node.TheVariants.{Going}
use Rattle.frz_arena.specs.declared.arm.Arm.{Arm}
use Rattle.frz_arena.specs.declared.arm.Next.{Next}
use Rattle.frz_arena.specs.declared.arm.Next.TheVariants.{Inside, Outside}
use Rattle.frz_arena.specs.Arena.{IsLawful}
use Rattle.frz_arena.specs.Codes.{is_failure}
use Rattle.frz_arena.specs.LocalCodes.{arm_code, next_code}
use Rattle.frz_arena.specs.Plies.{LeadsTo}
use Rattle.frz_arena.specs.Chosen.{IsChosen}
use Rattle.frz_arena.specs.Inputs.{Answer, Reply, Stop, IsInput}
use Rattle.frz_arena.specs.Turns.{Alternates}
use Rattle.frz_arena.specs.WayEnds.{End, Exit, Stopped}
use Rattle.frz_arena.specs.Ways.{Player, Ply, Over, Moves, Opponent, ByCodes, ByInput, IsTakenBy, IsStopBy, stage, IsWay}
use Rattle.frz_arena.proofs.Lists.FirstOnes.{at_in}
use Rattle.frz_arena.proofs.Ways.FoundArms.{mover_is, itself, another, chosen_there}
use Rattle.frz_arena.proofs.Ways.Stages as stages
use Rattle.frz_arena.proofs.Ways.Stages.{IsSound, over_or_due}
use Rattle.frz_arena.proofs.Ways.WayParts.{ply_of}
use Rattle.frz_arena.proofs.Ways.EachPly.{stands_due, never_fails}

pub taken_own : {M N V S R : Type 0} (player : Player M N V S R) (own : Bool)
    (opponent : Opponent N S R) (s : S) (x : Ply M N V) → own ≡ true → x.refused ≡ 0
    → IsChosen player.arena player.side player.entry x.mover x.from x.place x.arm
    → IsTakenBy player own opponent s x s
taken_own player true opponent s x e z h = (h, z, refl)
taken_own player false opponent s x e z h = absurd (cc)

same_read : {N S R : Type 0} (f g : N → S → Answer S R)
    → (let x : Opponent N S R = ByInput f in let y : Opponent N S R = ByInput g in x ≡ y) → f ≡ g
same_read f g e = cc

pub taken_read : {M N V S R : Type 0} (player : Player M N V S R) (own : Bool)
    (opponent : Opponent N S R) (read : N → S → Answer S R) (s t : S) (x : Ply M N V) → own ≡ false
    → opponent ≡ ByInput read → slice_get (player.arena.arms x.from) x.place ≡ Some x.arm
    → read x.from s ≡ Reply x.refused x.place t → IsTakenBy player own opponent s x t
taken_read player true opponent read s t x e o h r = absurd (cc)
taken_read player false (ByCodes most) read s t x e o h r = absurd (cc)
taken_read player false (ByInput f) read s t x e o h r =
    (h, ap (λ g. g x.from s) (same_read f read o) ∙ r)

pub stop_read : {N S R : Type 0} (V : Type 0) (own : Bool) (opponent : Opponent N S R)
    (read : N → S → Answer S R) (s t : S) (p : N) (reason : R) → own ≡ false
    → opponent ≡ ByInput read → read p s ≡ Stop reason t
    → IsStopBy {V = V} own opponent s p (Stopped reason) t
stop_read V true opponent read s t p reason e o r = absurd (cc)
stop_read V false (ByCodes most) read s t p reason e o r = absurd (cc)
stop_read V false (ByInput f) read s t p reason e o r =
    (reason, refl, ap (λ g. g p s) (same_read f read o) ∙ r)

data AnswerIs {S R : Type 0} (x : Answer S R) : Type 0 where
  replies : (refused place : ℕ) (left : S) → x ≡ Reply refused place left → AnswerIs x
  stops : (reason : R) (left : S) → x ≡ Stop reason left → AnswerIs x

answer_is : {S R : Type 0} (x : Answer S R) → AnswerIs x
answer_is (Reply refused place left) = replies refused place left refl
answer_is (Stop reason left) = stops reason left refl

pub record Session {M N V S R : Type 0} (player : Player M N V S R) (k : ℕ) (s : S)
    (p : N) : Type 0 where
  pub plies : List (Ply M N V)
  pub end : End N V R
  pub left : S
  pub way : IsWay player k s p plies end left

over_session : {M N V S R : Type 0} (player : Player M N V S R) (k : ℕ) (s : S) (p : N)
    (e : End N V R) → stage player k p ≡ Over e → Session player k s p
over_session player k s p e o = record { plies = []; end = e; left = s; way = inl (o, refl) }

-- a ply, and the rest of the session behind it
with_ply : {M N V S R : Type 0} (player : Player M N V S R) (k : ℕ) (s u : S) (x : Ply M N V) →
    stage player k x.from ≡ Moves x.mover →
    IsTakenBy player (same_colour x.mover player.side) player.opponent s x u → (y : Next N V) →
    y ≡ x.arm.next → ((q : N) → x.arm.next ≡ Inside q → Session player (suc k) u q) →
    Session player k s x.from
with_ply player k s u x o h (Inside q) e ih =
    let r = ih q (sym e) in
    record {
      plies = x ∷ r.plies;
      end = r.end;
      left = r.left;
      way = (
        refl,
        o,
        (
          u,
          h,
          subst (λ y. LeadsTo (λ q. IsWay player (suc k) u q r.plies r.end r.left)
              (λ v. (r.plies ≡ []) × (r.end ≡ Exit v) × (r.left ≡ u)) y) e r.way,
        ),
      );
    }
with_ply {M} {N} {V} {S} {R} player k s u x o h (Outside v) e ih =
    let none : List (Ply M N V) = [] in
    let out : End N V R = Exit v in
    record {
      plies = x ∷ [];
      end = Exit v;
      left = u;
      way = (
        refl,
        o,
        (
          u,
          h,
          subst (λ y. LeadsTo (λ q. IsWay player (suc k) u q none out u)
              (λ w. (none ≡ []) × (out ≡ Exit w) × (u ≡ u)) y) e (refl, refl, refl),
        ),
      );
    }

-- the fuel that a session needs: two for each unit of the input's size, and one more where the side
-- is to move
pub record Enough {M N V S R : Type 0} (player : Player M N V S R) (size : S → ℕ) (fuel : ℕ) (s : S)
    (p : N) : Type 0 where
  pub input : 2 * size s ≤ fuel
  pub own : player.arena.node p ≡ Going player.side → 2 * size s + 1 ≤ fuel

code_at : {M N V S R : Type 0} (player : Player M N V S R) (a : Arm M N V) (q : N) →
    a.next ≡ Inside q → is_failure (arm_code player.arena player.side player.entry a) ≡ false →
    is_failure (player.entry q) ≡ false
code_at {M} {N} {V} player a q e f =
    subst (λ (y : Next N V). is_failure (next_code player.arena player.side player.entry y) ≡ false)
    e f

after_own : {M N V S R : Type 0} (player : Player M N V S R) (size : S → ℕ) (less : ℕ) (s : S)
    (p q : N) (place : ℕ) (a : Arm M N V) → Alternates player.arena
    → slice_get (player.arena.arms p) place ≡ Some a → a.next ≡ Inside q
    → player.arena.node p ≡ Going player.side → Enough player size (suc less) s p
    → Enough player size less s q
after_own player size less s p q place a alt at e g enough = record {
  input = (let h = enough.own g in omega (arith, h));
  own =
      λ h. absurd (other_differs player.side
      (sym (alt.turns p a player.side player.side q (at_in (player.arena.arms p) place a at) e g
      h)));
}

after_reply : {M N V S R : Type 0} (player : Player M N V S R) (size : S → ℕ) (less : ℕ) (s t : S)
    (p q : N) → size t < size s → Enough player size (suc less) s p → Enough player size less t q
after_reply player size less s t p q l enough =
    let h = enough.input in
    record { input = omega (arith, h, l); own = λ _. omega (arith, h, l) }

-- the side's ply
own_session : {M N V S R : Type 0} (player : Player M N V S R) → IsLawful player.arena →
    Alternates player.arena → (size : S → ℕ) (less k : ℕ) (s : S) (p : N) →
    ((q : N) → is_failure (player.entry q) ≡ false → Enough player size less s q
    → Session player (suc k) s q) → (k ≡ 0) ⊎ (is_failure (player.entry p) ≡ false)
    → Enough player size (suc less) s p → (mover : Colour) → mover ≡ player.side
    → same_colour mover player.side ≡ true → IsSound player k p → player.arena.node p ≡ Going mover
    → stage player k p ≡ Moves mover → Session player k s p
own_session {M} {N} {V} player law alt size less k s p ih start enough mover m c sound e o =
    let stands = stands_due player k p mover sound e start in
    let r = chosen_there player.arena law player.side player.entry mover p e sound.agrees stands in
    let x : Ply M N V = record { from = p; place = r.0; arm = r.1; mover = mover; refused = 0 } in
    let taken = taken_own player (same_colour mover player.side) player.opponent s x c refl r.2 in
    let keeps = ply_of player s s x sound.agrees e stands taken in
    with_ply player k s s x o taken x.arm.next refl (λ q i.
    ih q (code_at player x.arm q i (never_fails player x keeps))
    (after_own player size less s p q r.0 r.1 alt keeps.there i (e ∙ ap Going m) enough))

-- the opponent's
read_session : {M N V S R : Type 0} (player : Player M N V S R) (read : N → S → Answer S R) →
    player.opponent ≡ ByInput read → (size : S → ℕ) → IsInput player.arena size read →
    (less k : ℕ) (s : S) (p : N) →
    ((q : N) (t : S) → size t < size s → is_failure (player.entry q) ≡ false
    → Session player (suc k) t q) → (k ≡ 0) ⊎ (is_failure (player.entry p) ≡ false)
    → (mover : Colour) → same_colour mover player.side ≡ false → IsSound player k p
    → player.arena.node p ≡ Going mover → stage player k p ≡ Moves mover → Session player k s p
read_session {M} {N} {V} {S} {R} player read b size input less k s p ih start mover c sound e o =
    elim (answer_is (read p s)) [
      | stops reason t r ↦
          record {
            plies = [];
            end = Stopped reason;
            left = t;
            way = inr (
              mover,
              o,
              stop_read V (same_colour mover player.side) player.opponent read
                  s t p reason c b r,
            );
          }
      | replies refused place t r ↦ (
          let stands = stands_due player k p mover sound e start in
          let a = input.there p mover s t refused place e r in
          let x : Ply M N V = record {
            from = p;
            place = place;
            arm = a.0;
            mover = mover;
            refused = refused;
          } in
          let taken = taken_read player (same_colour mover player.side) player.opponent read s t x c
          b a.1 r in
          let keeps = ply_of player s t x sound.agrees e stands taken in
          with_ply player k s t x o taken x.arm.next refl (λ q i.
          ih q t (input.less p s t refused place r)
          (code_at player x.arm q i (never_fails player x keeps))))
    ]

pub session_there : {M N V S R : Type 0} (player : Player M N V S R) (read : N → S → Answer S R) →
    player.opponent ≡ ByInput read → IsLawful player.arena → Alternates player.arena →
    (size : S → ℕ) → IsInput player.arena size read → (fuel k : ℕ) (s : S) (p : N) →
    (k ≡ 0) ⊎ (is_failure (player.entry p) ≡ false) → Enough player size fuel s p →
    Session player k s p
session_there {M} {N} {V} {S} {R} player read b law alt size input zero k s p start enough =
    elim (over_or_due player k p) [
      | stages.over end e ↦ over_session player k s p end e
      | stages.due d m z t e ↦ elim (mover_is player.side m) [
        | itself i c ↦ absurd (let h = enough.own (z ∙ ap Going i) in omega (arith, h))
        | another i c ↦ read_session player read b size input zero k s p
            (λ q t l. absurd (let h = enough.input in omega (arith, h, l))) start m c d z e
      ]
    ]
session_there {M} {N} {V} {S} {R} player read b law alt size input (suc less) k s p start enough =
    elim (over_or_due player k p) [
      | stages.over end e ↦ over_session player k s p end e
      | stages.due d m z t e ↦ elim (mover_is player.side m) [
        | itself i c ↦
            own_session player law alt size less k s p
            (λ q f g. session_there player read b law alt size input less (suc k) s q (inr f) g)
            start enough m i c d z e
        | another i c ↦
            read_session player read b size input less k s p
            (λ q t l f. session_there player read b law alt size input less (suc k) t q (inr f)
            (after_reply player size less s t p q l enough)) start m c d z e
      ]
    ]

-- each session has an end
pub session_ends : {M N V S R : Type 0} (player : Player M N V S R) (read : N → S → Answer S R) →
    player.opponent ≡ ByInput read → IsLawful player.arena → Alternates player.arena →
    (size : S → ℕ) → IsInput player.arena size read → (s : S) (p : N) →
    (xs : List (Ply M N V)) × (e : End N V R) × (t : S) × IsWay player 0 s p xs e t
session_ends player read b law alt size input s p =
    let r = session_there player read b law alt size input (2 * size s + 1) 0 s p (inl refl)
    (record { input = omega arith; own = λ h. omega arith }) in
    (r.plies, r.end, r.left, r.way)
