-- The game of ten numbers is a graph.
use Rattle.std.proofs.Common.{◌≡◌, ◌≢◌, ◌↔◌, ℕ, zero, suc, ◌+◌, ◌<◌, ◌≤◌, ◌++◌, ◌==◌, take, append-nil, ◌&&◌, Bool, true, false, not, nat_lt, List, [], ◌∷◌, get_or, Option, Some, None, refl, sym, ◌∙◌, ap, subst, arith, cond, inl, inr}
use Rattle.frz_arena.proofs.Lemmas.{in_cases}
use Rattle.std.specs.List.{Contains, cons_option, list_all, filter_map}
use Rattle.std.proofs.lemmas.Bool.{and_from, and_parts, eqb-true, eq-eqb, ne_eqb, true≢false, ltb-true}
use Rattle.std.proofs.lemmas.List.{get_or_past}
use Rattle.std.proofs.lemmas.Option.{same_Some}
use Rattle.frz_board.specs.Moving.{Step}
use Rattle.frz_board.specs.declared.man.Colour.{Colour}
use Rattle.frz_sets.specs.declared.exit.Value.{Value}
use Rattle.frz_arena.specs.Arena.{IsArm}
use Rattle.frz_arena.specs.declared.arm.Next.TheVariants.{Inside, Outside}
use Rattle.frz_arena.specs.declared.node.Node.{Node}
use Rattle.frz_arena.specs.declared.node.Node.TheVariants.{Broken, Mate, Stalemate, Going}
use Rattle.frz_exits.specs.Values.{lag_of}
use Rattle.frz_exits.proofs.Lemmas.{opposed}
use Rattle.frz_retro.specs.Graphs.{Arm, Next, IsMoveTo, HasDifferentArms}
use Rattle.frz_unmove.specs.Pairs.{HaveDifferentNumbers}
use Rattle.frz_unmove.specs.declared.preds.Pred.{Pred}
use Rattle.frz_graph.specs.Finite.{IsFinite}
use Rattle.frz_worked.specs.declared.ten.Edge.{Edge}
use Rattle.frz_worked.specs.declared.ten.TheConstants.{NODES, EDGES}
use Rattle.frz_worked.specs.Ten.{target_of, step_of, is_free, arm_of, arm_from, pred_of, pred_to, preds_to, leads_to, game}
use Rattle.frz_worked.proofs.FilterPicks.{Apart, picked_from, picked_in, picked_more, one_place}

-- a number at which the game goes on, and one that is not broken
is_going : Node → Bool
is_going (Going c) = true
is_going _ = false

is_whole : Node → Bool
is_whole Broken = false
is_whole _ = true

going_from : (n : Node) → is_going n ≡ true → (c : Colour) × (n ≡ Going c)
unfolding is_going
going_from Broken e = cc
going_from (Mate c) e = cc
going_from (Stalemate c) e = cc
going_from (Going c) e = (c, refl)

whole_from : (n : Node) → is_whole n ≡ true → n ≢ Broken
unfolding is_whole
whole_from Broken e h = cc
whole_from (Mate c) e h = cc
whole_from (Stalemate c) e h = cc
whole_from (Going c) e h = cc

-- The move is of a number at which the game goes on, and it leads to one that is not broken, or to
-- a small lag.
fits_next : Next → Bool
fits_next (Inside q) = nat_lt q 10 && is_whole (game.node q)
fits_next (Outside v) = nat_lt (lag_of v) 1001

fits : Edge → Bool
fits e = is_going (game.node e.number) && fits_next e.next

all_fit : list_all fits EDGES ≡ true
unfolding fits fits_next is_going is_whole
all_fit = refl

-- two moves of one number have different targets
clash : Edge → Edge → Bool
clash e g = (e.number == g.number) && (target_of e.next == target_of g.next)

none_clash : List Edge → Bool
none_clash [] = true
none_clash (e ∷ es) = list_all (λ g. not (clash e g)) es && none_clash es

edges_apart : none_clash EDGES ≡ true
unfolding none_clash clash
edges_apart = refl

each_passes : {X : Type 0} (test : X → Bool) (xs : List X) (x : X) → list_all test xs ≡ true →
    Contains xs x → test x ≡ true
each_passes test [] x h i = absurd (omega (arith, i.1))
each_passes test (y ∷ ys) x h i =
    let b = and_parts (test y) (list_all test ys) h in
    elim (in_cases y ys x i) [ inl e ↦ ap test (sym e) ∙ b.0 | inr j ↦ each_passes test ys x b.1 j ]

-- of one number and one target
abbrev Clash : Edge → Edge → Type 0
Clash e g = (e.number ≡ g.number) × (target_of e.next ≡ target_of g.next)

apart_by_test : (es : List Edge) → none_clash es ≡ true → Apart Clash es
unfolding none_clash clash
apart_by_test [] h = tt
apart_by_test (e ∷ es) h =
    let both = and_parts (list_all (λ g. not (clash e g)) es) (none_clash es) h in (
      λ g i c. absurd (true≢false
          (sym (each_passes (λ x. not (clash e x)) es g both.0 i)
          ∙ ap not (and_from (e.number == g.number) (target_of e.next == target_of g.next)
          (eq-eqb e.number g.number c.0) (eq-eqb (target_of e.next) (target_of g.next) c.1)))),
      apart_by_test es both.1,
    )

kept_passes : {Y : Type 0} (b : Bool) (y z : Y) → cond b (Some y) None ≡ Some z
    → (b ≡ true) × (y ≡ z)
kept_passes true y z e = (refl, same_Some y z e)
kept_passes false y z e = absurd cc

passing_is_kept : {Y : Type 0} (b : Bool) (y : Y) → b ≡ true → cond b (Some y) None ≡ Some y
passing_is_kept b y e = ap (λ t. cond t (Some y) None) e

-- the edge of a move, and of a move back
edge_of : (i : ℕ) (a : Arm) → IsArm game i a →
    (e : Edge) × Contains EDGES e × (e.number ≡ i) × (arm_of e ≡ a)
edge_of i a h =
    let r = picked_from (arm_from i) EDGES a h in
    let k = kept_passes (r.0.number == i) (arm_of r.0) a r.2 in
    (r.0, r.1, eqb-true r.0.number i k.0, k.1)

arm_at : (e : Edge) → Contains EDGES e → IsArm game e.number (arm_of e)
arm_at e i =
    picked_in (arm_from e.number) EDGES e (arm_of e) i
    (passing_is_kept (e.number == e.number) (arm_of e) (eq-eqb e.number e.number refl))

inside_of : (q : ℕ) (n : Next) → leads_to q n ≡ true → n ≡ Inside q
inside_of q (Inside p) h = ap Inside (eqb-true p q h)
inside_of q (Outside v) h = absurd (true≢false (sym h))

leads_at : (q : ℕ) (n : Next) → n ≡ Inside q → leads_to q n ≡ true
leads_at q n e = ap (leads_to q) e ∙ eq-eqb q q refl

back_of : (q : ℕ) (p : Pred) → Contains (preds_to q) p →
    (e : Edge) × Contains EDGES e × (e.next ≡ Inside q) × (pred_of e ≡ p)
back_of q p h =
    let r = picked_from (pred_to q) EDGES p h in
    let k = kept_passes (leads_to q r.0.next) (pred_of r.0) p r.2 in
    (r.0, r.1, inside_of q r.0.next k.0, k.1)

-- the moves back are the moves
pub preds_are : (q i : ℕ) (m : Step) →
    Contains (preds_to q) (record { number = i; mv = m }) ↔ IsMoveTo game i m q
preds_are q i m = (
  λ h.
      let r = back_of q (record { number = i; mv = m }) h in
      let n : r.0.number ≡ i = ap (λ (p : Pred). p.number) r.3 in
      let s : step_of r.0.next ≡ m = ap (λ (p : Pred). p.mv) r.3 in
      (arm_of r.0, subst (λ j. IsArm game j (arm_of r.0)) n (arm_at r.0 r.1), s, r.2),
  λ h.
      let r = edge_of i h.0 h.1 in
      let n : r.0.next ≡ h.0.next = ap (λ (a : Arm). a.next) r.3 in
      let s : step_of r.0.next ≡ h.0.mv = ap (λ (a : Arm). a.mv) r.3 in
      let p : pred_of r.0 ≡ record { number = i; mv = m } = cc (r.2, s, h.2) in
      picked_in (pred_to q) EDGES r.0 (record { number = i; mv = m }) r.1
      (passing_is_kept (leads_to q r.0.next) (pred_of r.0) (leads_at q r.0.next (n ∙ h.3))
      ∙ ap Some p),
)

pub preds_once : (q : ℕ) → HaveDifferentNumbers (preds_to q)
preds_once q k l x y a b s =
    one_place (pred_to q) Clash (λ (u v : Pred). u.number ≡ v.number) EDGES
    (apart_by_test EDGES edges_apart) (λ _ _ e. sym e)
    (λ e g u v c d t.
    let f = kept_passes (leads_to q e.next) (pred_of e) u c in
    let h = kept_passes (leads_to q g.next) (pred_of g) v d in
    let n : e.number ≡ u.number = ap (λ (p : Pred). p.number) f.1 in
    let o : g.number ≡ v.number = ap (λ (p : Pred). p.number) h.1 in (
      n ∙ (t ∙ sym o),
      ap target_of (inside_of q e.next f.0)
          ∙ sym (ap target_of (inside_of q g.next h.0)),
    )) k l x y a b s

-- The tables are gone through from the first edge on: one that is picked, and one that is not.
more_by : {Y : Type 0} (f : Edge → Option Y) (k : ℕ) (d : Edge) (o : Option Y) → k < 15 →
    f (get_or EDGES k d) ≡ o →
    filter_map f (take (k + 1) EDGES) ≡ filter_map f (take k EDGES) ++ cons_option o []
more_by f k d o l e =
    picked_more f EDGES k d l ∙ ap (λ p. filter_map f (take k EDGES) ++ cons_option p []) e

failing_is_dropped : {Y : Type 0} (b : Bool) (y : Y) → b ≡ false → cond b (Some y) None ≡ None
failing_is_dropped b y e = ap (λ t. cond t (Some y) None) e

pub arms_more : (i k : ℕ) (d : Edge) → k < 15 → (get_or EDGES k d).number ≡ i →
    filter_map (arm_from i) (take (k + 1) EDGES)
    ≡ filter_map (arm_from i) (take k EDGES) ++ arm_of (get_or EDGES k d) ∷ []
arms_more i k d l e = let edge = get_or EDGES k d in
    more_by (arm_from i) k d (Some (arm_of edge)) l
    (passing_is_kept (edge.number == i) (arm_of edge) (eq-eqb edge.number i e))

pub arms_same : (i k : ℕ) (d : Edge) → k < 15 → (get_or EDGES k d).number ≢ i →
    filter_map (arm_from i) (take (k + 1) EDGES) ≡ filter_map (arm_from i) (take k EDGES)
arms_same i k d l n = let edge = get_or EDGES k d in
    more_by (arm_from i) k d None l
    (failing_is_dropped (edge.number == i) (arm_of edge) (ne_eqb edge.number i n))
    ∙ append-nil (filter_map (arm_from i) (take k EDGES))

pub preds_more : (q k : ℕ) (d : Edge) → k < 15 → leads_to q (get_or EDGES k d).next ≡ true →
    filter_map (pred_to q) (take (k + 1) EDGES)
    ≡ filter_map (pred_to q) (take k EDGES) ++ pred_of (get_or EDGES k d) ∷ []
preds_more q k d l e = let edge = get_or EDGES k d in
    more_by (pred_to q) k d (Some (pred_of edge)) l
    (passing_is_kept (leads_to q edge.next) (pred_of edge) e)

pub preds_same : (q k : ℕ) (d : Edge) → k < 15 → leads_to q (get_or EDGES k d).next ≡ false →
    filter_map (pred_to q) (take (k + 1) EDGES) ≡ filter_map (pred_to q) (take k EDGES)
preds_same q k d l e = let edge = get_or EDGES k d in
    more_by (pred_to q) k d None l (failing_is_dropped (leads_to q edge.next) (pred_of edge) e)
    ∙ append-nil (filter_map (pred_to q) (take k EDGES))

-- the laws of the game
goes_on : (p : ℕ) (c : Colour) → game.node p ≡ Going c → game.arms p ≢ []
goes_on zero c e h = cc
goes_on (suc zero) c e h = cc
goes_on (suc (suc zero)) c e h = cc
goes_on (suc (suc (suc zero))) c e h = cc
goes_on (suc (suc (suc (suc zero)))) c e h = cc
goes_on (suc (suc (suc (suc (suc zero))))) c e h = cc
goes_on (suc (suc (suc (suc (suc (suc zero)))))) c e h = cc
goes_on (suc (suc (suc (suc (suc (suc (suc zero))))))) c e h = cc
goes_on (suc (suc (suc (suc (suc (suc (suc (suc zero)))))))) c e h = cc
goes_on (suc (suc (suc (suc (suc (suc (suc (suc (suc zero))))))))) c e h = cc
goes_on (suc (suc (suc (suc (suc (suc (suc (suc (suc (suc p)))))))))) c e h = cc

edge_fits : (e : Edge) → Contains EDGES e →
    (is_going (game.node e.number) ≡ true) × (fits_next e.next ≡ true)
unfolding fits
edge_fits e i = and_parts (is_going (game.node e.number)) (fits_next e.next)
    (each_passes fits EDGES e all_fit i)

fit_arm : (i : ℕ) (a : Arm) → IsArm game i a → (is_going (game.node i) ≡ true)
    × (fits_next a.next ≡ true)
fit_arm i a h =
    let r = edge_of i a h in
    let f = edge_fits r.0 r.1 in
    let n : r.0.next ≡ a.next = ap (λ (x : Arm). x.next) r.3 in
    (subst (λ j. is_going (game.node j) ≡ true) r.2 f.0, subst (λ x. fits_next x ≡ true) n f.1)

inside_fits : (q : ℕ) → fits_next (Inside q) ≡ true → (q < 10) × (game.node q ≢ Broken)
unfolding fits_next
inside_fits q h =
    let b = and_parts (nat_lt q 10) (is_whole (game.node q)) h in
    (ltb-true q 10 b.0, whole_from (game.node q) b.1)

outside_fits : (v : Value) → fits_next (Outside v) ≡ true → lag_of v ≤ 1000
unfolding fits_next
outside_fits v h = let l = ltb-true (lag_of v) 1001 h in omega (arith, l)

pub game_is_finite : IsFinite game 10
game_is_finite = record {
  lawful = record { goes_on = goes_on; opposed = opposed };
  numbered = record { past = λ i l. get_or_past NODES i Broken l };
  going = λ i a h. going_from (game.node i) (fit_arm i a h).0;
  inside = λ i q a h e. inside_fits q (ap fits_next (sym e) ∙ (fit_arm i a h).1);
  lags = λ i v a h e. outside_fits v (ap fits_next (sym e) ∙ (fit_arm i a h).1);
  class = refl;
  lag = refl;
  few = omega arith;
}

pub arms_are_different : HasDifferentArms game
arms_are_different i k l q a b =
    one_place (arm_from i) Clash (λ (u v : Arm). u.next ≡ v.next) EDGES
    (apart_by_test EDGES edges_apart)
    (λ _ _ e. sym e)
    (λ e g u v c d t.
    let f = kept_passes (e.number == i) (arm_of e) u c in
    let h = kept_passes (g.number == i) (arm_of g) v d in
    let n : e.next ≡ u.next = ap (λ (x : Arm). x.next) f.1 in
    let o : g.next ≡ v.next = ap (λ (x : Arm). x.next) h.1 in
    (eqb-true e.number i f.0 ∙ sym (eqb-true g.number i h.0), ap target_of (n ∙ (t ∙ sym o)))) k l
    a.0 b.0 a.1 b.1 (a.2 ∙ sym b.2)

pub free_is : (i : ℕ) (a : Arm) → IsArm game i a → is_free i a.mv.to ≡ a.free
free_is i a h =
    let r = edge_of i a h in
    let s : step_of r.0.next ≡ a.mv = ap (λ (x : Arm). x.mv) r.3 in
    let f : is_free r.0.number (target_of r.0.next) ≡ a.free = ap (λ (x : Arm). x.free) r.3 in
    ap (is_free i) (sym (ap (λ (m : Step). m.to) s))
    ∙ (ap (λ j. is_free j (target_of r.0.next)) (sym r.2) ∙ f)
