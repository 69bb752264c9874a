-- The moves of one number as an arena of their own, in which
-- the codes that were read are the codes.
use Rattle.std.proofs.Common.{◌≡◌, ◌≢◌, ◌<◌, ◌+◌, ◌-◌, ◌==◌, ◌||◌, not, ℕ, inl, inr, Bool, true, false, List, [], ◌∷◌, Option, Some, None, map, length, refl, sym, subst, ap, ◌∙◌, arith, eq-eqb}
use Rattle.std.specs.Prelude.{slice_get}
use Rattle.std.specs.List.{Contains, filter}
use Rattle.std.proofs.lemmas.Bool.{and_right, or_right}
use Rattle.std.proofs.lemmas.Option.{slice_get-map}
use Rattle.std.proofs.lemmas.Bool.{cases_Bool}
use Rattle.frz_board.specs.declared.man.Colour.{Colour}
use Rattle.frz_board.specs.Men.{same_colour}
use Rattle.frz_board.specs.Moving.{Step}
use Rattle.frz_sets.specs.declared.exit.Value.{Value}
use Rattle.frz_arena.specs.declared.arm.Arm.{Arm}
use Rattle.frz_arena.specs.declared.arm.Next.TheVariants.{Inside}
use Rattle.frz_arena.specs.declared.choice.Choice.{Choice}
use Rattle.frz_arena.specs.declared.class.Class.TheVariants.{Bad}
use Rattle.frz_arena.specs.declared.node.Node.{Node}
use Rattle.frz_arena.specs.declared.node.Node.TheVariants.{Broken, Going}
use Rattle.frz_arena.specs.Arena.{Arena, IsLawful}
use Rattle.frz_arena.specs.Choices.{has_code, choice_of}
use Rattle.frz_arena.specs.Chosen.{IsFirst, IsFound, is_candidate, IsChosen}
use Rattle.frz_arena.specs.Codes.{is_win, is_failure}
use Rattle.frz_arena.specs.LocalCodes.{arm_code, local_code, node_code}
use Rattle.frz_arena.specs.Ways.{Player, Ply, Moves, Opponent, ByCodes, IsTaken, IsTakenBy, stage}
use Rattle.frz_arena.proofs.Lemmas.{choice_is_arm, from_mapped, reaches_start, chosen_here, ply_here, found_at}
use Rattle.frz_graph.specs.FreeCodes.{free_among}
use Rattle.frz_ways.specs.declared.end.TheConstants.{LINE_LIMIT}
use Rattle.frz_ways.specs.SeenMoves.{choices_by, IsNextCode}

-- each move leads to the code that was read for it
abbrev pub seen_arms : List (Arm Step ℕ Value) → List ℕ → List (Arm Step (Option ℕ) Value)
seen_arms [] cs = []
seen_arms (a ∷ arms) [] = []
seen_arms (a ∷ arms) (c ∷ cs) =
    record { mv = a.mv; free = a.free; next = Inside (Some c) } ∷ seen_arms arms cs

abbrev pub seen_node : Node → Option ℕ → Node
seen_node node None = node
seen_node node (Some c) = Broken

abbrev pub seen_arms_at : List (Arm Step ℕ Value) → List ℕ → Option ℕ
    → List (Arm Step (Option ℕ) Value)
seen_arms_at arms cs None = seen_arms arms cs
seen_arms_at arms cs (Some c) = []

abbrev pub seen_entry : ℕ → Option ℕ → ℕ
seen_entry kept None = kept
seen_entry kept (Some c) = c

abbrev pub seen_arena : Node → List (Arm Step ℕ Value) → List ℕ → Arena Step (Option ℕ) Value
seen_arena node arms cs =
    record {
      node = seen_node node;
      arms = seen_arms_at arms cs;
      class = λ v side. Bad;
      lag = λ v. 0;
    }

abbrev pub seen_player : Colour → Node → List (Arm Step ℕ Value) → List ℕ → ℕ
    → Player Step (Option ℕ) Value (Unit {0}) (Unit {0})
seen_player side node arms cs kept = record {
  arena = seen_arena node arms cs;
  side = side;
  entry = seen_entry kept;
  opponent = ByCodes LINE_LIMIT;
}

seen_codes : (arena : Arena Step (Option ℕ) Value) (side : Colour) (kept : ℕ)
    (arms : List (Arm Step ℕ Value)) (cs : List ℕ) → length cs ≡ length arms
    → map (arm_code arena side (seen_entry kept)) (seen_arms arms cs) ≡ cs
seen_codes arena side kept [] [] e = refl
seen_codes arena side kept [] (c ∷ cs) e = absurd (omega arith)
seen_codes arena side kept (a ∷ arms) [] e = absurd (omega arith)
seen_codes arena side kept (a ∷ arms) (c ∷ cs) e =
    ap (λ (xs : List ℕ). c ∷ xs) (seen_codes arena side kept arms cs (omega arith))

seen_free : (arena : Arena Step (Option ℕ) Value) (side : Colour) (kept : ℕ)
    (arms : List (Arm Step ℕ Value)) (cs : List ℕ)
    → map (arm_code arena side (seen_entry kept)) (filter (λ a. a.free) (seen_arms arms cs))
    ≡ free_among arms cs
seen_free arena side kept [] cs = refl
seen_free arena side kept (a ∷ arms) [] = refl
seen_free arena side kept (a ∷ arms) (c ∷ cs) =
    elim (cases_Bool a.free) [
      | inl t ↦ rw (t, seen_free arena side kept arms cs) refl
      | inr f ↦ rw (f, seen_free arena side kept arms cs) refl
    ]

seen_choices : (arena : Arena Step (Option ℕ) Value) (side mover : Colour) (kept : ℕ)
    (arms : List (Arm Step ℕ Value)) (cs : List ℕ)
    → choices_by (same_colour mover side) arms cs ≡ map
    (choice_of arena side (seen_entry kept) mover) (seen_arms arms cs)
seen_choices arena side mover kept [] cs = refl
seen_choices arena side mover kept (a ∷ arms) [] = refl
seen_choices arena side mover kept (a ∷ arms) (c ∷ cs) =
    ap (λ (xs : List Choice). record { allowed = not (same_colour mover side) || a.free; code = c }
    ∷ xs) (seen_choices arena side mover kept arms cs)

seen_local : (side : Colour) (node : Node) (kept : ℕ) (arms : List (Arm Step ℕ Value)) (cs : List ℕ)
    → length cs ≡ length arms → local_code (seen_arena node arms cs) side (seen_entry kept) None
    ≡ node_code side node (free_among arms cs) cs
seen_local side node kept arms cs e =
    let arena = seen_arena node arms cs in
    ap (λ (z : List ℕ). node_code side node z
    (map (arm_code arena side (seen_entry kept)) (seen_arms arms cs)))
    (seen_free arena side kept arms cs)
    ∙ ap (λ (z : List ℕ). node_code side node (free_among arms cs) z)
    (seen_codes arena side kept arms cs e)

seen_lawful : (mover : Colour) (arms : List (Arm Step ℕ Value)) (cs : List ℕ)
    → length cs ≡ length arms → arms ≢ [] → IsLawful (seen_arena (Going mover) arms cs)
seen_lawful mover [] cs e some = absurd (some refl)
seen_lawful mover (a ∷ arms) [] e some = absurd (omega arith)
seen_lawful mover (a ∷ arms) (c ∷ cs) e some = record {
  goes_on = λ p turn. going_node_has_moves (seen_arms arms cs) p turn;
  opposed = λ v side good. absurd (cc);
} where
  going_node_has_moves : (more : List (Arm Step (Option ℕ) Value)) (p : Option ℕ) (turn : Colour)
      → seen_node (Going mover) p ≡ Going turn → seen_arms_at (a ∷ arms) (c ∷ cs) p ≢ []
  going_node_has_moves more None turn e = λ h. absurd (cc)
  going_node_has_moves more (Some d) turn e = absurd (cc)

-- what is found among the elements is found among their images
before_map : {X Y : Type 0} (f : X → Y) (test : X → Bool) (seen : Y → Bool)
    → ((x : X) → seen (f x) ≡ test x) → (xs : List X) (i : ℕ) (x : X) → IsFirst test xs i x
    → (j : ℕ) (y : Y) → j < i → slice_get (map f xs) j ≡ Some y → (o : Option X)
    → slice_get xs j ≡ o → seen y ≡ false
before_map f test seen same xs i x h j y l e None n =
    absurd (let m = slice_get-map f xs j in let g : slice_get (map f xs) j ≡ None =
    rw (m, n) refl in cc)
before_map f test seen same xs i x h j y l e (Some z) n =
    let m = slice_get-map f xs j in
    let g : slice_get (map f xs) j ≡ Some (f z) = rw (m, n) refl in
    let is : y ≡ f z = cc in
    ap seen is ∙ (same z ∙ h.before j z l n)

first_map : {X Y : Type 0} (f : X → Y) (test : X → Bool) (seen : Y → Bool)
    → ((x : X) → seen (f x) ≡ test x) → (xs : List X) (i : ℕ) (x : X) → IsFirst test xs i x
    → IsFirst seen (map f xs) i (f x)
first_map {X} {Y} f test seen same xs i x h =
    let m = slice_get-map f xs i in
    let k = h.here in
    let before : (j : ℕ) (y : Y) → j < i → slice_get (map f xs) j ≡ Some y
    → seen y ≡ false = λ j y l e. before_map f test seen same xs i x h j y l e (slice_get xs j)
    refl in
    record { here = rw (m, k) refl; passes = same x ∙ h.passes; before = before }

none_map : {X Y : Type 0} (f : X → Y) (test : X → Bool) (seen : Y → Bool)
    → ((x : X) → seen (f x) ≡ test x) → (xs : List X) → ((x : X) → Contains xs x → test x ≡ false)
    → (y : Y) → Contains (map f xs) y → seen y ≡ false
none_map f test seen same xs none y h =
    let r = from_mapped f xs y h in ap seen (sym r.2) ∙ (same r.0 ∙ none r.0 r.1)

pub found_map : {X Y : Type 0} (f : X → Y) (test : ℕ → X → Bool) (seen : ℕ → Y → Bool)
    → ((c : ℕ) (x : X) → seen c (f x) ≡ test c x)
    → (won : Bool) (c : ℕ) (xs : List X) (i : ℕ) (x : X) → IsFound test won c xs i x
    → IsFound seen won c (map f xs) i (f x)
found_map f test seen same true c xs i x h =
    first_map f (test (c - 2)) (seen (c - 2)) (same (c - 2)) xs i x h
found_map f test seen same false c xs i x (inl h) =
    inl (first_map f (test 1) (seen 1) (same 1) xs i x h)
found_map f test seen same false c xs i x (inr h) =
    inr (
      none_map f (test 1) (seen 1) (same 1) xs h.0,
      first_map f (test 0) (seen 0) (same 0) xs i x
          h.1,
    )

-- the codes of a line find the ply, whoever moves
pub taken_by_codes : {M N V S R : Type 0} (player : Player M N V S R) (most : ℕ)
    → player.opponent ≡ ByCodes most → (s : S) (x : Ply M N V) → x.refused ≡ 0
    → IsChosen player.arena player.side player.entry x.mover x.from x.place x.arm
    → IsTaken player s x s
taken_by_codes {M} {N} {V} {S} {R} player most o s x r c =
    subst (λ (z : Opponent N S R). IsTakenBy player (same_colour x.mover player.side) z s x s)
    (sym o)
    (elim (same_colour x.mover player.side) as (λ b. IsTakenBy player b (ByCodes most) s x s)
    [ true ↦ (c, r, refl) | false ↦ (c, r, refl) ])

-- where the kept code is the one that the moves give, and no failure, a line has a ply here
moves_here : (side mover : Colour) (kept : ℕ) (arms : List (Arm Step ℕ Value)) (cs : List ℕ)
    → length cs ≡ length arms → kept ≡ node_code side (Going mover) (free_among arms cs) cs
    → is_failure kept ≡ false → stage (seen_player side (Going mover) arms cs kept) 0 None
    ≡ Moves mover
moves_here side mover kept arms cs many agrees stands =
    let given = local_code (seen_arena (Going mover) arms cs) side (seen_entry kept) None in
    let same : kept ≡ given = agrees ∙ sym (seen_local side (Going mover) kept arms cs many) in
    let equal : (kept == given) ≡ true = eq-eqb kept given same in
    let late = and_right (kept == 1) false refl in
    rw (equal, stands, late) refl

pub move_there : (side mover : Colour) (kept : ℕ) (arms : List (Arm Step ℕ Value)) (cs : List ℕ)
    → length cs ≡ length arms → arms ≢ []
    → kept ≡ node_code side (Going mover) (free_among arms cs) cs → is_failure kept ≡ false
    → (i : ℕ) × (x : Choice) × IsFound has_code (is_win kept) kept
    (choices_by (same_colour mover side) arms cs) i x
move_there side mover kept arms cs many some agrees stands =
    let arena = seen_arena (Going mover) arms cs in
    let player = seen_player side (Going mover) arms cs kept in
    let r = chosen_here player (seen_lawful mover arms cs many some) tt None 0 tt None mover
    (reaches_start player tt None) (moves_here side mover kept arms cs many agrees stands) in
    let f = found_map (choice_of arena side (seen_entry kept) mover)
    (is_candidate arena side (seen_entry kept) mover) has_code (λ c x. refl) (is_win kept) kept
    (seen_arms arms cs) r.0 r.1 r.2 in (
      r.0,
      choice_of arena side (seen_entry kept) mover r.1,
      subst (λ (z : List Choice). IsFound has_code (is_win kept) kept z r.0
          (choice_of arena side (seen_entry kept) mover r.1))
          (sym (seen_choices arena side mover kept arms cs)) f,
    )

pub next_code_is : (side mover : Colour) (kept : ℕ) (arms : List (Arm Step ℕ Value)) (cs : List ℕ)
    → length cs ≡ length arms → kept ≡ node_code side (Going mover) (free_among arms cs) cs
    → is_failure kept ≡ false → (i : ℕ) (y : Choice)
    → IsFound has_code (is_win kept) kept (choices_by (same_colour mover side) arms cs) i y
    → IsNextCode kept y.code
next_code_is side mover kept arms cs many agrees stands i y found =
    let arena = seen_arena (Going mover) arms cs in
    let player = seen_player side (Going mover) arms cs kept in
    let seen = choice_of arena side (seen_entry kept) mover in
    let f = subst (λ (z : List Choice). IsFound has_code (is_win kept) kept z i y)
    (seen_choices arena side mover kept arms cs) found in
    let r = choice_is_arm arena side (seen_entry kept) mover None i y f in
    let x : Ply Step (Option ℕ) Value =
    record { from = None; place = i; arm = r.0; mover = mover; refused = 0 } in
    let keeps = ply_here player tt None 0 tt tt x (reaches_start player tt None)
    (moves_here side mover kept arms cs many agrees stands)
    (taken_by_codes player LINE_LIMIT refl tt x refl r.1) in
    let here = found_at has_code (is_win kept) kept (map seen (seen_arms arms cs)) i y f in
    let m = slice_get-map seen (seen_arms arms cs) i in
    let there = keeps.there in
    let image : slice_get (map seen (seen_arms arms cs)) i ≡ Some (seen r.0) = rw (m, there) refl in
    let is : y ≡ seen r.0 = cc in
    let code : y.code ≡ arm_code arena side (seen_entry kept) r.0 = ap (λ (z : Choice). z.code)
    is in
    let by_codes = or_right (same_colour mover side) true refl in
    elim keeps.stands [
      | inl w ↦ inl (
        w,
        subst (λ c. is_win c ≡ true) (sym code) (keeps.win w).0,
        ap (λ c. c + 2) code ∙ keeps.best_win by_codes w,
      )
      | inr h ↦ inr (h, (let l = keeps.best_hold by_codes h in omega (arith, code, l)))
    ]
