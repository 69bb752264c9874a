-- What the rows of a hold say in chess.
use Rattle.std.proofs.Common.{◌≡◌, ◌⊎◌, ℕ, suc, ◌+◌, ◌<◌, not, Bool, true, false, cond, List, [], ◌∷◌, Option, None, Some, map, inl, inr, refl, sym, ap, subst, ◌∙◌, take, slice_index, arith}
use Rattle.std.specs.Prelude.{filter, find, is_none, take_while, option_and_then, option_map}
use Rattle.std.specs.List.{Contains, prefix_len}
use Rattle.std.proofs.lemmas.Bool.{eq-eqb}
use Rattle.frz_board.specs.declared.man.Colour.{Colour}
use Rattle.frz_board.specs.declared.man.Colour.TheVariants.{White, Black}
use Rattle.frz_board.specs.Boards.{Board}
use Rattle.frz_board.specs.Men.{other_of}
use Rattle.frz_board.specs.Moving.{Step}
use Rattle.frz_board.specs.Attacks.{is_in_check}
use Rattle.frz_fide.specs.Legal.{after}
use Rattle.frz_fide.specs.Listing.{legal_moves_of}
use Rattle.frz_sets.specs.declared.exit.Value.{Value}
use Rattle.frz_sets.specs.Views.{RuleLines}
use Rattle.frz_sets.specs.Sets.{size_of}
use Rattle.frz_index.proofs.Lemmas.{Num_below, member_of, number_there, position_of, position_tells}
use Rattle.frz_arena.specs.declared.arm.Arm.{Arm}
use Rattle.frz_arena.specs.declared.arm.Next.{Next}
use Rattle.frz_arena.specs.declared.arm.Next.TheVariants.{Inside, Outside}
use Rattle.frz_arena.specs.declared.node.Node.TheVariants.{Stalemate, Going}
use Rattle.frz_arena.specs.Arena.{Arena}
use Rattle.frz_arena.specs.Codes.{is_win}
use Rattle.frz_arena.specs.Games as games
use Rattle.frz_arena.specs.Names.{name_by, name_in, named_next, node_at}
use Rattle.frz_arena.proofs.Lemmas.{first_in, from_mapped, in_cases, later_in, none_in_empty}
use Rattle.frz_exits.specs.Forbidding.{is_free}
use Rattle.frz_graph.specs.EntryCodes.{arm_code}
use Rattle.frz_game.specs.Bounds.{IsTableOf}
use Rattle.frz_game.specs.Games.{arena_by, arm_at, graph_by}
use Rattle.frz_game.specs.Numbers.{is_member, numbers_by, position_at}
use Rattle.frz_game.specs.declared.wrong.Wrong.{Wrong as WrongEntry}
use Rattle.frz_game.proofs.Lemmas.{arms_there, table_exact}
use Rattle.frz_reasons.specs.declared.denial.Denial.{Denial}
use Rattle.frz_reasons.specs.Denials.{DeniesWin, first_denying, first_wrong, is_denied, leads_right, other_denial, own_denial, reply_to, wrong_behind, wrong_entry, wrong, own, other, stalemate}
use Rattle.frz_reasons.specs.LocalEntries.{Agrees, given_at}
use Rattle.frz_commands_why.specs.Denying.{AreDenials, denying_moves, wins_behind}

abbrev Arms : Type 0
Arms = List (Arm Step ℕ Value)

-- of lists: what passes no test or each
take_next : {A : Type 0} (x : A) (xs : List A) (n : ℕ) → take (1 + n) (x ∷ xs) ≡ x ∷ take n xs
take_next x xs n = let more : 1 + n ≡ suc n = omega arith in ap (λ k. take k (x ∷ xs)) more

none_failing_all_taken : {A : Type 0} (p : A → Bool) (xs : List A)
    → find (λ x. not (p x)) xs ≡ None →
    take_while p xs ≡ xs
none_failing_all_taken p [] e = refl
none_failing_all_taken p (x ∷ xs) e = by_test (p x) refl e (none_failing_all_taken p xs)
  where
    by_test : (b : Bool) → p x ≡ b → cond (not b) (Some x) (find (λ y. not (p y)) xs) ≡ None →
        (find (λ y. not (p y)) xs ≡ None → take_while p xs ≡ xs) →
        take_while p (x ∷ xs) ≡ x ∷ xs
    by_test false t h more = absurd cc
    by_test true t h more =
        rw t (take_next x xs (prefix_len p xs) ∙ ap (λ (l : List _). x ∷ l) (more h))

found_in : {A : Type 0} (p : A → Bool) (xs : List A) (x : A) → find p xs ≡ Some x →
    Contains xs x × (p x ≡ true)
found_in p [] x e = absurd cc
found_in p (y ∷ xs) x e = by_test (p y) refl e (found_in p xs x)
  where
    by_test : (b : Bool) → p y ≡ b → cond b (Some y) (find p xs) ≡ Some x →
        (find p xs ≡ Some x → Contains xs x × (p x ≡ true)) →
        Contains (y ∷ xs) x × (p x ≡ true)
    by_test true t h more =
        let same : y ≡ x = cc in
        subst (λ z. Contains (y ∷ xs) z × (p z ≡ true)) same (first_in y xs, t)
    by_test false t h more = let k = more h in (later_in y xs x k.0, k.1)

filtered_in : {A : Type 0} (p : A → Bool) (xs : List A) (x : A) → Contains (filter p xs) x →
    Contains xs x
filtered_in p [] x h = h
filtered_in p (y ∷ xs) x h = by_test (p y) refl (filtered_in p xs x)
  where
    by_test : (b : Bool) → p y ≡ b → (Contains (filter p xs) x → Contains xs x) →
        Contains (y ∷ xs) x
    by_test true t more =
        elim (in_cases y (filter p xs) x (subst (λ (b : Bool).
        Contains (cond b (y ∷ filter p xs) (filter p xs)) x) t h)) [
          | inl e ↦ subst (λ z. Contains (y ∷ xs) z) e (first_in y xs)
          | inr k ↦ later_in y xs x (more k)
        ]
    by_test false t more =
        later_in y xs x (more (subst (λ (b : Bool).
        Contains (cond b (y ∷ filter p xs) (filter p xs)) x) t h))

-- the moves of those arms that pass a test are the moves whose arms pass it
moves_passing : (rules : RuleLines) (value : Board → Value) (p : Board)
    (test : Arm Step ℕ Value → Bool) (ms : List Step) →
    map (λ a. a.mv) (filter test (map (arm_at rules value p) ms))
    ≡ filter (λ m. test (arm_at rules value p m)) ms
unfolding arm_at
moves_passing rules value p test [] = refl
moves_passing rules value p test (m ∷ ms) =
    by_test (test (arm_at rules value p m)) refl (moves_passing rules value p test ms)
  where
    by_test : (b : Bool) → test (arm_at rules value p m) ≡ b →
        map (λ a. a.mv) (filter test (map (arm_at rules value p) ms))
        ≡ filter (λ n. test (arm_at rules value p n)) ms →
        map (λ a. a.mv) (filter test (map (arm_at rules value p) (m ∷ ms)))
        ≡ filter (λ n. test (arm_at rules value p n)) (m ∷ ms)
    by_test true t e = rw t (ap (λ (l : List Step). m ∷ l) e)
    by_test false t e = rw t e

-- what a number of a position is
node_by_move : (ms : List Step) (check inside : Bool) (turn mover : Colour) →
    games.node_by inside ms check turn ≡ Going mover → turn ≡ mover
node_by_move ms check false turn mover e = absurd cc
node_by_move (m ∷ ms) check true turn mover e = cc
node_by_move [] true true turn mover e = absurd cc
node_by_move [] false true turn mover e = absurd cc

no_move_there : (ms : List Step) (check inside : Bool) (turn mover : Colour) →
    games.node_by inside ms check turn ≡ Stalemate mover → ms ≡ []
no_move_there ms check false turn mover e = absurd cc
no_move_there (m ∷ ms) check true turn mover e = absurd cc
no_move_there [] check true turn mover e = refl

sides_differ : (side : Colour) → side ≡ other_of side → ⊥
sides_differ White e = cc
sides_differ Black e = cc

module _ (rules : RuleLines) (value : Board → Value) (side : Colour) (codes : List ℕ)
    (number : ℕ) (p : Board) (at : position_at rules.groups number ≡ Some p) where
  node_at_it : (graph_by rules value).node number
      ≡ games.node_by (is_member rules.groups p) (legal_moves_of p) (is_in_check p p.turn) p.turn
  node_at_it = ap (node_at (arena_by rules value)) at

  mover_is : (mover : Colour) → (graph_by rules value).node number ≡ Going mover → p.turn ≡ mover
  mover_is mover n =
      node_by_move (legal_moves_of p) (is_in_check p p.turn) (is_member rules.groups p) p.turn mover
      (sym node_at_it ∙ n)

  arms_are : (graph_by rules value).arms number ≡ map (arm_at rules value p) (legal_moves_of p)
  arms_are = arms_there rules value number p at

-- the arm of a move that stays in the set leads to the number of the position behind it
stays_at : (rules : RuleLines) (value : Board → Value) (p : Board) (m : Step) (next : ℕ) →
    (arm_at rules value p m).next ≡ Inside next →
    position_at rules.groups next ≡ Some (after p m)
unfolding arm_at
stays_at rules value p m next e = by_member (after p m) (is_member rules.groups (after p m)) refl e
  where
    by_member : (q : Board) (b : Bool) → is_member rules.groups q ≡ b →
        named_next (name_in (numbers_by rules.groups)) (games.next_by b q (value q))
        ≡ Inside next → position_at rules.groups next ≡ Some q
    by_member q true t f =
        let name : name_in (numbers_by rules.groups) q ≡ next = cc in
        let is = ap (name_by (size_of rules.groups)) (number_there rules.groups q t) in
        position_of rules.groups next q
        (record { member = member_of rules.groups q t; number = sym is ∙ name })
    by_member q false t f = absurd cc

-- that of one that leads to a value leaves it
leaves_at : (rules : RuleLines) (value : Board → Value) (p : Board) (m : Step) (v : Value) →
    (arm_at rules value p m).next ≡ Outside v → is_member rules.groups (after p m) ≡ false
unfolding arm_at
leaves_at rules value p m v e = by_member (after p m) (is_member rules.groups (after p m)) refl e
  where
    by_member : (q : Board) (b : Bool) → is_member rules.groups q ≡ b →
        named_next (name_in (numbers_by rules.groups)) (games.next_by b q (value q))
        ≡ Outside v → is_member rules.groups q ≡ false
    by_member q true t f = absurd cc
    by_member q false t f = t

arm_move : (rules : RuleLines) (value : Board → Value) (p : Board) (m : Step) →
    (arm_at rules value p m).mv ≡ m
unfolding arm_at
arm_move rules value p m = refl

arm_free : (rules : RuleLines) (value : Board → Value) (p : Board) (m : Step) →
    (arm_at rules value p m).free ≡ is_free rules p.turn p m
unfolding arm_at
arm_free rules value p m = refl

not_true_is_false : (b : Bool) → not b ≡ true → b ≡ false
not_true_is_false true e = absurd cc
not_true_is_false false e = refl

filter_same : {A : Type 0} (f g : A → Bool) → ((x : A) → f x ≡ g x) → (xs : List A) →
    filter f xs ≡ filter g xs
filter_same f g same [] = refl
filter_same f g same (x ∷ xs) =
    ap (λ (b : Bool). cond b (x ∷ filter f xs) (filter f xs)) (same x)
    ∙ ap (λ l. cond (g x) (x ∷ l) l) (filter_same f g same xs)

module _ (rules : RuleLines) (value : Board → Value) (side : Colour) (codes : List ℕ) where
  abbrev graph : Arena Step ℕ Value
  graph = graph_by rules value

  abbrev Denies : Board → Step → Type 0
  Denies q reply =
      Contains (legal_moves_of q) reply × (wins_behind rules value side codes q reply ≡ false)

  -- a reply that is found is legal, and leaves the side no win
  denies_so : (q : Board) (number : ℕ) → position_at rules.groups number ≡ Some q →
      (reply : Step) → first_denying side codes (graph.arms number) ≡ Some reply → Denies q reply
  denies_so q number at reply e =
      by_found (find (is_denied side codes) (map (arm_at rules value q) (legal_moves_of q))) refl
      (ap (first_denying side codes) (sym (arms_there rules value number q at)) ∙ e)
    where
      by_found : (o : Option (Arm Step ℕ Value)) →
          find (is_denied side codes) (map (arm_at rules value q) (legal_moves_of q)) ≡ o →
          first_denying side codes (map (arm_at rules value q) (legal_moves_of q))
          ≡ Some reply → Denies q reply
      by_found None f is = absurd (let no : ◌≡◌ {A = Option Step} None (Some reply) =
          sym (ap (option_map (λ b. b.mv)) f) ∙ is in cc)
      by_found (Some b) f is =
          let found = found_in (is_denied side codes)
          (map (arm_at rules value q) (legal_moves_of q)) b f in
          let m = from_mapped (arm_at rules value q) (legal_moves_of q) b found.0 in
          let some : ◌≡◌ {A = Option Step} (Some b.mv) (Some reply) =
          sym (ap (option_map (λ (x : Arm Step ℕ Value). x.mv)) f) ∙ is in
          let moved : b.mv ≡ reply = cc in
          let same : m.0 ≡ reply =
          sym (arm_move rules value q m.0) ∙ ap (λ (x : Arm Step ℕ Value). x.mv) m.2 ∙ moved in (
            subst (λ (x : Step). Contains (legal_moves_of q) x) same m.1,
            ap (λ (x : Step). wins_behind rules value side codes q x) (sym same)
                ∙ ap (λ (x : Arm Step ℕ Value). is_win (arm_code side codes x)) m.2
                ∙ not_true_is_false (is_win (arm_code side codes b)) found.1,
          )

  -- where none is found, no legal reply leaves the side no win
  none_denying : (q : Board) (ms : List Step) →
      find (is_denied side codes) (map (arm_at rules value q) ms) ≡ None →
      filter (λ m. not (wins_behind rules value side codes q m)) ms ≡ []
  none_denying q [] e = refl
  none_denying q (m ∷ ms) e =
      by_test (is_denied side codes (arm_at rules value q m)) refl e (none_denying q ms)
    where
      by_test : (b : Bool) → is_denied side codes (arm_at rules value q m) ≡ b →
          cond b (Some (arm_at rules value q m))
          (find (is_denied side codes) (map (arm_at rules value q) ms)) ≡ None →
          (find (is_denied side codes) (map (arm_at rules value q) ms) ≡ None →
          filter (λ n. not (wins_behind rules value side codes q n)) ms ≡ []) →
          filter (λ n. not (wins_behind rules value side codes q n)) (m ∷ ms) ≡ []
      by_test true t h more = absurd cc
      by_test false t h more = rw t (more h)

  abbrev Unanswered : Board → Type 0
  Unanswered q =
      (is_member rules.groups q ≡ false) ⊎ (denying_moves rules value side codes q ≡ [])

  none_denies : (q : Board) (number : ℕ) → position_at rules.groups number ≡ Some q →
      first_denying side codes (graph.arms number) ≡ None → Unanswered q
  none_denies q number at e =
      by_found (find (is_denied side codes) (map (arm_at rules value q) (legal_moves_of q))) refl
      (ap (first_denying side codes) (sym (arms_there rules value number q at)) ∙ e)
    where
      by_found : (o : Option (Arm Step ℕ Value)) →
          find (is_denied side codes) (map (arm_at rules value q) (legal_moves_of q)) ≡ o →
          first_denying side codes (map (arm_at rules value q) (legal_moves_of q)) ≡ None →
          Unanswered q
      by_found None f is = inr (none_denying q (legal_moves_of q) f)
      by_found (Some b) f is = absurd (let no : ◌≡◌ {A = Option Step} (Some b.mv) None =
          sym (ap (option_map (λ (x : Arm Step ℕ Value). x.mv)) f) ∙ is in cc)

  no_reply : (p : Board) (m : Step) →
      (own_denial graph side codes (arm_at rules value p m)).reply ≡ None →
      Unanswered (after p m)
  no_reply p m e = by_next (arm_at rules value p m).next refl e
    where
      by_next : (next : Next ℕ Value) → (arm_at rules value p m).next ≡ next →
          reply_to graph side codes (arm_at rules value p m).next ≡ None →
          Unanswered (after p m)
      by_next (Outside v) n f = inl (leaves_at rules value p m v n)
      by_next (Inside number) n f =
          none_denies (after p m) number (stays_at rules value p m number n)
          (sym (ap (reply_to graph side codes) n) ∙ f)

  row_of : (p : Board) (m : Step) (reply : Step) →
      (own_denial graph side codes (arm_at rules value p m)).reply ≡ Some reply →
      Denies (after p m) reply
  row_of p m reply e = by_next (arm_at rules value p m).next refl e
    where
      by_next : (next : Next ℕ Value) → (arm_at rules value p m).next ≡ next →
          reply_to graph side codes (arm_at rules value p m).next ≡ Some reply →
          Denies (after p m) reply
      by_next (Outside v) n f =
          absurd (let no : ◌≡◌ {A = Option Step} None (Some reply) =
          sym (ap (reply_to graph side codes) n) ∙ f in cc)
      by_next (Inside number) n f =
          denies_so (after p m) number (stays_at rules value p m number n) reply
          (sym (ap (reply_to graph side codes) n) ∙ f)

  -- no wrong entry was found
  none_wrong_found : (xs : Arms) → first_wrong graph side codes xs ≡ None →
      find (λ a. not (leads_right graph side codes a)) xs ≡ None
  none_wrong_found xs e = by_found (find (λ a. not (leads_right graph side codes a)) xs) refl
    where
      by_found : (o : Option (Arm Step ℕ Value)) →
          find (λ a. not (leads_right graph side codes a)) xs ≡ o → o ≡ None
      by_found None f = refl
      by_found (Some a) f =
          let found = found_in (λ x. not (leads_right graph side codes x)) xs a f in
          let none : wrong_behind graph side codes a.next ≡ None =
          sym (ap (option_and_then (λ (x : Arm Step ℕ Value).
          wrong_behind graph side codes x.next)) f) ∙ e in
          let right : leads_right graph side codes a ≡ true =
          ap (is_none {T = WrongEntry}) none in
          absurd (let no : true ≡ false = sym right
          ∙ not_true_is_false (leads_right graph side codes a) found.1 in cc)

  own_moves : (xs : Arms) → map (λ d. d.mv) (map (own_denial graph side codes) xs)
      ≡ map (λ a. a.mv) xs
  own_moves [] = refl
  own_moves (a ∷ xs) = ap (λ (l : List Step). a.mv ∷ l) (own_moves xs)

  other_moves : (xs : Arms) → map (λ d. d.mv) (map other_denial xs) ≡ map (λ a. a.mv) xs
  other_moves [] = refl
  other_moves (a ∷ xs) = ap (λ (l : List Step). a.mv ∷ l) (other_moves xs)

  abbrev Rows : Board → List Denial → Type 0
  Rows p denials = (d : Denial) → Contains denials d → (reply : Step) → d.reply ≡ Some reply →
      Denies (after p d.mv) reply

  -- the rows of moves of the position
  own_rows : (p : Board) (xs : Arms) → ((a : Arm Step ℕ Value) → Contains xs a →
      Contains (map (arm_at rules value p) (legal_moves_of p)) a) →
      Rows p (map (own_denial graph side codes) xs)
  own_rows p xs within d h reply e =
      let a = from_mapped (own_denial graph side codes) xs d h in
      let m = from_mapped (arm_at rules value p) (legal_moves_of p) a.0 (within a.0 a.1) in
      let is : own_denial graph side codes (arm_at rules value p m.0) ≡ d =
      ap (own_denial graph side codes) m.2 ∙ a.2 in
      let moved : m.0 ≡ d.mv =
      sym (arm_move rules value p m.0) ∙ ap (λ (x : Denial). x.mv) is in
      subst (λ (x : Step). Denies (after p x) reply) moved
      (row_of p m.0 reply (ap (λ (x : Denial). x.reply) is ∙ e))

  own_unanswered : (p : Board) (xs : Arms) → ((a : Arm Step ℕ Value) → Contains xs a →
      Contains (map (arm_at rules value p) (legal_moves_of p)) a) →
      (d : Denial) → Contains (map (own_denial graph side codes) xs) d → d.reply ≡ None →
      Unanswered (after p d.mv)
  own_unanswered p xs within d h e =
      let a = from_mapped (own_denial graph side codes) xs d h in
      let m = from_mapped (arm_at rules value p) (legal_moves_of p) a.0 (within a.0 a.1) in
      let is : own_denial graph side codes (arm_at rules value p m.0) ≡ d =
      ap (own_denial graph side codes) m.2 ∙ a.2 in
      let moved : m.0 ≡ d.mv =
      sym (arm_move rules value p m.0) ∙ ap (λ (x : Denial). x.mv) is in
      subst (λ (x : Step). Unanswered (after p x)) moved
      (no_reply p m.0 (ap (λ (x : Denial). x.reply) is ∙ e))

  other_rows : (p : Board) (xs : Arms) → Rows p (map other_denial xs)
  other_rows p xs d h reply e =
      let a = from_mapped other_denial xs d h in
      absurd (let no : ◌≡◌ {A = Option Step} None (Some reply) =
      ap (λ (x : Denial). x.reply) a.2 ∙ e in cc)

  module _ (number : ℕ) (p : Board) (at : position_at rules.groups number ≡ Some p) where
    abbrev moves : List Step
    moves = legal_moves_of p

    filtered_arms_give_moves : (test : Arm Step ℕ Value → Bool) →
        map (λ a. a.mv) (filter test (graph.arms number))
        ≡ filter (λ m. test (arm_at rules value p m)) moves
    filtered_arms_give_moves test =
        ap (λ (l : Arms). map (λ a. a.mv) (filter test l)) (arms_there rules value number p at)
        ∙ moves_passing rules value p test moves

    free_moves : p.turn ≡ side → filter (λ m. (arm_at rules value p m).free) moves
        ≡ filter (is_free rules side p) moves
    free_moves turn =
        filter_same (λ m. (arm_at rules value p m).free) (is_free rules side p)
        (λ m. arm_free rules value p m ∙ ap (λ (c : Colour). is_free rules c p m) turn) moves

    within_arms : (a : Arm Step ℕ Value) → Contains (filter (λ x. x.free) (graph.arms number)) a →
        Contains (map (arm_at rules value p) moves) a
    within_arms a h =
        subst (λ (l : Arms). Contains l a) (arms_there rules value number p at)
        (filtered_in (λ x. x.free) (graph.arms number) a h)

    pub denials_are : (denials : List Denial) (w : Option WrongEntry) →
        DeniesWin graph side codes number denials w → w ≡ None →
        AreDenials rules value side codes p denials
    denials_are denials w (wrong differs) none = absurd cc
    denials_are denials w (own agrees going) none =
        let xs = filter (λ (a : Arm Step ℕ Value). a.free) (graph.arms number) in
        let all : take_while (leads_right graph side codes) xs ≡ xs =
        none_failing_all_taken (leads_right graph side codes) xs (none_wrong_found xs none) in
        let turn = mover_is rules value side codes number p at side going in
        subst (λ (l : Arms). AreDenials rules value side codes p
        (map (own_denial graph side codes) l)) (sym all) (record {
          own = λ _. own_moves xs ∙ filtered_arms_give_moves (λ a. a.free) ∙ free_moves turn;
          replies = own_rows p xs within_arms;
          unanswered = λ mine. own_unanswered p xs within_arms;
          other = λ theirs. absurd (sides_differ side (sym turn ∙ theirs));
        })
    denials_are denials w (other agrees going) none =
        let turn = mover_is rules value side codes number p at (other_of side) going in
        record {
          own = λ mine. absurd (sides_differ side (sym mine ∙ turn));
          replies = other_rows p (filter (is_denied side codes) (graph.arms number));
          unanswered = λ mine. absurd (sides_differ side (sym mine ∙ turn));
          other = λ _. other_moves (filter (is_denied side codes) (graph.arms number))
              ∙ filtered_arms_give_moves (is_denied side codes);
        }
    denials_are denials w (stalemate agrees mover over) none =
        let nothing = no_move_there moves (is_in_check p p.turn) (is_member rules.groups p) p.turn
        mover (sym (node_at_it rules value side codes number p at) ∙ over) in
        record {
          own = λ _. ap (filter (is_free rules side p)) (sym nothing);
          replies = λ d h reply e. absurd (none_in_empty d h);
          unanswered = λ mine d h e. absurd (none_in_empty d h);
          other = λ _. ap (filter (λ m. not (wins_behind rules value side codes p m)))
              (sym nothing);
        }

    -- by the exact table no entry is wrong
    module _ (exact : IsTableOf rules value side codes) where
      agrees_at : (k : ℕ) (q : Board) → position_at rules.groups k ≡ Some q →
          Agrees graph side codes k
      agrees_at k q there =
          let h = position_tells rules.groups k q there in
          (table_exact rules value side codes exact).local k
          (subst (λ n. n < size_of rules.groups) h.number (Num_below rules.groups q h.member))

      right_behind : (m : Step) → wrong_behind graph side codes (arm_at rules value p m).next ≡ None
      right_behind m = by_next (arm_at rules value p m).next refl
        where
          by_next : (next : Next ℕ Value) → (arm_at rules value p m).next ≡ next →
              wrong_behind graph side codes next ≡ None
          by_next (Outside v) n = refl
          by_next (Inside k) n =
              ap (wrong_entry graph side codes k)
              (eq-eqb (slice_index codes k) (given_at graph side codes k)
              (agrees_at k (after p m) (stays_at rules value p m k n)))

      pub never_wrong : (denials : List Denial) (w : Option WrongEntry) →
          DeniesWin graph side codes number denials w → w ≡ None
      never_wrong denials w (wrong differs) = absurd (differs (agrees_at number p at))
      never_wrong denials w (own agrees going) =
          by_found (find (λ a. not (leads_right graph side codes a))
          (filter (λ a. a.free) (graph.arms number))) refl
        where
          by_found : (o : Option (Arm Step ℕ Value)) →
              find (λ a. not (leads_right graph side codes a))
              (filter (λ a. a.free) (graph.arms number)) ≡ o →
              first_wrong graph side codes (filter (λ a. a.free) (graph.arms number)) ≡ None
          by_found None f =
              ap (option_and_then (λ (x : Arm Step ℕ Value).
              wrong_behind graph side codes x.next)) f
          by_found (Some a) f =
              let found = found_in (λ x. not (leads_right graph side codes x))
              (filter (λ x. x.free) (graph.arms number)) a f in
              let m = from_mapped (arm_at rules value p) moves a (within_arms a found.0) in
              let right : wrong_behind graph side codes a.next ≡ None =
              ap (λ (x : Arm Step ℕ Value). wrong_behind graph side codes x.next) (sym m.2)
              ∙ right_behind m.0 in
              ap (option_and_then (λ (x : Arm Step ℕ Value).
              wrong_behind graph side codes x.next)) f ∙ right
      never_wrong denials w (other agrees going) = refl
      never_wrong denials w (stalemate agrees mover over) = refl

pub none_wrong : (rules : RuleLines) (value : Board → Value) (side : Colour) (codes : List ℕ)
    (number : ℕ) (p : Board) → position_at rules.groups number ≡ Some p →
    IsTableOf rules value side codes → (denials : List Denial) (w : WrongEntry) →
    DeniesWin (graph_by rules value) side codes number denials (Some w) → ⊥
none_wrong rules value side codes number p at exact denials w denied =
    let e = never_wrong rules value side codes number p at exact denials (Some w) denied in cc
