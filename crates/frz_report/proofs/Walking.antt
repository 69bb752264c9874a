-- What a walk has come to behind one more number.
use Rattle.std.proofs.Common.{◌≡◌, refl, sym, ap, subst, ◌∙◌, inl, inr, ℕ, zero, suc, ◌+◌, ◌-◌, ◌<◌, ◌≤◌, List, [], ◌∷◌, ◌++◌, length, map, filter, Option, Some, None, Err, All, Bool, cond, take, get_or, add-one, append_assoc, append-nil, length-append, arith, codes}
use Rattle.std.specs.Prelude.{count_by, flat_map, decimal, true, false}
use Rattle.std.proofs.lemmas.List.{length-take-le, map-append, take_more}
use Rattle.std.proofs.lemmas.List.Elements.{filter-append}
use Rattle.std.proofs.lemmas.List.Sums.{count_by-le-length, length-filter}
use Rattle.frz_fide.specs.Legal.{after}
use Rattle.std.specs.List.{range_with_len, filter_map, cons_option}
use Rattle.std.specs.Option.{option_and_then}
use Rattle.std.proofs.lemmas.Grind.{flat_map-append}
use Rattle.std.proofs.lemmas.List.Elements.{filter_map-append, All-map, Contains-get_or}
use Rattle.frz_board.specs.declared.man.Colour.{Colour}
use Rattle.frz_board.specs.Boards.{Board}
use Rattle.frz_board.specs.Moving.{Step}
use Rattle.frz_fen.specs.Writing.{fen_text}
use Rattle.frz_fide.specs.Legal.{is_legal}
use Rattle.frz_fide.specs.Listing.{legal_moves_of}
use Rattle.frz_fide.proofs.Lemmas.{only_legal}
use Rattle.frz_sets.specs.declared.exit.Value.{Value}
use Rattle.frz_sets.specs.Views.{GroupLine, RuleLines}
use Rattle.frz_arena.specs.declared.arm.Arm.{Arm}
use Rattle.frz_arena.specs.Games.{arm_of}
use Rattle.frz_arena.specs.Names.{arms_at, named, name_in}
use Rattle.frz_index.specs.Membership.{position_at}
use Rattle.frz_game.specs.Games.{arena_by, game_of, graph_by}
use Rattle.frz_game.specs.Numbers.{numbers_by}
use Rattle.frz_store.specs.Told.{SinkTold}
use Rattle.frz_answer.specs.Answers.{IsLines}
use Rattle.frz_answer.specs.Texts.{TookText, FailedWithin}
use Rattle.frz_answer.proofs.Lemmas.{failed_before, failed_behind, took_behind, took_nothing, lines_behind}
use Rattle.frz_report.specs.declared.fault.ReportFault.{ReportFault}
use Rattle.frz_report.specs.declared.fault.ReportFault.TheVariants.{Store, Output, NoMemory}
use Rattle.frz_report.specs.Exits.{class_of, classes_after, is_open, seen_after, seen_at, seen_below, seen_on}
use Rattle.arrayvec.specs.ArrayString.{ArrayString}
use Rattle.frz_report.specs.Lines.{class_line, pair_line, squeeze_line}
use Rattle.frz_report.specs.Squeezes.{Squeeze, squeeze_at, squeeze_on, squeezes_below}
use Rattle.frz_report.specs.Walks.{TookFront, WritesSome, lettered, line_of, lines_below, one_of}

pub range_more : (a n : ℕ) → range_with_len a (suc n) ≡ range_with_len a n ++ (a + n) ∷ []
range_more a zero = ap (λ (k : ℕ). k ∷ []) (omega arith)
range_more a (suc n) =
    ap (λ (l : List ℕ). a ∷ l) (range_more (a + 1) n)
    ∙ ap (λ (k : ℕ). a ∷ (range_with_len (a + 1) n ++ k ∷ [])) (omega arith)

-- the numbers below one more
pub numbers_more : (n : ℕ) → range_with_len 0 (n + 1) ≡ range_with_len 0 n ++ n ∷ []
numbers_more n = ap (range_with_len 0) (add-one n) ∙ range_more 0 n
    ∙ ap (λ (k : ℕ). range_with_len 0 n ++ k ∷ []) (omega arith)

module _ {X : Type 0} (see : Board → X) (rules : RuleLines) (value : Board → Value) where
  -- what is seen at one more number
  pub seen_more : (n : ℕ)
      → seen_below see rules value (n + 1) ≡ seen_below see rules value n
      ++ seen_at see rules value n
  seen_more n =
      ap (flat_map (seen_at see rules value)) (numbers_more n)
      ∙ flat_map-append (seen_at see rules value) (range_with_len 0 n) (n ∷ [])
      ∙ ap (λ (l : List X). seen_below see rules value n ++ l)
      (append-nil (seen_at see rules value n))

  -- where a number has this position, its exits are those after its moves
  pub seen_there : (i : ℕ) (p : Board) → position_at rules.groups i ≡ Some p
      → seen_at see rules value i ≡ seen_after see p ((graph_by rules value).arms i)
  seen_there i p at = ap (seen_on see ((graph_by rules value).arms i)) at

  pub none_seen_there : (i : ℕ) → position_at rules.groups i ≡ None
      → seen_at see rules value i ≡ []
  none_seen_there i at = ap (seen_on see ((graph_by rules value).arms i)) at

all_legal : (p : Board) → All (λ m. is_legal p m ≡ true) (legal_moves_of p)
all_legal p = λ k d within.
    (only_legal p (get_or (legal_moves_of p) k d) (Contains-get_or (legal_moves_of p) k d within)).1

-- the moves of a number are legal at its position
pub arms_legal : (rules : RuleLines) (value : Board → Value) (i : ℕ) (p : Board)
    → position_at rules.groups i ≡ Some p
    → All (λ a. is_legal p a.mv ≡ true) ((graph_by rules value).arms i)
arms_legal rules value i p at =
    let name = name_in (numbers_by rules.groups) in
    subst (λ (o : Option Board). All (λ a. is_legal p a.mv ≡ true)
    (arms_at (arena_by rules value) name o)) (sym at)
    (All-map (λ (a : Arm Step ℕ Value). is_legal p a.mv ≡ true) (named name)
    (map (arm_of (game_of rules value) p) (legal_moves_of p))
    (All-map (λ (a : Arm Step Board Value). is_legal p a.mv ≡ true) (arm_of (game_of rules value) p)
    (legal_moves_of p) (all_legal p)))

-- the squeeze of a number that has this position
pub squeeze_there : (groups : List GroupLine) (codes : Colour → List ℕ) (i : ℕ) (p : Board)
    → position_at groups i ≡ Some p
    → squeeze_at groups codes i ≡ squeeze_on groups codes i p
squeeze_there groups codes i p at = ap (option_and_then (squeeze_on groups codes i)) at

pub no_squeeze_there : (groups : List GroupLine) (codes : Colour → List ℕ) (i : ℕ)
    → position_at groups i ≡ None → squeeze_at groups codes i ≡ None
no_squeeze_there groups codes i at = ap (option_and_then (squeeze_on groups codes i)) at

module _ (rules : RuleLines) (kept : Colour → List ℕ) where
  abbrev lines : ℕ → List ℕ
  lines n = lines_below rules kept n

  abbrev one : ℕ → Option Squeeze
  one n = squeeze_at rules.groups kept n

  more_squeezes : (n : ℕ) → squeezes_below rules.groups kept (n + 1) ≡ squeezes_below rules.groups
      kept n ++ cons_option (one n) []
  more_squeezes n =
      ap (filter_map (squeeze_at rules.groups kept)) (numbers_more n)
      ∙ filter_map-append (squeeze_at rules.groups kept) (range_with_len 0 n) (n ∷ [])

  line_here : (o : Option Squeeze) → flat_map squeeze_line (cons_option o []) ≡ line_of o
  line_here None = refl
  line_here (Some s) = append-nil (squeeze_line s)

  many_here : (o : Option Squeeze) → length (cons_option o []) ≡ one_of o
  many_here None = refl
  many_here (Some s) = refl

  -- the lines and the number of the squeezes of one more number
  pub lines_more : (n : ℕ) → lines (n + 1) ≡ lines n ++ line_of (one n)
  lines_more n =
      ap (flat_map squeeze_line) (more_squeezes n) ∙ flat_map-append squeeze_line
      (squeezes_below rules.groups kept n) (cons_option (one n) [])
      ∙ ap (λ (l : List ℕ). lines n ++ l) (line_here (one n))

  pub many_more : (n : ℕ) → length (squeezes_below rules.groups kept (n + 1)) ≡ length
      (squeezes_below rules.groups kept n) + one_of (one n)
  many_more n =
      ap length (more_squeezes n) ∙ length-append (squeezes_below rules.groups kept n)
      (cons_option (one n) [])
      ∙ ap (λ (k : ℕ). length (squeezes_below rules.groups kept n) + k) (many_here (one n))

  pub one_at_most : (o : Option Squeeze) → one_of o ≤ 1
  one_at_most None = omega arith
  one_at_most (Some s) = omega arith

  -- the lines below a number begin those below a greater one
  lines_on : (n k : ℕ) → (rest : List ℕ) × (lines n ++ rest ≡ lines (n + k))
  lines_on n zero = ([], append-nil (lines n) ∙ ap lines (omega arith))
  lines_on n (suc k) =
      let before = lines_on n k in
      let at : n + k + 1 ≡ n + suc k = omega arith in (
        before.0 ++ line_of (one (n + k)),
        sym (append_assoc (lines n) before.0 (line_of (one (n + k))))
            ∙ ap (λ (l : List ℕ). l ++ line_of (one (n + k))) before.1
            ∙ sym (lines_more (n + k)) ∙ ap lines at,
      )

  pub lines_front : (n m : ℕ) → n ≤ m → (rest : List ℕ) × (lines n ++ rest ≡ lines m)
  lines_front n m low =
      let on = lines_on n (m - n) in
      let at : n + (m - n) ≡ m = omega arith in (on.0, on.1 ∙ ap lines at)

  pair_is_line : (w b : ℕ) (p : Board) → IsLines (pair_line w b p)
  pair_is_line w b p =
      let a : List ℕ = codes "squeeze " ++ decimal w in
      let m : List ℕ = codes " " ++ decimal b in
      let f : List ℕ = codes " " ++ fen_text p in
      inr (
        a ++ (m ++ f),
        ap (λ (l : List ℕ). a ++ (m ++ l))
            (sym (append_assoc (codes " ") (fen_text p) (codes "\n")))
            ∙ ap (λ (l : List ℕ). a ++ l) (sym (append_assoc m f (codes "\n")))
            ∙ sym (append_assoc a (m ++ f) (codes "\n")),
      )

  some_line : (o : Option Squeeze) → IsLines (line_of o)
  some_line None = inl refl
  some_line (Some s) = pair_is_line s.white_to_move s.black_to_move s.position

  -- whole lines
  pub are_lines : (n : ℕ) → IsLines (lines n)
  are_lines zero = inl refl
  are_lines (suc n) =
      subst IsLines (sym (ap lines (sym (add-one n)) ∙ lines_more n))
      (lines_behind (lines n) (line_of (one n)) (are_lines n) (some_line (one n)))

  module _ (n size : ℕ) (old mid new : SinkTold) (low : n < size)
      (took : TookText (lines n) old mid) where
    abbrev left : (rest : List ℕ) × (lines (n + 1) ++ rest ≡ lines size)
    left = lines_front (n + 1) size (omega arith)

    -- one more number was looked at
    pub took_more : TookText (line_of (one n)) mid new → TookText (lines (n + 1)) old new
    took_more more = took_behind (lines n) (line_of (one n)) (lines (n + 1)) old mid new took
        (sym (lines_more n)) more

    -- the sink failed within its line
    pub failed_more : FailedWithin (line_of (one n)) mid new → FailedWithin (lines size) old new
    failed_more failed =
        failed_before (lines (n + 1)) left.0 (lines size) old new
        (failed_behind (lines n) (line_of (one n)) (lines (n + 1)) old mid new took
        (sym (lines_more n)) failed) left.1

    -- there was no memory behind a line of it
    pub front_more : TookFront (line_of (one n)) mid new → TookFront (lines size) old new
    front_more front = record {
      text = lines n ++ front.text;
      rest = front.rest ++ left.0;
      lines = lines_behind (lines n) front.text (are_lines n) front.lines;
      took = took_behind (lines n) front.text (lines n ++ front.text) old mid new took refl
          front.took;
      begins = append_assoc (lines n) front.text (front.rest ++ left.0)
          ∙ ap (λ (l : List ℕ). lines n ++ l)
          (sym (append_assoc front.text front.rest left.0) ∙ ap (λ (l : List ℕ). l ++ left.0)
          front.begins)
          ∙ sym (append_assoc (lines n) (line_of (one n)) left.0) ∙ ap (λ (l : List ℕ). l ++ left.0)
          (sym (lines_more n)) ∙ left.1;
    }

    pub stopped_more : (fault : ReportFault) (many : ℕ)
        → WritesSome (Err fault) (line_of (one n)) many mid new → (all : ℕ)
        → WritesSome (Err fault) (lines size) all old new
    stopped_more Store many h all = front_more h
    stopped_more Output many h all = failed_more h
    stopped_more NoMemory many h all = front_more h

-- nothing was written of a text
pub front_nothing : (whole : List ℕ) (out : SinkTold) → TookFront whole out out
front_nothing whole out =
    record { text = []; rest = whole; lines = inl refl; took = took_nothing out; begins = refl }

-- what is written of the lines of the classes, and those that are left
pub record HasWritten (all left : List (ArrayString × ℕ)) (old now : SinkTold) : Type 0 where
  pub text : List ℕ
  pub took : TookText text old now
  pub rest : text ++ flat_map class_line (lettered left) ≡ flat_map class_line (lettered all)

pub none_written : (all : List (ArrayString × ℕ)) (out : SinkTold) → HasWritten all all out out
none_written all out = record { text = []; took = took_nothing out; rest = refl }

module _ (all left next : List (ArrayString × ℕ)) (e : ArrayString × ℕ) (old mid new : SinkTold)
    (is : left ≡ e ∷ next) (so_far : HasWritten all left old mid) where
  abbrev this : List ℕ
  this = class_line (e.0.bytes, e.1)

  behind_this : (so_far.text ++ this) ++ flat_map class_line (lettered next) ≡ flat_map class_line
      (lettered all)
  behind_this =
      append_assoc so_far.text this (flat_map class_line (lettered next))
      ∙ ap (λ (l : List (ArrayString × ℕ)). so_far.text ++ flat_map class_line (lettered l))
      (sym is) ∙ so_far.rest

  pub more_written : TookText this mid new → HasWritten all next old new
  more_written took = record {
    text = so_far.text ++ this;
    took = took_behind so_far.text this (so_far.text ++ this) old mid new so_far.took refl took;
    rest = behind_this;
  }

  pub cut_written : FailedWithin this mid new
      → FailedWithin (flat_map class_line (lettered all)) old new
  cut_written failed =
      failed_before (so_far.text ++ this) (flat_map class_line (lettered next))
      (flat_map class_line (lettered all)) old new
      (failed_behind so_far.text this (so_far.text ++ this) old mid new so_far.took refl failed)
      behind_this

pub all_classes : (all over : List (ArrayString × ℕ)) (old now : SinkTold) → over ≡ []
    → HasWritten all over old now → TookText (flat_map class_line (lettered all)) old now
all_classes all over old now none so_far =
    subst (λ (l : List ℕ). TookText l old now)
    (sym (append-nil so_far.text)
    ∙ ap (λ (l : List (ArrayString × ℕ)). so_far.text ++ flat_map class_line (lettered l))
    (sym none) ∙ so_far.rest) so_far.took

-- what is seen after some moves, and after more of them
module _ {X : Type 0} (see : Board → X) (p : Board) where
  seen_append : (arms more : List (Arm Step ℕ Value))
      → seen_after see p (arms ++ more) ≡ seen_after see p arms ++ seen_after see p more
  seen_append arms more =
      ap (map (λ (a : Arm Step ℕ Value). see (after p a.mv)))
      (filter-append (λ (a : Arm Step ℕ Value). is_open a.next) arms more)
      ∙ map-append (λ (a : Arm Step ℕ Value). see (after p a.mv))
      (filter (λ (a : Arm Step ℕ Value). is_open a.next) arms)
      (filter (λ (a : Arm Step ℕ Value). is_open a.next) more)

  pub seen_step : (arms : List (Arm Step ℕ Value)) (i : ℕ) (a : Arm Step ℕ Value)
      → i < length arms → a ≡ get_or arms i a
      → seen_after see p (take (i + 1) arms) ≡ seen_after see p (take i arms) ++ seen_after see p
      (a ∷ [])
  seen_step arms i a within is =
      ap (seen_after see p) (take_more arms i a within)
      ∙ seen_append (take i arms) (get_or arms i a ∷ [])
      ∙ ap (λ (x : Arm Step ℕ Value). seen_after see p (take i arms) ++ seen_after see p (x ∷ []))
      (sym is)

many_mapped : {A B : Type 0} (f : A → B) (xs : List A) → length (map f xs) ≡ length xs
many_mapped f [] = refl
many_mapped f (x ∷ xs) = ap suc (many_mapped f xs)

pub few_classes : (p : Board) (arms : List (Arm Step ℕ Value))
    → length (classes_after p arms) ≤ length arms
few_classes p arms =
    let mapped : length (classes_after p arms) ≡ length
    (filter (λ (a : Arm Step ℕ Value). is_open a.next) arms) =
    many_mapped (λ (a : Arm Step ℕ Value). class_of (after p a.mv))
    (filter (λ (a : Arm Step ℕ Value). is_open a.next) arms) in
    let kept : length (filter (λ (a : Arm Step ℕ Value). is_open a.next) arms) ≡ count_by
    (λ (a : Arm Step ℕ Value). is_open a.next) arms =
    length-filter (λ (a : Arm Step ℕ Value). is_open a.next) arms in
    let few : count_by (λ (a : Arm Step ℕ Value). is_open a.next) arms ≤ length arms =
    count_by-le-length (λ (a : Arm Step ℕ Value). is_open a.next) arms in
    omega arith

-- of the first moves there are at most as many
pub few_front : (p : Board) (arms : List (Arm Step ℕ Value)) (i : ℕ) → i ≤ length arms
    → length (classes_after p (take i arms)) ≤ length arms
few_front p arms i within =
    let few = few_classes p (take i arms) in
    let front : length (take i arms) ≡ i = length-take-le i arms within in
    omega arith

-- a move that is no open exit, and one that is
pub closed_none : {X : Type 0} (see : Board → X) (p : Board) (a : Arm Step ℕ Value)
    → is_open a.next ≡ false → seen_after see p (a ∷ []) ≡ []
closed_none see p a e = ap
    (λ (b : Bool). map (λ (a : Arm Step ℕ Value). see (after p a.mv)) (cond b (a ∷ []) [])) e

pub open_one : {X : Type 0} (see : Board → X) (p : Board) (a : Arm Step ℕ Value)
    → is_open a.next ≡ true → seen_after see p (a ∷ []) ≡ see (after p a.mv) ∷ []
open_one see p a e = ap (λ (b : Bool). map (λ (a : Arm Step ℕ Value). see (after p a.mv))
    (cond b (a ∷ []) [])) e
