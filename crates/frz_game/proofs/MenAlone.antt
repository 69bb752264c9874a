-- What the men alone show.
use Rattle.std.proofs.Common.{◌≡◌, refl, sym, subst, ap, ◌∙◌}
use Rattle.std.specs.List.{Contains}
use Rattle.frz_board.specs.declared.man.Colour.{Colour}
use Rattle.frz_board.specs.declared.man.Colour.TheVariants.{White, Black}
use Rattle.frz_board.specs.Boards.{Board}
use Rattle.frz_board.specs.Men.{other_of}
use Rattle.frz_board.specs.Moving.{Step}
use Rattle.frz_board.proofs.Lemmas.{other_other}
use Rattle.frz_fide.specs.Bare.{IsBare, HasOneMinor}
use Rattle.frz_fide.specs.Legal.{after}
use Rattle.frz_fide.specs.Listing.{legal_moves_of}
use Rattle.frz_fide.specs.Valid.{IsValid}
use Rattle.frz_fide.proofs.Lemmas.{valid_after, only_legal, no_bare_check, stays_bare, stays_minor, no_minor_mate}
use Rattle.frz_index.proofs.Lemmas.{member_of}
use Rattle.frz_sets.specs.declared.exit.Value.{Value}
use Rattle.frz_sets.specs.declared.exit.Value.TheVariants.{WhiteWins, BlackWins, Draw, WhiteHolds, BlackHolds, Unknown, WhiteWinsIn, BlackWinsIn}
use Rattle.frz_sets.specs.Views.{RuleLines}
use Rattle.frz_arena.specs.declared.class.Class.TheVariants.{Safe}
use Rattle.frz_arena.specs.Chess.{NeverForcesMate}
use Rattle.frz_arena.specs.Exits.{IsExit}
use Rattle.frz_arena.proofs.Lemmas.{never_by}
use Rattle.frz_graph.specs.Values.{class_of}
use Rattle.frz_game.specs.Games.{chess, game_of}
use Rattle.frz_game.specs.MenAlone.{HasDeadMen, IsTrueByMen, AreTrueByMen}
use Rattle.frz_game.specs.Values.{IsTrueValue, AreTrueExits}

-- a listed move leads from a valid position to a valid one
pub valid_next : (p : Board) (m : Step) → IsValid p → Contains (legal_moves_of p) m →
    IsValid (after p m)
valid_next p m v i = let l = only_legal p m i in valid_after p m v l.0.to l.1

-- an exit is a valid position
pub exit_valid : (rules : RuleLines) (value : Board → Value) (q : Board) →
    IsExit (game_of rules value) q → IsValid q
exit_valid rules value q x =
    subst IsValid x.ends
    (valid_next x.from x.move (member_of rules.groups x.from x.begins).valid x.legal)

-- a bare king never forces mate
pub bare_never : (p : Board) (c : Colour) → IsValid p → IsBare p c → NeverForcesMate chess c p
bare_never p c v bare =
    never_by chess c (λ q. IsValid q × IsBare q c)
    (λ q m h i. (let l = only_legal q m i in
    (valid_after q m h.0 l.0.to l.1, stays_bare q m c h.0 l.0 l.1 h.1)))
    (λ q h mate. (
    let turned : c ≡ other_of q.turn = sym (ap other_of mate.to_move ∙ other_other c) in
    let safe = no_bare_check q h.0 (subst (λ (d : Colour). IsBare q d) turned h.1) in
    let attacked = mate.attacked in cc))
    p (v, bare)

-- nor does a king with one bishop or knight against a bare king
pub minor_never : (p : Board) (c : Colour) → IsValid p → HasOneMinor p c →
    IsBare p (other_of c) → NeverForcesMate chess c p
minor_never p c v minor bare =
    never_by chess c (λ q. IsValid q × HasOneMinor q c × IsBare q (other_of c))
    (λ q m h i. (let l = only_legal q m i in (
      valid_after q m h.0 l.0.to l.1,
      stays_minor q m c h.0 l.0 l.1 h.1,
      stays_bare q m (other_of c) h.0 l.0 l.1 h.2,
    )))
    (λ q h mate. (
    let turned : c ≡ other_of q.turn = sym (ap other_of mate.to_move ∙ other_other c) in
    no_minor_mate q h.0 (subst (λ (d : Colour). HasOneMinor q d) turned h.1)
    (subst (λ (d : Colour). IsBare q d) (sym mate.to_move) h.2) mate.attacked mate.no_move))
    p (v, minor, bare)

-- where neither side has the men to mate, neither forces mate
either_side : (F : Colour → Type 0) (c : Colour) → F c → F (other_of c) → (d : Colour) → F d
either_side F White h k White = h
either_side F White h k Black = k
either_side F Black h k White = k
either_side F Black h k Black = h

pub dead_never : (p : Board) → IsValid p → HasDeadMen p → (c : Colour) → NeverForcesMate chess c p
dead_never p v dead =
    either_side (λ c. NeverForcesMate chess c p) dead.side (bare_never p dead.side v dead.bare)
    (minor_never p (other_of dead.side) v dead.minor
    (subst (λ (d : Colour). IsBare p d) (sym (other_other dead.side)) dead.bare))

-- the values draw and hold are right for the side against a bare king
pub hold_is_right : (v : Value) (q : Board) (side : Colour) → IsValid q →
    IsBare q (other_of side) → class_of v side ≡ Safe → NeverForcesMate chess (other_of side) q
hold_is_right v q side valid bare safe = bare_never q (other_of side) valid bare

pub true_by_men : (v : Value) (q : Board) → IsValid q → IsTrueByMen v q → IsTrueValue v q
true_by_men WhiteWins q v t = absurd t
true_by_men BlackWins q v t = absurd t
true_by_men Draw q v t = (dead_never q v t Black, dead_never q v t White)
true_by_men WhiteHolds q v t = bare_never q Black v t
true_by_men BlackHolds q v t = bare_never q White v t
true_by_men Unknown q v t = tt
true_by_men (WhiteWinsIn n) q v t = absurd t
true_by_men (BlackWinsIn n) q v t = absurd t

pub exits_by_men : (rules : RuleLines) (value : Board → Value) → AreTrueByMen rules value →
    AreTrueExits rules value
exits_by_men rules value men p m b i o =
    let q = after p m in
    let x : IsExit (game_of rules value) q = record {
      from = p;
      move = m;
      begins = b;
      legal = i;
      ends = refl;
      outside = o;
    } in
    true_by_men (value q) q (exit_valid rules value q x) (men q x)
