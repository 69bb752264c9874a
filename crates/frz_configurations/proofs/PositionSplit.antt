-- The number of a position, as a configuration and kings.
use Rattle.std.proofs.Common.{◌≡◌, ℕ, true, List, map, refl, ap, sym, ◌∙◌, [], ◌∷◌}
use Rattle.frz_board.specs.declared.man.Colour.TheVariants.{White, Black}
use Rattle.frz_board.specs.declared.man.Kind.TheVariants.{King}
use Rattle.frz_board.specs.Boards.{Board, has}
use Rattle.frz_combinations.specs.MixedRadix.{value}
use Rattle.frz_sets.specs.Sets.{radices}
use Rattle.frz_sets.specs.Sound.{IsSound}
use Rattle.frz_sets.specs.Views.{GroupLine, RuleLines}
use Rattle.frz_index.specs.Members.{Member, Num}
use Rattle.frz_index.specs.Places.{digit_of}
use Rattle.frz_index.specs.TurnStates.{turn_number}
use Rattle.frz_index.proofs.Lemmas.{digits_are, turn_fits}
use Rattle.frz_configurations.specs.Configurations.{IsSplit, configuration_of, other_digits, other_radices}
use Rattle.frz_configurations.proofs.KingStates.{king_found}
use Rattle.frz_configurations.proofs.OtherDigits.{other_digits-map, same_digits}

-- a position of the set has the number of its configuration with its kings on their squares
pub position_split : (r : RuleLines) (p : Board) (a b : ℕ) → IsSound r → Member r.groups p →
    has p White King a ≡ true → has p Black King b ≡ true →
    IsSplit r.groups (Num r.groups p) (configuration_of r.groups p) a b
position_split r p a b sound member white black =
    let gs = r.groups in
    let turn = turn_number gs p.turn p.ep in
    record {
      turn = turn;
      ds = map (digit_of p) gs;
      fits = (turn_fits gs p member, digits_are p gs member.counts);
      number = refl;
      configuration = ap (λ ds. value (other_radices gs) (turn ∷ ds))
          (sym (other_digits-map (digit_of p) gs));
      white = king_found White p a member.valid white [] gs sound.lines.groups member.counts
          sound.white_king;
      black = king_found Black p b member.valid black [] gs sound.lines.groups member.counts
          sound.black_king;
    }

-- a number has one configuration
pub one_configuration : (gs : List GroupLine) (i c d a b x y : ℕ) → IsSplit gs i c a b →
    IsSplit gs i d x y → c ≡ d
one_configuration gs i c d a b x y h k =
    let same : h.turn ∷ h.ds ≡ k.turn ∷ k.ds =
    same_digits (radices gs) (h.turn ∷ h.ds) (k.turn ∷ k.ds) h.fits k.fits
    (sym h.number ∙ k.number) in
    let turn : h.turn ≡ k.turn = cc in
    let rest : h.ds ≡ k.ds = cc in
    h.configuration
    ∙ ap (λ t. value (other_radices gs) (t ∷ other_digits gs h.ds)) turn
    ∙ ap (λ ds. value (other_radices gs) (k.turn ∷ other_digits gs ds)) rest
    ∙ sym k.configuration
