-- The configuration of a board, found at a pair on which the kings make a valid position.
use Rattle.std.proofs.Common.{◌≡◌, ℕ, List, ap, ◌∙◌, subst}
use Rattle.frz_board.specs.Boards.{Board}
use Rattle.frz_sets.specs.Sound.{IsSound}
use Rattle.frz_sets.specs.Views.{GroupLine, RuleLines}
use Rattle.frz_index.specs.Members.{Member, Num}
use Rattle.frz_configurations.specs.Configurations.{IsSplit, configuration_of}
use Rattle.frz_configurations.proofs.Lemmas.{one_configuration}
use Rattle.frz_king_planes.specs.Kings.{with_kings}
use Rattle.frz_kingless.specs.Boards.{IsBoardOf, are_known}
use Rattle.frz_kingless.proofs.Lemmas.{board_there, known_there, made_member, made_split}
use Rattle.frz_plane_arms.specs.Arms.{HasNoMember}
use Rattle.frz_plane_arms.specs.Crowning.{HasNoValid, MakesValid}

module _ (r : RuleLines) (q : Board) (sound : IsSound r) where
  -- without such a pair there is no position of the set
  pub none_made : HasNoValid (are_known r.groups) q → HasNoMember r.groups q
  none_made none a b h =
      none a b (record {
        white = h.white;
        black = h.black;
        known = known_there r q a b sound h.white h.black h.free h.member.valid h.member;
        free = h.free;
        valid = h.member.valid;
      })

  module _ (a b : ℕ) (makes : MakesValid (are_known r.groups) q a b) where
    -- outside the set there, outside it everywhere
    pub none_there : (Member r.groups (with_kings q a b) → ⊥) → HasNoMember r.groups q
    none_there none x y h =
        none (made_member r q a b sound makes.white makes.black makes.free makes.valid
        (configuration_of r.groups (with_kings q x y))
        (board_there r q x y sound h.white h.black h.free h.member.valid h.member) makes.known)

    -- the board is that of the configuration of the number there
    pub board_split : (n c x y : ℕ) → Member r.groups (with_kings q a b) →
        n ≡ Num r.groups (with_kings q a b) → IsSplit r.groups n c x y → IsBoardOf r.groups c q
    board_split n c x y member is split =
        let p = with_kings q a b in
        let d = configuration_of r.groups p in
        let board = board_there r q a b sound makes.white makes.black makes.free makes.valid member in
        let own = made_split r q a b sound makes.white makes.black makes.free makes.valid d board
        makes.known in
        let at : IsSplit r.groups (Num r.groups p) c x y =
        subst (λ (i : ℕ). IsSplit r.groups i c x y) is split in
        subst (λ (e : ℕ). IsBoardOf r.groups e q)
        (one_configuration r.groups (Num r.groups p) d c a b x y own at) board

-- the same of equal lists of groups and equal boards
pub for_groups : (gs hs : List GroupLine) (q : Board) (a b : ℕ) → gs ≡ hs →
    MakesValid (are_known gs) q a b → MakesValid (are_known hs) q a b
for_groups gs hs q a b e h = subst (λ (ks : List GroupLine). MakesValid (are_known ks) q a b) e h

pub same_member : (gs hs : List GroupLine) (x y : Board) → gs ≡ hs → x ≡ y → Member gs x →
    Member hs y
same_member gs hs x y e f m =
    subst (λ (ks : List GroupLine). Member ks y) e (subst (λ (z : Board). Member gs z) f m)

pub same_number : (gs hs : List GroupLine) (x y : Board) (n : ℕ) → gs ≡ hs → x ≡ y →
    n ≡ Num gs x → n ≡ Num hs y
same_number gs hs x y n e f h = h ∙ ap (λ ks. Num ks x) e ∙ ap (Num hs) f

-- the kings were put on the squares of the pair
pub placed : (q x : Board) (a b s t : ℕ) → x ≡ with_kings q s t → s ≡ a → t ≡ b →
    x ≡ with_kings q a b
placed q x a b s t h e f = h ∙ ap (λ z. with_kings q z t) e ∙ ap (with_kings q a) f
