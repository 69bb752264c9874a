-- A man goes back as one of the other side would go.
use Rattle.std.proofs.Common.{◌≡◌, ℕ, refl}
use Rattle.frz_board.specs.declared.man.Colour.{Colour}
use Rattle.frz_board.specs.declared.man.Colour.TheVariants.{White, Black}
use Rattle.frz_board.specs.declared.man.Kind.{Kind}
use Rattle.frz_board.specs.declared.man.Kind.TheVariants.{King, Queen, Rook, Bishop, Knight, Pawn}
use Rattle.frz_board.specs.Men.{other_of}
use Rattle.frz_bits.proofs.Lemmas.{files_back, ranks_back, rook_back, bishop_back, knight_back}
use Rattle.frz_bits.specs.Ways.{may_go, is_pawn_way}

pawn_back : (c : Colour) (a b : ℕ) → is_pawn_way c a b ≡ is_pawn_way (other_of c) b a
pawn_back White a b = rw (files_back a b) refl
pawn_back Black a b = rw (files_back a b) refl

pub way_back : (c : Colour) (k : Kind) (a b : ℕ) → may_go c k a b ≡ may_go (other_of c) k b a
way_back c King a b = rw (files_back a b, ranks_back a b) refl
way_back c Queen a b = rw (rook_back a b, bishop_back a b) refl
way_back c Rook a b = rook_back a b
way_back c Bishop a b = bishop_back a b
way_back c Knight a b = knight_back a b
way_back c Pawn a b = pawn_back c a b
