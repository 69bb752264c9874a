-- Tables that were judged exact from the left are exact, each over those before it.
use Rattle.std.proofs.Common.{◌≡◌, refl, ap, ◌∙◌, List, [], ◌∷◌, ◌++◌, map}
use Rattle.frz_board.specs.declared.man.Colour.TheVariants.{White, Black}
use Rattle.frz_backs.specs.Books.{Back}
use Rattle.frz_backs.specs.FileOn.{back_of}
use Rattle.frz_backs.specs.Links.{AreExact, AreExactOver, Link, backs_of}
use Rattle.frz_atlas.specs.Behind.{AreJudged, AreJudgedOver, TableBytes, backs_in, link_of}

exact_over : (before : List Back) (tables : List TableBytes) → AreJudgedOver before tables
    → AreExactOver before (map link_of tables)
unfolding AreJudgedOver AreExactOver
exact_over before [] h = tt
exact_over before (t ∷ tables) h = (
  record { set = refl; lines = refl; white = h.1.codes White; black = h.1.codes Black },
  exact_over (before ++ (back_of t.contents t.bytes ∷ [])) tables h.2,
)

pub judged_exact : (tables : List TableBytes) → AreJudged tables → AreExact (map link_of tables)
judged_exact tables h = exact_over [] tables h

pub links_backs : (tables : List TableBytes) → backs_of (map link_of tables) ≡ backs_in tables
links_backs [] = refl
links_backs (t ∷ tables) =
    ap (λ (l : List Back). back_of t.contents t.bytes ∷ l) (links_backs tables)

-- the backs of tables that were opened or loaded are those in their files
pub kept_backs : (links : List Link) (tables : List TableBytes) → links ≡ map link_of tables
    → backs_of links ≡ backs_in tables
kept_backs links tables keeps = ap backs_of keeps ∙ links_backs tables
