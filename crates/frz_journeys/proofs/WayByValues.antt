-- A way by the values of exits that a table of its kind has.
use Rattle.std.proofs.Common.{◌≡◌, refl, sym, subst, ap, ℕ, List, [], ◌∷◌, map}
use Rattle.frz_board.specs.Boards.{Board}
use Rattle.frz_board.specs.Moving.{Step}
use Rattle.frz_board.specs.declared.man.Colour.{Colour}
use Rattle.frz_sets.specs.declared.exit.Value.{Value}
use Rattle.frz_sets.specs.Views.{RuleLines}
use Rattle.frz_arena.specs.Arena.{Arena}
use Rattle.frz_exits.specs.Books.{value_by}
use Rattle.frz_graph.specs.EntryCodes.{of_side}
use Rattle.frz_game.specs.Games.{graph_by}
use Rattle.frz_table.specs.declared.kind.FileKind.{FileKind}
use Rattle.frz_table.specs.declared.kind.FileKind.TheVariants.{Plain, Chained, Atlas}
use Rattle.frz_backs.specs.Books.{Back}
use Rattle.frz_backs.specs.FileOn.{loaded_back}
use Rattle.frz_chain.specs.declared.back.BackTable.{BackTable}
use Rattle.frz_backs.specs.Links.{backs_of, value_over}
use Rattle.frz_backs.specs.Values.{atlas_value}
use Rattle.frz_backs.specs.Loaded.{leans_as, link_loaded}

pub backs_loaded : (tables : List BackTable)
    → backs_of (map link_loaded tables) ≡ map loaded_back tables
backs_loaded [] = refl
backs_loaded (table ∷ tables) = ap (λ (l : List Back). loaded_back table ∷ l) (backs_loaded tables)

-- by a book of tables, where the kind is one that leans on them
pub moved_leaning : (P : Arena Step ℕ Value → Type 0) (kind : FileKind) (r s : RuleLines)
    (a b : List BackTable) → Atlas ≡ kind → r ≡ s → a ≡ b
    → P (graph_by s (λ q. atlas_value r (map loaded_back a) q))
    → P (graph_by s (value_over (leans_as kind) s (backs_of (map link_loaded b))))
moved_leaning P kind r s a b is rules backs h =
    subst (λ (l : List Back). P (graph_by s (value_over (leans_as kind) s l))) (sym (backs_loaded b))
    (subst (λ (k : FileKind). P (graph_by s (value_over (leans_as k) s (map loaded_back b)))) is
    (subst (λ (l : List BackTable). P (graph_by s (λ q. atlas_value s (map loaded_back l) q))) backs
    (subst (λ (x : RuleLines). P (graph_by s (λ q. atlas_value x (map loaded_back a) q))) rules h)))

-- by exit lines alone, where it does not
pub moved_plain : (P : Arena Step ℕ Value → Type 0) (kind : FileKind) (r s : RuleLines)
    (before : List Back) → (kind ≡ Atlas → ⊥) → r ≡ s → P (graph_by s (λ q. value_by r q))
    → P (graph_by s (value_over (leans_as kind) s before))
moved_plain P Plain r s before other rules h =
    subst (λ (x : RuleLines). P (graph_by s (λ q. value_by x q))) rules h
moved_plain P Chained r s before other rules h =
    subst (λ (x : RuleLines). P (graph_by s (λ q. value_by x q))) rules h
moved_plain P Atlas r s before other rules h = absurd (other refl)

-- by the rules and the codes that were lent
pub moved_lent : (P : Arena Step ℕ Value → List ℕ → Type 0) (value : Board → Value) (side : Colour)
    (r s : RuleLines) (white black w b : List ℕ) → r ≡ s → white ≡ w → black ≡ b
    → P (graph_by r value) (of_side side white black) → P (graph_by s value) (of_side side w b)
moved_lent P value side r s white black w b rules whites blacks h =
    subst (λ (l : List ℕ). P (graph_by s value) (of_side side w l)) blacks
    (subst (λ (l : List ℕ). P (graph_by s value) (of_side side l black)) whites
    (subst (λ (x : RuleLines). P (graph_by x value) (of_side side white black)) rules h))
