-- What taking one group more needs.
use Rattle.std.proofs.Common.{◌≡◌, ℕ, zero, suc, ◌+◌, ◌*◌, ◌<◌, ◌≤◌, true, false, not, cond, Some, List, [], ◌∷◌, ◌++◌, ◌-◌, drop, get_or, length, map, take, refl, ap, sym, ◌∙◌, subst, arith}
use Rattle.std.specs.List.{AllByRecursion, slice_get}
use Rattle.std.proofs.lemmas.List.{get_or-map, get_or_default, length-map, map-append, take_more}
use Rattle.std.proofs.lemmas.Nat.{mul-le}
use Rattle.std.proofs.lemmas.Option.{same_Some, slice_get_read}
use Rattle.frz_board.specs.declared.man.Colour.{Colour}
use Rattle.frz_board.specs.declared.man.Colour.TheVariants.{White, Black}
use Rattle.frz_combinations.specs.MixedRadix.{product}
use Rattle.frz_combinations.specs.Selections.{radix}
use Rattle.frz_combinations.proofs.Lemmas.{choose-one, value_below}
use Rattle.frz_sets.specs.Sets.{radix_of}
use Rattle.frz_sets.specs.Sound.{AreSoundAfter, IsCounted, IsSound}
use Rattle.frz_sets.specs.Views.{GroupLine, RuleLines}
use Rattle.frz_index.specs.Kept.{AreNumberable}
use Rattle.frz_index.proofs.Lemmas.{all_drop, drop_end, drop_read, numberable, product_le, product_some, radix_some, whole_fits}
use Rattle.frz_configurations.specs.Configurations.{has_kings, other_digits, others}
use Rattle.frz_configurations.specs.Joined.{HasKing, IsJoined, IsKingSquare, of_colour}
use Rattle.frz_configurations.specs.Parts.{AreKings, IsParted}
use Rattle.frz_configurations.specs.declared.joined.Joined.{Joined}
use Rattle.frz_configurations.specs.declared.parts.Parts.{Parts}
use Rattle.frz_configurations.proofs.KingStates.{IsKingly, kingly, state_is}
use Rattle.frz_configurations.proofs.OtherDigits.{other_digits_fit}

-- a group of one man has as many digits as states
radix_one : (g : GroupLine) → g.least ≡ 1 → g.most ≡ 1 → radix_of g ≡ length g.states
radix_one g least most =
    ap (λ l. radix (length g.states) l g.most) least ∙ ap (radix (length g.states) 1) most
    ∙ omega (arith, choose-one (length g.states))

are_kings : (earlier : List GroupLine) (g : GroupLine) → IsKingly earlier g → AreKings g
are_kings earlier g h = record {
  each = radix_one g h.least h.most;
  kings = λ k state e. state_is earlier g k state h e;
}

-- the groups with kings of sound rules
pub kings_all : (earlier gs : List GroupLine) → AreSoundAfter earlier gs → (k : ℕ) (g : GroupLine) →
    slice_get gs k ≡ Some g → has_kings g ≡ true → AreKings g
kings_all earlier [] sound k g e t = absurd cc
kings_all earlier (x ∷ gs) sound zero g e t =
    let same : x ≡ g = same_Some x g e in
    let kings : has_kings x ≡ true = ap has_kings same ∙ t in
    subst AreKings same (are_kings earlier x (kingly earlier x sound.0.king kings))
kings_all earlier (x ∷ gs) sound (suc k) g e t =
    kings_all (earlier ++ x ∷ []) gs sound.1 k g e t

-- the configurations of some groups are at most their numbers
pub others_le : (gs : List GroupLine) → AllByRecursion IsCounted gs →
    product (map radix_of (others gs)) ≤ product (map radix_of gs)
others_le [] h = omega arith
others_le (g ∷ gs) h =
    let rest = others_le gs h.1 in
    elim (has_kings g) as (λ t. product (map radix_of (cond (not t) (g ∷ others gs) (others gs)))
    ≤ radix_of g * product (map radix_of gs)) [
      | true ↦ omega (
        arith,
        mul-le 1 (product (map radix_of (others gs))) (radix_of g)
            (product (map radix_of gs)) (radix_some g h.0) rest,
      )
      | false ↦ mul-le (radix_of g) (product (map radix_of (others gs))) (radix_of g)
          (product (map radix_of gs)) (omega arith) rest
    ]

-- a group of numberable ones has few digits
pub group_small : (gs : List GroupLine) (i : ℕ) (g : GroupLine) → AreNumberable gs → i < length gs →
    g ≡ get_or gs i g → IsCounted g × (radix_of g ≤ 134217728)
group_small gs i g n low read =
    let is = drop_read gs i g low read in
    let counted : AllByRecursion IsCounted (g ∷ drop (i + 1) gs) =
    subst (AllByRecursion IsCounted) is (all_drop IsCounted gs i n.groups) in
    let part : product (map radix_of (drop i gs)) ≡ radix_of g * product (map radix_of (drop (i + 1) gs)) =
    ap (λ xs. product (map radix_of xs)) is in
    let one = mul-le (radix_of g) 1 (radix_of g) (product (map radix_of (drop (i + 1) gs)))
    (omega arith) (product_some (drop (i + 1) gs) counted.1) in
    (counted.0, omega (arith, product_le gs n.groups i, whole_fits gs n))

-- the group at k, as it was read with its radix
pub record IsReady (gs : List GroupLine) (k : ℕ) (g : GroupLine) (r : ℕ) : Type 0 where
  pub at : slice_get gs k ≡ Some g
  pub is : drop k gs ≡ g ∷ drop (k + 1) gs
  pub radix : r ≡ radix_of g
  pub some : 0 < r
  pub fits : r ≤ 134217728
  pub kings : has_kings g ≡ true → AreKings g

-- what was taken apart so far is small
pub count_small : (gs : List GroupLine) (k number : ℕ) (x : Parts) → AreNumberable gs →
    IsParted (drop k gs) number x → (x.count ≤ 134217728) × (x.configuration < x.count)
count_small gs k number x n h =
    let counted = all_drop IsCounted gs k n.groups in
    let below = value_below (map radix_of (others (drop k gs))) (other_digits (drop k gs) h.ds)
    (other_digits_fit (drop k gs) h.ds h.fits) in
    let count = h.count in
    let configuration = h.configuration in (
      omega (arith, others_le (drop k gs) counted, product_le gs n.groups k, whole_fits gs n),
      omega arith,
    )

ready : (r : RuleLines) (radices : List ℕ) (k : ℕ) (g : GroupLine) → IsSound r →
    radices ≡ map radix_of r.groups → k < length r.groups → g ≡ get_or r.groups k g →
    IsReady r.groups k g (get_or radices k 0)
ready r radices k g sound known low read =
    let gs = r.groups in
    let n = numberable r sound in
    let radix_is : get_or radices k 0 ≡ radix_of g = ap (λ rs. get_or rs k 0) known
    ∙ get_or-map radix_of gs k g 0 low ∙ ap radix_of (sym read) in
    let small = group_small gs k g n low read in
    let some = radix_some g small.0 in
    let few = small.1 in
    let at = slice_get_read gs (length gs) k g refl low read in
    record {
      at = at;
      is = drop_read gs k g low read;
      radix = radix_is;
      some = omega arith;
      fits = omega arith;
      kings = kings_all [] gs sound.lines.groups k g at;
    }

-- the group before those from k on, as it was read
pub ready_before : (r : RuleLines) (items : List GroupLine) (radices : List ℕ) (k n : ℕ)
    (g : GroupLine) → IsSound r → items ≡ r.groups → radices ≡ map radix_of r.groups → 0 < k →
    k ≤ length r.groups → g ≡ get_or items (k - 1) g → n ≡ get_or radices (k - 1) n →
    IsReady r.groups (k - 1) g n
ready_before r items radices k n g sound same known some within read read_radix =
    let gs = r.groups in
    let low : k - 1 < length gs = omega arith in
    let known_low : k - 1 < length radices = omega (arith, ap length known, length-map gs radix_of) in
    let here : n ≡ get_or radices (k - 1) 0 = read_radix
    ∙ get_or_default radices (k - 1) n 0 known_low in
    subst (λ (m : ℕ). IsReady gs (k - 1) g m) (sym here)
    (ready r radices (k - 1) g sound known low (read ∙ ap (λ xs. get_or xs (k - 1) g) same))

-- what was put together so far is small
pub joined_small : (gs : List GroupLine) (k c a b : ℕ) (x : Joined) → AreNumberable gs →
    IsJoined (drop k gs) c a b x → (x.count ≤ 134217728) × (x.number < x.count)
joined_small gs k c a b x n h =
    let below = value_below (map radix_of (drop k gs)) h.ds h.fits in
    let count = h.count in
    let number = h.number in
    (omega (arith, product_le gs n.groups k, whole_fits gs n), omega arith)

-- the king of a group of kings stands on the square of its colour
pub king_there : (gs : List GroupLine) (k a b : ℕ) (g : GroupLine) → slice_get gs k ≡ Some g →
    IsKingSquare gs White a → IsKingSquare gs Black b → has_kings g ≡ true →
    HasKing g (of_colour g.colour a b)
king_there gs k a b g at white black kings = by_colour g.colour refl
  where
    by_colour : (c : Colour) → g.colour ≡ c → HasKing g (of_colour c a b)
    by_colour White e = white k g at e kings
    by_colour Black e = black k g at e kings

-- what holds of no group holds of those from the end on
pub from_end : (P : List GroupLine → Type 0) (gs : List GroupLine) (k : ℕ) → k ≡ length gs → P [] →
    P (drop k gs)
from_end P gs k e h = subst P (sym (drop_end gs k (omega arith))) h

-- what holds of the groups from k on with the one before holds of those from it on
pub from_before : (P : List GroupLine → Type 0) (gs : List GroupLine) (k n : ℕ) (g : GroupLine) →
    0 < k → IsReady gs (k - 1) g n → P (g ∷ drop k gs) → P (drop (k - 1) gs)
from_before P gs k n g some ready h =
    let next : k ≡ k - 1 + 1 = omega arith in
    subst P (ap (λ j. g ∷ drop j gs) next ∙ sym ready.is) h

-- one radix more
pub radices_more : (gs : List GroupLine) (i n : ℕ) (g : GroupLine) (old new : List ℕ) →
    i < length gs → g ≡ get_or gs i g → old ≡ map radix_of (take i gs) → new ≡ old ++ n ∷ [] →
    n ≡ radix_of g → new ≡ map radix_of (take (i + 1) gs)
radices_more gs i n g old new low read e f is =
    f ∙ ap (λ xs. xs ++ n ∷ []) e
    ∙ ap (λ m. map radix_of (take i gs) ++ m ∷ []) (is ∙ ap radix_of read)
    ∙ sym (map-append radix_of (take i gs) (get_or gs i g ∷ []))
    ∙ ap (map radix_of) (sym (take_more gs i g low))
