-- The first wrong entry, found number by number.
use Rattle.std.proofs.Common.{◌≡◌, ◌≢◌, refl, sym, ap, subst, ◌∙◌, ℕ, zero, suc, ◌+◌, ◌<◌, ◌⊎◌, inl, inr, List, length, slice_index, Option, None, Some, arith}
use Rattle.std.specs.List.{All}
use Rattle.std.proofs.lemmas.Bool.{cases_eq, cases_lt}
use Rattle.frz_board.specs.declared.man.Colour.{Colour}
use Rattle.frz_board.specs.declared.man.Colour.TheVariants.{White, Black}
use Rattle.frz_board.specs.Moving.{Step}
use Rattle.frz_sets.specs.declared.exit.Value.{Value}
use Rattle.frz_arena.specs.declared.arm.Arm.{Arm}
use Rattle.frz_arena.specs.declared.node.Node.{Node}
use Rattle.frz_arena.specs.Arena.{Arena}
use Rattle.frz_arena.specs.LocalCodes.{local_code}
use Rattle.frz_arena.specs.Tables.{IsExact}
use Rattle.frz_game.specs.EntryCodes.{IsWithin}
use Rattle.frz_game.specs.declared.wrong.Wrong.{Wrong}
use Rattle.frz_check.specs.Entries.{IsCheckedAt, IsCompared, IsWrongAt, code_by_moves}
use Rattle.frz_check.specs.Verdicts.{AgreeAt, IsFirstWrong, given_code, kept_code}

-- the local code by a node and moves that are those of the number
pub code_of_number : (arena : Arena Step ℕ Value) (side : Colour) (entries : List ℕ) (i : ℕ)
    (node : Node) (arms : List (Arm Step ℕ Value)) →
    node ≡ arena.node i → arms ≡ arena.arms i →
    code_by_moves side (arena.node i) (arena.arms i) entries ≡ local_code arena side
    (λ k. slice_index entries k) i →
    code_by_moves side node arms entries ≡ local_code arena side (λ k. slice_index entries k) i
code_of_number arena side entries i node arms same_node same_arms is =
    ap (λ (n : Node). code_by_moves side n arms entries) same_node
    ∙ (ap (λ (z : List (Arm Step ℕ Value)). code_by_moves side (arena.node i) z entries) same_arms
    ∙ is)

-- a wrong entry that a comparison gives
pub wrong_there : {M V : Type 0} (arena : Arena M ℕ V) (codes : Colour → List ℕ) (side : Colour)
    (number given : ℕ) (wrong : Wrong) →
    given ≡ given_code arena codes side number →
    IsCompared side number (kept_code codes side number) given (Some wrong) →
    (side ≡ Black → kept_code codes White number ≡ given_code arena codes White number) →
    IsWrongAt arena codes number wrong
wrong_there arena codes side number given wrong is compared white =
    let same_side : wrong.side ≡ side = ap (λ (w : Wrong). w.side) compared.1 in
    let kept : wrong.kept ≡ kept_code codes side number = ap (λ (w : Wrong). w.kept) compared.1 in
    let gives : wrong.given ≡ given = ap (λ (w : Wrong). w.given) compared.1 in
    record {
      here = ap (λ (w : Wrong). w.number) compared.1;
      kept = kept ∙ ap (λ (s : Colour). kept_code codes s number) (sym same_side);
      given = gives ∙ (is ∙ ap (λ (s : Colour). given_code arena codes s number) (sym same_side));
      differs = λ e. compared.0 (sym kept ∙ (e ∙ gives));
      white_first = λ black. white (sym same_side ∙ black);
    }

-- both sides agree
pub agree_there : {M V : Type 0} (arena : Arena M ℕ V) (codes : Colour → List ℕ) (number : ℕ) →
    kept_code codes White number ≡ given_code arena codes White number →
    kept_code codes Black number ≡ given_code arena codes Black number →
    AgreeAt arena codes number
agree_there arena codes number white black White = white
agree_there arena codes number white black Black = black

-- behind numbers that agree, the wrong entry is the first
pub first_there : {M V : Type 0} (arena : Arena M ℕ V) (size : ℕ) (codes : Colour → List ℕ)
    (number : ℕ) (wrong : Wrong) →
    number < size → ((i : ℕ) → i < number → AgreeAt arena codes i) →
    IsWrongAt arena codes number wrong →
    IsFirstWrong arena size codes wrong
first_there arena size codes number wrong inside agree at =
    let here : wrong.number ≡ number = at.here in
    record {
      inside = omega (arith, here, inside);
      kept = at.kept ∙ ap (λ (i : ℕ). kept_code codes wrong.side i) (sym here);
      given = at.given ∙ ap (λ (i : ℕ). given_code arena codes wrong.side i) (sym here);
      differs = at.differs;
      before = λ i l. agree i (omega (arith, l, here));
      white_first = λ black.
          subst (λ (i : ℕ). kept_code codes White i ≡ given_code arena codes White i) (sym here)
          (at.white_first black);
    }

-- one number more agrees
pub agree_more : {M V : Type 0} (arena : Arena M ℕ V) (codes : Colour → List ℕ) (number : ℕ) →
    ((i : ℕ) → i < number → AgreeAt arena codes i) → AgreeAt arena codes number →
    (i : ℕ) → i < number + 1 → AgreeAt arena codes i
agree_more arena codes number below here i l =
    elim (cases_lt i number) [
      | inl less ↦ below i less
      | inr above ↦ (let same : number ≡ i = omega (arith, l, above) in
          subst (λ (k : ℕ). AgreeAt arena codes k) same here)
    ]

-- where all agree, the codes of each side are exact
pub all_agree : {M V : Type 0} (arena : Arena M ℕ V) (size : ℕ) (codes : Colour → List ℕ) →
    ((side : Colour) → length (codes side) ≡ size) → ((i : ℕ) → i < size → AgreeAt arena codes i) →
    (side : Colour) → IsExact arena side size (codes side)
all_agree arena size codes many agree side =
    record { many = many side; local = λ i l. agree i l side }

pub both_long : (codes : Colour → List ℕ) (size : ℕ) → length (codes White) ≡ size →
    length (codes White) ≡ length (codes Black) →
    (side : Colour) → length (codes side) ≡ size
both_long codes size white equal White = white
both_long codes size white equal Black = sym equal ∙ white

-- an entry that differs is the wrong one
wrong_entry : {M V : Type 0} (arena : Arena M ℕ V) (codes : Colour → List ℕ) (side : Colour)
    (number : ℕ) → kept_code codes side number ≢ given_code arena codes side number →
    (side ≡ Black → kept_code codes White number ≡ given_code arena codes White number) →
    (r : Option Wrong) × IsCheckedAt arena codes number r
wrong_entry arena codes side number differs white =
    let given = given_code arena codes side number in
    let wrong : Wrong =
    record { side = side; number = number; kept = kept_code codes side number; given = given } in
    (Some wrong, wrong_there arena codes side number given wrong refl (differs, refl) white)

-- both sides' entries at a number
compared_at : {M V : Type 0} (arena : Arena M ℕ V) (codes : Colour → List ℕ) (number : ℕ) →
    (r : Option Wrong) × IsCheckedAt arena codes number r
compared_at arena codes number =
    elim (cases_eq (kept_code codes White number) (given_code arena codes White number)) [
      | inr differs ↦ wrong_entry arena codes White number differs (λ black. absurd (cc))
      | inl white ↦ elim (cases_eq (kept_code codes Black number)
          (given_code arena codes Black number)) [
            | inr differs ↦ wrong_entry arena codes Black number differs (λ black. white)
            | inl black ↦ (None, agree_there arena codes number white black)
          ]
    ]

-- below a number all agree, or there is a first entry that is wrong
pub first_below : {M V : Type 0} (arena : Arena M ℕ V) (codes : Colour → List ℕ) (n : ℕ) →
    ((i : ℕ) → i < n → AgreeAt arena codes i) ⊎ ((wrong : Wrong) × IsFirstWrong arena n codes wrong)
first_below arena codes zero = inl (λ i l. absurd (omega arith))
first_below arena codes (suc n) = by_below (first_below arena codes n)
  where
    by_here : ((i : ℕ) → i < n → AgreeAt arena codes i) → (r : Option Wrong) →
        IsCheckedAt arena codes n r →
        ((i : ℕ) → i < suc n → AgreeAt arena codes i)
        ⊎ ((wrong : Wrong) × IsFirstWrong arena (suc n) codes wrong)
    by_here below None here = inl (λ i l. agree_more arena codes n below here i (omega (arith, l)))
    by_here below (Some wrong) here =
        inr (wrong, first_there arena (suc n) codes n wrong (omega arith) below here)

    by_below : ((i : ℕ) → i < n → AgreeAt arena codes i)
        ⊎ ((wrong : Wrong) × IsFirstWrong arena n codes wrong) →
        ((i : ℕ) → i < suc n → AgreeAt arena codes i)
        ⊎ ((wrong : Wrong) × IsFirstWrong arena (suc n) codes wrong)
    by_below (inl below) = (let here = compared_at arena codes n in by_here below here.0 here.1)
    by_below (inr first) =
        (let f = first.1 in
        inr (
          first.0,
          record {
            inside = omega (arith, f.inside);
            kept = f.kept;
            given = f.given;
            differs = f.differs;
            before = f.before;
            white_first = f.white_first;
          },
        ))

-- White's entry agrees, and Black's was compared
pub checked_there : {M V : Type 0} (arena : Arena M ℕ V) (codes : Colour → List ℕ)
    (number given : ℕ) (r : Option Wrong) →
    given ≡ given_code arena codes Black number →
    kept_code codes White number ≡ given_code arena codes White number →
    IsCompared Black number (kept_code codes Black number) given r
    → IsCheckedAt arena codes number r
checked_there arena codes number given None is white compared =
    agree_there arena codes number white (compared ∙ is)
checked_there arena codes number given (Some wrong) is white compared =
    wrong_there arena codes Black number given wrong is compared (λ black. white)

-- the moves of a number lead where entries are
pub moves_within : (arena : Arena Step ℕ Value) (size many i : ℕ) (arms : List (Arm Step ℕ Value)) →
    All (λ a. IsWithin size a.next) (arena.arms i) → many ≡ size → arms ≡ arena.arms i →
    All (λ a. IsWithin many a.next) arms
moves_within arena size many i arms h same_many same_arms =
    subst (λ (z : List (Arm Step ℕ Value)). All (λ a. IsWithin many a.next) z) (sym same_arms)
    (subst (λ (n : ℕ). All (λ a. IsWithin n a.next) (arena.arms i)) (sym same_many) h)
