-- What settles a number gives its local code.
use Rattle.std.proofs.Common.{◌≡◌, ℕ, ◌+◌, ◌≤◌, Bool, true, false, not, List, [], ◌∷◌, refl, sym, ◌∙◌, inl, inr, arith}
use Rattle.std.proofs.lemmas.Bool.{cases_Bool}
use Rattle.frz_board.specs.declared.man.Colour.{Colour}
use Rattle.frz_board.specs.declared.man.Colour.TheVariants.{White, Black}
use Rattle.frz_board.specs.Men.{same_colour, other_of}
use Rattle.frz_retro.specs.Graphs.{Arm}
use Rattle.frz_retro.specs.Kinds.{is_of}
use Rattle.frz_retro.specs.Shape.{In, counts_for}
use Rattle.frz_retro.specs.State.{Held, IsSettled}
use Rattle.frz_retro.proofs.CodeFacts.{of_low}

-- the rules of the local code at a number
pub record Rules (own : Bool) (f : Arm → ℕ) (arms : List Arm) (code : ℕ) : Type 0 where
  pub decided : (a : Arm) → In a arms → counts_for own a ≡ true → is_of own (f a) ≡ true →
      ((b : Arm) → In b arms → counts_for own b ≡ true → is_of own (f b) ≡ true → f a ≤ f b)
      → code ≡ f a + 2
  pub exhausted : (a : Arm) → In a arms → counts_for own a ≡ true →
      ((b : Arm) → In b arms → counts_for own b ≡ true → (is_of (not own) (f b) ≡ true)
      × (f b ≤ f a)) → code ≡ f a + 2
  pub held : (a : Arm) → In a arms → counts_for own a ≡ true → is_of (not own) (f a) ≡ false →
      ((b : Arm) → In b arms → counts_for own b ≡ true → is_of own (f b) ≡ false) → code ≡ 1
  pub none : ((a : Arm) → In a arms → counts_for own a ≡ false) → code ≡ 3

pub settled_by : {own : Bool} {f : Arm → ℕ} {arms : List Arm} {code c : ℕ} → Rules own f arms code →
    IsSettled own f arms c → code ≡ c
settled_by r (inl d) =
    r.decided d.arm d.there d.counted d.kind d.least ∙ sym d.code
settled_by {own} {f} {arms} r (inr e) = elim e.reached [
  | inl one ↦
      let uncounted : (a : Arm) → In a arms
      → counts_for own a ≡ false = λ a i. elim (cases_Bool (counts_for own a)) [
        | inr n ↦ n
        | inl t ↦
            let x = e.each a i t in
            let l = of_low (not own) (f a) x.0 in
            absurd (omega (arith, x.1, l, one))
      ] in
      r.none uncounted ∙ (let x = e.code in omega (arith, x, one))
  | inr w ↦
      let most = w.3 in
      r.exhausted w.0 w.1 w.2 (λ b i k. let x = e.each b i k in (x.0, omega (arith, x.1, most)))
      ∙ (let x = e.code in omega (arith, x, most))
]

pub held_by : {own : Bool} {f : Arm → ℕ} {arms : List Arm} {code : ℕ} → Rules own f arms code →
    Held own f arms → code ≡ 1
held_by r h = r.held h.arm h.there h.counted h.kind h.undecided

-- a side is to move, or its opponent is
pub by_turn : (P : Bool → Type 0) (mover side : Colour) → (mover ≡ side → P true) →
    (mover ≡ other_of side → P false) → P (same_colour mover side)
by_turn P White White own other = own refl
by_turn P White Black own other = other refl
by_turn P Black White own other = other refl
by_turn P Black Black own other = own refl

-- a list with no element is empty
pub nothing_in : (arms : List Arm) → ((a : Arm) → In a arms → ⊥) → arms ≡ []
nothing_in [] h = refl
nothing_in (a ∷ arms) h = absurd (h a (inl refl))
