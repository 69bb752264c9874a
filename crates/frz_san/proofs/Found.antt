-- A text is read: first as one without a sign, then as one with a sign.
use Rattle.std.proofs.Common.{◌≡◌, ℕ, ◌+◌, ◌<◌, true, false, List, [], ◌∷◌, ◌++◌, length, get_or, refl, ap, sym, ◌∙◌, subst, arith, Option, None, Some, nat_eq, inl, inr}
use Rattle.std.specs.Prelude.{◌↔◌}
use Rattle.std.specs.List.{Contains}
use Rattle.std.specs.Option.{option_eq, option_to_list}
use Rattle.std.proofs.lemmas.Bool.{eqb-true, eq-eqb}
use Rattle.std.proofs.lemmas.Bool.Decides.{eqb_tells}
use Rattle.std.proofs.lemmas.List.{get_or_read, append-nil, length-append}
use Rattle.frz_board.specs.Boards.{Board}
use Rattle.frz_board.specs.Moving.{Step, IsStep}
use Rattle.frz_fide.specs.Legal.{is_legal, after}
use Rattle.frz_fide.specs.Listing.{legal_moves_of}
use Rattle.frz_fide.proofs.Lemmas.{listed, only_legal}
use Rattle.frz_san.specs.Notation.{unsigned, sign, san_of, IsSan}
use Rattle.frz_san.proofs.Parts.{end_one}
use Rattle.frz_san.proofs.Telling.{same_move}
use Rattle.frz_san.proofs.Signs.{one_move, Sign, none, one, signs}

-- the legal move whose text without its sign this is
abbrev pub IsFound : Board → List ℕ → Option Step → Type 0
IsFound p text found =
    (m : Step) → (found ≡ Some m) ↔ (IsStep m × (is_legal p m ≡ true) × (unsigned p m ≡ text))

-- the legal move whose text this is
abbrev pub IsRead : Board → List ℕ → Option Step → Type 0
IsRead p text read =
    (m : Step) → (read ≡ Some m) ↔ (IsStep m × (is_legal p m ≡ true) × IsSan p m text)

module _ (p : Board) (text : List ℕ) where
  -- a move with the text is the only one
  pub only : (n : Step) → IsStep n → is_legal p n ≡ true → IsSan p n text → IsRead p text (Some n)
  only n step legal t m = (
    λ e. let same : n ≡ m =
        cc in (
          subst IsStep same step,
          ap (is_legal p) (sym same) ∙ legal,
          subst (λ x. IsSan p x text) same t,
        ),
    λ h. ap Some (one_move p n m text step h.0 legal h.1 t h.2),
  )

  -- a text without a sign
  pub read_unsigned : (n : Step) → IsFound p text (Some n) → IsRead p text (Some n)
  read_unsigned n f = let h = (f n).0 refl in only n h.0 h.1 (inr (sym h.2))

  -- a text is without a sign, or has one byte more
  data Parts (m : Step) : Type 0 where
    whole : unsigned p m ≡ text → Parts m
    signed : (c : ℕ) → text ≡ unsigned p m ++ c ∷ [] → sign (after p m) ≡ c ∷ [] → Parts m

  by_sign : (m : Step) → Sign (sign (after p m)) → text ≡ unsigned p m ++ sign (after p m) → Parts m
  by_sign m (none h) e = whole (sym (e ∙ ap (λ z. unsigned p m ++ z) h ∙ append-nil (unsigned p m)))
  by_sign m (one c l h) e = signed c (e ∙ ap (λ z. unsigned p m ++ z) h) h

  parts : (m : Step) → IsSan p m text → Parts m
  parts m (inl e) = by_sign m (signs (after p m)) e
  parts m (inr e) = whole (sym e)

  -- no move has the text, where none has it without a sign and none with one
  nothing : IsFound p text None →
      ((m : Step) (c : ℕ) → IsStep m → is_legal p m ≡ true → text ≡ unsigned p m ++ c ∷ [] →
      sign (after p m) ≡ c ∷ [] → ⊥) →
      IsRead p text None
  nothing f without m = (
    λ h. absurd cc,
    λ h. absurd (elim (parts m h.2) [
      | whole e ↦ (let found : None ≡ Some m = (f m).1 (h.0, h.1, e) in cc)
      | signed c e s ↦ without m c h.0 h.1 e s
    ]),
  )

  -- the empty text
  pub read_empty : length text ≡ 0 → IsFound p text None → IsRead p text None
  read_empty l f = nothing f
      (λ m c step legal e s. omega (arith, ap length e, length-append (unsigned p m) (c ∷ [])))

  module _ (front : List ℕ) (b : ℕ) (e : text ≡ front ++ b ∷ []) (f : IsFound p text None) where
    -- no move has the front
    pub read_none : IsFound p front None → IsRead p text None
    read_none g =
        nothing f (λ m c step legal t s.
        let ends = end_one front (unsigned p m) b c (sym e ∙ t) in
        let found : None ≡ Some m = (g m).1 (step, legal, sym ends.0) in
        cc)

    sign_is : (o : Option ℕ) → option_eq nat_eq o (Some b) ≡ true → option_to_list o ≡ b ∷ []
    sign_is None h = cc
    sign_is (Some x) h = ap (λ z. z ∷ []) (eqb-true x b h)

    -- a move has the front, and the last byte is its sign
    pub read_signed : (n : Step) (o : Option ℕ) → IsFound p front (Some n) →
        option_to_list o ≡ sign (after p n) → option_eq nat_eq o (Some b) ≡ true →
        IsRead p text (Some n)
    read_signed n o g s h =
        let found = (g n).0 refl in
        only n found.0 found.1
        (inl (e ∙ ap (λ z. z ++ b ∷ []) (sym found.2) ∙ ap (λ z. unsigned p n ++ z)
        (sym (sign_is o h) ∙ s)))

    is_sign : (o : Option ℕ) → option_to_list o ≡ b ∷ [] → option_eq nat_eq o (Some b) ≡ true
    is_sign None h = cc
    is_sign (Some x) h = let same : x ≡ b = cc in eq-eqb x b same

    -- a move has the front, and the last byte is not its sign
    pub read_other : (n : Step) (o : Option ℕ) → IsFound p front (Some n) →
        option_to_list o ≡ sign (after p n) → option_eq nat_eq o (Some b) ≡ false →
        IsRead p text None
    read_other n o g s h =
        nothing f (λ m c step legal t u.
        let ends = end_one front (unsigned p m) b c (sym e ∙ t) in
        let found : Some n ≡ Some m = (g m).1 (step, legal, sym ends.0) in
        let same : n ≡ m = cc in
        let yes = is_sign o (s ∙ ap (λ x. sign (after p x)) same ∙ u
        ∙ ap (λ z. z ∷ []) (sym ends.1)) in
        cc)

module _ (p : Board) (text : List ℕ) (xs : List Step) (all : xs ≡ legal_moves_of p) where
  -- a listed move is legal
  pub legal_at : (n : Step) (i : ℕ) → i < length xs → n ≡ get_or xs i n →
      IsStep n × (is_legal p n ≡ true)
  legal_at n i l e = only_legal p n (subst (λ (ys : List Step). Contains ys n) all (i, l, sym e))

  -- a listed move has this text without its sign
  pub found_here : (n : Step) (i : ℕ) → i < length xs → n ≡ get_or xs i n → unsigned p n ≡ text →
      IsFound p text (Some n)
  found_here n i l e t m =
      let legal = legal_at n i l e in (
        λ h. let same : n ≡ m =
            cc in (
              subst IsStep same legal.0,
              ap (is_legal p) (sym same) ∙ legal.1,
              ap (unsigned p) (sym same) ∙ t,
            ),
        λ h. ap Some (same_move p n m legal.0 h.0 legal.1 h.1 (t ∙ sym h.2)),
      )

  -- no listed move has it
  pub found_nowhere : ((k : ℕ) (d : Step) → k < length xs → unsigned p (get_or xs k d) ≡ text → ⊥) →
      IsFound p text None
  found_nowhere before m = (
    λ h. absurd cc,
    λ h. absurd (
        let place = subst (λ (ys : List Step). Contains ys m) (sym all) (listed p m h.0 h.1) in
        before place.0 m place.1 (ap (unsigned p) place.2 ∙ h.2)),
  )

  -- no move so far has it, and this one has not either
  pub none_yet : (n : Step) (i : ℕ) → i < length xs → n ≡ get_or xs i n →
      ((k : ℕ) (d : Step) → k < i → unsigned p (get_or xs k d) ≡ text → ⊥) →
      (unsigned p n ≡ text → ⊥) → (k : ℕ) (d : Step) → k < i + 1 →
      unsigned p (get_or xs k d) ≡ text → ⊥
  none_yet n i l e before here k d h t =
      elim (eqb_tells k i) [
        | inl w ↦ here (ap (unsigned p)
            (get_or_read xs i n l e d ∙ ap (λ j. get_or xs j d) (sym w.1)) ∙ t)
        | inr w ↦ before k d (let differ = w.1 in omega arith) t
      ]

-- the move whose text was written is read
pub back : (p : Board) (text : List ℕ) (read : Option Step) → IsRead p text read → (m : Step) →
    IsStep m → is_legal p m ≡ true → text ≡ san_of p m → read ≡ Some m
back p text read h m step legal e = (h m).1 (step, legal, inl e)
