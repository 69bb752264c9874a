-- Writing moves on one line, a move at a time.
use Rattle.std.proofs.Common.{◌≡◌, refl, sym, ap, subst, ◌∙◌, ℕ, suc, ◌+◌, ◌-◌, ◌<◌, ◌≤◌, List, [], ◌∷◌, ◌++◌, drop, length, get_or, Bool, true, nat_lt, lt-ltb, if◌then◌else◌, arith, append_assoc, append-nil, add-one, length-drop, codes}
use Rattle.std.proofs.Math.Seq.{drop-cons}
use Rattle.std.proofs.lemmas.Bool.Decides.{nat_tests}
use Rattle.std.proofs.lemmas.List.{drop_all}
use Rattle.frz_board.specs.Moving.{Step}
use Rattle.frz_store.specs.Told.{SinkTold}
use Rattle.frz_answer.specs.Texts.{TookText, FailedWithin}
use Rattle.frz_answer.proofs.Lemmas.{failed_before, failed_behind, took_behind, took_nothing}
use Rattle.frz_commands_chess.specs.Listing.{joined}

-- what was written so far, and then the rest of the moves, is the whole line
pub record HasJoined (write : Step → List ℕ) (moves : List Step) (i : ℕ)
    (old now : SinkTold) : Type 0 where
  pub written : List ℕ
  pub took : TookText written old now
  pub rest : written ++ joined write (drop i moves) ≡ joined write moves

pub nothing_joined : (write : Step → List ℕ) (moves : List Step) (out : SinkTold)
    → HasJoined write moves 0 out out
nothing_joined write moves out = record { written = []; took = took_nothing out; rest = refl }

-- a move's text, and a space where another follows
abbrev pub piece : (Step → List ℕ) → Step → Bool → List ℕ
piece write m more = write m ++ (if more then codes " " else [])

one_more : (write : Step → List ℕ) (m : Step) (rest : List Step) (more : Bool)
    → more ≡ nat_lt 0 (length rest) → joined write (m ∷ rest) ≡ piece write m more
    ++ joined write rest
one_more write m [] more e = sym (append-nil (write m)) ∙ sym (append-nil (write m ++ []))
    ∙ ap (λ b. piece write m b ++ joined write []) (sym e)
one_more write m (n ∷ rest) more e =
    let yes : more ≡ true = e ∙ lt-ltb 0 (length (n ∷ rest)) (omega arith) in
    sym (append_assoc (write m) (32 ∷ []) (joined write (n ∷ rest)))
    ∙ ap (λ b. piece write m b ++ joined write (n ∷ rest)) (sym yes)

-- the moves from a place on: the piece of the move there, and the rest
pub next_joined : (write : Step → List ℕ) (moves : List Step) (i : ℕ) (m : Step) → i < length moves
    → m ≡ get_or moves i m
    → joined write (drop i moves) ≡ piece write m (nat_lt (i + 1) (length moves)) ++ joined write
    (drop (i + 1) moves)
next_joined write moves i m here is =
    let rest : List Step = drop (i + 1) moves in
    let split : drop i moves ≡ m ∷ rest = drop-cons moves i m here
    ∙ ap (λ (x : Step). x ∷ drop (suc i) moves) (sym is) ∙ ap (λ n. m ∷ drop n moves)
    (sym (add-one i)) in
    let more : nat_lt (i + 1) (length moves) ≡ nat_lt 0 (length rest) = rw length-drop
    (later (i + 1) (length moves)) in
    ap (joined write) split ∙ one_more write m rest (nat_lt (i + 1) (length moves)) more
  where
    later : (n k : ℕ) → nat_lt n k ≡ nat_lt 0 (k - n)
    later n k = grind (arith, nat_tests)

module _ (write : Step → List ℕ) (moves : List Step) (i : ℕ) (m : Step) (old mid new : SinkTold)
    (here : i < length moves) (is : m ≡ get_or moves i m)
    (so_far : HasJoined write moves i old mid) where
  abbrev this : List ℕ
  this = piece write m (nat_lt (i + 1) (length moves))

  -- the sink took the piece of the move
  pub more_joined : TookText this mid new → HasJoined write moves (i + 1) old new
  more_joined took = record {
    written = so_far.written ++ this;
    took = took_behind so_far.written this (so_far.written ++ this) old mid new so_far.took refl
        took;
    rest = append_assoc so_far.written this (joined write (drop (i + 1) moves))
        ∙ ap (λ (l : List ℕ). so_far.written ++ l) (sym (next_joined write moves i m here is))
        ∙ so_far.rest;
  }

  -- the sink failed within it, and something was to follow
  pub cut_joined : (last : List ℕ) → FailedWithin this mid new
      → FailedWithin (joined write moves ++ last) old new
  cut_joined last failed =
      let rest : List ℕ = joined write (drop (i + 1) moves) in
      failed_before (so_far.written ++ this) (rest ++ last) (joined write moves ++ last) old new
      (failed_behind so_far.written this (so_far.written ++ this) old mid new so_far.took refl
      failed)
      (sym (append_assoc (so_far.written ++ this) rest last)
      ∙ ap (λ (l : List ℕ). l ++ last)
      (append_assoc so_far.written this rest ∙ ap (λ (l : List ℕ). so_far.written ++ l)
      (sym (next_joined write moves i m here is)) ∙ so_far.rest))

-- all moves were written
pub all_joined : (write : Step → List ℕ) (moves : List Step) (i : ℕ) (old now : SinkTold)
    → length moves ≤ i → HasJoined write moves i old now → TookText (joined write moves) old now
all_joined write moves i old now over so_far =
    let nothing : drop i moves ≡ [] = drop_all i moves over in
    subst (λ (l : List ℕ). TookText l old now)
    (sym (append-nil so_far.written) ∙ ap (λ (l : List Step). so_far.written ++ joined write l)
    (sym nothing) ∙ so_far.rest) so_far.took
