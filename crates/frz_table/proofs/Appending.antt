-- Pieces that are appended one after the other.
use Rattle.std.proofs.Common.{◌≡◌, refl, sym, ap, ◌∙◌, ℕ, zero, suc, ◌+◌, ◌-◌, ◌*◌, min, ◌<◌, ◌≤◌, List, [], ◌++◌, length, take, drop, Option, Some, None, arith, append_assoc, append-nil, length-append}
use Rattle.std.specs.Option.{option_map}
use Rattle.std.specs.Prelude.{Bool, false, ◌==◌}
use Rattle.std.proofs.lemmas.Bool.Decides.{nat_tests}
use Rattle.std.proofs.Math.Seq.{take-append_seam}
use Rattle.std.proofs.lemmas.List.{nil_from_length, take-append-drop}
use Rattle.frz_store.specs.Files.{Files, put, bytes_at, grown}
use Rattle.frz_store.proofs.Lemmas.{grown-put}
use Rattle.frz_store.specs.Told.{StoreTold}
use Rattle.frz_table.specs.Layout.{pieces_of}
use Rattle.frz_table.specs.Numbers.{number_bytes}
use Rattle.frz_table.proofs.Counting.{ArePieces, no_pieces, piece_more, pieces_within, next_within}
use Rattle.frz_table.proofs.NumberLists.{number_bytes-append, length-number_bytes}

grown_again : (last : Option (List ℕ)) (a b : List ℕ) (m : Files)
    → grown last b (grown last a m) ≡ grown last (a ++ b) m
grown_again None a b m = refl
grown_again (Some name) a b m =
    grown-put m name (bytes_at m name ++ a) b ∙ ap (put m name) (append_assoc (bytes_at m name) a b)

-- two pieces are one
pub grown_twice : (last : Option (List ℕ)) (a b : List ℕ) (o : Option Files)
    → option_map (grown last b) (option_map (grown last a) o) ≡ option_map (grown last (a ++ b)) o
grown_twice last a b None = refl
grown_twice last a b (Some m) = ap Some (grown_again last a b m)

-- a front of what was to come
pub front_taken : (front rest whole : List ℕ) → front ++ rest ≡ whole
    → take (length front) whole ≡ front
front_taken front rest whole is = ap (take (length front)) (sym is) ∙ take-append_seam front rest

-- a part of a piece, before which another one was appended and behind which more was to come
pub part_behind : (last : Option (List ℕ)) (a piece rest whole : List ℕ)
    (old mid new : Option Files) → a ++ (piece ++ rest) ≡ whole
    → mid ≡ option_map (grown last a) old → (k : ℕ)
    × (new ≡ option_map (grown last (take k piece)) mid)
    → (k : ℕ) × (new ≡ option_map (grown last (take k whole)) old)
part_behind last a piece rest whole old mid new is before part =
    let front : List ℕ = a ++ take part.0 piece in
    let all : front ++ (drop part.0 piece ++ rest) ≡ whole =
    append_assoc a (take part.0 piece) (drop part.0 piece ++ rest)
    ∙ ap (λ (l : List ℕ). a ++ l)
    (sym (append_assoc (take part.0 piece) (drop part.0 piece) rest)
    ∙ ap (λ (l : List ℕ). l ++ rest) (take-append-drop part.0 piece)) ∙ is in (
      length front,
      part.1 ∙ ap (option_map (grown last (take part.0 piece))) before ∙ grown_twice last a
          (take part.0 piece) old
          ∙ ap (λ (l : List ℕ). option_map (grown last l) old)
          (sym (front_taken front (drop part.0 piece ++ rest) whole all)),
    )

-- one piece more
pub piece_behind : (last now_last : Option (List ℕ)) (a piece : List ℕ) (old mid new : Option Files)
    → mid ≡ option_map (grown last a) old → now_last ≡ last
    → new ≡ option_map (grown now_last piece) mid → new ≡ option_map (grown last (a ++ piece)) old
piece_behind last now_last a piece old mid new before same more =
    more ∙ ap (λ (l : Option (List ℕ)). option_map (grown l piece) mid) same
    ∙ ap (option_map (grown last piece)) before ∙ grown_twice last a piece old

-- and a part of one, before the rest
pub part_after : (last now_last : Option (List ℕ)) (a piece rest whole : List ℕ)
    (old mid new : Option Files) → a ++ (piece ++ rest) ≡ whole
    → mid ≡ option_map (grown last a) old → now_last ≡ last → (k : ℕ)
    × (new ≡ option_map (grown now_last (take k piece)) mid)
    → (k : ℕ) × (new ≡ option_map (grown last (take k whole)) old)
part_after last now_last a piece rest whole old mid new is before same part =
    part_behind last a piece rest whole old mid new is before (
      part.0,
      part.1 ∙ ap (λ (l : Option (List ℕ)). option_map (grown l (take part.0 piece)) mid)
          same,
    )

-- a part of the first piece
pub part_first : (last : Option (List ℕ)) (piece rest whole : List ℕ) (old new : Option Files)
    → piece ++ rest ≡ whole
    → (k : ℕ) × (new ≡ option_map (grown last (take k piece)) old)
    → (k : ℕ) × (new ≡ option_map (grown last (take k whole)) old)
part_first last piece rest whole old new is part =
    let front : List ℕ = take part.0 piece in
    let all : front ++ (drop part.0 piece ++ rest) ≡ whole =
    sym (append_assoc (take part.0 piece) (drop part.0 piece) rest) ∙ ap (λ (l : List ℕ). l ++ rest)
    (take-append-drop part.0 piece) ∙ is in (
      length front,
      part.1 ∙ ap (λ (l : List ℕ). option_map (grown last l) old)
          (sym (front_taken front (drop part.0 piece ++ rest) whole all)),
    )

-- the numbers before the rest were appended
pub record IsWriting (old now : StoreTold) (codes rest : List ℕ) : Type 0 where
  pub written : List ℕ
  pub parts : codes ≡ written ++ rest
  pub files : 0 < length written → now.files ≡ option_map (grown old.last (number_bytes written))
      old.files
  pub none : length written ≡ 0 → now.files ≡ old.files
  pub last : now.last ≡ old.last
  pub room : now.room + 4 * length written ≡ old.room
  pub asked : now.asked ≡ old.asked
  pub wants : now.wants ≡ old.wants
  pub faults : now.faults ≡ old.faults
  pub pieces : ℕ
  pub in_pieces : ArePieces pieces (length written) (length codes) old.calls now.calls
  pub calls_later : old.calls ≤ now.calls

pub none_written : (old : StoreTold) (codes : List ℕ) → IsWriting old old codes codes
none_written old codes = record {
  written = [];
  parts = refl;
  files = λ h. absurd (omega arith);
  none = λ h. refl;
  last = refl;
  room = omega arith;
  asked = refl;
  wants = refl;
  faults = refl;
  pieces = 0;
  in_pieces = no_pieces (length codes) old.calls;
  calls_later = omega arith;
}

-- a piece more
pub more_written : (old mid new : StoreTold) (codes rest piece more : List ℕ)
    → IsWriting old mid codes rest → rest ≡ piece ++ more → 0 < length piece
    → new.files ≡ option_map (grown mid.last (number_bytes piece)) mid.files → new.last ≡ mid.last
    → new.room ≡ mid.room - 4 * length piece → 4 * length rest ≤ mid.room
    → new.asked ≡ mid.asked → new.wants ≡ mid.wants → new.faults ≡ mid.faults
    → length piece ≡ min 16384 (length rest) → new.calls ≤ mid.calls + 1 → mid.calls ≤ new.calls
    → IsWriting old new codes more
more_written old mid new codes rest piece more h cut some files last room enough asked wants faults
    long next later = record {
      written = h.written ++ piece;
      parts = h.parts ∙ ap (λ (l : List ℕ). h.written ++ l) cut
          ∙ sym (append_assoc h.written piece more);
      files = λ _. by_first (length h.written) refl;
      none = λ e. absurd (omega (arith, length-append h.written piece));
      last = last ∙ h.last;
      room = (let r = h.room in
          omega (
            arith,
            r,
            room,
            enough,
            length-append h.written piece,
            ap length cut,
            length-append piece more,
          ));
      asked = asked ∙ h.asked;
      wants = wants ∙ h.wants;
      faults = faults ∙ h.faults;
      pieces = h.pieces + 1;
      in_pieces =
          piece_more h.pieces (length h.written) (length piece) (length (h.written ++ piece))
          (length codes) old.calls mid.calls new.calls h.in_pieces next
          (omega (
            arith,
            ap length h.parts,
            length-append h.written rest,
            ap length cut,
            length-append piece more,
            some,
          ))
          (omega (arith, long, ap length h.parts, length-append h.written rest))
          (length-append h.written piece);
      calls_later = (let before = h.calls_later in omega (arith, before, later));
    }
  where
    from_last : new.files ≡ option_map (grown old.last (number_bytes piece)) mid.files
    from_last = files ∙ ap
        (λ (l : Option (List ℕ)). option_map (grown l (number_bytes piece)) mid.files) h.last

    by_first : (n : ℕ) → length h.written ≡ n
        → new.files ≡ option_map (grown old.last (number_bytes (h.written ++ piece))) old.files
    by_first zero e =
        let nothing : h.written ≡ [] = nil_from_length h.written e in
        from_last ∙ ap (option_map (grown old.last (number_bytes piece))) (h.none e)
        ∙ ap (λ (l : List ℕ). option_map (grown old.last (number_bytes (l ++ piece))) old.files)
        (sym nothing)
    by_first (suc n) e =
        from_last ∙ ap (option_map (grown old.last (number_bytes piece)))
        (h.files (omega (arith, e)))
        ∙ grown_twice old.last (number_bytes h.written) (number_bytes piece) old.files
        ∙ ap (λ (l : List ℕ). option_map (grown old.last l) old.files)
        (sym (number_bytes-append h.written piece))

-- a piece that was cut off
pub part_written : (old mid : StoreTold) (new : Option Files) (codes rest piece more : List ℕ)
    → IsWriting old mid codes rest → rest ≡ piece ++ more
    → (k : ℕ) × (new ≡ option_map (grown mid.last (take k (number_bytes piece))) mid.files)
    → (k : ℕ) × (new ≡ option_map (grown old.last (take k (number_bytes codes))) old.files)
part_written old mid new codes rest piece more h cut part = by_first (length h.written) refl
  where
    from_last : (k : ℕ) × (new ≡ option_map (grown old.last (take k (number_bytes piece)))
        mid.files)
    from_last = (
      part.0,
      part.1 ∙ ap (λ (l : Option (List ℕ)). option_map
          (grown l (take part.0 (number_bytes piece))) mid.files) h.last,
    )

    all : number_bytes h.written ++ (number_bytes piece ++ number_bytes more) ≡ number_bytes codes
    all = ap (λ (l : List ℕ). number_bytes h.written ++ l) (sym (number_bytes-append piece more))
        ∙ sym (number_bytes-append h.written (piece ++ more))
        ∙ ap number_bytes (ap (λ (l : List ℕ). h.written ++ l) (sym cut) ∙ sym h.parts)

    by_first : (n : ℕ) → length h.written ≡ n → (k : ℕ)
        × (new ≡ option_map (grown old.last (take k (number_bytes codes))) old.files)
    by_first zero e =
        let nothing : number_bytes h.written ≡ [] = nil_from_length (number_bytes h.written)
        (omega (arith, length-number_bytes h.written)) in
        part_first old.last (number_bytes piece) (number_bytes more) (number_bytes codes) old.files
        new
        (ap (λ (l : List ℕ). l ++ (number_bytes piece ++ number_bytes more)) (sym nothing) ∙ all) (
          from_last.0,
          from_last.1
              ∙ ap (option_map (grown old.last (take from_last.0 (number_bytes piece)))) (h.none e),
        )
    by_first (suc n) e =
        part_behind old.last (number_bytes h.written) (number_bytes piece) (number_bytes more)
        (number_bytes codes) old.files mid.files new all (h.files (omega (arith, e))) from_last

-- nothing is left
pub files_written : (old now : StoreTold) (codes rest : List ℕ) → IsWriting old now codes rest
    → length rest ≡ 0 → 0 < length codes
    → now.files ≡ option_map (grown old.last (number_bytes codes)) old.files
files_written old now codes rest h none some =
    let nothing : rest ≡ [] = nil_from_length rest none in
    let same : h.written ≡ codes = sym (append-nil h.written) ∙ ap (λ (l : List ℕ). h.written ++ l)
    (sym nothing) ∙ sym h.parts in
    h.files (omega (arith, ap length same, some))
    ∙ ap (λ (l : List ℕ). option_map (grown old.last (number_bytes l)) old.files) same

pub room_written : (old now : StoreTold) (codes rest : List ℕ) → IsWriting old now codes rest
    → length rest ≡ 0 → now.room + 4 * length codes ≡ old.room
room_written old now codes rest h none =
    let r = h.room in omega (arith, r, ap length h.parts, length-append h.written rest)

-- the front of the buffer is the piece that was put there
pub front_put : (n : ℕ) (piece rest whole : List ℕ) → length piece ≡ n → piece ≡ whole
    → take n (piece ++ rest) ≡ whole
front_put n piece rest whole long is =
    ap (λ (k : ℕ). take k (piece ++ rest)) (sym long) ∙ take-append_seam piece rest ∙ is

pub is_cut : (n : ℕ) (front back whole : List ℕ) → front ≡ take n whole → back ≡ drop n whole
    → whole ≡ front ++ back
is_cut n front back whole f b =
    sym (ap (λ (l : List ℕ). l ++ back) f ∙ ap (λ (l : List ℕ). take n whole ++ l) b
    ∙ take-append-drop n whole)

pub some_left : (n : ℕ) (b : Bool) → b ≡ (n == 0) → b ≡ false → 0 < n
some_left n b is fails = grind (arith, nat_tests)

pub calls_written : (old now : StoreTold) (codes rest : List ℕ) → IsWriting old now codes rest
    → now.calls ≤ old.calls + pieces_of (length codes)
calls_written old now codes rest h =
    pieces_within h.pieces (length h.written) (length codes) old.calls now.calls h.in_pieces
    (omega (arith, ap length h.parts, length-append h.written rest))

pub call_more : (old mid : StoreTold) (now : ℕ) (codes rest : List ℕ) → IsWriting old mid codes rest
    → 0 < length rest → now ≤ mid.calls + 1 → now ≤ old.calls + pieces_of (length codes)
call_more old mid now codes rest h some next =
    next_within h.pieces (length h.written) (length codes) old.calls mid.calls now h.in_pieces
    (omega (arith, ap length h.parts, length-append h.written rest, some)) next
