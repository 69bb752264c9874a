-- A file of a table and its bytes determine each other.
use Rattle.std.proofs.Common.{◌≡◌, refl, sym, ap, subst, ◌∙◌, ℕ, zero, suc, ◌+◌, ◌*◌, ◌^◌, ◌<◌, ◌≤◌, List, [], ◌∷◌, ◌++◌, length, take, drop, get_or, lit<, arith, append_assoc, append-nil, length-append, length-drop}
use Rattle.std.specs.Int.{w32, to_le_bytes, from_le_bytes}
use Rattle.std.proofs.Math.Seq.{take-append_seam, drop-append_seam, take-add, take-length}
use Rattle.std.proofs.lemmas.List.{drop-drop, get_or-drop, length-take-le, take-append-drop}
use Rattle.std.proofs.lemmas.Nat.{from_le_bytes-to_le_bytes_4, le_bytes_4}
use Rattle.frz_board.specs.declared.man.Colour.TheVariants.{White, Black}
use Rattle.frz_table.specs.Numbers.{number_at, numbers, number_bytes}
use Rattle.frz_table.specs.Layout.{header_of, file_of, codes_at}
use Rattle.frz_table.specs.Tables.{IsTableFile}
use Rattle.frz_table.proofs.NumberLists.{length-number_bytes, length-to_le_bytes}

-- bytes of two tables are bytes of one
pub one_reading : (m n t u : List ℕ) (k l : ℕ) (bytes : List ℕ) → IsTableFile m t k bytes
    → IsTableFile n u l bytes → (m ≡ n) × (t ≡ u) × (k ≡ l)
one_reading m n t u k l bytes a b =
    let long : length t ≡ length u = sym a.counted ∙ b.counted in (
      sym a.begins ∙ b.begins,
      sym a.has_text ∙ ap (λ (i : ℕ). take i (drop 12 bytes)) long ∙ b.has_text,
      sym a.sized ∙ ap (λ (i : ℕ). number_at (12 + i) bytes) long ∙ b.sized,
    )

-- what stands behind a front of this length
pub behind : (n : ℕ) (front rest : List ℕ) → length front ≡ n → drop n (front ++ rest) ≡ rest
behind n front rest long =
    ap (λ (k : ℕ). drop k (front ++ rest)) (sym long) ∙ drop-append_seam front rest

pub before : (n : ℕ) (front rest : List ℕ) → length front ≡ n → take n (front ++ rest) ≡ front
before n front rest long =
    ap (λ (k : ℕ). take k (front ++ rest)) (sym long) ∙ take-append_seam front rest

-- a number that stands behind a front
pub number_behind : (place n : ℕ) (front rest : List ℕ) → length front ≡ place → n < 2 ^ 32
    → number_at place (front ++ (to_le_bytes w32 n ++ rest)) ≡ n
number_behind place n front rest long fits =
    ap (λ (l : List ℕ). from_le_bytes w32 (take 4 l))
    (behind place front (to_le_bytes w32 n ++ rest) long)
    ∙ ap (from_le_bytes w32) (before 4 (to_le_bytes w32 n) rest refl)
    ∙ from_le_bytes-to_le_bytes_4 n fits

-- numbers that were written are read again
pub numbers-number_bytes : (ns rest : List ℕ) → ((i : ℕ) → get_or ns i 0 < 2 ^ 32)
    → numbers (length ns) (number_bytes ns ++ rest) ≡ ns
unfolding numbers number_bytes
numbers-number_bytes [] rest fit = refl
numbers-number_bytes (n ∷ ns) rest fit =
    let shape : (to_le_bytes w32 n ++ number_bytes ns) ++ rest ≡ to_le_bytes w32 n
    ++ (number_bytes ns ++ rest) = append_assoc (to_le_bytes w32 n) (number_bytes ns) rest in
    ap (λ (l : List ℕ). from_le_bytes w32 (take 4 l) ∷ numbers (length ns) (drop 4 l)) shape
    ∙ ap (λ (x : ℕ). x ∷ numbers (length ns) (number_bytes ns ++ rest))
    (from_le_bytes-to_le_bytes_4 n (fit 0))
    ∙ ap (λ (l : List ℕ). n ∷ l) (numbers-number_bytes ns rest (λ i. fit (suc i)))

few_bytes : (n : ℕ) (l : List ℕ) → ((i : ℕ) → get_or l i 0 < 256) → (i : ℕ)
    → get_or (take n l) i 0 < 256
few_bytes zero l each i = lit< tt
few_bytes (suc n) [] each i = lit< tt
few_bytes (suc n) (x ∷ l) each zero = each 0
few_bytes (suc n) (x ∷ l) each (suc i) = few_bytes n l (λ j. each (suc j)) i

rest_bytes : (n : ℕ) (l : List ℕ) → ((i : ℕ) → get_or l i 0 < 256) → (i : ℕ)
    → get_or (drop n l) i 0 < 256
rest_bytes n l each i = subst (λ (k : ℕ). k < 256) (sym (get_or-drop n l i 0)) (each (n + i))

-- numbers that were read are written again
pub number_bytes-numbers : (count : ℕ) (bytes : List ℕ) → 4 * count ≤ length bytes
    → ((i : ℕ) → get_or bytes i 0 < 256)
    → number_bytes (numbers count bytes) ≡ take (4 * count) bytes
unfolding numbers number_bytes
number_bytes-numbers zero bytes enough are = refl
number_bytes-numbers (suc count) bytes enough are =
    let first : to_le_bytes w32 (from_le_bytes w32 (take 4 bytes)) ≡ take 4 bytes =
    le_bytes_4 (take 4 bytes) (from_le_bytes w32 (take 4 bytes))
    (length-take-le 4 bytes (omega (arith, enough))) (few_bytes 4 bytes are) refl in
    let rest : number_bytes (numbers count (drop 4 bytes)) ≡ take (4 * count) (drop 4 bytes) =
    number_bytes-numbers count (drop 4 bytes) (omega (arith, enough, length-drop 4 bytes))
    (rest_bytes 4 bytes are) in
    let sum : 4 + 4 * count ≡ 4 * suc count = omega arith in
    ap (λ (l : List ℕ). l ++ number_bytes (numbers count (drop 4 bytes))) first
    ∙ ap (λ (l : List ℕ). take 4 bytes ++ l) rest
    ∙ sym (take-add 4 (4 * count) bytes) ∙ ap (λ (n : ℕ). take n bytes) sum

-- a number that was read from four bytes is written as these
written_number : (place n : ℕ) (bytes : List ℕ) → place + 4 ≤ length bytes
    → ((i : ℕ) → get_or bytes i 0 < 256) → number_at place bytes ≡ n
    → to_le_bytes w32 n ≡ take 4 (drop place bytes)
written_number place n bytes enough are is =
    le_bytes_4 (take 4 (drop place bytes)) n
    (length-take-le 4 (drop place bytes) (omega (arith, enough, length-drop place bytes)))
    (few_bytes 4 (drop place bytes) (rest_bytes place bytes are)) (sym is)

-- what is left from a place on is a part and what is left behind it
part_of : (place n next : ℕ) (bytes : List ℕ) → next ≡ place + n
    → take n (drop place bytes) ++ drop next bytes ≡ drop place bytes
part_of place n next bytes is =
    ap (λ (k : ℕ). take n (drop place bytes) ++ drop k bytes) is
    ∙ ap (λ (l : List ℕ). take n (drop place bytes) ++ l) (sym (drop-drop n place bytes))
    ∙ take-append-drop n (drop place bytes)

parts_joined : (a b c d e f u v w x y z : List ℕ) → a ≡ u → b ≡ v → c ≡ w → d ≡ x → e ≡ y → f ≡ z
    → (a ++ (b ++ (c ++ d))) ++ (e ++ f) ≡ u ++ (v ++ (w ++ (x ++ (y ++ z))))
parts_joined a b c d e f u v w x y z p q r s t o = let flat : (u ++ (v ++ (w ++ x))) ++ (y ++ z) ≡ u
    ++ (v ++ (w ++ (x ++ (y ++ z)))) = simp append_assoc in cc

-- what was loaded gives the same bytes when it is written
pub loaded_is_written : (magic text : List ℕ) (size : ℕ) (bytes : List ℕ)
    → IsTableFile magic text size bytes → ((i : ℕ) → get_or bytes i 0 < 256)
    → file_of magic text size (codes_at White text size bytes) (codes_at Black text size bytes)
    ≡ bytes
loaded_is_written magic text size bytes h are =
    let front : ℕ = 16 + length text in
    let last : ℕ = 16 + length text + 4 * size in
    let long : length bytes ≡ 16 + length text + 8 * size = h.due in
    let counted = written_number 8 (length text) bytes (omega (arith, long)) are h.counted in
    let sized = written_number (12 + length text) size bytes (omega (arith, long)) are h.sized in
    let white = number_bytes-numbers size (drop front bytes)
    (omega (arith, long, length-drop front bytes)) (rest_bytes front bytes are) in
    let black = number_bytes-numbers size (drop last bytes)
    (omega (arith, long, length-drop last bytes)) (rest_bytes last bytes are) in
    let all : take (4 * size) (drop last bytes) ≡ drop last bytes = take_all (4 * size)
    (drop last bytes) (omega (arith, long, length-drop last bytes)) in
    parts_joined magic (to_le_bytes w32 (length text)) text (to_le_bytes w32 size)
    (number_bytes (numbers size (drop front bytes))) (number_bytes (numbers size (drop last bytes)))
    (take 8 bytes) (take 4 (drop 8 bytes)) (take (length text) (drop 12 bytes))
    (take 4 (drop (12 + length text) bytes)) (take (4 * size) (drop front bytes)) (drop last bytes)
    (sym h.begins) counted (sym h.has_text) sized white (black ∙ all)
    ∙ ap (λ (l : List ℕ). take 8 bytes
    ++ (take 4 (drop 8 bytes)
    ++ (take (length text) (drop 12 bytes) ++ (take 4 (drop (12 + length text) bytes) ++ l))))
    (part_of front (4 * size) last bytes refl)
    ∙ ap (λ (l : List ℕ). take 8 bytes
    ++ (take 4 (drop 8 bytes) ++ (take (length text) (drop 12 bytes) ++ l)))
    (part_of (12 + length text) 4 front bytes (omega arith))
    ∙ ap (λ (l : List ℕ). take 8 bytes ++ (take 4 (drop 8 bytes) ++ l))
    (part_of 12 (length text) (12 + length text) bytes refl)
    ∙ ap (λ (l : List ℕ). take 8 bytes ++ l) (part_of 8 4 12 bytes refl)
    ∙ part_of 0 8 8 bytes refl
  where
    take_all : (n : ℕ) (l : List ℕ) → length l ≡ n → take n l ≡ l
    take_all n l long = ap (λ (k : ℕ). take k l) (sym long) ∙ take-length l

-- what is written is a file of the table
pub written_belongs : (magic text : List ℕ) (size : ℕ) (white black : List ℕ) → length magic ≡ 8
    → length text < 2 ^ 32 → size < 2 ^ 32 → length white ≡ size → length black ≡ size
    → IsTableFile magic text size (file_of magic text size white black)
written_belongs magic text size white black eight fits size_fits w b =
    let count : List ℕ = to_le_bytes w32 (length text) in
    let kept : List ℕ = to_le_bytes w32 size in
    let codes : List ℕ = number_bytes white ++ number_bytes black in
    let file : List ℕ = file_of magic text size white black in
    let one : file ≡ magic ++ (count ++ (text ++ (kept ++ codes))) = flat magic count text kept
    codes in
    let two : file ≡ (magic ++ count) ++ (text ++ (kept ++ codes)) = one
    ∙ sym (append_assoc magic count (text ++ (kept ++ codes))) in
    let three : file ≡ ((magic ++ count) ++ text) ++ (kept ++ codes) = two
    ∙ sym (append_assoc (magic ++ count) text (kept ++ codes)) in
    let twelve : length (magic ++ count) ≡ 12 = omega
    (arith, length-append magic count, eight, length-to_le_bytes (length text)) in
    let before_size : length ((magic ++ count) ++ text) ≡ 12 + length text = omega
    (arith, twelve, length-append (magic ++ count) text) in
    record {
      begins = ap (take 8) one ∙ before 8 magic (count ++ (text ++ (kept ++ codes))) eight;
      counted = ap (number_at 8) one ∙ number_behind 8 (length text) magic (text ++ (kept ++ codes))
          eight fits;
      has_text = ap (λ (l : List ℕ). take (length text) (drop 12 l)) two ∙ ap (take (length text))
          (behind 12 (magic ++ count) (text ++ (kept ++ codes)) twelve) ∙ before (length text) text
          (kept ++ codes) refl;
      sized = ap (number_at (12 + length text)) three ∙ number_behind (12 + length text) size
          ((magic ++ count) ++ text) codes before_size size_fits;
      due =
          omega (
            arith,
            ap length three,
            length-append ((magic ++ count) ++ text) (kept ++ codes),
            before_size,
            length-append kept codes,
            length-to_le_bytes size,
            length-append (number_bytes white) (number_bytes black),
            length-number_bytes white,
            length-number_bytes black,
            w,
            b,
          );
    }
  where
    flat : (a b c d e : List ℕ) → (a ++ (b ++ (c ++ d))) ++ e ≡ a ++ (b ++ (c ++ (d ++ e)))
    flat a b c d e = simp append_assoc

-- the codes that were written are loaded
pub written_is_loaded : (magic text : List ℕ) (size : ℕ) (white black : List ℕ) → length magic ≡ 8
    → length white ≡ size → length black ≡ size
    → ((i : ℕ) → get_or white i 0 < 2 ^ 32) → ((i : ℕ) → get_or black i 0 < 2 ^ 32)
    → (codes_at White text size (file_of magic text size white black) ≡ white)
    × (codes_at Black text size (file_of magic text size white black) ≡ black)
written_is_loaded magic text size white black eight w b white_fit black_fit =
    let header : List ℕ = header_of magic text size in
    let front : length header ≡ 16 + length text =
    omega (
      arith,
      length-append magic (to_le_bytes w32 (length text) ++ (text ++ to_le_bytes w32 size)),
      length-append (to_le_bytes w32 (length text)) (text ++ to_le_bytes w32 size),
      length-append text (to_le_bytes w32 size),
      eight,
      length-to_le_bytes (length text),
      length-to_le_bytes size,
    ) in
    let shape : file_of magic text size white black ≡ (header ++ number_bytes white)
    ++ number_bytes black =
    sym (append_assoc header (number_bytes white) (number_bytes black)) in
    let longer : length (header ++ number_bytes white) ≡ 16 + length text + 4 * size = omega
    (arith, front, length-append header (number_bytes white), length-number_bytes white, w) in (
      ap (numbers size)
          (behind (16 + length text) header (number_bytes white ++ number_bytes black) front)
          ∙ ap (λ (n : ℕ). numbers n (number_bytes white ++ number_bytes black)) (sym w)
          ∙ numbers-number_bytes white (number_bytes black) white_fit,
      ap (λ (l : List ℕ). numbers size (drop (16 + length text + 4 * size) l)) shape
          ∙ ap (numbers size)
          (behind (16 + length text + 4 * size) (header ++ number_bytes white) (number_bytes black)
          longer ∙ sym (append-nil (number_bytes black)))
          ∙ ap (λ (n : ℕ). numbers n (number_bytes black ++ [])) (sym b)
          ∙ numbers-number_bytes black [] black_fit,
    )
