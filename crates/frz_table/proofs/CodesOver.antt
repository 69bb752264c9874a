-- What loading gives over files: the codes at their places, and within which calls and bytes.
use Rattle.std.proofs.Common.{◌≡◌, refl, sym, ap, subst, ◌∙◌, ℕ, zero, suc, ◌+◌, ◌-◌, ◌*◌, ◌<◌, ◌≤◌, min, List, [], ◌++◌, length, take, drop, Option, Some, None, Result, Ok, Err, IfOk, IfSome, arith, length-append}
use Rattle.std.specs.Int.{w32, from_le_bytes}
use Rattle.std.specs.List.{slice_get}
use Rattle.std.specs.Option.{unwrap_or}
use Rattle.std.specs.Prelude.{IfErr}
use Rattle.std.proofs.lemmas.List.{drop-drop}
use Rattle.std.proofs.lemmas.Option.{IfSome_then}
use Rattle.frz_asks.proofs.Lemmas.{Bounded, bounded_bind, bounded_bytes, bounded_memory, bounded_more, over-bind, ran_within, told_over}
use Rattle.frz_asks.specs.Loops.{repeated}
use Rattle.frz_asks.specs.Runs.{came, stop_end, end_by, end_of, Run}
use Rattle.frz_asks.specs.Trees.{gives, bind, over, ask_bytes, with_memory}
use Rattle.frz_board.specs.declared.man.Colour.{Colour}
use Rattle.frz_board.specs.declared.man.Colour.TheVariants.{White, Black}
use Rattle.frz_store.specs.Files.{Files, bytes_at}
use Rattle.frz_store.specs.Told.{StoreTold}
use Rattle.frz_store.specs.declared.outside.StoreFault.{StoreFault}
use Rattle.frz_table.specs.Asking.{number_of, next_count, next_piece, listing, by_white, loading, coding}
use Rattle.frz_table.specs.Faults.{IsOutside, stop_of}
use Rattle.frz_table.specs.Layout.{pieces_of, place_of, codes_at}
use Rattle.frz_table.specs.Numbers.{AreNumbers, number_at, numbers}
use Rattle.frz_table.specs.Possible.{MayKeepCodes}
use Rattle.frz_table.specs.Tables.{Holds, IsTableFile}
use Rattle.frz_table.specs.declared.fault.TableFault.{TableFault}
use Rattle.frz_table.proofs.KeptFiles.{IsHead, may_keep}
use Rattle.frz_table.proofs.NumberLists.{length-numbers, numbers-add, numbers-take, numbers-zero, slice_get-numbers}
use Rattle.frz_table.proofs.Stops.{failed, of_file, sort, Sort, wanted}

first_codes : ℕ → ℕ → ℕ
first_codes k count = min (16384 * k) count

over_piece : (m : Files) (name : List ℕ) (at count n : ℕ) → n ≤ count
    → over m (next_piece name at count (numbers n (drop at (bytes_at m name))))
    ≡ numbers (n + min 16384 (count - n)) (drop at (bytes_at m name))
unfolding next_piece over bind ask_bytes
over_piece m name at count n within =
    let bytes : List ℕ = bytes_at m name in
    let codes : List ℕ = numbers n (drop at bytes) in
    let many : length codes ≡ n = length-numbers n (drop at bytes) in
    let next : ℕ = min 16384 (count - n) in
    ap (λ (j : ℕ). codes ++ numbers (min 16384 (count - j))
    (take (4 * min 16384 (count - j)) (drop (at + 4 * j) bytes))) many
    ∙ ap (λ (l : List ℕ). codes ++ l)
    (numbers-take next (4 * next) (drop (at + 4 * n) bytes) (omega arith)
    ∙ ap (numbers next) (sym (drop-drop (4 * n) at bytes)))
    ∙ sym (numbers-add n next (drop at bytes))

over_pieces : (m : Files) (name : List ℕ) (at count k : ℕ)
    → over m (repeated k (next_piece name at count) [])
    ≡ numbers (first_codes k count) (drop at (bytes_at m name))
unfolding repeated over first_codes
over_pieces m name at count zero =
    let none : first_codes 0 count ≡ 0 = omega arith in
    sym (ap (λ (n : ℕ). numbers n (drop at (bytes_at m name))) none ∙ numbers-zero (drop at (bytes_at m name)))
over_pieces m name at count (suc k) =
    let n : ℕ = min (16384 * k) count in
    let more : n + min 16384 (count - n) ≡ min (16384 * suc k) count = omega arith in
    over-bind m (repeated k (next_piece name at count) []) (next_piece name at count)
    ∙ ap (λ (l : List ℕ). over m (next_piece name at count l)) (over_pieces m name at count k)
    ∙ over_piece m name at count n (omega arith)
    ∙ ap (λ (j : ℕ). numbers j (drop at (bytes_at m name))) more

over_list : (m : Files) (name : List ℕ) (at count : ℕ)
    → over m (listing name at count) ≡ numbers count (drop at (bytes_at m name))
unfolding listing first_codes over with_memory
over_list m name at count =
    let all : min (16384 * pieces_of count) count ≡ count = omega arith in
    over_pieces m name at count (pieces_of count)
    ∙ ap (λ (j : ℕ). numbers j (drop at (bytes_at m name))) all

pub over_loading : (m : Files) (name text : List ℕ) (size : ℕ) → over m (loading name text size)
    ≡ Ok (codes_at White text size (bytes_at m name), codes_at Black text size (bytes_at m name))
unfolding loading over
over_loading m name text size =
    let white : ℕ = place_of White text size in
    let black : ℕ = place_of Black text size in
    over-bind m (listing name white size) (by_white name black size)
    ∙ over-bind m (listing name black size) (λ b. gives (Ok (over m (listing name white size), b)))
    ∙ ap (λ (w : List ℕ). Ok (w, over m (listing name black size))) (over_list m name white size)
    ∙ ap (λ (b : List ℕ). Ok (numbers size (drop white (bytes_at m name)), b)) (over_list m name black size)

-- the bounds
more_codes : (count k : ℕ) (codes bytes : List ℕ) → length codes ≡ min (16384 * k) count
    → length (codes ++ numbers (next_count count codes) bytes) ≡ min (16384 * suc k) count
more_codes count k codes bytes h =
    let n : ℕ = next_count count codes in
    let a = length-append codes (numbers n bytes) in
    let b = length-numbers n bytes in
    let is : n ≡ min 16384 (count - length codes) = refl in omega (arith, h, a, b, is)

pieces_bounded : (name : List ℕ) (at count k : ℕ)
    → Bounded k (4 * min (16384 * k) count) (repeated k (next_piece name at count) [])
    (λ l. length l ≡ min (16384 * k) count)
unfolding Bounded repeated next_piece
pieces_bounded name at count zero = omega arith
pieces_bounded name at count (suc k) =
    let n : ℕ = min (16384 * k) count in
    let here : ℕ = min 16384 (count - n) in
    bounded_more (k + 1) (4 * n + 4 * here) (suc k) (4 * min (16384 * suc k) count)
    (repeated (suc k) (next_piece name at count) []) _ (omega arith) (omega arith)
    (bounded_bind k (4 * n) 1 (4 * here) (repeated k (next_piece name at count) [])
    (next_piece name at count) (λ l. length l ≡ n) (λ l. length l ≡ min (16384 * suc k) count)
    (pieces_bounded name at count k)
    (λ codes h. bounded_more (1 + 0) (4 * next_count count codes + 0) 1 (4 * here)
    (next_piece name at count codes) _ (omega arith) (omega (arith, h))
    (bounded_bind 1 (4 * next_count count codes) 0 0
    (ask_bytes name (at + 4 * length codes) (4 * next_count count codes)) _ _ _
    (bounded_bytes name (at + 4 * length codes) (4 * next_count count codes))
    (λ l long. more_codes count k codes l h))))

list_bounded : (name : List ℕ) (at count : ℕ)
    → Bounded (pieces_of count) (4 * count) (listing name at count) (λ l. length l ≡ count)
unfolding listing
list_bounded name at count =
    let all : min (16384 * pieces_of count) count ≡ count = omega arith in
    bounded_memory (pieces_of count) (4 * count) (repeated (pieces_of count) (next_piece name at count) []) _
    (subst (λ n. Bounded (pieces_of count) (4 * n)
    (repeated (pieces_of count) (next_piece name at count) []) (λ l. length l ≡ n)) all
    (pieces_bounded name at count (pieces_of count)))

-- codes of both sides were given, of this size
AreBoth : ℕ → Result (List ℕ × List ℕ) TableFault → Type 0
AreBoth size (Ok lists) = (length lists.0 ≡ size) × (length lists.1 ≡ size)
AreBoth size (Err e) = ⊥

load_bounded : (name text : List ℕ) (size : ℕ)
    → Bounded (2 * pieces_of size) (8 * size) (loading name text size) (AreBoth size)
unfolding loading Bounded AreBoth
load_bounded name text size =
    let k : ℕ = pieces_of size in
    bounded_more (k + (k + 0)) (4 * size + (4 * size + 0)) (2 * k) (8 * size) (loading name text size)
    (AreBoth size) (omega arith) (omega arith)
    (bounded_bind k (4 * size) (k + 0) (4 * size + 0) (listing name (place_of White text size) size)
    (by_white name (place_of Black text size) size) (λ l. length l ≡ size) (AreBoth size)
    (list_bounded name (place_of White text size) size)
    (λ w h. bounded_bind k (4 * size) 0 0 (listing name (place_of Black text size) size)
    (λ b. gives (Ok (w, b))) (λ l. length l ≡ size) (AreBoth size)
    (list_bounded name (place_of Black text size) size) (λ b i. (h, i))))

-- what the bytes of a name are, where it is there
of_held : (P : List ℕ → Type 0) (held : Option (List ℕ)) → P (unwrap_or held []) → IfSome held P
of_held P None h = tt
of_held P (Some bytes) h = h

first : Result (List ℕ × List ℕ) TableFault → List ℕ
first (Ok lists) = lists.0
first (Err e) = []

second : Result (List ℕ × List ℕ) TableFault → List ℕ
second (Ok lists) = lists.1
second (Err e) = []

module _ (name text : List ℕ) (size : ℕ) {T : Type 0} (white black : T → List ℕ)
    (old new : StoreTold) where
  abbrev Ran : Result T TableFault → Type 0
  Ran r = Run (loading name text size) (end_of stop_of (λ t. (white t, black t)) r) old new

  pub white_by : (r : Result T TableFault)
      → Run (loading name text size) (end_of stop_of (λ t. (white t, black t)) r) old new
      → IfOk r (λ t. IfSome old.files (λ m. IfSome (m name) (λ bytes. white t ≡ codes_at White text size bytes)))
  unfolding first
  white_by (Err f) run = tt
  white_by (Ok t) run =
      IfSome_then old.files (told_over (loading name text size) (Ok (white t, black t)) old new run)
      (λ m k. of_held (λ bytes. white t ≡ codes_at White text size bytes) (m name)
      (ap first (sym k ∙ over_loading m name text size)))

  pub black_by : (r : Result T TableFault)
      → Run (loading name text size) (end_of stop_of (λ t. (white t, black t)) r) old new
      → IfOk r (λ t. IfSome old.files (λ m. IfSome (m name) (λ bytes. black t ≡ codes_at Black text size bytes)))
  unfolding second
  black_by (Err f) run = tt
  black_by (Ok t) run =
      IfSome_then old.files (told_over (loading name text size) (Ok (white t, black t)) old new run)
      (λ m k. of_held (λ bytes. black t ≡ codes_at Black text size bytes) (m name)
      (ap second (sym k ∙ over_loading m name text size)))

  pub load_calls : (r : Result T TableFault)
      → Run (loading name text size) (end_of stop_of (λ t. (white t, black t)) r) old new
      → new.calls ≤ old.calls + 2 * pieces_of size
  load_calls r run =
      (ran_within (2 * pieces_of size) (8 * size) (loading name text size) _ (AreBoth size) old new
      (load_bounded name text size) run).few_calls

  pub load_asked : (r : Result T TableFault)
      → Run (loading name text size) (end_of stop_of (λ t. (white t, black t)) r) old new
      → new.asked ≤ old.asked + 8 * size
  load_asked r run =
      (ran_within (2 * pieces_of size) (8 * size) (loading name text size) _ (AreBoth size) old new
      (load_bounded name text size) run).few_bytes

  pub sizes_by : (r : Result T TableFault)
      → Run (loading name text size) (end_of stop_of (λ t. (white t, black t)) r) old new
      → IfOk r (λ t. (length (white t) ≡ size) × (length (black t) ≡ size))
  unfolding AreBoth
  sizes_by (Err f) run = tt
  sizes_by (Ok t) run =
      (ran_within (2 * pieces_of size) (8 * size) (loading name text size) (came (Ok (white t, black t)))
      (AreBoth size) old new (load_bounded name text size) run).given

  pub outside_by : (r : Result T TableFault)
      → Run (loading name text size) (end_of stop_of (λ t. (white t, black t)) r) old new
      → IfErr r IsOutside
  unfolding AreBoth
  outside_by (Ok t) run = tt
  outside_by (Err f) run = by_sort (sort f)
    where
      by_sort : Sort f → IsOutside f
      by_sort (of_file h) =
          absurd (ran_within (2 * pieces_of size) (8 * size) (loading name text size) (came (Err f))
          (AreBoth size) old new (load_bounded name text size)
          (subst (λ s. Run (loading name text size) (stop_end {A = List ℕ × List ℕ} s) old new) h.stops run)).given
      by_sort (failed e) = subst IsOutside (sym e) tt
      by_sort (wanted e) = subst IsOutside (sym e) tt

  pub keep_by : (magic : List ℕ) (r : Result T TableFault)
      → Run (loading name text size) (end_of stop_of (λ t. (white t, black t)) r) old new
      → IfOk r (λ t. AreNumbers (white t)) → IfOk r (λ t. AreNumbers (black t))
      → IsHead magic text size → Holds old.files name (IsTableFile magic text size)
      → IfOk r (λ t. MayKeepCodes old.files name magic text size (white t) (black t))
  keep_by magic (Err f) run w b h held = tt
  keep_by magic (Ok t) run w b h held =
      let long = sizes_by (Ok t) run in
      may_keep old.files name magic text size (white t) (black t) h held (record {
        white_is = white_by (Ok t) run;
        black_is = black_by (Ok t) run;
        white_long = long.0;
        black_long = long.1;
        white_fit = w;
        black_fit = b;
      })

-- the same name, text and size
pub loaded_as : {T : Type 0} (white black : T → List ℕ) (r : Result T TableFault)
    (held_name name held_text text : List ℕ) (held_size size : ℕ) (old new : StoreTold)
    → held_name ≡ name → held_text ≡ text → held_size ≡ size
    → Run (loading held_name held_text held_size) (end_of stop_of (λ t. (white t, black t)) r) old new
    → Run (loading name text size) (end_of stop_of (λ t. (white t, black t)) r) old new
loaded_as white black r held_name name held_text text held_size size old new named texts sizes h =
    subst (λ (n : ℕ). Run (loading name text n) (end_of stop_of (λ t. (white t, black t)) r) old new) sizes
    (subst (λ (t : List ℕ). Run (loading name t held_size) (end_of stop_of (λ t. (white t, black t)) r) old new) texts
    (subst (λ (n : List ℕ). Run (loading n held_text held_size) (end_of stop_of (λ t. (white t, black t)) r) old new)
    named h))

-- one code
module _ (name text : List ℕ) (size : ℕ) (side : Colour) (i : ℕ) (r : Result ℕ StoreFault)
    (old new : StoreTold) (run : Run (coding name text size side i) (end_by (λ n. n) r) old new) where
  pub code_asked : new.asked ≤ old.asked + 4
  unfolding coding Bounded
  code_asked =
      let at : ℕ = place_of side text size + 4 * i in
      let few = (ran_within (1 + 0) (4 + 0) (number_of name at) _ (λ n. Unit {0}) old new
      (bounded_bind 1 4 0 0 (ask_bytes name at 4) (λ l. gives (from_le_bytes w32 l)) _ (λ n. Unit {0})
      (bounded_bytes name at 4) (λ l h. tt)) run).few_bytes in
      omega (arith, few)

at_place : (size i place : ℕ) (bytes : List ℕ) → i < size
    → slice_get (numbers size (drop place bytes)) i ≡ Some (number_at (place + 4 * i) bytes)
at_place size i place bytes within =
    slice_get-numbers size i (drop place bytes) within
    ∙ ap (λ (l : List ℕ). Some (from_le_bytes w32 (take 4 l))) (drop-drop (4 * i) place bytes)

pub code_by : (name text : List ℕ) (size : ℕ) (side : Colour) (i : ℕ) (r : Result ℕ StoreFault)
    (old new : StoreTold) → i < size → Run (coding name text size side i) (end_by (λ n. n) r) old new
    → IfOk r (λ code. IfSome old.files (λ m. IfSome (m name)
    (λ bytes. slice_get (codes_at side text size bytes) i ≡ Some code)))
unfolding coding over bind ask_bytes
code_by name text size side i (Err h) old new within run = tt
code_by name text size side i (Ok n) old new within run =
    IfSome_then old.files (told_over (number_of name (place_of side text size + 4 * i)) n old new run)
    (λ m k. of_held (λ bytes. slice_get (codes_at side text size bytes) i ≡ Some n) (m name)
    (at_place size i (place_of side text size) (bytes_at m name) within ∙ ap Some k))

pub coded_as : (held_name name text : List ℕ) (at size i : ℕ) (side : Colour) (r : Result ℕ StoreFault)
    (old new : StoreTold) → held_name ≡ name → at ≡ place_of side text size + 4 * i
    → Run (number_of held_name at) (end_by (λ n. n) r) old new
    → Run (coding name text size side i) (end_by (λ n. n) r) old new
unfolding coding
coded_as held_name name text at size i side r old new named is h =
    subst (λ n. Run (number_of name n) (end_by (λ n. n) r) old new) is
    (subst (λ (n : List ℕ). Run (number_of n at) (end_by (λ n. n) r) old new) named h)
