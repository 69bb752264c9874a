-- Lists that are read in pieces.
use Rattle.std.proofs.Common.{◌≡◌, refl, sym, subst, ℕ, suc, ◌+◌, ◌-◌, ◌*◌, ◌<◌, ◌≤◌, min, List, [], length, Ok, arith}
use Rattle.frz_store.specs.Told.{StoreTold}
use Rattle.frz_store.specs.declared.outside.StoreFault.{StoreFault}
use Rattle.frz_board.specs.declared.man.Colour.TheVariants.{Black}
use Rattle.frz_table.specs.Layout.{pieces_of, place_of}
use Rattle.frz_asks.proofs.Lemmas.{halt_first, memory_on, repeat_more, repeat_none, repeat_stop, run_none, run_on}
use Rattle.frz_asks.specs.Loops.{repeated}
use Rattle.frz_asks.specs.Runs.{came, halted, Run}
use Rattle.frz_table.specs.Asking.{next_piece, listing, by_white, loading}

-- so many pieces of a list were read
pub record IsLoading (name : List ℕ) (at count long : ℕ) (list : List ℕ)
    (old now : StoreTold) : Type 0 where
  pub pieces : ℕ
  pub ran : Run (repeated pieces (next_piece name at count) []) (came list) old now
  pub many : long ≡ min (16384 * pieces) count
  pub few : 16384 * pieces < count + 16384

pub none_loaded : (name : List ℕ) (at count long : ℕ) (list : List ℕ) (store : StoreTold)
    → list ≡ [] → long ≡ 0 → IsLoading name at count long list store store
none_loaded name at count long list store none zero_long = record {
  pieces = 0;
  ran = subst (λ l. Run (repeated 0 (next_piece name at count) []) (came l) store store) (sym none)
      (repeat_none (next_piece name at count) [] store);
  many = omega (arith, zero_long);
  few = omega arith;
}

pub more_loaded : (name : List ℕ) (at count long longer : ℕ) (list more : List ℕ)
    (old mid new : StoreTold) → IsLoading name at count long list old mid → long < count
    → Run (next_piece name at count list) (came more) mid new
    → longer ≡ long + min 16384 (count - long)
    → IsLoading name at count longer more old new
more_loaded name at count long longer list more old mid new h left r is = record {
  pieces = h.pieces + 1;
  ran = repeat_more (next_piece name at count) [] list more h.pieces old mid new h.ran r;
  many = (let m = h.many in omega (arith, m, is, left));
  few = (let m = h.many in omega (arith, m, left));
}

pub not_loaded : (name : List ℕ) (at count long : ℕ) (list : List ℕ) (h : StoreFault)
    (old mid new : StoreTold) → IsLoading name at count long list old mid → long < count
    → Run (next_piece name at count list) (halted h) mid new
    → Run (listing name at count) (halted h) old new
unfolding listing
not_loaded name at count long list f old mid new h left r = memory_on (
    let n : ℕ = pieces_of count - (h.pieces + 1) in
    let all : suc (n + h.pieces) ≡ pieces_of count =
    (let m = h.many in let is : n ≡ pieces_of count - (h.pieces + 1) = refl in omega (arith, m, left, is)) in
    subst (λ k. Run (repeated k (next_piece name at count) []) (halted f) old new) all
    (repeat_stop (next_piece name at count) [] list h.pieces n f old mid new h.ran r))

pub all_loaded : (name : List ℕ) (at count long : ℕ) (list : List ℕ) (old new : StoreTold)
    → IsLoading name at count long list old new → count ≤ long
    → Run (listing name at count) (came list) old new
unfolding listing
all_loaded name at count long list old new h enough =
    let all : h.pieces ≡ pieces_of count =
    (let m = h.many in let f = h.few in omega (arith, m, f, enough)) in
    memory_on (subst (λ k. Run (repeated k (next_piece name at count) []) (came list) old new) all h.ran)

-- the codes of both sides
module _ (name text : List ℕ) (size white black : ℕ) (is_white : white ≡ 16 + length text)
    (is_black : black ≡ 16 + length text + 4 * size) where
  module _ (old new : StoreTold) where
    pub no_white : (h : StoreFault) → Run (listing name white size) (halted h) old new
        → Run (loading name text size) (halted h) old new
    unfolding loading
    no_white h r =
        halt_first (by_white name (place_of Black text size) size)
        (subst (λ n. Run (listing name n size) (halted h) old new) is_white r)

  module _ (w : List ℕ) (old mid new : StoreTold) (r : Run (listing name white size) (came w) old mid) where
    pub no_black : (h : StoreFault) → Run (listing name black size) (halted h) mid new
        → Run (loading name text size) (halted h) old new
    unfolding loading
    no_black h k =
        run_on (by_white name (place_of Black text size) size)
        (subst (λ n. Run (listing name n size) (came w) old mid) is_white r)
        (halt_first _ (subst (λ n. Run (listing name n size) (halted h) mid new) is_black k))

    pub both : (b : List ℕ) → Run (listing name black size) (came b) mid new
        → Run (loading name text size) (came (Ok (w, b))) old new
    unfolding loading
    both b k =
        run_on (by_white name (place_of Black text size) size)
        (subst (λ n. Run (listing name n size) (came w) old mid) is_white r)
        (run_on _ (subst (λ n. Run (listing name n size) (came b) mid new) is_black k) (run_none _ _))
