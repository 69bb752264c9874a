-- Any trace is one of files that may be others at each question.
use Rattle.std.proofs.Common.{◌≡◌, refl, sym, ap, ◌∙◌, ℕ, zero, suc, List, [], ◌∷◌, ◌++◌, length, take, drop, Option, Some, None, replicate}
use Rattle.std.proofs.Math.Seq.{drop-append_seam, take-length}
use Rattle.std.proofs.lemmas.List.{length-replicate}
use Rattle.frz_store.specs.Bytes.{MayBeHeld}
use Rattle.frz_store.specs.Files.{Files}
use Rattle.frz_asks.specs.Trees.{Question, file_size, file_bytes, memory, Answer, Asks, gives, asks, size_in, bytes_in, answer_in}
use Rattle.frz_asks.specs.Traces.{SizeFits, BytesFit, Fits, Trace}
use Rattle.frz_asks.specs.Later.{Changing, over_later}
use Rattle.frz_asks.proofs.Laying.{bytes_append, zeros}

-- files of one answer
record OneAnswer (told : Option Files) (P : Files → Type 0) : Type 0 where
  m : Files
  held : MayBeHeld told m
  so : P m

one_size : (told : Option Files) (name : List ℕ) (n : Option ℕ) → SizeFits told name n
    → OneAnswer told (λ m. size_in m name ≡ n)
one_size (Some m) name n h = record { m = m; held = refl; so = sym h.so }
one_size None name None h = record { m = λ q. None; held = λ q. tt; so = refl }
one_size None name (Some n) h = record {
  m = λ q. Some (replicate n 0);
  held = λ q. zeros n;
  so = ap Some (length-replicate {A = ℕ} n 0);
}

laid_bytes : (at count : ℕ) (l : List ℕ) → length l ≡ count
    → take count (drop at (replicate at 0 ++ l)) ≡ l
laid_bytes at count l long =
    let gap : List ℕ = replicate at 0 in
    ap (λ (n : ℕ). take count (drop n (gap ++ l))) (sym (length-replicate {A = ℕ} at 0))
    ∙ ap (take count) (drop-append_seam gap l) ∙ ap (λ (n : ℕ). take n l) (sym long) ∙ take-length l

one_bytes : (told : Option Files) (name : List ℕ) (at count : ℕ) (l : List ℕ)
    → BytesFit told name at count l → OneAnswer told (λ m. bytes_in m name at count ≡ l)
one_bytes (Some m) name at count l h = record { m = m; held = refl; so = sym h.so }
one_bytes None name at count l h = record {
  m = λ q. Some (replicate at 0 ++ l);
  held = λ q. bytes_append (replicate at 0) l (zeros at) h.bytes;
  so = laid_bytes at count l h.long;
}

any_files : (told : Option Files) → OneAnswer told (λ m. Unit {0})
any_files None = record { m = λ q. None; held = λ q. tt; so = tt }
any_files (Some m) = record { m = m; held = refl; so = tt }

one_answer : (told : Option Files) (e : Question) (x : Answer e) → Fits told e x
    → OneAnswer told (λ m. answer_in m e ≡ x)
one_answer told (file_size name) x h = one_size told name x h
one_answer told (file_bytes name at count) x h = one_bytes told name at count x h
one_answer told memory x h =
    let any = any_files told in record { m = any.m; held = any.held; so = refl }

behind : Files → (ℕ → Files) → ℕ → Files
behind m f zero = m
behind m f (suc k) = f k

held_behind : (told : Option Files) (m : Files) (f : ℕ → Files) → MayBeHeld told m
    → ((k : ℕ) → MayBeHeld told (f k)) → (k : ℕ) → MayBeHeld told (behind m f k)
unfolding behind
held_behind told m f h g zero = h
held_behind told m f h g (suc k) = g k

pub changing : {A : Type 0} (told : Option Files) (seen : List Question) (p : Asks A) (a : A)
    → Trace told seen p (gives a) → Changing told p a
unfolding Trace over_later behind
changing told [] p a h =
    let any = any_files told in record {
      files = λ k. any.m;
      held = λ k. any.held;
      gives = ap (over_later (λ k. any.m)) h;
    }
changing told (d ∷ s) (gives b) a h = absurd h
changing told (d ∷ s) (asks e k) a h =
    let one = one_answer told e h.answer h.fits in
    let rest = changing told s (k h.answer) a h.next in record {
      files = behind one.m rest.files;
      held = held_behind told one.m rest.files one.held rest.held;
      gives = ap (λ x. over_later rest.files (k x)) one.so ∙ rest.gives;
    }
