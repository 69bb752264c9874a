-- Any trace of a tidy calculation is one of some files: its bytes are laid over zeros.
use Rattle.std.proofs.Common.{◌≡◌, refl, sym, ap, subst, ◌∙◌, ℕ, zero, suc, ◌+◌, ◌-◌, ◌<◌, ◌≤◌, Bool, true, false, cond, List, [], ◌∷◌, ◌++◌, length, take, drop, Option, Some, None, IfSome, replicate, lit<, arith, append_assoc, unwrap_or, length-append}
use Rattle.std.proofs.lemmas.List.{length-replicate, take-take, take_at, drop-take}
use Rattle.std.specs.Option.{option_map}
use Rattle.std.specs.Prelude.{⊤}
use Rattle.std.proofs.Math.Seq.{drop-append_seam}
use Rattle.std.specs.Str.{bytes_eq}
use Rattle.std.proofs.lemmas.Slice.Eq.{bytes_eq-Decides}
use Rattle.frz_store.specs.Bytes.{AreBytes, MayBeHeld}
use Rattle.frz_store.specs.Files.{Files}
use Rattle.frz_asks.specs.Trees.{Question, file_size, file_bytes, memory, Asks, gives, asks, size_in, bytes_in}
use Rattle.frz_asks.specs.Traces.{Trace}
use Rattle.frz_asks.specs.Tidy.{Mark, unasked, absent, upto, by_size, Marks, noted, IsBehind, gone_on, Tidy}

-- bytes behind bytes, and zeros
at_cons : (a : ℕ) (x : List ℕ) → a < 256 → AreBytes x → AreBytes (a ∷ x)
at_cons a x h k zero = h
at_cons a x h k (suc i) = k i

no_bytes : AreBytes []
no_bytes i = lit< tt

pub bytes_append : (x y : List ℕ) → AreBytes x → AreBytes y → AreBytes (x ++ y)
bytes_append [] y h k = k
bytes_append (a ∷ x) y h k = at_cons a (x ++ y) (h 0) (bytes_append x y (λ i. h (suc i)) k)

pub zeros : (n : ℕ) → AreBytes (replicate n 0)
zeros zero = no_bytes
zeros (suc n) = at_cons 0 (replicate n 0) (lit< tt) (zeros n)

-- what a name holds is as the mark says, and the bytes before its place are these
record Whole (size at : ℕ) (front : List ℕ) (held : Option (List ℕ)) : Type 0 where
  bytes : List ℕ
  there : held ≡ Some bytes
  are : AreBytes bytes
  long : length bytes ≡ size
  begins : take at bytes ≡ front

At : Mark → List ℕ → Option (List ℕ) → Type 0
At unasked front held = IfSome held AreBytes
At absent front held = held ≡ None
At (upto size at) front held = Whole size at front held

record Begun (size at : ℕ) (front : List ℕ) : Type 0 where
  within : at ≤ size
  long : length front ≡ at
  are : AreBytes front

Good : Mark → List ℕ → Type 0
Good unasked front = ⊤
Good absent front = ⊤
Good (upto size at) front = Begun size at front

lay : Mark → List ℕ → Option (List ℕ)
lay unasked front = None
lay absent front = None
lay (upto size at) front = Some (front ++ replicate (size - at) 0)

laid_at : (mark : Mark) (front : List ℕ) → Good mark front → At mark front (lay mark front)
unfolding At Good lay
laid_at unasked front h = tt
laid_at absent front h = refl
laid_at (upto size at) front h = record {
  bytes = front ++ replicate (size - at) 0;
  there = refl;
  are = bytes_append front (replicate (size - at) 0) h.are (zeros (size - at));
  long = (let a = h.long in let b = h.within in
      omega (arith, a, b, length-append front (replicate (size - at) 0), length-replicate {A = ℕ} (size - at) 0));
  begins = take_at front (replicate (size - at) 0) at h.long;
}

good_one : (b : Bool) (v w : Mark) (l k : List ℕ) → Good v l → Good w k
    → Good (cond b v w) (cond b l k)
good_one true v w l k h g = h
good_one false v w l k h g = g

good_noted : (s : Marks) (F : List ℕ → List ℕ) (name : List ℕ) (v : Mark) (l : List ℕ) → Good v l
    → ((x : List ℕ) → Good (s x) (F x)) → (x : List ℕ) → Good (noted s name v x) (noted F name l x)
unfolding noted
good_noted s F name v l h g x = good_one (bytes_eq name x) v (s x) l (F x) h (g x)

-- what is so of the name, once it is noted, is so of it, and every other is as before
at_one : (b : Bool) (v w : Mark) (l k : List ℕ) (held : Option (List ℕ))
    → (b ≡ true → At v l held → At w k held) → At (cond b v w) (cond b l k) held → At w k held
at_one true v w l k held f h = f refl h
at_one false v w l k held f h = h

at_before : (s : Marks) (F : List ℕ → List ℕ) (m : Files) (name : List ℕ) (v : Mark) (l : List ℕ)
    → ((held : Option (List ℕ)) → At v l held → At (s name) (F name) held)
    → ((x : List ℕ) → At (noted s name v x) (noted F name l x) (m x))
    → (x : List ℕ) → At (s x) (F x) (m x)
unfolding noted
at_before s F m name v l weaker h x =
    at_one (bytes_eq name x) v (s x) l (F x) (m x)
    (λ e k. subst (λ y. At (s y) (F y) (m x)) ((bytes_eq-Decides name x).0 e) (weaker (m x) k)) (h x)

at_here : (s : Marks) (F : List ℕ → List ℕ) (m : Files) (name : List ℕ) (v : Mark) (l : List ℕ)
    → At (noted s name v name) (noted F name l name) (m name) → At v l (m name)
unfolding noted
at_here s F m name v l h =
    subst (λ (b : Bool). At (cond b v (s name)) (cond b l (F name)) (m name))
    ((bytes_eq-Decides name name).1 refl) h

-- by its size
good_size : (n : Option ℕ) → Good (by_size n) []
unfolding Good
good_size None = tt
good_size (Some n) = record { within = omega arith; long = refl; are = no_bytes }

weaker_size : (mark : Mark) (front : List ℕ) (n : Option ℕ) → mark ≡ unasked
    → (held : Option (List ℕ)) → At (by_size n) [] held → At mark front held
unfolding At
weaker_size mark front None e held h =
    subst (λ x. At x front held) (sym e) (subst (λ (x : Option (List ℕ)). IfSome x AreBytes) (sym h) tt)
weaker_size mark front (Some n) e held h =
    subst (λ x. At x front held) (sym e)
    (subst (λ (x : Option (List ℕ)). IfSome x AreBytes) (sym h.there) h.are)

size_there : (n : Option ℕ) (m : Files) (name : List ℕ) → At (by_size n) [] (m name)
    → n ≡ size_in m name
unfolding At
size_there None m name h = ap (option_map length) (sym h)
size_there (Some n) m name h =
    ap Some (sym h.long) ∙ ap (option_map length) (sym h.there)

-- by bytes
pad : Mark → ℕ → List ℕ → List ℕ → List ℕ
pad unasked at front l = l
pad absent at front l = l
pad (upto size before) at front l = (front ++ replicate (at - before) 0) ++ l

padded : (size before at : ℕ) (front : List ℕ) → before ≤ at → Begun size before front
    → length (front ++ replicate (at - before) 0) ≡ at
padded size before at front h g =
    let a = g.long in
    omega (arith, a, length-append front (replicate (at - before) 0), length-replicate {A = ℕ} (at - before) 0)

good_bytes : (mark : Mark) (at : ℕ) (front l : List ℕ) → IsBehind mark at (length l) → Good mark front
    → AreBytes l → Good (gone_on mark (at + length l)) (pad mark at front l)
unfolding Good pad
good_bytes unasked at front l h g b = absurd h
good_bytes absent at front l h g b = absurd h
good_bytes (upto size before) at front l h g b = record {
  within = h.1;
  long = (let a = padded size before at front h.0 g in
      omega (arith, a, length-append (front ++ replicate (at - before) 0) l));
  are = bytes_append (front ++ replicate (at - before) 0) l
      (bytes_append front (replicate (at - before) 0) g.are (zeros (at - before))) b;
}

weaker_bytes : (mark : Mark) (at : ℕ) (front l : List ℕ) → IsBehind mark at (length l)
    → Good mark front → (held : Option (List ℕ))
    → At (gone_on mark (at + length l)) (pad mark at front l) held → At mark front held
unfolding At Good pad
weaker_bytes unasked at front l h g held k = absurd h
weaker_bytes absent at front l h g held k = absurd h
weaker_bytes (upto size before) at front l h g held k =
    let gap : List ℕ = replicate (at - before) 0 in
    let under : before ≤ at + length l = (let a = h.0 in omega (arith, a)) in record {
      bytes = k.bytes;
      there = k.there;
      are = k.are;
      long = k.long;
      begins = sym (take-take before (at + length l) k.bytes under)
          ∙ ap (take before) (k.begins ∙ append_assoc front gap l) ∙ take_at front (gap ++ l) before g.long;
    }

bytes_there : (mark : Mark) (at : ℕ) (front l : List ℕ) (m : Files) (name : List ℕ)
    → IsBehind mark at (length l) → Good mark front
    → At (gone_on mark (at + length l)) (pad mark at front l) (m name)
    → l ≡ bytes_in m name at (length l)
unfolding At Good pad
bytes_there unasked at front l m name h g k = absurd h
bytes_there absent at front l m name h g k = absurd h
bytes_there (upto size before) at front l m name h g k =
    let whole : List ℕ = front ++ replicate (at - before) 0 in
    let long : length whole ≡ at = padded size before at front h.0 g in
    sym (drop-append_seam whole l) ∙ ap (λ (n : ℕ). drop n (whole ++ l)) long
    ∙ ap (drop at) (sym k.begins) ∙ drop-take at (length l) k.bytes
    ∙ ap (λ (o : Option (List ℕ)). take (length l) (drop at (unwrap_or o []))) (sym k.there)

-- some files whose answers these are, and what each name holds there
record Laid {A : Type 0} (seen : List Question) (p q : Asks A) (s : Marks)
    (F : List ℕ → List ℕ) : Type 0 where
  m : Files
  at : (name : List ℕ) → At (s name) (F name) (m name)
  trace : Trace (Some m) seen p q

lay_trace : {A : Type 0} (seen : List Question) (p q : Asks A) (s : Marks) (F : List ℕ → List ℕ)
    → ((x : List ℕ) → Good (s x) (F x)) → Tidy s p → Trace None seen p q → Laid seen p q s F
unfolding Trace Tidy
lay_trace [] p q s F g t h =
    record { m = λ x. lay (s x) (F x); at = λ x. laid_at (s x) (F x) (g x); trace = h }
lay_trace (e ∷ seen) (gives a) q s F g t h = absurd h
lay_trace (e ∷ seen) (asks (file_size name) k) q s F g t h =
    let n : Option ℕ = h.answer in
    let r = lay_trace seen (k n) q (noted s name (by_size n)) (noted F name [])
    (good_noted s F name (by_size n) [] (good_size n) g) (t.1 n tt) h.next in record {
      m = r.m;
      at = at_before s F r.m name (by_size n) [] (weaker_size (s name) (F name) n t.0) r.at;
      trace = record {
        same = h.same;
        answer = n;
        fits = record {
          so = size_there n r.m name (at_here s F r.m name (by_size n) [] (r.at name));
        };
        next = r.trace;
      };
    }
lay_trace (e ∷ seen) (asks (file_bytes name at count) k) q s F g t h =
    let l : List ℕ = h.answer in
    let long : length l ≡ count = h.fits.long in
    let behind : IsBehind (s name) at (length l) = subst (λ n. IsBehind (s name) at n) (sym long) t.0 in
    let v : Mark = gone_on (s name) (at + length l) in
    let front : List ℕ = pad (s name) at (F name) l in
    let r = lay_trace seen (k l) q (noted s name v) (noted F name front)
    (good_noted s F name v front (good_bytes (s name) at (F name) l behind (g name) h.fits.bytes) g)
    (subst (λ n. Tidy (noted s name (gone_on (s name) (at + n))) (k l)) (sym long) (t.1 l long)) h.next in
    record {
      m = r.m;
      at = at_before s F r.m name v front (weaker_bytes (s name) at (F name) l behind (g name)) r.at;
      trace = record {
        same = h.same;
        answer = l;
        fits = record {
          long = long;
          bytes = h.fits.bytes;
          so = bytes_there (s name) at (F name) l r.m name behind (g name)
              (at_here s F r.m name v front (r.at name)) ∙ ap (λ n. bytes_in r.m name at n) long;
        };
        next = r.trace;
      };
    }
lay_trace (e ∷ seen) (asks memory k) q s F g t h =
    let r = lay_trace seen (k tt) q s F g (t.1 tt tt) h.next in record {
      m = r.m;
      at = r.at;
      trace = record { same = h.same; answer = tt; fits = tt; next = r.trace };
    }

-- files that agree with what the store tells, and whose answers these are
pub record Agreed {A : Type 0} (told : Option Files) (seen : List Question)
    (p q : Asks A) : Type 0 where
  pub m : Files
  pub held : MayBeHeld told m
  pub trace : Trace (Some m) seen p q

pub agreed : {A : Type 0} (told : Option Files) (seen : List Question) (p q : Asks A)
    → Tidy (λ x. unasked) p → Trace told seen p q → Agreed told seen p q
unfolding At Good
agreed None seen p q t h =
    let r = lay_trace seen p q (λ x. unasked) (λ x. []) (λ x. tt) t h in
    record { m = r.m; held = r.at; trace = r.trace }
agreed (Some m) seen p q t h = record { m = m; held = refl; trace = h }
